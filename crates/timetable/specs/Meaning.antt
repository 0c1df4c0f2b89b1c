-- What a timetable means, and the law that every timetable keeps.
use Rattle.std.specs.Prelude.{◌≡◌, ℕ, ◌+◌, ◌%◌, ◌^◌, ◌<◌, Bool, true, false, cond, Option, None, Some, ◌==◌, nat_lt, refl}
use Rattle.std.proofs.Common.{ap, mod-lt, lit<, lt-ltb}
use Rattle.std.proofs.Math.Nat.{add-mod_right}

-- Time runs in slots, counted from 0. In each slot each channel, counted from 1, carries a page, or 0 for silence.
pub record Meaning : Type 0 where
  pub channels : ℕ
  -- the slots after which the timetable begins again
  pub period : ℕ
  -- the page on a channel in a slot
  pub page : ℕ → ℕ → ℕ

pub record Lawful (M : Meaning) : Type 0 where
  pub repeats : (k t : ℕ) → M.page k (t + M.period) ≡ M.page k t
  pub silent_below : (t : ℕ) → M.page 0 t ≡ 0
  pub silent_above : (k t : ℕ) → M.channels < k → M.page k t ≡ 0
  pub fits : (k t : ℕ) → M.page k t < 2 ^ 16

-- The page at a slot, where F has it for each slot of one period: silence where the period is 0 and on every channel
-- but 1 to c. A page is a number of 16 bits. The code's numbers are so by their type, and the remainder then changes
-- nothing; it keeps the law for the numbers of a definition too, which have no bound.
abbrev pub page_of : ℕ → ℕ → (ℕ → ℕ → ℕ) → ℕ → ℕ → ℕ
page_of c p F k t = cond (p == 0) 0 (cond (k == 0) 0 (cond (nat_lt c k) 0 (F k (t % p) % 2 ^ 16)))

-- the slot of the period that slot t is, on channel k: none on any channel but 1 to c, or where the period is 0
abbrev pub turn_of : ℕ → ℕ → ℕ → ℕ → Option ℕ
turn_of c p k t = cond (p == 0) None (cond (k == 0) None (cond (nat_lt c k) None (Some (t % p))))

-- the timetable of c channels and period p that carries F over and over
abbrev pub repeating : ℕ → ℕ → (ℕ → ℕ → ℕ) → Meaning
repeating c p F = record { channels = c; period = p; page = page_of c p F }

none_below : (x y : ℕ) (b : Bool) → cond b 0 (cond (0 == 0) 0 (cond (nat_lt x 0) 0 y)) ≡ 0
none_below x y true = refl
none_below x y false = refl

none_above : (y : ℕ) (b d e : Bool) → e ≡ true → cond b 0 (cond d 0 (cond e 0 y)) ≡ 0
none_above y true d e h = refl
none_above y false true e h = refl
none_above y false false e h = ap (λ v. cond v 0 y) h

small : (x : ℕ) (b d e : Bool) → cond b 0 (cond d 0 (cond e 0 (x % 2 ^ 16))) < 2 ^ 16
small x true d e = lit< tt
small x false true e = lit< tt
small x false false true = lit< tt
small x false false false = mod-lt x {m = 2 ^ 16} (lit< tt)

-- whatever it carries
pub repeating_lawful : (c p : ℕ) (F : ℕ → ℕ → ℕ) → Lawful (repeating c p F)
repeating_lawful c p F = record {
  repeats = λ k t. simp add-mod_right;
  silent_below = λ t. none_below c (F 0 (t % p) % 2 ^ 16) (p == 0);
  silent_above = λ k t h. none_above (F k (t % p) % 2 ^ 16) (p == 0) (k == 0) (nat_lt c k) (lt-ltb c k h);
  fits = λ k t. small (F k (t % p)) (p == 0) (k == 0) (nat_lt c k);
}
