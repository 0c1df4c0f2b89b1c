-- Every place of a cycle comes once in as many slots as the cycle has.
use Rattle.std.proofs.Common.{◌≡◌, ℕ, ◌+◌, ◌-◌, ◌*◌, ◌/◌, ◌%◌, ◌<◌, ◌≤◌, sym, ap, ◌∙◌, inl, inr, mod-lt, mod-eq_of_lt, arith}
use native.Mathlib.Nat.{mod-add-mod, add-mod_right}
use lib.Arith.{mod-mul, digits_div, digits_mod}
use Rattle.std.proofs.lemmas.Bool.{cases_lt}

pub record ComesInTurn (x c t : ℕ) : Type 0 where
  pub slot : ℕ
  pub from : t ≤ slot
  pub before : slot < t + c
  pub place : slot % c ≡ x

-- y slots after t, the place is that of y after t's
later : (c t y x : ℕ) → x < c → t % c + y ≡ x → (t + y) % c ≡ x
later c t y x h e = sym (mod-add-mod t c y) ∙ ap (λ (v : ℕ). v % c) e ∙ mod-eq_of_lt h

later_round : (c t y x : ℕ) → x < c → t % c + y ≡ x + c → (t + y) % c ≡ x
later_round c t y x h e = sym (mod-add-mod t c y) ∙ ap (λ (v : ℕ). v % c) e ∙ add-mod_right x c ∙ mod-eq_of_lt h

pub comes_round : (x c t : ℕ) → x < c → ComesInTurn x c t
comes_round x c t h =
    let r : t % c < c = mod-lt t {m = c} (omega arith) in
    elim (cases_lt x (t % c)) [
      | inl before ↦ record {
        slot = t + (c + x - t % c);
        from = omega arith;
        before = omega arith;
        place = later_round c t (c + x - t % c) x h (omega arith);
      }
      | inr after ↦ record {
        slot = t + (x - t % c);
        from = omega arith;
        before = omega arith;
        place = later c t (x - t % c) x h (omega arith);
      }
    ]

-- a slot at place r * s + j of a cycle of q * s slots is at place j of s, and its round of s slots is at r of q
pub place_parts : (v q s r j : ℕ) → 0 < q → j < s → v % (q * s) ≡ r * s + j → (v % s ≡ j) × (v / s % q ≡ r)
place_parts v q s r j some h e =
    let parts = mod-mul v {m = q} {c = s} some (omega arith) in
    let low : v % s < s = mod-lt v {m = s} (omega arith) in (
      sym (digits_mod (v / s % q) {m = s} low) ∙ ap (λ (x : ℕ). x % s) (sym parts ∙ e) ∙ digits_mod r {m = s} h,
      sym (digits_div (v / s % q) {m = s} low) ∙ ap (λ (x : ℕ). x / s) (sym parts ∙ e) ∙ digits_div r {m = s} h,
    )
