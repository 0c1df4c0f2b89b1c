-- Closed entries, and what is sent over them. An entry is one channel in one slot of the period.
use Rattle.std.specs.Prelude.{◌≡◌, ℕ, ◌%◌, ◌^◌, ◌<◌, Bool, true, false, cond, ◌&&◌, List, map, ◌==◌, refl}
use Rattle.std.proofs.Math.Nat.{add-mod_right}
use Rattle.std.proofs.Common.{lit<}
use Rattle.std.specs.List.{list_any, range_with_len}
use Rattle.records.specs.declared.kinds.Closure.{Closure}
use Rattle.timetable.specs.Meaning.{Meaning, Lawful}

-- the entry of channel k in slot s is among the closed ones
abbrev pub closed_in : List Closure → ℕ → ℕ → Bool
closed_in es k s = list_any (λ e. e.channel == k && e.slot == s) es

-- what is sent: the timetable's page, but silence where the entry is closed. (With period 0 each slot is its own.)
abbrev pub sent : Meaning → List Closure → ℕ → ℕ → ℕ
sent M es k t = cond (closed_in es k (t % M.period)) 0 (M.page k t)

-- the timetable of what is sent
abbrev pub aired : Meaning → List Closure → Meaning
aired M es = record { channels = M.channels; period = M.period; page = sent M es }

-- what all channels carry in a slot, from channel 1 on
abbrev pub line : Meaning → ℕ → List ℕ
line M t = map (λ k. M.page k t) (range_with_len 1 M.channels)

quiet : (b : Bool) (x : ℕ) → x ≡ 0 → cond b 0 x ≡ 0
quiet true x h = refl
quiet false x h = h

small : (b : Bool) (x : ℕ) → x < 2 ^ 16 → cond b 0 x < 2 ^ 16
small true x h = lit< tt
small false x h = h

-- closing entries keeps the law
pub aired_lawful : (M : Meaning) (es : List Closure) → Lawful M → Lawful (aired M es)
aired_lawful M es L = record {
  repeats = λ k t. simp (add-mod_right, L.repeats);
  silent_below = λ t. quiet (closed_in es 0 (t % M.period)) (M.page 0 t) (L.silent_below t);
  silent_above = λ k t h. quiet (closed_in es k (t % M.period)) (M.page k t) (L.silent_above k t h);
  fits = λ k t. small (closed_in es k (t % M.period)) (M.page k t) (L.fits k t);
}
