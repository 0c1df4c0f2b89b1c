-- What a timetable carries depends on the place in its period alone.
use Rattle.std.proofs.Common.{◌≡◌, ℕ, zero, suc, ◌+◌, ◌*◌, ◌/◌, ◌%◌, sym, ap, ◌∙◌, add-mul, arith}
use native.Mathlib.Nat.{mod-add-div'}
use Rattle.timetable.specs.Meaning.{Meaning, Lawful}

module _ (M : Meaning) (L : Lawful M) (k : ℕ) where
  -- so many periods later, the page is the same
  pub page_later : (j t : ℕ) → M.page k (t + j * M.period) ≡ M.page k t
  page_later zero t = ap (λ (s : ℕ). M.page k s) (omega arith)
  page_later (suc j) t =
      ap (λ (s : ℕ). M.page k s) (omega (arith, add-mul j 1 M.period)) ∙ L.repeats k (t + j * M.period) ∙ page_later j t

  pub page_in_period : (t : ℕ) → M.page k (t % M.period) ≡ M.page k t
  page_in_period t =
      sym (page_later (t / M.period) (t % M.period)) ∙ ap (λ (s : ℕ). M.page k s) (mod-add-div' t M.period)
