-- The check has one answer.
use Rattle.std.proofs.Common.{◌≡◌, ℕ, ◌<◌, [], ◌∷◌, Err, sym, refl, ap, ◌∙◌, subst, inl, inr, ⊎_elim, arith}
use Rattle.std.proofs.lemmas.Bool.{cases_order}
use Rattle.timetable.specs.Meaning.{Meaning}
use Rattle.timetable.specs.Windows.{Starves, Stray, Starving, FirstStray, FirstStarving}
use Rattle.checker.specs.Judged.{Verdict, out_of_range, short_scratch, stray, starving, passed}
use Rattle.worked_all.specs.Verdict.{CheckHasOneAnswer}

abbrev stray_told : ℕ → ℕ → ℕ → Verdict
stray_told s k p = Err (14, s ∷ (k ∷ (p ∷ [])))

abbrev starving_told : ℕ → ℕ → Verdict
starving_told i t = Err (15, i ∷ (t ∷ []))

module _ (X : Meaning) where
  first_stray_once : (n s k p s' k' p' : ℕ) → FirstStray X n s k p → FirstStray X n s' k' p' → stray_told s k p ≡ stray_told s' k' p'
  first_stray_once n s k p s' k' p' a b =
      let far : n < X.page k s = subst (λ x. n < x) (sym a.carries) a.beyond in
      let far' : n < X.page k' s' = subst (λ x. n < x) (sym b.carries) b.beyond in
      let same-slot : s ≡ s' = ⊎_elim (λ e. e)
      (⊎_elim (λ lt. absurd (b.first s k (inl lt) far)) (λ gt. absurd (a.first s' k' (inl gt) far'))) (cases_order s s') in
      let same-channel : k ≡ k' = ⊎_elim (λ e. e)
      (⊎_elim (λ lt. absurd (b.first s k (inr (same-slot, lt)) far)) (λ gt. absurd (a.first s' k' (inr (sym same-slot, gt)) far')))
      (cases_order k k') in
      let there : X.page k s ≡ X.page k' s' = ap (λ x. X.page x s) same-channel ∙ ap (λ x. X.page k' x) same-slot in
      let same-page : p ≡ p' = sym a.carries ∙ there ∙ b.carries in
      cc

  first_starving_once : (m n i t i' t' : ℕ) → FirstStarving X m n i t → FirstStarving X m n i' t' → starving_told i t ≡ starving_told i' t'
  first_starving_once m n i t i' t' a b =
      let same-page : i ≡ i' = ⊎_elim (λ e. e) (⊎_elim
      (λ lt. absurd (b.lowest i t a.here.page.0 lt a.here.starves))
      (λ gt. absurd (a.lowest i' t' b.here.page.0 gt b.here.starves))) (cases_order i i') in
      let same-slot : t ≡ t' = ⊎_elim (λ e. e) (⊎_elim
      (λ lt. absurd (b.here.first t lt (subst (λ x. Starves X m x t) same-page a.here.starves)))
      (λ gt. absurd (a.here.first t' gt (subst (λ x. Starves X m x t') (sym same-page) b.here.starves)))) (cases_order t t') in
      cc

  some_stray : (n s k p : ℕ) → FirstStray X n s k p → Stray X n
  some_stray n s k p a = (k, s, subst (λ x. n < x) (sym a.carries) a.beyond)

  some_starving : (m n i t : ℕ) → FirstStarving X m n i t → Starving X m n
  some_starving m n i t a = (i, t, a.here.page.0, a.here.page.1, a.here.starves)

pub judged_once : CheckHasOneAnswer
judged_once X m n cells _ _ (out_of_range nay) (out_of_range _) = refl
judged_once X m n cells _ _ (out_of_range nay) (short_scratch ok _) = absurd (nay ok)
judged_once X m n cells _ _ (out_of_range nay) (stray _ _ _ ok _ _) = absurd (nay ok)
judged_once X m n cells _ _ (out_of_range nay) (starving _ _ ok _ _ _) = absurd (nay ok)
judged_once X m n cells _ _ (out_of_range nay) (passed ok _ _) = absurd (nay ok)
judged_once X m n cells _ _ (short_scratch ok _) (out_of_range nay) = absurd (nay ok)
judged_once X m n cells _ _ (short_scratch _ _) (short_scratch _ _) = refl
judged_once X m n cells _ _ (short_scratch _ lt) (stray _ _ _ _ le _) = absurd (omega arith)
judged_once X m n cells _ _ (short_scratch _ lt) (starving _ _ _ le _ _) = absurd (omega arith)
judged_once X m n cells _ _ (short_scratch _ lt) (passed _ le _) = absurd (omega arith)
judged_once X m n cells _ _ (stray _ _ _ ok _ _) (out_of_range nay) = absurd (nay ok)
judged_once X m n cells _ _ (stray _ _ _ _ le _) (short_scratch _ lt) = absurd (omega arith)
judged_once X m n cells _ _ (stray s k p _ _ a) (stray s' k' p' _ _ b) = first_stray_once X n s k p s' k' p' a b
judged_once X m n cells _ _ (stray s k p _ _ a) (starving _ _ _ _ nay _) = absurd (nay (some_stray X n s k p a))
judged_once X m n cells _ _ (stray s k p _ _ a) (passed _ _ good) = absurd (good.none_stray (some_stray X n s k p a))
judged_once X m n cells _ _ (starving _ _ ok _ _ _) (out_of_range nay) = absurd (nay ok)
judged_once X m n cells _ _ (starving _ _ _ le _ _) (short_scratch _ lt) = absurd (omega arith)
judged_once X m n cells _ _ (starving _ _ _ _ nay _) (stray s k p _ _ a) = absurd (nay (some_stray X n s k p a))
judged_once X m n cells _ _ (starving i t _ _ _ a) (starving i' t' _ _ _ b) = first_starving_once X m n i t i' t' a b
judged_once X m n cells _ _ (starving i t _ _ _ a) (passed _ _ good) = absurd (good.none_starving (some_starving X m n i t a))
judged_once X m n cells _ _ (passed ok _ _) (out_of_range nay) = absurd (nay ok)
judged_once X m n cells _ _ (passed _ le _) (short_scratch _ lt) = absurd (omega arith)
judged_once X m n cells _ _ (passed _ _ good) (stray s k p _ _ a) = absurd (good.none_stray (some_stray X n s k p a))
judged_once X m n cells _ _ (passed _ _ good) (starving i t _ _ _ a) = absurd (good.none_starving (some_starving X m n i t a))
judged_once X m n cells _ _ (passed _ _ _) (passed _ _ _) = refl
