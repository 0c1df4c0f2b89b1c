-- What a timetable of rows carries where the rows share no slot.
use Rattle.std.proofs.Common.{◌≡◌, ℕ, zero, suc, ◌<◌, ◌≤◌, true, cond, List, [], ◌∷◌, length, get_or, Some, None, All, sum_by, Option, unwrap_or, refl, ap, ◌∙◌, ⊎_elim, arith}
use Rattle.std.proofs.lemmas.List.Elements.{All-head, All-tail}
use Rattle.std.proofs.lemmas.List.Sums.{sum_by-cons, get_or-le-sum_by}
use Rattle.std.proofs.lemmas.Bool.{cases_Bool, cond_both}
use Rattle.records.specs.declared.kinds.Row.{Row}
use Rattle.rows.specs.Rows.{fitting, lower, offered, lowest, rows_page}
use Rattle.splitting_rule.specs.Sharing.{row_covers}

module _ (n k u : ℕ) where
  lower_below : (p q : Option ℕ) → unwrap_or p 0 ≤ n → unwrap_or q 0 ≤ n → unwrap_or (lower p q) 0 ≤ n
  lower_below None q h i = i
  lower_below (Some a) None h i = h
  lower_below (Some a) (Some b) h i = omega arith

  -- no page is above the highest
  pub page_below : (rs : List Row) → All (λ r. r.page ≤ n) rs → rows_page rs k u ≤ n
  page_below [] h = omega arith
  page_below (r ∷ rs) h =
      lower_below (offered k u r) (lowest rs k u)
      (cond_both (fitting k u r) (Some r.page) None (λ o. unwrap_or o 0 ≤ n) (λ _. All-head (λ x. x.page ≤ n) r rs h) (λ _. omega arith))
      (page_below rs (All-tail (λ x. x.page ≤ n) r rs h))

module _ (k u : ℕ) where
  fits_one : (r : Row) → fitting k u r ≡ true → row_covers k u r ≡ 1
  fits_one r e = ap (λ b. cond b 1 0) e

  -- where no row fits, there is no page
  none_fits : (rs : List Row) → sum_by (row_covers k u) rs ≡ 0 → lowest rs k u ≡ None
  none_fits [] h = refl
  none_fits (r ∷ rs) h =
      let sum = sum_by-cons (row_covers k u) r rs in
      ⊎_elim
      (λ e. absurd (omega (arith, sum, fits_one r e)))
      (λ e. ap (λ b. lower (cond b (Some r.page) None) (lowest rs k u)) e ∙ none_fits rs (omega arith))
      (cases_Bool (fitting k u r))

  -- where one fits and no other does, its page is there
  pub one_fits : (rs : List Row) (i : ℕ) (d : Row) → i < length rs → sum_by (row_covers k u) rs ≤ 1 → fitting k u (get_or rs i d) ≡ true → lowest rs k u ≡ Some (get_or rs i d).page
  one_fits [] i d low apart here = absurd (omega (arith, low))
  one_fits (r ∷ rs) zero d low apart here =
      let sum = sum_by-cons (row_covers k u) r rs in
      let first = fits_one r here in
      let others : lowest rs k u ≡ None = none_fits rs (omega arith) in
      ap (λ b. lower (cond b (Some r.page) None) (lowest rs k u)) here ∙ ap (λ o. lower (Some r.page) o) others
  one_fits (r ∷ rs) (suc i) d low apart here =
      let sum = sum_by-cons (row_covers k u) r rs in
      let later = get_or-le-sum_by (row_covers k u) rs i d (omega (arith, low)) in
      let one = fits_one (get_or rs i d) here in
      ⊎_elim
      (λ e. absurd (omega (arith, fits_one r e)))
      (λ e. ap (λ b. lower (cond b (Some r.page) None) (lowest rs k u)) e ∙ one_fits rs i d (omega (arith, low)) (omega arith) here)
      (cases_Bool (fitting k u r))
