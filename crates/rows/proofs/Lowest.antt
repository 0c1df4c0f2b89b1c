-- The lowest page among some rows is the least of the pages of those that fit.
use Rattle.std.proofs.Common.{◌≡◌, ℕ, min, Bool, true, false, cond, List, [], ◌∷◌, map, filter, Some, None, refl, ap, ◌∙◌, sym, arith}
use Rattle.std.specs.List.{reduce, fold}
use Rattle.records.specs.declared.kinds.Row.{Row}
use Rattle.rows.specs.Rows.{fitting, lower, offered, lowest}

min_assoc : (a b c : ℕ) → min (min a b) c ≡ min a (min b c)
min_assoc a b c = omega arith

abbrev pub pages : List Row → ℕ → ℕ → List ℕ
pages rs k u = map (λ r. r.page) (filter (fitting k u) rs)

-- one page more in front
lower_fold : (p q : ℕ) (ps : List ℕ) → min p (fold min q ps) ≡ fold min (min p q) ps
lower_fold p q [] = refl
lower_fold p q (x ∷ ps) = lower_fold p (min q x) ps ∙ ap (λ m. fold min m ps) (sym (min_assoc p q x))

lower_least : (p : ℕ) (ps : List ℕ) → lower (Some p) (reduce min ps) ≡ reduce min (p ∷ ps)
lower_least p [] = refl
lower_least p (q ∷ ps) = ap (λ m. Some m) (lower_fold p q ps)

-- and a row that fits or not
row_more : (b : Bool) (r : Row) (rs : List Row) → lower (cond b (Some r.page) None) (reduce min (map (λ r. r.page) rs)) ≡ reduce min (map (λ r. r.page) (cond b (r ∷ rs) rs))
row_more true r rs = lower_least r.page (map (λ r. r.page) rs)
row_more false r rs = refl

pub lowest_is : (rs : List Row) (k u : ℕ) → lowest rs k u ≡ reduce min (pages rs k u)
lowest_is [] k u = refl
lowest_is (r ∷ rs) k u = ap (lower (offered k u r)) (lowest_is rs k u) ∙ row_more (fitting k u r) r (filter (fitting k u) rs)
