-- The period of some rows, one row after the other.
use Rattle.std.proofs.Common.{◌≡◌, ℕ, suc, ◌+◌, ◌<◌, ◌⊎◌, List, [], ◌∷◌, ◌++◌, length, get_or, take, drop, None, sym, ap, ◌∙◌, subst, inl, inr, arith}
use Rattle.std.proofs.lemmas.List.{take-append-drop, map_more, map-append, get_or-map}
use Rattle.std.proofs.lemmas.Bool.{cases_lt}
use Rattle.records.specs.declared.kinds.Row.{Row}
use Rattle.numbers.specs.Computed.{lcm_of_all}
use Rattle.numbers.specs.Divisors.{LeastCommonMultipleOfAll}
use Rattle.numbers.proofs.All.{AllPositive, lcm_all_positive, lcm_all_grows, lcm_of_all_is}
use Rattle.plans.specs.Periods.{PeriodOf}
use Rattle.rows.specs.Period.{row_periods, Idle}

pub periods_more : (rs : List Row) (i : ℕ) (d : Row) → i < length rs → row_periods (take (i + 1) rs) ≡ row_periods (take i rs) ++ ((get_or rs i d).period ∷ [])
periods_more rs i d h = map_more (λ r. r.period) rs i d h

pub idle_at : (rs : List Row) (i : ℕ) (d : Row) → i < length rs → (get_or rs i d).period ≡ 0 → Idle rs
idle_at rs i d h e = (i, h, get_or-map (λ r. r.period) rs i d 1 h ∙ e)

idle_or_positive : (rs : List Row) → Idle rs ⊎ AllPositive (row_periods rs)
idle_or_positive [] = inr tt
idle_or_positive (r ∷ rs) =
    elim (cases_lt 0 r.period) [
      | inr none ↦ inl (0, omega arith, omega arith)
      | inl some ↦
          elim (idle_or_positive rs) [
            | inl idle ↦ inl (suc idle.0, omega (arith, idle.1), idle.2)
            | inr all ↦ inr (some, all)
          ]
    ]

-- what is too long for some of the rows is so for all, unless one has the period 0
pub long_or_idle : (rs : List Row) (i : ℕ) → PeriodOf (row_periods (take i rs)) None → Idle rs ⊎ PeriodOf (row_periods rs) None
long_or_idle rs i h =
    let l : ℕ = lcm_of_all (row_periods rs) in
    let is : LeastCommonMultipleOfAll (row_periods rs) l = lcm_of_all_is (row_periods rs) in
    let parts : row_periods rs ≡ row_periods (take i rs) ++ row_periods (drop i rs) =
    ap row_periods (sym (take-append-drop i rs)) ∙ map-append (λ r. r.period) (take i rs) (drop i rs) in
    elim (idle_or_positive rs) [
      | inl idle ↦ inl idle
      | inr all ↦
          let grows = lcm_all_grows (row_periods (take i rs)) (row_periods (drop i rs)) h.0 l h.1 (subst (λ xs. LeastCommonMultipleOfAll xs l) parts is) (lcm_all_positive (row_periods rs) l all is) in
          inr (l, is, omega (arith, grows, h.2))
    ]
