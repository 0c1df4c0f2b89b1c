-- The findings that are gathered from the numbers of the pages are those of the timetable.
use Rattle.std.proofs.Common.{filter_map, Option, Some, None, ◌≡◌, ℕ, zero, suc, ◌+◌, ◌<◌, ◌≤◌, List, [], ◌∷◌, ◌++◌, All, Contains, sym, refl, ap, ◌∙◌, subst, ⊎_elim, append-nil, add-one, arith}
use Rattle.std.proofs.lemmas.List.Elements.{All-nil, All-head, All-tail, All-push, All-weaker, Contains-push, Contains-append_left}
use Rattle.std.proofs.lemmas.Bool.{cases_lt, cases_order}
use Rattle.std.specs.List.{range_with_len}
use Rattle.std.proofs.lemmas.List.Elements.{filter_map-append}
use Rattle.timetable.specs.Meaning.{Meaning, Lawful}
use Rattle.timetable.specs.Windows.{FirstSlot}
use Rattle.bag.specs.declared.finding.Finding.{Finding}
use Rattle.checker.specs.Findings.{Ascending, Findings}
use Rattle.checker.specs.Sweep.{known, Tells, Heard, sweep_end, finding, gathered}
use Rattle.checker.proofs.Ending.{never_starves, starves_first}

-- what is told of page p by its number
abbrev pub telling : ℕ → ℕ → Option Finding
telling p zero = None
telling p (suc s) = Some (record { page = p; slot = s })

pub telling_is : (p v : ℕ) (o : Option Finding) → Tells p v o → o ≡ telling p v
telling_is p v None h = sym (ap (telling p) h)
telling_is p v (Some f) h = sym (ap (λ x. telling p x) (h.1 ∙ add-one f.slot) ∙ ap (λ q. Some (record { page = q; slot = f.slot })) (sym h.0))

telling_one : (p v : ℕ) → filter_map (λ (i : ℕ). telling p v) (zero ∷ []) ≡ finding p v
telling_one p zero = refl
telling_one p (suc s) = refl

-- what is told of the page of place j, at the end
abbrev pub told_at : ℕ → ℕ → ℕ → List ℕ → ℕ → Option Finding
told_at m n end xs j = telling (j + 1) (known m n end xs j)

-- counting from a, the last of n + 1 numbers
counted_last : (a n j : ℕ) → a + n ≡ j → range_with_len a (suc n) ≡ range_with_len a n ++ j ∷ []
counted_last a zero j e = let same : a ≡ j = omega arith in ap (λ x. x ∷ []) same
counted_last a (suc n) j e = ap (λ ys. a ∷ ys) (counted_last (a + 1) n j (omega arith))

-- the findings are what is told of the pages, one after the other
pub told_gathered : (m n end : ℕ) (xs : List ℕ) (j : ℕ) → filter_map (told_at m n end xs) (range_with_len 0 j) ≡ gathered m n end xs j
told_gathered m n end xs zero = refl
told_gathered m n end xs (suc j) =
    let h = told_at m n end xs in
    ap (filter_map h) (counted_last 0 j j (omega arith))
    ∙ filter_map-append h (range_with_len 0 j) (j ∷ [])
    ∙ ap (λ fs. fs ++ filter_map h (j ∷ [])) (told_gathered m n end xs j)
    ∙ ap (λ fs. gathered m n end xs j ++ fs) (telling_one (j + 1) (known m n end xs j))

-- the findings among the first j pages
record FindingsTo (X : Meaning) (m n j : ℕ) (fs : List Finding) : Type 0 where
  each : All (λ f. FirstSlot X m n f.page f.slot) fs
  all : (i t : ℕ) → i ≤ j → FirstSlot X m n i t → Contains fs (record { page = i; slot = t })
  ascending : Ascending fs
  low : All (λ f. f.page < j + 1) fs

ascending_push : (fs : List Finding) (g : Finding) → Ascending fs → All (λ f. f.page < g.page) fs → Ascending (fs ++ g ∷ [])
ascending_push [] g up low = (All-nil (λ h. g.page < h.page), tt)
ascending_push (f ∷ fs) g up low = (
  All-push (λ h. f.page < h.page) fs g up.0 (All-head (λ h. h.page < g.page) f fs low),
  ascending_push fs g up.1 (All-tail (λ h. h.page < g.page) f fs low),
)

-- a page has one first slot
slot_once : (X : Meaning) (m n i t t' : ℕ) → FirstSlot X m n i t → FirstSlot X m n i t' → t ≡ t'
slot_once X m n i t t' a b =
    ⊎_elim (λ e. e) (⊎_elim (λ lt. absurd (b.first t lt a.starves)) (λ gt. absurd (a.first t' gt b.starves))) (cases_order t t')

module _ (X : Meaning) (m n j : ℕ) (fs : List Finding) (h : FindingsTo X m n j fs) where
  -- page j + 1 starves nowhere
  past_fed : ((t : ℕ) → FirstSlot X m n (j + 1) t → ⊥) → FindingsTo X m n (suc j) fs
  past_fed none = record {
    each = h.each;
    all = λ i t le f. ⊎_elim
        (λ lt. h.all i t (omega arith) f)
        (λ ge. let e : i ≡ j + 1 = omega arith in absurd (none t (subst (λ x. FirstSlot X m n x t) e f)))
        (cases_lt i (j + 1));
    ascending = h.ascending;
    low = All-weaker (λ f. f.page < j + 1) (λ f. f.page < suc j + 1) (λ f lt. omega arith) fs h.low;
  }

  -- page j + 1 starves first at s
  past_starving : (s : ℕ) → FirstSlot X m n (j + 1) s → FindingsTo X m n (suc j) (fs ++ record { page = j + 1; slot = s } ∷ [])
  past_starving s here = record {
    each = All-push (λ f. FirstSlot X m n f.page f.slot) fs _ h.each here;
    all = λ i t le f. ⊎_elim
        (λ lt. Contains-append_left fs _ _ (h.all i t (omega arith) f))
        (λ ge. let e : i ≡ j + 1 = omega arith in
        let same : s ≡ t = slot_once X m n (j + 1) s t here (subst (λ x. FirstSlot X m n x t) e f) in
        let it : record { page = j + 1; slot = s } ≡ record { page = i; slot = t } = cc in
        subst (λ (g : Finding). Contains (fs ++ record { page = j + 1; slot = s } ∷ []) g) it (Contains-push fs _))
        (cases_lt i (j + 1));
    ascending = ascending_push fs _ h.ascending h.low;
    low = All-push (λ f. f.page < suc j + 1) fs _ (All-weaker (λ f. f.page < j + 1) (λ f. f.page < suc j + 1) (λ f lt. omega arith) fs h.low) (omega arith);
  }

module _ (X : Meaning) (L : Lawful X) (m n : ℕ) (xs : List ℕ) (pos : 1 ≤ X.period) (one : 1 ≤ m) (h : Heard X m n (sweep_end X m n) 1 xs) where
  past : (j v : ℕ) (fs : List Finding) → j < n → known m n (sweep_end X m n) xs j ≡ v → FindingsTo X m n j fs → FindingsTo X m n (suc j) (fs ++ finding (j + 1) v)
  past j zero fs lt e before =
      subst (λ gs. FindingsTo X m n (suc j) gs) (sym (append-nil fs))
      (past_fed X m n j fs before (λ t f. never_starves X L m n xs pos one h j lt e t f.starves))
  past j (suc s) fs lt e before =
      let ends : suc s ≡ s + 1 = omega arith in
      past_starving X m n j fs before s (starves_first X L m n xs pos one h j s lt (e ∙ ends))

  gathered_to : (j : ℕ) → j ≤ n → FindingsTo X m n j (gathered m n (sweep_end X m n) xs j)
  gathered_to zero le = record {
    each = All-nil (λ f. FirstSlot X m n f.page f.slot);
    all = λ i t low f. absurd (omega (arith, f.page.0));
    ascending = tt;
    low = All-nil (λ f. f.page < 0 + 1);
  }
  gathered_to (suc j) le = past j (known m n (sweep_end X m n) xs j) (gathered m n (sweep_end X m n) xs j) (omega arith) refl (gathered_to j (omega arith))

  pub gathered_findings : Findings X m n (gathered m n (sweep_end X m n) xs n)
  gathered_findings =
      let all = gathered_to n (omega arith) in
      record { each = all.each; all = λ i t f. all.all i t f.page.1 f; ascending = all.ascending }
