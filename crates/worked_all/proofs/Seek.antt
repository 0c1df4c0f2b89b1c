-- What is looked for in order is the first, and so the computed verdict is the check's.
use Rattle.std.proofs.Common.{◌≡◌, ℕ, zero, suc, ◌+◌, ◌-◌, ◌*◌, ◌%◌, ◌<◌, ◌≤◌, Bool, true, false, not, eqb, ltb, leb, Decides, sym, refl, subst, ⊎_elim, mod-lt, arith}
use Rattle.std.proofs.lemmas.Bool.Decides.{Decides-eqb, Decides-like, Decides-not, Decides-below_or, Decides-below_and, not_from_Decides}
use Rattle.std.proofs.lemmas.Bool.{cases_eq, cond_both, ltb-true, ltb-false, leb-true, leb-false, lt-ltb, le-leb, both_ways, and_parts, and_from}
use Rattle.timetable.specs.Meaning.{Meaning, Lawful}
use Rattle.timetable.specs.Windows.{window, Comes, Lacks, Starves, Beyond, Stray, Starving, InRange, FirstStray, FirstStarving}
use Rattle.timetable.proofs.Periods.{page_in_period}
use Rattle.checker.specs.Judged.{Verdict, Judged, out_of_range, short_scratch, stray, starving, passed}
use Rattle.checker.proofs.Ending.{off_channels, lacks_never}
use Rattle.worked_all.specs.Verdict.{seek, comes, lacks, stray_channel, stray_slot, starving_slot, starving_page, between, in_range, CheckComputed}

-- r is the first of `many` numbers from `low` on that passes, or the number after them
record Sought (test : ℕ → Bool) (low many r : ℕ) : Type 0 where
  from : low ≤ r
  to : r ≤ low + many
  before : (k : ℕ) → low ≤ k → k < r → test k ≡ false
  here : r < low + many → test r ≡ true

sought : (test : ℕ → Bool) (low many : ℕ) → Sought test low many (seek test low many)
sought test low zero = record {
  from = omega arith;
  to = omega arith;
  before = λ k a b. absurd (omega arith);
  here = λ h. absurd (omega arith);
}
sought test low (suc many) = cond_both (test low) low (seek test (low + 1) many) (λ r. Sought test low (suc many) r)
    (λ good. record { from = omega arith; to = omega arith; before = λ k a b. absurd (omega arith); here = λ _. good })
    (λ bad. let h = sought test (low + 1) many in record {
      from = omega (arith, h.from);
      to = omega (arith, h.to);
      before = λ k a b. ⊎_elim
          (λ same. subst (λ x. test x ≡ false) same bad)
          (λ other. h.before k (omega arith) b)
          (cases_eq low k);
      here = λ lt. h.here (omega arith);
    })

comes_decides : (X : Meaning) (i t c : ℕ) → Decides (comes X i t c) ((k : ℕ) × (1 ≤ k) × (k ≤ c) × (X.page k t ≡ i))
comes_decides X i t c = Decides-like (comes X i t c)
    (λ x. (x.0 + 1, omega arith, omega (arith, x.1), x.2))
    (λ y. let e : (y.0 - 1) + 1 ≡ y.0 = omega (arith, y.1) in
    (y.0 - 1, omega (arith, y.1, y.2), subst (λ k. X.page k t ≡ i) (sym e) y.3))
    (Decides-below_or (λ k. eqb (X.page (k + 1) t) i) (λ k. X.page (k + 1) t ≡ i) (λ n. comes X i t n)
    (λ k. Decides-eqb (X.page (k + 1) t) i) refl (λ _. refl) c)

lacks_decides : (X : Meaning) (i t w : ℕ) → Decides (lacks X i t w) (Lacks X w i t)
lacks_decides X i t w = Decides-like (lacks X i t w)
    (λ x u a b d. let e : t + (u - t) ≡ u = omega arith in x (u - t) (omega arith) (subst (λ v. Comes X i v) (sym e) d))
    (λ y k lt d. y (t + k) (omega arith) (omega arith) d)
    (Decides-below_and (λ k. not (comes X i (t + k) X.channels)) (λ k. Comes X i (t + k) → ⊥) (λ n. lacks X i t n)
    (λ k. Decides-not (comes X i (t + k) X.channels) (comes_decides X i (t + k) X.channels)) refl (λ _. refl) w)

between_true : (a b x : ℕ) → between a b x ≡ true → (a ≤ x) × (x ≤ b)
between_true a b x e = let p = and_parts _ _ e in (leb-true _ _ p.0, leb-true _ _ p.1)

between_from : (a b x : ℕ) → (a ≤ x) × (x ≤ b) → between a b x ≡ true
between_from a b x h = and_from _ _ (le-leb a x h.0) (le-leb x b h.1)

range_true : (X : Meaning) (m n : ℕ) → in_range X m n ≡ true → InRange X m n
range_true X m n e =
    let a = and_parts _ _ e in let b = and_parts _ _ a.1 in let c = and_parts _ _ b.1 in
    record {
      delay = between_true 1 1024 m a.0;
      pages = between_true 1 1024 n b.0;
      channels = between_true 1 8 X.channels c.0;
      period = between_true 1 65536 X.period c.1;
    }

range_from : (X : Meaning) (m n : ℕ) → InRange X m n → in_range X m n ≡ true
range_from X m n h =
    and_from _ _ (between_from 1 1024 m h.delay) (and_from _ _ (between_from 1 1024 n h.pages)
    (and_from _ _ (between_from 1 8 X.channels h.channels) (between_from 1 65536 X.period h.period)))

module _ (X : Meaning) (L : Lawful X) where
  module _ (n : ℕ) where
    on_channels : (s : ℕ) → Sought (λ k. ltb n (X.page k s)) 1 X.channels (stray_channel X n s)
    on_channels s = sought (λ k. ltb n (X.page k s)) 1 X.channels

    in_slots : Sought (λ s. leb (stray_channel X n s) X.channels) 0 X.period (stray_slot X n)
    in_slots = sought (λ s. leb (stray_channel X n s) X.channels) 0 X.period

    -- a channel before the first stray one of a slot carries nothing stray
    quiet_channel : (s k : ℕ) → k < stray_channel X n s → Beyond n (X.page k s) → ⊥
    quiet_channel s k low far =
        let on = off_channels X L n k s far in
        both_ways (ltb n (X.page k s)) ((on_channels s).before k on.0 low) (lt-ltb n (X.page k s) far)

    -- nor does a slot before the first stray one
    quiet_slot : (s k : ℕ) → s < stray_slot X n → Beyond n (X.page k s) → ⊥
    quiet_slot s k low far =
        let on = off_channels X L n k s far in
        let none = leb-false _ _ (in_slots.before s (omega arith) low) in
        quiet_channel s k (omega (arith, on.1, none)) far

    found_stray : stray_slot X n < X.period
        → FirstStray X n (stray_slot X n) (stray_channel X n (stray_slot X n)) (X.page (stray_channel X n (stray_slot X n)) (stray_slot X n))
    found_stray lt =
        let s = stray_slot X n in
        let k = stray_channel X n s in
        let high : k ≤ X.channels = leb-true _ _ (in_slots.here (omega arith)) in
        record {
          within = (lt, (on_channels s).from, high);
          carries = refl;
          beyond = ltb-true _ _ ((on_channels s).here (omega arith));
          first = λ s' k' w far. ⊎_elim
              (λ early. quiet_slot s' k' early far)
              (λ same. quiet_channel s k' same.1 (subst (λ x. n < X.page k' x) same.0 far))
              w;
        }

    no_stray_found : 1 ≤ X.period → X.period ≤ stray_slot X n → Stray X n → ⊥
    no_stray_found pos le any =
        let k = any.0 in let t = any.1 in
        let low : t % X.period < X.period = mod-lt t {m = X.period} pos in
        quiet_slot (t % X.period) k (omega arith) (subst (λ x. n < x) (sym (page_in_period X L k t)) any.2)

  module _ (m : ℕ) (pos : 1 ≤ X.period) where
    at_tune_ins : (i : ℕ) → Sought (λ t. lacks X i t (window m i)) 0 X.period (starving_slot X m i)
    at_tune_ins i = sought (λ t. lacks X i t (window m i)) 0 X.period

    in_pages : (n : ℕ) → Sought (λ i. ltb (starving_slot X m i) X.period) 1 n (starving_page X m n)
    in_pages n = sought (λ i. ltb (starving_slot X m i) X.period) 1 n

    -- a tune-in before the first starving one of a page
    fed_before : (i t : ℕ) → t < starving_slot X m i → Starves X m i t → ⊥
    fed_before i t low = not_from_Decides _ (lacks_decides X i t (window m i)) ((at_tune_ins i).before t (omega arith) low)

    -- a page before the first that starves
    fed_page : (n i : ℕ) → 1 ≤ i → i < starving_page X m n → (t : ℕ) → Starves X m i t → ⊥
    fed_page n i one low =
        let never : X.period ≤ starving_slot X m i = ltb-false _ _ ((in_pages n).before i one low) in
        lacks_never X L (window m i) i pos (λ s below. fed_before i s (omega arith))

    found_starving : (n : ℕ) → starving_page X m n ≤ n → FirstStarving X m n (starving_page X m n) (starving_slot X m (starving_page X m n))
    found_starving n le =
        let i = starving_page X m n in
        let lt : starving_slot X m i < X.period = ltb-true _ _ ((in_pages n).here (omega arith)) in
        record {
          here = record {
            page = ((in_pages n).from, le);
            slot = lt;
            starves = (lacks_decides X i (starving_slot X m i) (window m i)).0 ((at_tune_ins i).here (omega arith));
            first = λ t' early. fed_before i t' early;
          };
          lowest = λ i' t' a b. fed_page n i' a b t';
        }

    no_starving_found : (n : ℕ) → n < starving_page X m n → Starving X m n → ⊥
    no_starving_found n gt any = let hi = any.3 in fed_page n any.0 any.2 (omega arith) any.1 any.4

pub verdict_judged : CheckComputed
verdict_judged X m n cells L =
    let J : Verdict → Type 0 = λ a. Judged X m n cells a in
    cond_both (in_range X m n) _ _ J
    (λ e. let ok = range_true X m n e in let pos = ok.period.0 in
    cond_both (ltb cells (2 * n)) _ _ J
    (λ lt. short_scratch ok (ltb-true _ _ lt))
    (λ ge. let room = ltb-false _ _ ge in
    cond_both (ltb (stray_slot X n) X.period) _ _ J
    (λ lt. stray _ _ _ ok room (found_stray X L n (ltb-true _ _ lt)))
    (λ far. let clean = no_stray_found X L n pos (ltb-false _ _ far) in
    cond_both (leb (starving_page X m n) n) _ _ J
    (λ le. starving _ _ ok room clean (found_starving X L m pos n (leb-true _ _ le)))
    (λ gt. passed ok room (record { none_stray = clean; none_starving = no_starving_found X L m pos n (leb-false _ _ gt) })))))
    (λ e. out_of_range (λ ok. both_ways _ e (range_from X m n ok)))
