-- A feeding in which no page starves is told by the stock.
use Rattle.std.proofs.Common.{◌≡◌, ℕ, zero, suc, ◌+◌, ◌-◌, ◌<◌, ◌≤◌, max, Bool, true, false, cond, not, ◌&&◌, eqb, ltb, leb, List, [], ◌++◌, map, length, get_or, drop, set, replicate, sym, refl, ap, ◌∙◌, subst, ⊎_elim, arith, length-append, length-set}
use lib.ListN.{length-replicate, get_or-replicate}
use Rattle.std.specs.List.{range_with_len}
use Rattle.std.proofs.lemmas.Bool.{cases_eq, cases_lt, lt-ltb, le-ltb, le-leb, lt-leb, eq-eqb, ne_eqb, cond-true, cond-false, and_from}
use Rattle.std.proofs.lemmas.List.{get_or_append_left}
use Rattle.receiver.specs.declared.numbers.Numbers.{Numbers}
use Rattle.receiver.specs.Calls.{granted, refused, in_range, tuned, hear, show}
use Rattle.receiver.specs.Stores.{taken, stock}
use Rattle.receiver.proofs.Stores.{length_taken}
use Rattle.feeding.specs.Feeding.{Fed, denied, whole, ended, heard_first, shown_first, before, stop, going, showing, waiting}
use Rattle.feeding.specs.Laws.{came, arrived, stock_at, Serves, story, ToldByStock}
use Rattle.feeding.proofs.Marks.{Marked, mark, marked_line, marked_show, came_by, held_marked}

abbrev at : ℕ → ℕ → ℕ → ℕ → ℕ → ℕ → Numbers
at m n room h s peak = record { delay = m; pages = n; capacity = room; heard = h; shown = s; peak = peak }

-- a hear and a show whose stock is S
hear_by : (m n room h s peak S : ℕ) (store l : List ℕ) → n ≤ length store → h < m → stock n store l ≡ S
    → hear (at m n room h s peak) store l ≡ cond (ltb room S) (refused (34, [])) (granted (at m n room (h + 1) s (max peak S), taken n store l))
hear_by m n room h s peak S store l long lt e =
    cond-false _ _ _ (le-ltb (length store) n long)
    ∙ cond-false _ _ _ (lt-leb m h lt)
    ∙ ap (λ x. cond (ltb room x) (refused (34, [])) (granted (at m n room (h + 1) s (max peak x), taken n store l))) e

show_by : (m n room h s peak S : ℕ) (store l : List ℕ) → n ≤ length store → s < n → get_or store s 0 ≡ 1 → stock n store l ≡ S
    → show (at m n room h s peak) store l ≡ cond (ltb room S) (refused (34, [])) (granted (s + 1, at m n room h (s + 1) (max peak S), set (taken n store l) s 2))
show_by m n room h s peak S store l long lt one e =
    cond-false _ _ _ (le-ltb (length store) n long)
    ∙ cond-false _ _ _ (lt-leb n s lt)
    ∙ cond-false _ _ _ (ap (λ b. not (eqb b 1)) one)
    ∙ ap (λ x. cond (ltb room x) (refused (34, [])) (granted (s + 1, at m n room h (s + 1) (max peak x), set (taken n store l) s 2))) e

-- a call that only its stock can have refused
going_cond : {A : Type 0} (b : Bool) (peak : ℕ) (store : List ℕ) (d : ℕ × List ℕ) (x : A) (on : A → Fed × List ℕ)
    → (going peak store (cond b (refused d) (granted x)) on).0 ≡ cond b (ended peak (denied d.0 d.1)) (on x).0
going_cond true peak store d x on = refl
going_cond false peak store d x on = refl

module _ (L : ℕ → List ℕ) (m n room t K : ℕ) (serves : Serves L m n t K) where
  -- the stock of slot j, where s pages were shown
  stock_now : (j s : ℕ) (store : List ℕ) → s ≡ j - m → j < K → j < m + n → n ≤ length store → Marked L n t j s store
      → stock n store (L (t + j)) ≡ stock_at L m n t j
  stock_now j s store es in-run film long marks =
      held_marked L n t (suc j) s (taken n store (L (t + j))) (omega arith)
      (λ i l. came_by L (i + 1) t (m + i) (suc j) (omega arith) (serves i (omega arith) (omega arith)))
      (marked_line L n t j s store long marks)
      ∙ ap (λ x. arrived L n t (suc j) - x) es

  shows_run : (k j h s peak : ℕ) (store : List ℕ) → s ≡ j - m → m ≤ j → j + k ≤ K → j < m + n → n ≤ length store → Marked L n t j s store
      → (showing (map L (range_with_len (t + j) k)) (at m n room h s peak) store).0 ≡ story (stock_at L m n t) m n room k j peak
  shows_run zero j h s peak store es ge len film long marks = refl
  shows_run (suc k) j h s peak store es ge len film long marks =
      let line = L (t + j) in
      let S = stock_at L m n t j in
      let after = marked_line L n t j s store long marks in
      let kept : n ≤ length (taken n store line) = subst (λ x. n ≤ x) (sym (length_taken n store line)) long in
      let now : stock n store line ≡ S = stock_now j s store es (omega arith) film long marks in
      let next : t + j + 1 ≡ t + suc j = omega arith in
      let sn : s < n = omega arith in
      let j-is : m + s ≡ j = omega arith in
      let due : came L (s + 1) t j ≡ true = ap (λ x. came L (s + 1) t x) (sym j-is) ∙ serves s sn (omega arith) in
      let one : get_or store s 0 ≡ 1 = marks s sn ∙ ap (λ b. mark b (came L (s + 1) t j)) (le-ltb s s (omega arith)) ∙ ap (λ b. mark false b) due in
      let s-is : s + 1 ≡ suc j - m = omega arith in
      let shown = set (taken n store line) s 2 in
      let r' = at m n room h (s + 1) (max peak S) in
      let told = story (stock_at L m n t) m n room k (suc j) (max peak S) in
      let rest = λ (x : ℕ × Numbers × List ℕ). before (shown_first x.0 (stock n store line)) (cond (eqb x.0 n) (stop x.1.peak x.2 whole) (showing (map L (range_with_len (t + j + 1) k)) x.1 x.2)) in
      ap (λ x. (going peak store x rest).0) (show_by m n room h s peak S store line long sn one now)
      ∙ going_cond (ltb room S) peak store (34, []) (s + 1, r', shown) rest
      ∙ ap (λ x. cond (ltb room S) (ended peak (denied 34 [])) x)
      (ap (λ x. shown_first (s + 1) x (cond (eqb (s + 1) n) (stop (max peak S) shown whole) (showing (map L (range_with_len (t + j + 1) k)) r' shown)).0) now
      ∙ ⊎_elim
      (λ e.
      ap (λ b. shown_first (s + 1) S (cond b (stop (max peak S) shown whole) (showing (map L (range_with_len (t + j + 1) k)) r' shown)).0) (eq-eqb (s + 1) n e)
      ∙ ap (λ x. shown_first x S (ended (max peak S) whole)) s-is
      ∙ ap (λ b. shown_first (suc j - m) S (cond b (ended (max peak S) whole) told)) (sym (eq-eqb (suc j - m) n (omega arith))))
      (λ ne.
      ap (λ b. shown_first (s + 1) S (cond b (stop (max peak S) shown whole) (showing (map L (range_with_len (t + j + 1) k)) r' shown)).0) (ne_eqb (s + 1) n ne)
      ∙ ap (λ x. shown_first (s + 1) S (showing (map L (range_with_len x k)) r' shown).0) next
      ∙ ap (λ f. shown_first (s + 1) S f) (shows_run k (suc j) h (s + 1) (max peak S) shown (omega arith) (omega arith) (omega arith) (omega arith)
      (subst (λ x. n ≤ x) (sym (length-set _ _ _)) kept) (marked_show L n t (suc j) s (taken n store line) kept sn after))
      ∙ ap (λ x. shown_first x S told) s-is
      ∙ ap (λ b. shown_first (suc j - m) S (cond b (ended (max peak S) whole) told)) (sym (ne_eqb (suc j - m) n (omega arith))))
      (cases_eq (s + 1) n)
      ∙ sym (cond-false _ _ _ (le-ltb j m ge)))

  waits_run : (k j h peak : ℕ) (store : List ℕ) → 1 ≤ n → h ≡ j → j ≤ m → j + k ≤ K → n ≤ length store → Marked L n t j 0 store
      → (waiting (map L (range_with_len (t + j) k)) (at m n room h 0 peak) store).0 ≡ story (stock_at L m n t) m n room k j peak
  waits_run zero j h peak store some eh le len long marks = refl
  waits_run (suc k) j h peak store some eh le len long marks = ⊎_elim
      (λ lt.
      let line = L (t + j) in
      let S = stock_at L m n t j in
      let hm : h < m = omega arith in
      let none : 0 ≡ j - m = omega arith in
      let now : stock n store line ≡ S = stock_now j 0 store none (omega arith) (omega arith) long marks in
      let next : t + j + 1 ≡ t + suc j = omega arith in
      let held = taken n store line in
      let r' = at m n room (h + 1) 0 (max peak S) in
      let rest = λ (x : Numbers × List ℕ). before (heard_first (stock n store line)) (waiting (map L (range_with_len (t + j + 1) k)) x.0 x.1) in
      ap (λ (x : Fed × List ℕ). x.0) (cond-true _ _ _ (lt-ltb h m hm))
      ∙ ap (λ x. (going peak store x rest).0) (hear_by m n room h 0 peak S store line long hm now)
      ∙ going_cond (ltb room S) peak store (34, []) (r', held) rest
      ∙ ap (λ x. cond (ltb room S) (ended peak (denied 34 [])) x)
      (ap (λ x. heard_first x (waiting (map L (range_with_len (t + j + 1) k)) r' held).0) now
      ∙ ap (λ x. heard_first S (waiting (map L (range_with_len x k)) r' held).0) next
      ∙ ap (λ f. heard_first S f) (waits_run k (suc j) (h + 1) (max peak S) held some (omega arith) (omega arith) (omega arith)
      (subst (λ x. n ≤ x) (sym (length_taken n store line)) long) (marked_line L n t j 0 store long marks))
      ∙ sym (cond-true _ _ _ (lt-ltb j m lt))))
      (λ ge.
      let r = at m n room h 0 peak in
      let lines = map L (range_with_len (t + j) (suc k)) in
      ap (λ (x : Fed × List ℕ). x.0) (cond-false _ _ _ (le-ltb h m (omega arith)))
      ∙ ap (λ x. (going peak store x (λ r'. showing lines r' store)).0) (cond-false (ltb h m) (refused (32, [])) (granted r) (le-ltb h m (omega arith)))
      ∙ shows_run (suc k) j h 0 peak store (omega arith) ge len (omega arith) long marks)
      (cases_lt j m)

-- a store as it is once tuned
tuned_marks : (L : ℕ → List ℕ) (n t : ℕ) (store : List ℕ) → Marked L n t 0 0 (replicate n 0 ++ drop n store)
tuned_marks L n t store i l =
    let low : 0 ≤ i = omega arith in
    let long : i < length (replicate n 0) = simp length-replicate l in
    get_or_append_left (replicate n 0) (drop n store) 0 i long ∙ get_or-replicate n i 0 0 l ∙ ap (λ b. mark b false) (sym (le-ltb i 0 low))

pub told_by_stock : ToldByStock
told_by_stock L m n room t K store ok serves =
    let fits : (in_range m && (in_range n && (leb room n && leb n (length store)))) ≡ true =
    and_from _ _ (and_from _ _ (le-leb 1 m ok.delay.0) (le-leb m 1024 ok.delay.1))
    (and_from _ _ (and_from _ _ (le-leb 1 n ok.pages.0) (le-leb n 1024 ok.pages.1))
    (and_from _ _ (le-leb room n ok.capacity) (le-leb n (length store) ok.long))) in
    let begin : t ≡ t + 0 = omega arith in
    let store' = replicate n 0 ++ drop n store in
    ap (λ x. (going 0 store x (λ y. waiting (map L (range_with_len t K)) y.0 y.1)).0) (cond-true _ _ _ fits)
    ∙ ap (λ x. (waiting (map L (range_with_len x K)) (tuned m n room) store').0) begin
    ∙ waits_run L m n room t K serves K 0 0 0 store' ok.pages.0 refl (omega arith) (omega arith)
    (simp (length-append, length-replicate) (omega arith)) (tuned_marks L n t store)
