-- One line more of a feeding.
use Rattle.std.proofs.Common.{◌≡◌, ℕ, ◌+◌, ◌<◌, ◌≤◌, Bool, true, false, cond, not, eqb, ltb, leb, List, [], ◌∷◌, ◌++◌, map, length, get_or, take, drop, set, vec_items, Vec, sym, refl, ap, ◌∙◌, ⊎_elim, append_assoc, arith}
use Rattle.std.proofs.lemmas.Bool.{cases_lt, lt-ltb, le-ltb, cond-true, cond-false, eq-eqb, ne_eqb}
use Rattle.std.proofs.lemmas.List.{drop_more, drop_all, take-append-drop, map-append}
use Rattle.receiver.specs.declared.numbers.Numbers.{Numbers}
use Rattle.receiver.specs.Calls.{Outcome, granted, refused, tune, hear, start, show, heard_more, shown_more}
use Rattle.receiver.specs.Stores.{taken, stock}
use Rattle.feeding.specs.Feeding.{Fed, cut, whole, denied, heard_first, shown_first, before, stop, going, waiting, showing, feeding}
use Rattle.feeding.specs.Phases.{rows, preceded, so_far, Begins}
use Rattle.feeding.specs.declared.viewing.Viewing.{Viewing}

-- a call that was granted passed each test
past : {A : Type 0} (b : Bool) (d : ℕ × List ℕ) (x : Outcome A) (y : A) → cond b (refused d) x ≡ granted y → x ≡ granted y
past true d x y e = let z : ◌≡◌ {A = ℕ} 0 1 = cc in absurd (omega arith)
past false d x y e = e

pub hear_numbers : (r r' : Numbers) (store ps store' : List ℕ) → hear r store ps ≡ granted (r', store') → heard_more r (stock r.pages store ps) ≡ r'
hear_numbers r r' store ps store' e =
    let g = past (ltb r.capacity (stock r.pages store ps)) (34, []) (granted (heard_more r (stock r.pages store ps), taken r.pages store ps)) (r', store')
    (past (leb r.delay r.heard) (33, []) _ (r', store') (past (ltb (length store) r.pages) (31, []) _ (r', store') e)) in
    let q : ◌≡◌ {A = Numbers × List ℕ} (heard_more r (stock r.pages store ps), taken r.pages store ps) (r', store') = cc in
    ap (λ (x : Numbers × List ℕ). x.0) q

pub show_numbers : (r r' : Numbers) (p : ℕ) (store ps store' : List ℕ) → show r store ps ≡ granted (p, r', store') → shown_more r (stock r.pages store ps) ≡ r'
show_numbers r r' p store ps store' e =
    let g = past (ltb r.capacity (stock r.pages store ps)) (34, []) (granted (r.shown + 1, shown_more r (stock r.pages store ps), set (taken r.pages store ps) r.shown 2)) (p, r', store')
    (past (not (eqb (get_or store r.shown 0) 1)) (35, (r.shown + 1) ∷ []) _ (p, r', store')
    (past (leb r.pages r.shown) (36, []) _ (p, r', store') (past (ltb (length store) r.pages) (31, []) _ (p, r', store') e))) in
    let q : ◌≡◌ {A = ℕ × Numbers × List ℕ} (r.shown + 1, shown_more r (stock r.pages store ps), set (taken r.pages store ps) r.shown 2) (p, r', store') = cc in
    ap (λ (x : ℕ × Numbers × List ℕ). x.1) q

-- one more at the end of what was told is one more before the rest
push : (xs : List ℕ) (x : ℕ) (ys : List ℕ) → xs ++ (x ∷ ys) ≡ (xs ++ (x ∷ [])) ++ ys
push xs x ys = sym (append_assoc xs (x ∷ []) ys)

heard_pushed : (ps ss : List ℕ) (s s' : ℕ) (w : Fed × List ℕ) → s' ≡ s → before (preceded ps ss) (before (heard_first s) w) ≡ before (preceded ps (ss ++ (s' ∷ []))) w
heard_pushed ps ss s s' w e =
    ap (λ (x : List ℕ). before (λ f. record { shows = ps ++ f.shows; stocks = x; peak = f.peak; ending = f.ending }) w)
    (ap (λ x. ss ++ (x ∷ w.0.stocks)) (sym e) ∙ push ss s' w.0.stocks)

shown_pushed : (ps ss : List ℕ) (p s s' : ℕ) (w : Fed × List ℕ) → s' ≡ s
    → before (preceded ps ss) (before (shown_first p s) w) ≡ before (preceded (ps ++ (p ∷ [])) (ss ++ (s' ∷ []))) w
shown_pushed ps ss p s s' w e =
    ap (λ (x : List ℕ). before (λ f. record { shows = x; stocks = ss ++ (s ∷ f.stocks); peak = f.peak; ending = f.ending }) w) (push ps p w.0.shows)
    ∙ ap (λ (x : List ℕ). before (λ f. record { shows = (ps ++ (p ∷ [])) ++ f.shows; stocks = x; peak = f.peak; ending = f.ending }) w)
    (ap (λ x. ss ++ (x ∷ w.0.stocks)) (sym e) ∙ push ss s' w.0.stocks)

module _ {Z : Type 0} (lines : List (Vec ℕ Z)) (i : ℕ) (d : Vec ℕ Z) (inside : i < length lines) where
  rows_more : rows lines i ≡ vec_items (get_or lines i d) ∷ rows lines (i + 1)
  rows_more = ap (λ (xs : List (Vec ℕ Z)). map vec_items xs) (drop_more lines i d inside)

  module _ (rest : List (List ℕ)) (r : Numbers) (store : List ℕ) (early : r.heard < r.delay) where
    abbrev heard_on : Numbers × List ℕ → Fed × List ℕ
    heard_on x = before (heard_first (stock r.pages store (vec_items (get_or lines i d)))) (waiting (rows lines (i + 1) ++ rest) x.0 x.1)

    hears : waiting (rows lines i ++ rest) r store ≡ going r.peak store (hear r store (vec_items (get_or lines i d))) heard_on
    hears = ap (λ x. waiting (x ++ rest) r store) rows_more ∙ cond-true _ _ _ (lt-ltb r.heard r.delay early)

    pub hears_more : (ps ss : List ℕ) (s : ℕ) (r' : Numbers) (store' : List ℕ) → hear r store (vec_items (get_or lines i d)) ≡ granted (r', store') → s ≡ stock r.pages store (vec_items (get_or lines i d))
        → before (preceded ps ss) (waiting (rows lines i ++ rest) r store) ≡ before (preceded ps (ss ++ (s ∷ []))) (waiting (rows lines (i + 1) ++ rest) r' store')
    hears_more ps ss s r' store' e es =
        ap (λ x. before (preceded ps ss) x) (hears ∙ ap (λ x. going r.peak store x heard_on) e)
        ∙ heard_pushed ps ss (stock r.pages store (vec_items (get_or lines i d))) s (waiting (rows lines (i + 1) ++ rest) r' store') es

    pub hears_refused : (ps ss : List ℕ) (v : ℕ × List ℕ) → hear r store (vec_items (get_or lines i d)) ≡ refused v
        → before (preceded ps ss) (waiting (rows lines i ++ rest) r store) ≡ before (preceded ps ss) (stop r.peak store (denied v.0 v.1))
    hears_refused ps ss v e = ap (λ x. before (preceded ps ss) x) (hears ∙ ap (λ x. going r.peak store x heard_on) e)

  module _ (r : Numbers) (store : List ℕ) where
    abbrev shown_on : ℕ × Numbers × List ℕ → Fed × List ℕ
    shown_on x =
        before (shown_first x.0 (stock r.pages store (vec_items (get_or lines i d))))
        (cond (eqb x.0 r.pages) (stop x.1.peak x.2 whole) (showing (rows lines (i + 1)) x.1 x.2))

    shows_by : showing (rows lines i) r store ≡ going r.peak store (show r store (vec_items (get_or lines i d))) shown_on
    shows_by = ap (λ x. showing x r store) rows_more

    pub shows_more : (ps ss : List ℕ) (p s : ℕ) (r' : Numbers) (store' : List ℕ) → show r store (vec_items (get_or lines i d)) ≡ granted (p, r', store') → s ≡ stock r.pages store (vec_items (get_or lines i d))
        → (p ≡ r.pages → ⊥)
        → before (preceded ps ss) (showing (rows lines i) r store) ≡ before (preceded (ps ++ (p ∷ [])) (ss ++ (s ∷ []))) (showing (rows lines (i + 1)) r' store')
    shows_more ps ss p s r' store' e es ne =
        ap (λ x. before (preceded ps ss) x) (shows_by ∙ ap (λ x. going r.peak store x shown_on) e)
        ∙ shown_pushed ps ss p (stock r.pages store (vec_items (get_or lines i d))) s (cond (eqb p r.pages) (stop r'.peak store' whole) (showing (rows lines (i + 1)) r' store')) es
        ∙ ap (λ x. before (preceded (ps ++ (p ∷ [])) (ss ++ (s ∷ []))) x) (cond-false _ _ _ (ne_eqb p r.pages ne))

    pub shows_last : (ps ss : List ℕ) (p s : ℕ) (r' : Numbers) (store' : List ℕ) → show r store (vec_items (get_or lines i d)) ≡ granted (p, r', store') → s ≡ stock r.pages store (vec_items (get_or lines i d))
        → p ≡ r.pages
        → before (preceded ps ss) (showing (rows lines i) r store) ≡ before (preceded (ps ++ (p ∷ [])) (ss ++ (s ∷ []))) (stop r'.peak store' whole)
    shows_last ps ss p s r' store' e es same =
        ap (λ x. before (preceded ps ss) x) (shows_by ∙ ap (λ x. going r.peak store x shown_on) e)
        ∙ shown_pushed ps ss p (stock r.pages store (vec_items (get_or lines i d))) s (cond (eqb p r.pages) (stop r'.peak store' whole) (showing (rows lines (i + 1)) r' store')) es
        ∙ ap (λ x. before (preceded (ps ++ (p ∷ [])) (ss ++ (s ∷ []))) x) (cond-true _ _ _ (eq-eqb p r.pages same))

    pub shows_refused : (ps ss : List ℕ) (v : ℕ × List ℕ) → show r store (vec_items (get_or lines i d)) ≡ refused v
        → before (preceded ps ss) (showing (rows lines i) r store) ≡ before (preceded ps ss) (stop r.peak store (denied v.0 v.1))
    shows_refused ps ss v e = ap (λ x. before (preceded ps ss) x) (shows_by ∙ ap (λ x. going r.peak store x shown_on) e)

-- past the last line there is nothing more to tell
pub rows_end : {Z : Type 0} (lines : List (Vec ℕ Z)) (i : ℕ) → length lines ≤ i → rows lines i ≡ []
rows_end {Z} lines i end = ap (λ (xs : List (Vec ℕ Z)). map vec_items xs) (drop_all i lines end)

-- a receiver that heard its delay goes on showing
pub started : (ls : List (List ℕ)) (r r' : Numbers) (store : List ℕ) → start r ≡ granted r' → waiting ls r store ≡ showing ls r' store
started ls r r' store e = go ls (ltb r.heard r.delay) refl
  where
    same : (b : Bool) → ltb r.heard r.delay ≡ b → b ≡ false
    same true q = let f : refused (32, []) ≡ granted r' = sym (cond-true (ltb r.heard r.delay) (refused (32, [])) (granted r) q) ∙ e in let z : ◌≡◌ {A = ℕ} 0 1 = cc in absurd (omega arith)
    same false q = refl

    late : ltb r.heard r.delay ≡ false
    late = same (ltb r.heard r.delay) refl

    is : r ≡ r'
    is = let f : granted r ≡ granted r' = sym (cond-false (ltb r.heard r.delay) (refused (32, [])) (granted r) late) ∙ e in cc

    go : (ls : List (List ℕ)) (b : Bool) → ltb r.heard r.delay ≡ b → waiting ls r store ≡ showing ls r' store
    go [] b q = ap (λ (x : Numbers). stop x.peak store cut) is
    go (l ∷ ls) b q = cond-false _ _ _ late ∙ ap (λ x. going r.peak store x (λ y. showing (l ∷ ls) y store)) e

-- before anything was told
begun : (v : Viewing) (n : ℕ) (w : Fed × List ℕ) → Begins v n → so_far v w ≡ w
begun v n w b = ap (λ (x : List ℕ). before (preceded x (vec_items v.stocks)) w) b.0 ∙ ap (λ (x : List ℕ). before (preceded [] x) w) b.1

-- a tuned receiver waits
pub tunes_in : (m n capacity : ℕ) (store : List ℕ) (ls : List (List ℕ)) (v : Viewing) (k : ℕ) → Begins v k → (r : Numbers) (store' : List ℕ)
    → tune m n capacity store ≡ granted (r, store') → feeding m n capacity store ls ≡ so_far v (waiting ls r store')
tunes_in m n capacity store ls v k b r store' e = ap (λ x. going 0 store x (λ y. waiting ls y.0 y.1)) e ∙ sym (begun v k (waiting ls r store') b)

-- the lines before a place and those from it on
pub rows_split : {Z : Type 0} (lines early late : List (Vec ℕ Z)) (k : ℕ) → early ≡ take k lines → late ≡ drop k lines → map vec_items lines ≡ map vec_items early ++ map vec_items late
rows_split {Z} lines early late k e l =
    let whole : lines ≡ early ++ late = sym (take-append-drop k lines) ∙ ap (λ (x : List (Vec ℕ Z)). x ++ drop k lines) (sym e) ∙ ap (λ (x : List (Vec ℕ Z)). early ++ x) (sym l) in
    ap (λ (xs : List (Vec ℕ Z)). map vec_items xs) whole ∙ map-append vec_items early late

-- a refused start: fewer slots than the delay were heard
pub too_early : (r : Numbers) (v : ℕ × List ℕ) → start r ≡ refused v → r.heard < r.delay
too_early r v e = ⊎_elim
    (λ (lt : r.heard < r.delay). lt)
    (λ (ge : r.delay ≤ r.heard).
    let f : ◌≡◌ {A = Outcome Numbers} (granted r) (refused v) = sym (cond-false (ltb r.heard r.delay) (refused (32, [])) (granted r) (le-ltb r.heard r.delay ge)) ∙ e in
    let z : ◌≡◌ {A = ℕ} 0 1 = cc in
    absurd (omega arith))
    (cases_lt r.heard r.delay)
