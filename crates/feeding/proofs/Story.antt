-- What the stock's story says, and so what every feeding says where no page starves.
use Rattle.std.proofs.Common.{◌≡◌, ℕ, zero, suc, ◌+◌, ◌-◌, ◌<◌, ◌≤◌, min, max, ◌≢◌, List, [], ◌∷◌, map, length, sym, refl, ap, ◌∙◌, subst, ⊎_elim, arith}
use Rattle.std.specs.List.{range_with_len}
use Rattle.std.proofs.lemmas.Bool.{cases_eq, cases_lt, lt-ltb, le-ltb, eq-eqb, ne_eqb, cond-true, cond-false}
use Rattle.std.proofs.lemmas.List.FromFn.{fill_by_all}
use Rattle.receiver.proofs.Counts.{count_le}
use Rattle.feeding.specs.Feeding.{Fed, denied, whole, cut, ended, heard_first, shown_first, fed}
use Rattle.feeding.specs.Laws.{came, stock_at, story, Unbroken, WholeRoom, EnoughRoom, LessRoom, PeakIsTop, StocksAreArrivals, lines_of, top}
use Rattle.feeding.proofs.Runs.{told_by_stock}

-- one slot of a story: refused, heard, the last page, another page
story_denied : (S : ℕ → ℕ) (m n room k j peak : ℕ) → room < S j → story S m n room (suc k) j peak ≡ ended peak (denied 34 [])
story_denied S m n room k j peak h = cond-true _ _ _ (lt-ltb room (S j) h)

story_hears : (S : ℕ → ℕ) (m n room k j peak : ℕ) → S j ≤ room → j < m → story S m n room (suc k) j peak ≡ heard_first (S j) (story S m n room k (suc j) (max peak (S j)))
story_hears S m n room k j peak h l = cond-false _ _ _ (le-ltb room (S j) h) ∙ cond-true _ _ _ (lt-ltb j m l)

story_last : (S : ℕ → ℕ) (m n room k j peak : ℕ) → S j ≤ room → m ≤ j → suc j - m ≡ n → story S m n room (suc k) j peak ≡ shown_first (suc j - m) (S j) (ended (max peak (S j)) whole)
story_last S m n room k j peak h l e = cond-false _ _ _ (le-ltb room (S j) h) ∙ cond-false _ _ _ (le-ltb j m l) ∙ ap (λ f. shown_first (suc j - m) (S j) f) (cond-true _ _ _ (eq-eqb (suc j - m) n e))

story_shows : (S : ℕ → ℕ) (m n room k j peak : ℕ) → S j ≤ room → m ≤ j → (suc j - m ≡ n → ⊥) → story S m n room (suc k) j peak ≡ shown_first (suc j - m) (S j) (story S m n room k (suc j) (max peak (S j)))
story_shows S m n room k j peak h l e = cond-false _ _ _ (le-ltb room (S j) h) ∙ cond-false _ _ _ (le-ltb j m l) ∙ ap (λ f. shown_first (suc j - m) (S j) f) (cond-false _ _ _ (ne_eqb (suc j - m) n e))

abbrev Fits : (ℕ → ℕ) → ℕ → ℕ → ℕ → ℕ → ℕ → Type 0
Fits S m n room k j = (i : ℕ) → j ≤ i → i < j + k → i < m + n → S i ≤ room

abbrev Granted : Fed → Type 0
Granted f = (d : ℕ) (vs : List ℕ) → f.ending ≡ denied d vs → ⊥

cut_granted : (peak : ℕ) → Granted (ended peak cut)
cut_granted peak d vs e = let z : ◌≡◌ {A = ℕ} 0 1 = cc in omega arith

whole_granted : (p s peak : ℕ) → Granted (shown_first p s (ended peak whole))
whole_granted p s peak d vs e = let z : ◌≡◌ {A = ℕ} 0 1 = cc in omega arith

story_granted : (S : ℕ → ℕ) (m n room k j peak : ℕ) → 1 ≤ n → j < m + n → Fits S m n room k j → Granted (story S m n room k j peak)
story_granted S m n room zero j peak some film fits = cut_granted peak
story_granted S m n room (suc k) j peak some film fits =
    let here : S j ≤ room = fits j (omega arith) (omega arith) film in
    let later : Fits S m n room k (suc j) = λ i a b d. fits i (omega arith) (omega arith) d in
    ⊎_elim
    (λ lt. subst Granted (sym (story_hears S m n room k j peak here lt)) (story_granted S m n room k (suc j) (max peak (S j)) some (omega arith) later))
    (λ ge. ⊎_elim
    (λ e. subst Granted (sym (story_last S m n room k j peak here ge e)) (whole_granted (suc j - m) (S j) (max peak (S j))))
    (λ ne. subst Granted (sym (story_shows S m n room k j peak here ge ne)) (story_granted S m n room k (suc j) (max peak (S j)) some (omega arith) later))
    (cases_eq (suc j - m) n))
    (cases_lt j m)

story_order : (S : ℕ → ℕ) (m n room k j peak : ℕ) → 1 ≤ n → j < m + n → Fits S m n room k j
    → (story S m n room k j peak).shows ≡ range_with_len (suc (j - m)) (min (n - (j - m)) (k - (m - j)))
story_order S m n room zero j peak some film fits = let e : 0 ≡ min (n - (j - m)) (zero - (m - j)) = omega arith in ap (λ x. range_with_len (suc (j - m)) x) e
story_order S m n room (suc k) j peak some film fits =
    let here : S j ≤ room = fits j (omega arith) (omega arith) film in
    let later : Fits S m n room k (suc j) = λ i a b d. fits i (omega arith) (omega arith) d in
    ⊎_elim
    (λ lt.
    let a : suc j - m ≡ j - m = omega arith in
    let b : min (n - (j - m)) (k - (m - suc j)) ≡ min (n - (j - m)) (suc k - (m - j)) = omega arith in
    ap (λ f. f.shows) (story_hears S m n room k j peak here lt)
    ∙ story_order S m n room k (suc j) (max peak (S j)) some (omega arith) later
    ∙ ap (λ x. range_with_len (suc x) (min (n - x) (k - (m - suc j)))) a
    ∙ ap (λ x. range_with_len (suc (j - m)) x) b)
    (λ ge.
    let p : suc j - m ≡ suc (j - m) = omega arith in
    ⊎_elim
    (λ e.
    let b : 1 ≡ min (n - (j - m)) (suc k - (m - j)) = omega arith in
    ap (λ f. f.shows) (story_last S m n room k j peak here ge e) ∙ ap (λ x. x ∷ []) p ∙ ap (λ x. range_with_len (suc (j - m)) x) b)
    (λ ne.
    let b : suc (min (n - (suc j - m)) (k - (m - suc j))) ≡ min (n - (j - m)) (suc k - (m - j)) = omega arith in
    let q : suc (suc j - m) ≡ suc (j - m) + 1 = omega arith in
    ap (λ f. f.shows) (story_shows S m n room k j peak here ge ne)
    ∙ ap (λ xs. (suc j - m) ∷ xs) (story_order S m n room k (suc j) (max peak (S j)) some (omega arith) later)
    ∙ ap (λ x. x ∷ range_with_len (suc (suc j - m)) (min (n - (suc j - m)) (k - (m - suc j)))) p
    ∙ ap (λ x. suc (j - m) ∷ range_with_len x (min (n - (suc j - m)) (k - (m - suc j)))) q
    ∙ ap (λ x. range_with_len (suc (j - m)) x) b)
    (cases_eq (suc j - m) n))
    (cases_lt j m)

-- a slot whose stock passes the room ends it
story_less : (S : ℕ → ℕ) (m n room k j i peak : ℕ) → 1 ≤ n → j ≤ i → i < j + k → i < m + n → room < S i → (story S m n room k j peak).ending ≡ denied 34 []
story_less S m n room zero j i peak some a b film less = absurd (omega arith)
story_less S m n room (suc k) j i peak some a b film less = ⊎_elim
    (λ full. ap (λ f. f.ending) (story_denied S m n room k j peak full))
    (λ here.
    let ne : j ≢ i = λ e. let same = ap S e in omega arith in
    ⊎_elim
    (λ lt. ap (λ f. f.ending) (story_hears S m n room k j peak here lt) ∙ story_less S m n room k (suc j) i (max peak (S j)) some (omega arith) (omega arith) film less)
    (λ ge. ap (λ f. f.ending) (story_shows S m n room k j peak here ge (λ e. omega arith)) ∙ story_less S m n room k (suc j) i (max peak (S j)) some (omega arith) (omega arith) film less)
    (cases_lt j m))
    (cases_lt room (S j))

story_peak : (S : ℕ → ℕ) (m n room k j peak : ℕ) → 1 ≤ n → j + k ≡ m + n → Fits S m n room k j → (story S m n room k j peak).peak ≡ top S j k peak
story_peak S m n room zero j peak some film fits = refl
story_peak S m n room (suc k) j peak some film fits =
    let here : S j ≤ room = fits j (omega arith) (omega arith) (omega arith) in
    let later : Fits S m n room k (suc j) = λ i a b d. fits i (omega arith) (omega arith) d in
    let rest = story_peak S m n room k (suc j) (max peak (S j)) some (omega arith) later in
    ⊎_elim
    (λ lt. ap (λ f. f.peak) (story_hears S m n room k j peak here lt) ∙ rest)
    (λ ge. ⊎_elim
    (λ e.
    let end : 0 ≡ k = omega arith in
    ap (λ f. f.peak) (story_last S m n room k j peak here ge e) ∙ ap (λ x. top S (suc j) x (max peak (S j))) end)
    (λ ne. ap (λ f. f.peak) (story_shows S m n room k j peak here ge ne) ∙ rest)
    (cases_eq (suc j - m) n))
    (cases_lt j m)

-- the stocks of an unbroken story
story_stocks : (S : ℕ → ℕ) (m n room k j peak : ℕ) → 1 ≤ n → j < m + n → Fits S m n room k j
    → (story S m n room k j peak).stocks ≡ map S (range_with_len j (min k (m + n - j)))
story_stocks S m n room zero j peak some film fits = let e : 0 ≡ min zero (m + n - j) = omega arith in ap (λ x. map S (range_with_len j x)) e
story_stocks S m n room (suc k) j peak some film fits =
    let here : S j ≤ room = fits j (omega arith) (omega arith) film in
    let later : Fits S m n room k (suc j) = λ i a b d. fits i (omega arith) (omega arith) d in
    let next : suc j ≡ j + 1 = omega arith in
    let more : suc (min k (m + n - suc j)) ≡ min (suc k) (m + n - j) = omega arith in
    let rest : suc j < m + n → S j ∷ (story S m n room k (suc j) (max peak (S j))).stocks ≡ map S (range_with_len j (min (suc k) (m + n - j))) = λ lt.
    ap (λ xs. S j ∷ xs) (story_stocks S m n room k (suc j) (max peak (S j)) some lt later)
    ∙ ap (λ x. S j ∷ map S (range_with_len x (min k (m + n - suc j)))) next
    ∙ ap (λ x. map S (range_with_len j x)) more in
    ⊎_elim
    (λ lt. ap (λ f. f.stocks) (story_hears S m n room k j peak here lt) ∙ rest (omega arith))
    (λ ge. ⊎_elim
    (λ e.
    let one : 1 ≡ min (suc k) (m + n - j) = omega arith in
    ap (λ f. f.stocks) (story_last S m n room k j peak here ge e) ∙ ap (λ x. map S (range_with_len j x)) one)
    (λ ne. ap (λ f. f.stocks) (story_shows S m n room k j peak here ge ne) ∙ rest (omega arith))
    (cases_eq (suc j - m) n))
    (cases_lt j m)

unbroken : (S : ℕ → ℕ) (m n room K : ℕ) → 1 ≤ n → Fits S m n room K 0 → Unbroken m n K (story S m n room K 0 0)
unbroken S m n room K some fits =
    let a : min (n - (0 - m)) (K - (m - 0)) ≡ min n (K - m) = omega arith in
    let b : 0 - m ≡ 0 = omega arith in
    record {
      granted = story_granted S m n room K 0 0 some (omega arith) fits;
      in_order = story_order S m n room K 0 0 some (omega arith) fits ∙ ap (λ x. range_with_len (suc (0 - m)) x) a ∙ ap (λ x. range_with_len (suc x) (min n (K - m))) b;
    }

pub enough_room : EnoughRoom
enough_room L m n room t K store ok serves fits =
    subst (λ f. Unbroken m n K f) (sym (told_by_stock L m n room t K store ok serves))
    (unbroken (stock_at L m n t) m n room K ok.pages.0 (λ i a b d. fits i (omega arith) d))

pub stocks_are_arrivals : StocksAreArrivals
stocks_are_arrivals L m n room t K store ok serves fits =
    ap (λ f. f.stocks) (told_by_stock L m n room t K store ok serves)
    ∙ story_stocks (stock_at L m n t) m n room K 0 0 ok.pages.0 (omega arith) (λ i a b d. fits i (omega arith) d)
    ∙ ap (λ x. map (stock_at L m n t) (range_with_len 0 x)) all
  where
    all : min K (m + n - 0) ≡ min K (m + n)
    all = omega arith

pub less_room : LessRoom
less_room L m n room t K j store ok serves a b less =
    ap (λ f. f.ending) (told_by_stock L m n room t K store ok serves)
    ∙ story_less (stock_at L m n t) m n room K 0 j 0 ok.pages.0 (omega arith) (omega arith) b less

pub stock_le : (L : ℕ → List ℕ) (m n t j : ℕ) → stock_at L m n t j ≤ n
stock_le L m n t j = let a = count_le n (λ i. came L (i + 1) t (suc j)) in omega arith

pub whole_room : WholeRoom
whole_room ls m n store ok serves =
    let same : ls ≡ map (lines_of ls) (range_with_len 0 (length ls)) = fill_by_all (lines_of ls) ls (length ls) [] refl (λ k h. refl) in
    subst (λ x. Unbroken m n (length ls) (fed m n n store x)) (sym same)
    (enough_room (lines_of ls) m n n 0 (length ls) store ok serves (λ j a b. stock_le (lines_of ls) m n 0 j))

pub peak_is_top : PeakIsTop
peak_is_top L m n t store ok serves =
    ap (λ f. f.peak) (told_by_stock L m n n t (m + n) store ok serves)
    ∙ story_peak (stock_at L m n t) m n n (m + n) 0 0 ok.pages.0 (omega arith) (λ i a b d. stock_le L m n t i)
