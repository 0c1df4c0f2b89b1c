-- A call of a receiver reads and writes only the bytes of the film's pages, with which its store begins.
use Rattle.std.proofs.Common.{◌≡◌, ℕ, ◌+◌, ◌-◌, ◌<◌, ◌≤◌, true, false, cond, not, ◌&&◌, eqb, ltb, leb, List, [], ◌∷◌, ◌++◌, length, get_or, set, sym, refl, ap, ◌∙◌, arith, length-append}
use Rattle.std.proofs.lemmas.Bool.{le-ltb, lt-ltb, lt-leb, cond-true, cond-false, leb-true, and_parts}
use Rattle.std.proofs.lemmas.List.{get_or_append_left, set-append_left}
use Rattle.receiver.specs.Calls.{granted, refused, weigh, hear, show, peaked, heard_more, shown_more}
use Rattle.receiver.specs.Count.{count}
use Rattle.receiver.specs.Stores.{unheard, wanted, put, taken, stock}
use Rattle.receiver.specs.declared.numbers.Numbers.{Numbers}
use Rattle.receiver.proofs.Counts.{count_same}
use Rattle.receiver.proofs.Stores.{length_put, length_taken}

wanted_film : (n : ℕ) (film rest : List ℕ) (p : ℕ) → length film ≡ n → wanted n (film ++ rest) p ≡ wanted n film p
wanted_film n film rest p e =
    elim (leb 1 p && leb p n) as (λ b. (leb 1 p && leb p n) ≡ b → (b && unheard (get_or (film ++ rest) (p - 1) 0)) ≡ (b && unheard (get_or film (p - 1) 0))) [
      | true ↦ λ w.
          let parts = and_parts (leb 1 p) (leb p n) w in
          let one = leb-true 1 p parts.0 in
          let top = leb-true p n parts.1 in
          ap unheard (get_or_append_left film rest 0 (p - 1) (omega arith))
      | false ↦ λ w. refl
    ] refl

put_film : (n : ℕ) (film rest : List ℕ) (p : ℕ) → length film ≡ n → put n (film ++ rest) p ≡ put n film p ++ rest
put_film n film rest p e =
    ap (λ b. cond b (set (film ++ rest) (p - 1) 1) (film ++ rest)) (wanted_film n film rest p e)
    ∙ elim (wanted n film p) as (λ b. wanted n film p ≡ b → cond b (set (film ++ rest) (p - 1) 1) (film ++ rest) ≡ cond b (set film (p - 1) 1) film ++ rest) [
      | true ↦ λ w.
          let parts = and_parts (leb 1 p) (leb p n) (and_parts (leb 1 p && leb p n) (unheard (get_or film (p - 1) 0)) w).0 in
          let one = leb-true 1 p parts.0 in
          let top = leb-true p n parts.1 in
          set-append_left film rest (p - 1) 1 (omega arith)
      | false ↦ λ w. refl
    ] refl

taken_over : (n : ℕ) (film rest ps : List ℕ) → length film ≡ n → taken n (film ++ rest) ps ≡ taken n film ps ++ rest
taken_over n film rest [] e = refl
taken_over n film rest (p ∷ ps) e =
    ap (λ s. taken n s ps) (put_film n film rest p e) ∙ taken_over n (put n film p) rest ps (length_put n film p ∙ e)

-- a store, split after the bytes of a film of n pages
module _ (n : ℕ) (store film rest ps : List ℕ) (split : store ≡ film ++ rest) (whole : length film ≡ n) where
  pub taken_film : taken n store ps ≡ taken (length film) film ps ++ rest
  taken_film = ap (λ s. taken n s ps) split ∙ taken_over n film rest ps whole ∙ ap (λ k. taken k film ps ++ rest) (sym whole)

  pub stock_film : stock n store ps ≡ stock (length film) film ps
  stock_film =
      let kept = length_taken (length film) film ps in
      count_same n _ _ (λ j l. ap (λ s. eqb (get_or s j 0) 1) taken_film ∙ ap (λ b. eqb b 1) (get_or_append_left (taken (length film) film ps) rest 0 j (omega arith)))
      ∙ ap (λ k. count k (λ j. eqb (get_or (taken (length film) film ps) j 0) 1)) (sym whole)

  long : ltb (length store) n ≡ false
  long = let k : length store ≡ length film + length rest = ap length split ∙ length-append film rest in le-ltb (length store) n (omega arith)

  pub weighs : weigh n store ps ≡ granted (stock (length film) film ps)
  weighs = cond-false _ _ _ long ∙ ap granted stock_film

-- a slot that is heard or shown over such a store
module _ (r : Numbers) (store film rest ps : List ℕ) (split : store ≡ film ++ rest) (whole : length film ≡ r.pages) where
  abbrev weight : ℕ
  weight = stock (length film) film ps

  full_is : r.capacity < weight → ltb r.capacity (stock r.pages store ps) ≡ true
  full_is full = ap (λ s. ltb r.capacity s) (stock_film r.pages store film rest ps split whole) ∙ lt-ltb r.capacity weight full

  room_is : weight ≤ r.capacity → ltb r.capacity (stock r.pages store ps) ≡ false
  room_is fits = ap (λ s. ltb r.capacity s) (stock_film r.pages store film rest ps split whole) ∙ le-ltb r.capacity weight fits

  module _ (early : r.heard < r.delay) where
    pub hears : (r' : Numbers) (film' : List ℕ) → weight ≤ r.capacity → r' ≡ peaked r weight → film' ≡ taken (length film) film ps
        → hear r store ps ≡ granted (record { delay = r'.delay; pages = r'.pages; capacity = r'.capacity; heard = r.heard + 1; shown = r'.shown; peak = r'.peak }, film' ++ rest)
    hears r' film' fits e f =
        cond-false _ _ _ (long r.pages store film rest ps split whole)
        ∙ cond-false _ _ _ (lt-leb r.delay r.heard early)
        ∙ cond-false _ _ _ (room_is fits)
        ∙ ap (λ s. granted (heard_more r s, taken r.pages store ps)) (stock_film r.pages store film rest ps split whole)
        ∙ ap (λ s. granted (heard_more r weight, s)) (taken_film r.pages store film rest ps split whole ∙ ap (λ s. s ++ rest) (sym f))
        ∙ ap (λ (x : Numbers). granted (record { delay = x.delay; pages = x.pages; capacity = x.capacity; heard = r.heard + 1; shown = x.shown; peak = x.peak }, film' ++ rest)) (sym e)

    pub hears_full : r.capacity < weight → hear r store ps ≡ refused (34, [])
    hears_full full =
        cond-false _ _ _ (long r.pages store film rest ps split whole)
        ∙ cond-false _ _ _ (lt-leb r.delay r.heard early)
        ∙ cond-true _ _ _ (full_is full)

  module _ (left : r.shown < r.pages) (held : get_or film r.shown 0 ≡ 1) where
    is_held : not (eqb (get_or store r.shown 0) 1) ≡ false
    is_held = ap (λ b. not (eqb b 1)) (ap (λ s. get_or s r.shown 0) split ∙ get_or_append_left film rest 0 r.shown (omega arith) ∙ held)

    pub shows : (r' : Numbers) (film' : List ℕ) → weight ≤ r.capacity → r' ≡ peaked r weight → film' ≡ taken (length film) film ps
        → show r store ps ≡ granted (r.shown + 1, record { delay = r'.delay; pages = r'.pages; capacity = r'.capacity; heard = r'.heard; shown = r.shown + 1; peak = r'.peak }, set film' r.shown 2 ++ rest)
    shows r' film' fits e f =
        let kept = length_taken (length film) film ps in
        cond-false _ _ _ (long r.pages store film rest ps split whole)
        ∙ cond-false _ _ _ (lt-leb r.pages r.shown left)
        ∙ cond-false _ _ _ is_held
        ∙ cond-false _ _ _ (room_is fits)
        ∙ ap (λ s. granted (r.shown + 1, shown_more r s, set (taken r.pages store ps) r.shown 2)) (stock_film r.pages store film rest ps split whole)
        ∙ ap (λ s. granted (r.shown + 1, shown_more r weight, s))
        (ap (λ s. set s r.shown 2) (taken_film r.pages store film rest ps split whole) ∙ set-append_left (taken (length film) film ps) rest r.shown 2 (omega arith)
        ∙ ap (λ s. set s r.shown 2 ++ rest) (sym f))
        ∙ ap (λ (x : Numbers). granted (r.shown + 1, record { delay = x.delay; pages = x.pages; capacity = x.capacity; heard = x.heard; shown = r.shown + 1; peak = x.peak }, set film' r.shown 2 ++ rest)) (sym e)

    pub shows_full : r.capacity < weight → show r store ps ≡ refused (34, [])
    shows_full full =
        cond-false _ _ _ (long r.pages store film rest ps split whole)
        ∙ cond-false _ _ _ (lt-leb r.pages r.shown left)
        ∙ cond-false _ _ _ is_held
        ∙ cond-true _ _ _ (full_is full)
