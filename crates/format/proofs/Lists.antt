-- Lists of records as bytes.
use Rattle.std.proofs.Common.{◌≡◌, ℕ, ◌+◌, ◌<◌, ◌≤◌, List, [], ◌∷◌, ◌++◌, map, length, get_or, take, drop, sym, refl, ap, ◌∙◌, subst, inl, inr, append_assoc, append-nil, arith, length-append, take-append-drop}
use Rattle.std.proofs.lemmas.List.{take_more}
use Rattle.records.specs.Places.{Spans}
use Rattle.records.proofs.Spanning.{spans_join}
use Rattle.records.specs.declared.fault.Fault.{Fault}
use Rattle.records.specs.declared.kinds.Film.{Film}
use Rattle.records.specs.declared.kinds.Closure.{Closure}
use Rattle.format.specs.Items.{Part, Item, film, part, closure, end, bytes}
use Rattle.format.specs.Format.{records, encoded}
use Rattle.format.specs.Runs.{Unappended}

pub map_append : {X Y : Type 0} (f : X → Y) (xs ys : List X) → map f (xs ++ ys) ≡ map f xs ++ map f ys
map_append f [] ys = refl
map_append f (x ∷ xs) ys = ap (λ l. f x ∷ l) (map_append f xs ys)

pub map_map : {X Y Z : Type 0} (g : Y → Z) (f : X → Y) (xs : List X) → map (λ x. g (f x)) xs ≡ map g (map f xs)
map_map g f [] = refl
map_map g f (x ∷ xs) = ap (λ l. g (f x) ∷ l) (map_map g f xs)

pub encoded_append : (xs ys : List Item) → encoded (xs ++ ys) ≡ encoded xs ++ encoded ys
encoded_append [] ys = refl
encoded_append (x ∷ xs) ys = ap (λ l. bytes x ++ l) (encoded_append xs ys) ∙ sym (append_assoc (bytes x) (encoded xs) (encoded ys))

pub spans_items : {file : List ℕ} {a b e : ℕ} (xs ys : List Item) → Spans file a b (encoded xs) → Spans file b e (encoded ys) → Spans file a e (encoded (xs ++ ys))
spans_items {file} {a} {b} {e} xs ys s t = subst (Spans file a e) (sym (encoded_append xs ys)) (spans_join s t)

-- one record more of a list
pub encoded_push : {X : Type 0} (item : X → Item) (xs : List X) (x : X) → encoded (map item xs) ++ bytes (item x) ≡ encoded (map item (xs ++ x ∷ []))
encoded_push item [] x = sym (append-nil (bytes (item x)))
encoded_push item (y ∷ xs) x = append_assoc (bytes (item y)) (encoded (map item xs)) (bytes (item x)) ∙ ap (λ l. bytes (item y) ++ l) (encoded_push item xs x)

pub spans_push : {X : Type 0} (item : X → Item) {file : List ℕ} {a b e : ℕ} (xs : List X) (x : X) → Spans file a b (encoded (map item xs)) → Spans file b e (bytes (item x)) → Spans file a e (encoded (map item (xs ++ x ∷ [])))
spans_push item {file} {a} {b} {e} xs x s t = subst (Spans file a e) (encoded_push item xs x) (spans_join s t)

-- one record more of a list that is gone through, after the bytes `start`
pub encoded_more : {X : Type 0} (item : X → Item) (start mid last : List ℕ) (xs : List X) (i : ℕ) (x : X) → i < length xs → x ≡ get_or xs i x → mid ≡ start ++ encoded (map item (take i xs)) → last ≡ mid ++ bytes (item x) → last ≡ start ++ encoded (map item (take (i + 1) xs))
encoded_more item start mid last xs i x h e m l =
    let one : take (i + 1) xs ≡ take i xs ++ x ∷ [] = take_more xs i x h ∙ ap (λ y. take i xs ++ (y ∷ [])) (sym e) in
    l ∙ ap (λ l. l ++ bytes (item x)) m ∙ append_assoc start (encoded (map item (take i xs))) (bytes (item x)) ∙ ap (λ l. start ++ l) (encoded_push item (take i xs) x ∙ ap (λ l. encoded (map item l)) (sym one))

-- the first records take no more bytes than all of them
pub encoded_front : {X : Type 0} (item : X → Item) (was : List ℕ) (xs : List X) (i : ℕ) → length (was ++ encoded (map item (take i xs))) ≤ length (was ++ encoded (map item xs))
encoded_front item was xs i =
    let e : encoded (map item xs) ≡ encoded (map item (take i xs)) ++ encoded (map item (drop i xs)) = ap (λ l. encoded (map item l)) (sym (take-append-drop i xs)) ∙ ap encoded (map_append item (take i xs) (drop i xs)) ∙ encoded_append (map item (take i xs)) (map item (drop i xs)) in
    omega (arith, ap length e, length-append (encoded (map item (take i xs))) (encoded (map item (drop i xs))), length-append was (encoded (map item (take i xs))), length-append was (encoded (map item xs)))

-- the plan records of a plan, as they were lent
pub parts_encoded : {X : Type 0} (K : X → Part) (lent items : List X) (parts all : List Part) → lent ≡ items → map K items ≡ parts → parts ≡ all → encoded (map (λ x. part (K x)) lent) ≡ encoded (map part all)
parts_encoded K lent items parts all e f g = ap encoded (map_map part K lent ∙ ap (map part) (ap (map K) e ∙ f ∙ g))

-- all of a file is made
module _ (f : Film) (ps : List Part) (cs : List Closure) where
  abbrev whole : List ℕ
  whole = encoded (records (record { opening = f; parts = ps; closed = cs }))

  made : whole ≡ bytes (film f) ++ (encoded (map part ps) ++ (encoded (map closure cs) ++ (0 ∷ [])))
  made = ap (λ l. bytes (film f) ++ l) (encoded_append (map part ps) (map closure cs ++ (end ∷ [])) ∙ ap (λ l. encoded (map part ps) ++ l) (encoded_append (map closure cs) (end ∷ [])))

  pub assembled : (a b c d : List ℕ) → a ≡ bytes (film f) → b ≡ a ++ encoded (map part ps) → c ≡ b ++ encoded (map closure cs) → d ≡ c ++ (0 ∷ []) → d ≡ whole
  assembled a b c d ea eb ec ed =
      let turned : ((bytes (film f) ++ encoded (map part ps)) ++ encoded (map closure cs)) ++ (0 ∷ []) ≡ bytes (film f) ++ (encoded (map part ps) ++ (encoded (map closure cs) ++ (0 ∷ []))) = simp append_assoc in
      ed ∙ ap (λ l. l ++ (0 ∷ [])) (ec ∙ ap (λ l. l ++ encoded (map closure cs)) (eb ∙ ap (λ l. l ++ encoded (map part ps)) ea)) ∙ turned ∙ sym made

  pub parts_fit : (a : List ℕ) → a ≡ bytes (film f) → length (a ++ encoded (map part ps)) ≤ length whole
  parts_fit a ea =
      omega (arith, ap length ea, ap length made, length-append a (encoded (map part ps)), length-append (bytes (film f)) (encoded (map part ps) ++ (encoded (map closure cs) ++ (0 ∷ []))), length-append (encoded (map part ps)) (encoded (map closure cs) ++ (0 ∷ [])))

  pub closures_fit : (a b : List ℕ) → a ≡ bytes (film f) → b ≡ a ++ encoded (map part ps) → length (b ++ encoded (map closure cs)) ≤ length whole
  closures_fit a b ea eb =
      let w = assembled a b (b ++ encoded (map closure cs)) ((b ++ encoded (map closure cs)) ++ (0 ∷ [])) ea eb refl refl in
      omega (arith, ap length w, length-append (b ++ encoded (map closure cs)) (0 ∷ []))

-- bytes that are part of longer ones
pub unappended_more : (some all : List ℕ) (f : Fault) → length some ≤ length all → Unappended some f → Unappended all f
unappended_more some all f h (inl e) = inl e
unappended_more some all f h (inr e) = inr (e.0, omega (arith, e.1))
