-- What a store holds, place by place, once a slot's pages came.
use Rattle.std.proofs.Common.{◌≡◌, ℕ, ◌+◌, ◌-◌, ◌<◌, ◌≤◌, Bool, true, false, cond, not, ◌&&◌, ◌||◌, eqb, leb, List, [], ◌∷◌, length, get_or, set, sym, refl, ap, ◌∙◌, subst, ⊎_elim, arith, length-set, get_or-set_other, get_or-set_same}
use Rattle.std.proofs.lemmas.Bool.{cases_eq, le-leb, eq-eqb, ne_eqb, and_parts, and_from, and_right, leb-true, not-true, or_left}
use Rattle.std.specs.List.{list_any}
use Rattle.receiver.specs.Count.{count, bit}
use Rattle.receiver.specs.Stores.{member, unheard, wanted, put, taken, held, stock, fresh}
use Rattle.receiver.proofs.Counts.{count_same, count_le, count_or, count_one, count_none}

pub length_put : (n : ℕ) (store : List ℕ) (p : ℕ) → length (put n store p) ≡ length store
length_put n store p = elim (wanted n store p) as (λ b. length (cond b (set store (p - 1) 1) store) ≡ length store) [ true ↦ length-set _ _ _ | false ↦ refl ]

pub length_taken : (n : ℕ) (store ps : List ℕ) → length (taken n store ps) ≡ length store
length_taken n store [] = refl
length_taken n store (p ∷ ps) = length_taken n (put n store p) ps ∙ length_put n store p

-- a byte after it was told whether its page came
abbrev pub marked : ℕ → Bool → ℕ
marked b came = cond (unheard b && came) 1 b

marked_twice : (b : ℕ) (x y : Bool) → marked (marked b x) y ≡ marked b (x || y)
marked_twice b x y =
    elim (unheard b) as (λ u. (unheard b ≡ u) → marked (cond (u && x) 1 b) y ≡ cond (u && (x || y)) 1 b) [
      | true ↦ λ e. elim x as (λ v. marked (cond v 1 b) y ≡ cond (v || y) 1 b) [ true ↦ refl | false ↦ ap (λ u. cond (u && y) 1 b) e ]
      | false ↦ λ e. ap (λ u. cond (u && y) 1 b) e
    ] refl

-- one page, at each place
getD_put : (n : ℕ) (store : List ℕ) (p j : ℕ) → n ≤ length store → j < n → get_or (put n store p) j 0 ≡ marked (get_or store j 0) (eqb (j + 1) p)
getD_put n store p j room l = ⊎_elim
    (λ e.
    let pj : p - 1 ≡ j = omega arith in
    let one : leb 1 p ≡ true = le-leb 1 p (omega arith) in
    let top : leb p n ≡ true = le-leb p n (omega arith) in
    let w : wanted n store p ≡ unheard (get_or store j 0) =
    ap (λ x. (x && leb p n) && unheard (get_or store (p - 1) 0)) one ∙ ap (λ x. x && unheard (get_or store (p - 1) 0)) top ∙ ap (λ x. unheard (get_or store x 0)) pj in
    let here : eqb (j + 1) p ≡ true = eq-eqb (j + 1) p e in
    let k : get_or (set store (p - 1) 1) j 0 ≡ 1 = ap (λ x. get_or (set store x 1) j 0) pj ∙ get_or-set_same store j 1 0 (omega arith) in
    ap (λ b. get_or (cond b (set store (p - 1) 1) store) j 0) w
    ∙ elim (unheard (get_or store j 0)) as (λ u. get_or (cond u (set store (p - 1) 1) store) j 0 ≡ cond (u && true) 1 (get_or store j 0)) [ true ↦ k | false ↦ refl ]
    ∙ ap (λ x. marked (get_or store j 0) x) (sym here))
    (λ ne.
    let here : eqb (j + 1) p ≡ false = ne_eqb (j + 1) p ne in
    let stays : marked (get_or store j 0) false ≡ get_or store j 0 = elim (unheard (get_or store j 0)) as (λ u. cond (u && false) 1 (get_or store j 0) ≡ get_or store j 0) [ true ↦ refl | false ↦ refl ] in
    elim (wanted n store p) as (λ b. (wanted n store p ≡ b) → get_or (cond b (set store (p - 1) 1) store) j 0 ≡ get_or store j 0) [
      | true ↦ λ w.
          let one = leb-true 1 p (and_parts _ _ (and_parts _ _ w).0).0 in
          get_or-set_other store (p - 1) j 1 0 (omega arith)
      | false ↦ λ w. refl
    ] refl
    ∙ sym stays ∙ ap (λ x. marked (get_or store j 0) x) (sym here))
    (cases_eq (j + 1) p)

-- a slot's pages, at each place
pub getD_taken : (n : ℕ) (store ps : List ℕ) (j : ℕ) → n ≤ length store → j < n → get_or (taken n store ps) j 0 ≡ marked (get_or store j 0) (member (j + 1) ps)
getD_taken n store [] j room l = elim (unheard (get_or store j 0)) as (λ u. get_or store j 0 ≡ cond (u && false) 1 (get_or store j 0)) [ true ↦ refl | false ↦ refl ]
getD_taken n store (p ∷ ps) j room l =
    getD_taken n (put n store p) ps j (subst (λ x. n ≤ x) (sym (length_put n store p)) room) l
    ∙ ap (λ b. marked b (member (j + 1) ps)) (getD_put n store p j room l)
    ∙ marked_twice (get_or store j 0) (eqb (j + 1) p) (member (j + 1) ps)

-- the wanted pages of a list, by place
abbrev fresh_at : List ℕ → List ℕ → ℕ → Bool
fresh_at store ps j = unheard (get_or store j 0) && member (j + 1) ps

wanted_at : (n : ℕ) (store : List ℕ) (p j : ℕ) → j < n → j + 1 ≡ p → wanted n store p ≡ unheard (get_or store j 0)
wanted_at n store p j l e =
    let pj : p - 1 ≡ j = omega arith in
    let one : leb 1 p ≡ true = le-leb 1 p (omega arith) in
    let top : leb p n ≡ true = le-leb p n (omega arith) in
    ap (λ x. (x && leb p n) && unheard (get_or store (p - 1) 0)) one ∙ ap (λ x. x && unheard (get_or store (p - 1) 0)) top ∙ ap (λ x. unheard (get_or store x 0)) pj

fresh_other : (store : List ℕ) (p : ℕ) (ps : List ℕ) (j : ℕ) → (j + 1 ≡ p → ⊥) → fresh_at store ps j ≡ fresh_at store (p ∷ ps) j
fresh_other store p ps j ne = ap (λ x. unheard (get_or store j 0) && (x || member (j + 1) ps)) (sym (ne_eqb (j + 1) p ne))

fresh_repeat : (u v : Bool) → (u && not v) ≡ false → (u && v) ≡ (u && true)
fresh_repeat true true h = refl
fresh_repeat true false h = sym h
fresh_repeat false v h = refl

fresh_is : (n : ℕ) (store ps : List ℕ) → fresh n store ps ≡ count n (fresh_at store ps)
fresh_is n store [] = sym (count_none n (fresh_at store []) (λ j l. and_right _ _ refl))
fresh_is n store (p ∷ ps) =
    elim (wanted n store p && not (member p ps)) as (λ b. (wanted n store p && not (member p ps)) ≡ b → bit b + fresh n store ps ≡ count n (fresh_at store (p ∷ ps))) [
      | true ↦ λ w.
          let parts = and_parts (wanted n store p) (not (member p ps)) w in
          let film = and_parts (leb 1 p && leb p n) (unheard (get_or store (p - 1) 0)) parts.0 in
          let one = leb-true 1 p (and_parts (leb 1 p) (leb p n) film.0).0 in
          let top = leb-true p n (and_parts (leb 1 p) (leb p n) film.0).1 in
          let pj : p - 1 + 1 ≡ p = omega arith in
          let out : member (p - 1 + 1) ps ≡ false = ap (λ x. member x ps) pj ∙ not-true (member p ps) parts.1 in
          let here : (eqb (p - 1 + 1) p || member (p - 1 + 1) ps) ≡ true = or_left _ _ (eq-eqb (p - 1 + 1) p pj) in
          let more : count n (fresh_at store (p ∷ ps)) ≡ count n (fresh_at store ps) + 1 =
          count_one n (p - 1) (fresh_at store ps) (fresh_at store (p ∷ ps)) (omega arith) (and_right _ _ out) (and_from _ _ film.1 here)
          (λ j l ne. fresh_other store p ps j (λ e. ne (omega arith))) in
          let rest : fresh n store ps ≡ count n (fresh_at store ps) = fresh_is n store ps in
          omega arith
      | false ↦ λ w.
          let rest : fresh n store ps ≡ count n (fresh_at store ps) = fresh_is n store ps in
          let same : count n (fresh_at store ps) ≡ count n (fresh_at store (p ∷ ps)) =
          count_same n (fresh_at store ps) (fresh_at store (p ∷ ps)) (λ j l. ⊎_elim
          (λ e.
          let u = unheard (get_or store j 0) in
          let none : (u && not (member (j + 1) ps)) ≡ false =
          ap (λ x. u && not (member x ps)) e ∙ ap (λ x. x && not (member p ps)) (sym (wanted_at n store p j l e)) ∙ w in
          fresh_repeat u (member (j + 1) ps) none ∙ ap (λ x. u && x) (sym (or_left (eqb (j + 1) p) (member (j + 1) ps) (eq-eqb (j + 1) p e))))
          (λ ne. fresh_other store p ps j ne)
          (cases_eq (j + 1) p)) in
          omega arith
    ] refl

marked_held : (b : ℕ) (x : Bool) → eqb (marked b x) 1 ≡ (eqb b 1 || (unheard b && x))
marked_held b x = elim (unheard b && x) as (λ u. eqb (cond u 1 b) 1 ≡ (eqb b 1 || u)) [
  | true ↦ elim (eqb b 1) as (λ v. true ≡ (v || true)) [ true ↦ refl | false ↦ refl ]
  | false ↦ elim (eqb b 1) as (λ v. v ≡ (v || false)) [ true ↦ refl | false ↦ refl ]
]

-- what is held once a slot's pages came is what was held, and what is new
pub stock_is : (n : ℕ) (store ps : List ℕ) → n ≤ length store → stock n store ps ≡ held n store + fresh n store ps
stock_is n store ps room =
    count_same n (λ j. eqb (get_or (taken n store ps) j 0) 1) (λ j. eqb (get_or store j 0) 1 || fresh_at store ps j)
    (λ j l. ap (λ b. eqb b 1) (getD_taken n store ps j room l) ∙ marked_held (get_or store j 0) (member (j + 1) ps))
    ∙ count_or n (λ j. eqb (get_or store j 0) 1) (fresh_at store ps) (λ j l e. ap (λ v. not (v || eqb (get_or store j 0) 2) && member (j + 1) ps) e)
    ∙ ap (λ x. held n store + x) (sym (fresh_is n store ps))

-- and no more than the film has pages
pub stock_le : (n : ℕ) (store ps : List ℕ) → stock n store ps ≤ n
stock_le n store ps = count_le n (λ j. eqb (get_or (taken n store ps) j 0) 1)

-- a list's membership, in std's words
pub member_any : (p : ℕ) (xs : List ℕ) → list_any (λ y. eqb y p) xs ≡ member p xs
member_any p [] = refl
member_any p (x ∷ xs) = ap (λ b. eqb x p || b) (member_any p xs) ∙ ap (λ b. b || member p xs) (⊎_elim
    (λ e. eq-eqb x p e ∙ sym (eq-eqb p x (sym e)))
    (λ ne. ne_eqb x p ne ∙ sym (ne_eqb p x (λ e. ne (sym e))))
    (cases_eq x p))
