-- How far a list of records has come towards a plan: an automaton over what a record is for.
use Rattle.std.proofs.Common.{◌≡◌, ℕ, ◌+◌, ◌<◌, ◌≤◌, Bool, true, false, cond, eqb, ltb, List, [], ◌∷◌, ◌++◌, map, length, sym, refl, ap, ◌∙◌, append_assoc, arith, lt-ltb}
use Rattle.records.specs.declared.kinds.Node.TheVariants.{Leaf, Inner}
use Rattle.records.specs.declared.kinds.Closure.{Closure}
use Rattle.format.specs.Items.{Part, channel, row, node, Item, film, part, closure, end, kind}
use Rattle.format.specs.Format.{Sort, pagoda, rows, tree, sort, most, Alike, Sheet, Lawful, records, Follows}

-- what a record is for
pub data Role : Type 0 where
  opens : Role
  lists : Sort → Role
  closes : Role
  ends : Role

abbrev pub role : Item → Role
role (film x) = opens
role (part p) = lists (sort p)
role (closure x) = closes
role end = ends

abbrev role_of_kind : ℕ → Role
role_of_kind k =
    cond (eqb k 1) opens (cond (eqb k 2) (lists pagoda) (cond (eqb k 3) (lists rows) (cond (eqb k 4) (lists tree) (cond (eqb k 5) (lists tree) (cond (eqb k 6) closes ends)))))

-- the kind byte tells it
by_kind : (x : Item) → role x ≡ role_of_kind (kind x)
by_kind (film x) = refl
by_kind (part (channel x)) = refl
by_kind (part (row x)) = refl
by_kind (part (node (Leaf x))) = refl
by_kind (part (node (Inner x))) = refl
by_kind (closure x) = refl
by_kind end = refl

pub same_role : (x y : Item) → kind x ≡ kind y → role x ≡ role y
same_role x y e = by_kind x ∙ ap role_of_kind e ∙ sym (by_kind y)

pub data Stage : Type 0 where
  start : Stage
  opened : Stage
  listing : Sort → ℕ → Stage
  closing : ℕ → Stage
  over : Stage
  bad : Stage

abbrev pub same : Sort → Sort → Bool
same pagoda pagoda = true
same pagoda rows = false
same pagoda tree = false
same rows pagoda = false
same rows rows = true
same rows tree = false
same tree pagoda = false
same tree rows = false
same tree tree = true

same_refl : (s : Sort) → same s s ≡ true
same_refl pagoda = refl
same_refl rows = refl
same_refl tree = refl

pub same_eq : (s t : Sort) → same s t ≡ true → t ≡ s
same_eq pagoda pagoda e = refl
same_eq pagoda rows e = cc
same_eq pagoda tree e = cc
same_eq rows pagoda e = cc
same_eq rows rows e = refl
same_eq rows tree e = cc
same_eq tree pagoda e = cc
same_eq tree rows e = cc
same_eq tree tree e = refl

abbrev pub place : Stage → Role → Stage
place start opens = opened
place start (lists t) = bad
place start closes = bad
place start ends = bad
place opened opens = bad
place opened (lists t) = listing t 1
place opened closes = bad
place opened ends = bad
place (listing s n) opens = bad
place (listing s n) (lists t) = cond (same s t) (cond (ltb n (most s)) (listing s (n + 1)) bad) bad
place (listing s n) closes = closing 1
place (listing s n) ends = over
place (closing n) opens = bad
place (closing n) (lists t) = bad
place (closing n) closes = cond (ltb n 64) (closing (n + 1)) bad
place (closing n) ends = over
place over r = bad
place bad r = bad

abbrev pub run : Stage → List Item → Stage
run st [] = st
run st (x ∷ xs) = run (place st (role x)) xs

pub run_append : (st : Stage) (xs ys : List Item) → run st (xs ++ ys) ≡ run (run st xs) ys
run_append st [] ys = refl
run_append st (x ∷ xs) ys = run_append (place st (role x)) xs ys

run_bad : (xs : List Item) → run bad xs ≡ bad
run_bad [] = refl
run_bad (x ∷ xs) = run_bad xs

-- records of one role, counted
counted : {X : Type 0} (item : X → Item) (S : ℕ → Stage) (top : ℕ) (Good : X → Type 0) → ((k : ℕ) (x : X) → Good x → place (S k) (role (item x)) ≡ cond (ltb k top) (S (k + 1)) bad) → (All : List X → Type 0) → ((x : X) (xs : List X) → All (x ∷ xs) → Good x × All xs) → (k : ℕ) (xs : List X) → All xs → k + length xs ≤ top → run (S k) (map item xs) ≡ S (k + length xs)
counted item S top Good step All parts k [] a h = ap S (omega arith)
counted item S top Good step All parts k (x ∷ xs) a h =
    let below : ltb k top ≡ true = lt-ltb k top (omega arith) in
    let on : place (S k) (role (item x)) ≡ S (k + 1) = step k x (parts x xs a).0 ∙ ap (λ b. cond b (S (k + 1)) bad) below in
    ap (λ st. run st (map item xs)) on ∙ counted item S top Good step All parts (k + 1) xs (parts x xs a).1 (omega arith) ∙ ap S (omega arith)

one_more : (s : Sort) (k : ℕ) (p : Part) → sort p ≡ s → place (listing s k) (role (part p)) ≡ cond (ltb k (most s)) (listing s (k + 1)) bad
one_more s k p e = ap (λ t. cond (same s t) (cond (ltb k (most s)) (listing s (k + 1)) bad) bad) e ∙ ap (λ b. cond b (cond (ltb k (most s)) (listing s (k + 1)) bad) bad) (same_refl s)

pub listing_stage : (s : Sort) (ps : List Part) → Alike s ps → 0 < length ps → length ps ≤ most s → run opened (map part ps) ≡ listing s (length ps)
listing_stage s [] a h w = absurd (omega arith)
listing_stage s (p ∷ ps) a h w =
    ap (λ t. run (listing t 1) (map part ps)) a.0 ∙ counted part (listing s) (most s) (λ p. sort p ≡ s) (one_more s) (Alike s) (λ p ps a. a) 1 ps a.1 (omega arith) ∙ ap (listing s) (omega arith)

-- where a list of n plan records and then the closures cs lead
abbrev pub stage_after : Sort → ℕ → List Closure → Stage
stage_after s n [] = listing s n
stage_after s n (x ∷ cs) = closing (length (x ∷ cs))

pub closing_stage : (s : Sort) (n : ℕ) (cs : List Closure) → length cs ≤ 64 → run (listing s n) (map closure cs) ≡ stage_after s n cs
closing_stage s n [] h = refl
closing_stage s n (x ∷ cs) h =
    counted closure closing 64 (λ x. Unit {0}) (λ k x u. refl) (λ xs. Unit {0}) (λ x xs u. (tt, tt)) 1 cs tt (omega arith) ∙ ap closing (omega arith)

pub reached_stage : (s : Sort) (ps : List Part) (cs : List Closure) → Alike s ps → 0 < length ps → length ps ≤ most s → length cs ≤ 64 → run opened (map part ps ++ map closure cs) ≡ stage_after s (length ps) cs
reached_stage s ps cs a h w few =
    run_append opened (map part ps) (map closure cs) ∙ ap (λ st. run st (map closure cs)) (listing_stage s ps a h w) ∙ closing_stage s (length ps) cs few

ended : (s : Sort) (n : ℕ) (cs : List Closure) → place (stage_after s n cs) ends ≡ over
ended s n [] = refl
ended s n (x ∷ cs) = refl

pub lawful_over : (s : Sheet) → Lawful s → run start (records s) ≡ over
lawful_over s l =
    ap (run opened) (sym (append_assoc (map part s.parts) (map closure s.closed) (end ∷ []))) ∙ run_append opened (map part s.parts ++ map closure s.closed) (end ∷ []) ∙ ap (λ st. run st (end ∷ [])) (reached_stage l.of s.parts s.closed l.alike l.some l.within l.few) ∙ ended l.of (length s.parts) s.closed

-- a record that the automaton refuses is one that no plan has there
pub stuck : (rs : List Item) (x : Item) (st : Stage) → run start rs ≡ st → place st (role x) ≡ bad → Follows rs x → ⊥
stuck rs x st e b f =
    let o : run start (records f.sheet) ≡ over = lawful_over f.sheet f.lawful in
    let h : run start (records f.sheet) ≡ bad =
    ap (run start) f.same ∙ run_append start rs (x ∷ f.more) ∙ ap (λ st. run (place st (role x)) f.more) e ∙ ap (λ st. run st f.more) b ∙ run_bad f.more in
    let q : over ≡ bad = sym o ∙ h in
    let z : ◌≡◌ {A = ℕ} 0 1 = cc in
    omega arith
