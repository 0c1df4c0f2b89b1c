-- Records and their bytes: no record's bytes begin another's, and a list of records is told by its bytes.
use Rattle.std.proofs.Common.{◌≡◌, ℕ, ◌+◌, ◌*◌, ◌/◌, ◌%◌, ◌≤◌, cond, eqb, ◌⊎◌, List, [], ◌∷◌, ◌++◌, map, length, get_or, take, drop, sym, refl, ap, ◌∙◌, inl, inr, ⊎_elim, append_assoc, arith, length-append}
use Rattle.std.proofs.lemmas.List.{take_at, drop_at}
use Rattle.records.specs.declared.kinds.Node.TheVariants.{Leaf, Inner}
use Rattle.records.specs.declared.kinds.Closure.{Closure}
use Rattle.format.specs.Items.{Part, channel, row, node, Item, film, part, closure, end, kind, size, body, bytes}
use Rattle.format.specs.Format.{Sort, pagoda, rows, tree, most, Sheet, Lawful, records, encoded}
use Rattle.format.proofs.Lists.{encoded_append}

pub body_long : (x : Item) → length (body x) ≡ size x
body_long (film x) = refl
body_long (part (channel x)) = refl
body_long (part (row x)) = refl
body_long (part (node (Leaf x))) = refl
body_long (part (node (Inner x))) = refl
body_long (closure x) = refl
body_long end = refl

abbrev size_of_kind : ℕ → ℕ
size_of_kind k =
    cond (eqb k 1) 5 (cond (eqb k 2) 1 (cond (eqb k 3) 11 (cond (eqb k 4) 2 (cond (eqb k 5) 4 (cond (eqb k 6) 5 0)))))

by_kind : (x : Item) → size x ≡ size_of_kind (kind x)
by_kind (film x) = refl
by_kind (part (channel x)) = refl
by_kind (part (row x)) = refl
by_kind (part (node (Leaf x))) = refl
by_kind (part (node (Inner x))) = refl
by_kind (closure x) = refl
by_kind end = refl

pub same_size : (x y : Item) → kind x ≡ kind y → size x ≡ size y
same_size x y e = by_kind x ∙ ap size_of_kind e ∙ sym (by_kind y)

abbrev two_at : List ℕ → ℕ → ℕ
two_at bs i = get_or bs i 0 * 256 + get_or bs (i + 1) 0

abbrev four_at : List ℕ → ℕ → ℕ
four_at bs i = get_or bs i 0 * 16777216 + get_or bs (i + 1) 0 * 65536 + get_or bs (i + 2) 0 * 256 + get_or bs (i + 3) 0

-- the record with a kind byte and a body
abbrev decoded : ℕ → List ℕ → Item
decoded k bs =
    cond (eqb k 1) (film (record { delay = two_at bs 0; pages = two_at bs 2; channels = get_or bs 4 0 }))
    (cond (eqb k 2) (part (channel (record { subchannels = get_or bs 0 0 })))
    (cond (eqb k 3) (part (row (record { page = two_at bs 0; channel = get_or bs 2 0; start = four_at bs 3; period = four_at bs 7 })))
    (cond (eqb k 4) (part (node (Leaf (record { page = two_at bs 0 }))))
    (cond (eqb k 5) (part (node (Inner (record { first_child = two_at bs 0; degree = two_at bs 2 }))))
    (cond (eqb k 6) (closure (record { channel = get_or bs 0 0; slot = four_at bs 1 })) end)))))

two_back : (n : ℕ) → n / 256 * 256 + n % 256 ≡ n
two_back n = omega arith

four_back : (n : ℕ) → n / 16777216 * 16777216 + n / 65536 % 256 * 65536 + n / 256 % 256 * 256 + n % 256 ≡ n
four_back n = omega arith

decodes : (x : Item) → decoded (kind x) (body x) ≡ x
decodes (film x) = λ i. film (record { delay = two_back x.delay i; pages = two_back x.pages i; channels = x.channels })
decodes (part (channel x)) = refl
decodes (part (row x)) = λ i. part (row (record { page = two_back x.page i; channel = x.channel; start = four_back x.start i; period = four_back x.period i }))
decodes (part (node (Leaf x))) = λ i. part (node (Leaf (record { page = two_back x.page i })))
decodes (part (node (Inner x))) = λ i. part (node (Inner (record { first_child = two_back x.first_child i; degree = two_back x.degree i })))
decodes (closure x) = λ i. closure (record { channel = x.channel; slot = four_back x.slot i })
decodes end = refl

-- two joined lists with fronts of one length
even : (xs ys s t : List ℕ) → length xs ≡ length ys → xs ++ s ≡ ys ++ t → (xs ≡ ys) × (s ≡ t)
even xs ys s t l e = (
  sym (take_at xs s (length ys) l) ∙ ap (take (length ys)) e ∙ take_at ys t (length ys) refl,
  sym (drop_at xs s (length ys) l) ∙ ap (drop (length ys)) e ∙ drop_at ys t (length ys) refl,
)

pub item_split : (x y : Item) (s t : List ℕ) → bytes x ++ s ≡ bytes y ++ t → (x ≡ y) × (s ≡ t)
item_split x y s t e =
    let k : kind x ≡ kind y = ap (λ l. get_or l 0 0) e in
    let p = even (body x) (body y) s t (body_long x ∙ same_size x y k ∙ sym (body_long y)) (ap (λ l. drop 1 l) e) in
    (sym (decodes x) ∙ (λ i. decoded (k i) (p.0 i)) ∙ decodes y, p.1)

-- the list rs goes beyond ts, with the record next and after it the bytes rest
pub record Longer (rs ts : List Item) (t : List ℕ) : Type 0 where
  pub next : Item
  pub more : List Item
  pub same : rs ≡ ts ++ (next ∷ more)
  pub rest : List ℕ
  pub there : t ≡ bytes next ++ rest

-- of two lists of records that begin one file, one begins the other
pub compared : (rs ts : List Item) (s t : List ℕ) → encoded rs ++ s ≡ encoded ts ++ t → (rs ≡ ts) ⊎ (Longer rs ts t ⊎ Longer ts rs s)
compared [] [] s t e = inl refl
compared [] (y ∷ ts) s t e =
    inr (inr (record { next = y; more = ts; same = refl; rest = encoded ts ++ t; there = e ∙ append_assoc (bytes y) (encoded ts) t }))
compared (x ∷ rs) [] s t e =
    inr (inl (record { next = x; more = rs; same = refl; rest = encoded rs ++ s; there = sym e ∙ append_assoc (bytes x) (encoded rs) s }))
compared (x ∷ rs) (y ∷ ts) s t e =
    let p = item_split x y (encoded rs ++ s) (encoded ts ++ t) (sym (append_assoc (bytes x) (encoded rs) s) ∙ e ∙ append_assoc (bytes y) (encoded ts) t) in
    ⊎_elim
    (λ q. inl (λ i. p.0 i ∷ q i))
    (⊎_elim
    (λ q. inr (inl (record { next = q.next; more = q.more; same = (λ i. p.0 i ∷ q.same i); rest = q.rest; there = q.there })))
    (λ q. inr (inr (record { next = q.next; more = q.more; same = (λ i. sym p.0 i ∷ q.same i); rest = q.rest; there = q.there }))))
    (compared rs ts s t p.1)

same_closures : (cs ds : List Closure) → map closure cs ++ (end ∷ []) ≡ map closure ds ++ (end ∷ []) → cs ≡ ds
same_closures [] [] e = refl
same_closures [] (d ∷ ds) e = let z : ◌≡◌ {A = ℕ} 0 1 = cc in absurd (omega arith)
same_closures (c ∷ cs) [] e = let z : ◌≡◌ {A = ℕ} 0 1 = cc in absurd (omega arith)
same_closures (c ∷ cs) (d ∷ ds) e =
    let h : c ≡ d = cc in
    let t : map closure cs ++ (end ∷ []) ≡ map closure ds ++ (end ∷ []) = cc in
    let r = same_closures cs ds t in
    cc

-- closures and the end are no plan records
apart : (p : Part) (cs : List Closure) (l : List Item) → part p ∷ l ≡ map closure cs ++ (end ∷ []) → ⊥
apart p [] l e = let z : ◌≡◌ {A = ℕ} 0 1 = cc in omega arith
apart p (c ∷ cs) l e = let z : ◌≡◌ {A = ℕ} 0 1 = cc in omega arith

same_parts : (ps qs : List Part) (cs ds : List Closure) → map part ps ++ (map closure cs ++ (end ∷ [])) ≡ map part qs ++ (map closure ds ++ (end ∷ [])) → (ps ≡ qs) × (cs ≡ ds)
same_parts [] [] cs ds e = (refl, same_closures cs ds e)
same_parts [] (q ∷ qs) cs ds e = absurd (apart q cs _ (sym e))
same_parts (p ∷ ps) [] cs ds e = absurd (apart p ds _ e)
same_parts (p ∷ ps) (q ∷ qs) cs ds e =
    let h : p ≡ q = cc in
    let t : map part ps ++ (map closure cs ++ (end ∷ [])) ≡ map part qs ++ (map closure ds ++ (end ∷ [])) = cc in
    let r = same_parts ps qs cs ds t in
    let a = r.0 in
    (cc, r.1)

-- a plan is told by its records
pub same_sheet : (s t : Sheet) → records s ≡ records t → s ≡ t
same_sheet s t e =
    let f : s.opening ≡ t.opening = cc in
    let l : map part s.parts ++ (map closure s.closed ++ (end ∷ [])) ≡ map part t.parts ++ (map closure t.closed ++ (end ∷ [])) = cc in
    let p = same_parts s.parts t.parts s.closed t.closed l in
    λ i. record { opening = f i; parts = p.0 i; closed = p.1 i }

part_long : (p : Part) → length (bytes (part p)) ≤ 12
part_long (channel x) = omega arith
part_long (row x) = omega arith
part_long (node (Leaf x)) = omega arith
part_long (node (Inner x)) = omega arith

parts_long : (ps : List Part) → length (encoded (map part ps)) ≤ 12 * length ps
parts_long [] = omega arith
parts_long (p ∷ ps) = omega (arith, length-append (bytes (part p)) (encoded (map part ps)), part_long p, parts_long ps)

closures_long : (cs : List Closure) → length (encoded (map closure cs)) ≤ 6 * length cs
closures_long [] = omega arith
closures_long (c ∷ cs) = omega (arith, length-append (bytes (closure c)) (encoded (map closure cs)), closures_long cs)

most_few : (s : Sort) → most s ≤ 2048
most_few pagoda = omega arith
most_few rows = omega arith
most_few tree = omega arith

-- no lawful plan is too long
pub lawful_short : (s : Sheet) → Lawful s → length (encoded (records s)) ≤ 32768
lawful_short s l =
    let ps = map part s.parts in
    let cs = map closure s.closed in
    let e = encoded_append ps (cs ++ (end ∷ [])) in
    let d = encoded_append cs (end ∷ []) in
    omega (arith, length-append (bytes (film s.opening)) (encoded (ps ++ (cs ++ (end ∷ [])))), ap length e, ap length d, length-append (encoded ps) (encoded (cs ++ (end ∷ []))), length-append (encoded cs) (encoded (end ∷ [])), parts_long s.parts, closures_long s.closed, most_few l.of, l.within, l.few)
