-- The pieces of a sequence, put into a bag one by one.
use Rattle.std.proofs.Common.{◌≡◌, ℕ, zero, suc, ◌+◌, ◌-◌, ◌*◌, ◌<◌, ◌≤◌, List, ◌∷◌, ◌++◌, length, sym, refl, ap, subst, mul-le-mul_right, add-mul, one-mul, arith, length-append}
use Rattle.std.specs.List.Sorted.{IsPermutation}
use Rattle.std.proofs.lemmas.List.Sorted.{IsPermutation-cons, IsPermutation-trans, length_permutation}
use Rattle.sequences.specs.Sequences.{piece, pieces, whole, whole_channels}
use Rattle.sequences.specs.declared.sequence.FreeSequence.{FreeSequence}

-- the piece of number j starts within the period of the pieces
pub piece_starts : (j parts q start : ℕ) → j < parts → start < q → start + j * q < parts * q
piece_starts j parts q start low inside =
    let more : (j + 1) * q ≤ parts * q = mul-le-mul_right q (omega arith) in
    omega (arith, add-mul j 1 q, one-mul q)

pub length_pieces : (s : FreeSequence) (parts n : ℕ) → length (pieces s parts n) ≡ n
length_pieces s parts zero = refl
length_pieces s parts (suc n) = ap suc (length_pieces s parts n)

-- piece j is put after those before it
pub pieces_more : (s : FreeSequence) (parts j : ℕ) (xs ys zs : List FreeSequence) → 1 ≤ j → IsPermutation (pieces s parts (j - 1) ++ xs) ys → IsPermutation (piece s parts j ∷ ys) zs → IsPermutation (pieces s parts (j + 1 - 1) ++ xs) zs
pieces_more s parts j xs ys zs low before put =
    let next : suc (j - 1) ≡ j + 1 - 1 = omega arith in
    let this : suc (j - 1) ≡ j = omega arith in
    subst (λ (n : ℕ). IsPermutation (pieces s parts n ++ xs) zs) next
    (IsPermutation-trans _ _ _ (IsPermutation-cons (piece s parts (suc (j - 1))) _ _ before)
    (subst (λ (n : ℕ). IsPermutation (piece s parts n ∷ ys) zs) (sym this) put))

-- piece j finds a full bag
pub too_many : (s : FreeSequence) (parts j : ℕ) (xs ys : List FreeSequence) (most : ℕ) → 1 ≤ j → j < parts → IsPermutation (pieces s parts (j - 1) ++ xs) ys → length ys ≡ most → most < length (pieces s parts (parts - 1) ++ xs)
too_many s parts j xs ys most low high before full =
    omega (arith, length_permutation _ _ before, length-append (pieces s parts (j - 1)) xs, length_pieces s parts (j - 1), length-append (pieces s parts (parts - 1)) xs, length_pieces s parts (parts - 1))

-- one channel more
pub channels_more : (k : ℕ) (ys zs : List FreeSequence) → 1 ≤ k → IsPermutation (whole_channels (k - 1)) ys → IsPermutation (whole k ∷ ys) zs → IsPermutation (whole_channels k) zs
channels_more zero ys zs some before put = absurd (omega arith)
channels_more (suc k) ys zs some before put =
    let same : suc k - 1 ≡ k = omega arith in
    IsPermutation-trans _ _ _ (IsPermutation-cons (whole (suc k)) _ _ (subst (λ (n : ℕ). IsPermutation (whole_channels n) ys) same before)) put

pub length_channels : (k : ℕ) → length (whole_channels k) ≡ k
length_channels zero = refl
length_channels (suc k) = ap suc (length_channels k)

-- channel k finds a full bag
pub too_few : (k c most : ℕ) (ys : List FreeSequence) → k < c → IsPermutation (whole_channels k) ys → length ys ≡ most → most < c
too_few k c most ys low before full = omega (arith, length_permutation _ _ before, length_channels k)

-- a bag that holds every slot of the channels has a place for each
pub channels_fit : (c most : ℕ) (ys : List FreeSequence) → IsPermutation (whole_channels c) ys → length ys ≤ most → c ≤ most
channels_fit c most ys all fits = omega (arith, length_permutation _ _ all, length_channels c)
