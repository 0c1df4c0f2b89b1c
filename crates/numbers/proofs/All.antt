-- Laws of the least common multiple of a list, and of what is computed.
use Rattle.std.proofs.Common.{◌≡◌, ℕ, zero, suc, ◌*◌, ◌/◌, ◌%◌, ◌<◌, ◌≤◌, List, [], ◌∷◌, ◌++◌, length, get_or, mod-lt, arith}
use Rattle.numbers.specs.Divisors.{Divides, GreatestCommonDivisor, LeastCommonMultiple, MultipleOfAll, LeastCommonMultipleOfAll}
use Rattle.numbers.specs.Computed.{gcd_in, gcd_of, lcm_of, lcm_of_all}
use Rattle.numbers.proofs.Dividing.{one_divides, divides_trans, divides_antisym, divides_le}
use Rattle.numbers.proofs.Common.{gcd_zero, gcd_step, gcd_of_zeros, lcm_from_gcd, lcm_of_zeros, lcm_positive}

multiple_further : (xs : List ℕ) (l m : ℕ) → MultipleOfAll xs l → Divides l m → MultipleOfAll xs m
multiple_further [] l m h d = tt
multiple_further (x ∷ xs) l m h d = (divides_trans x l m h.0 d, multiple_further xs l m h.1 d)

multiple_join : (xs ys : List ℕ) (m : ℕ) → MultipleOfAll xs m → MultipleOfAll ys m → MultipleOfAll (xs ++ ys) m
multiple_join [] ys m h i = i
multiple_join (x ∷ xs) ys m h i = (h.0, multiple_join xs ys m h.1 i)

-- a multiple of all of a list is one of all of each part
pub multiple_front : (xs ys : List ℕ) (m : ℕ) → MultipleOfAll (xs ++ ys) m → MultipleOfAll xs m
multiple_front [] ys m h = tt
multiple_front (x ∷ xs) ys m h = (h.0, multiple_front xs ys m h.1)

pub multiple_back : (xs ys : List ℕ) (m : ℕ) → MultipleOfAll (xs ++ ys) m → MultipleOfAll ys m
multiple_back [] ys m h = h
multiple_back (x ∷ xs) ys m h = multiple_back xs ys m h.1

-- and of each number
pub multiple_at : (xs : List ℕ) (m i d : ℕ) → i < length xs → MultipleOfAll xs m → Divides (get_or xs i d) m
multiple_at [] m i d low h = absurd (omega (arith, low))
multiple_at (x ∷ xs) m zero d low h = h.0
multiple_at (x ∷ xs) m (suc i) d low h = multiple_at xs m i d (omega (arith, low)) h.1

-- of no numbers it is 1
pub lcm_all_none : LeastCommonMultipleOfAll [] 1
lcm_all_none = record { of_all = tt; least = λ m _. one_divides m }

-- one number more, in front
pub lcm_all_cons : (x : ℕ) (xs : List ℕ) (l l' : ℕ) → LeastCommonMultipleOfAll xs l → LeastCommonMultiple x l l' → LeastCommonMultipleOfAll (x ∷ xs) l'
lcm_all_cons x xs l l' h i = record {
  of_all = (i.of_first, multiple_further xs l l' h.of_all i.of_second);
  least = λ m j. i.least m j.0 (h.least m j.1);
}

-- one number more, at the end
pub lcm_all_push : (xs : List ℕ) (x l l' : ℕ) → LeastCommonMultipleOfAll xs l → LeastCommonMultiple l x l' → LeastCommonMultipleOfAll (xs ++ x ∷ []) l'
lcm_all_push xs x l l' h i = record {
  of_all = multiple_join xs (x ∷ []) l' (multiple_further xs l l' h.of_all i.of_first) (i.of_second, tt);
  least = λ m j. i.least m (h.least m (multiple_front xs (x ∷ []) m j)) (multiple_back xs (x ∷ []) m j).0;
}

pub lcm_all_unique : (xs : List ℕ) (l l' : ℕ) → LeastCommonMultipleOfAll xs l → LeastCommonMultipleOfAll xs l' → l ≡ l'
lcm_all_unique xs l l' h i = divides_antisym l l' (h.least l' i.of_all) (i.least l h.of_all)

-- what it is of a list divides what it is of a longer one
pub lcm_all_divides : (xs ys : List ℕ) (l l' : ℕ) → LeastCommonMultipleOfAll xs l → LeastCommonMultipleOfAll (xs ++ ys) l' → Divides l l'
lcm_all_divides xs ys l l' h i = h.least l' (multiple_front xs ys l' i.of_all)

-- so that what has passed a ceiling stays above it, unless a later number is 0
pub lcm_all_grows : (xs ys : List ℕ) (l l' : ℕ) → LeastCommonMultipleOfAll xs l → LeastCommonMultipleOfAll (xs ++ ys) l' → 0 < l' → l ≤ l'
lcm_all_grows xs ys l l' h i p = divides_le l l' p (lcm_all_divides xs ys l l' h i)

-- each number is above 0
abbrev pub AllPositive : List ℕ → Type 0
AllPositive [] = Unit {0}
AllPositive (x ∷ xs) = (0 < x) × AllPositive xs

-- what is computed is what its name says
gcd_in_is : (steps a b : ℕ) → b < steps → GreatestCommonDivisor a b (gcd_in steps a b)
gcd_in_is zero a b h = absurd (omega (arith, h))
gcd_in_is (suc steps) a zero h = gcd_zero a
gcd_in_is (suc steps) a (suc b) h =
    gcd_step a (suc b) _ (gcd_in_is steps (suc b) (a % suc b) (omega (arith, h, mod-lt a {m = suc b} (omega arith))))

pub gcd_of_is : (a b : ℕ) → GreatestCommonDivisor a b (gcd_of a b)
gcd_of_is a b = gcd_in_is (suc b) a b (omega arith)

lcm_by : (a b g : ℕ) → GreatestCommonDivisor a b g → LeastCommonMultiple a b (a / g * b)
lcm_by a b zero h =
    let z = gcd_of_zeros a b h in rw (z.0, z.1) lcm_of_zeros
lcm_by a b (suc g) h = lcm_from_gcd a b (suc g) (omega arith) h

pub lcm_of_is : (a b : ℕ) → LeastCommonMultiple a b (lcm_of a b)
lcm_of_is a b = lcm_by a b (gcd_of a b) (gcd_of_is a b)

pub lcm_of_all_is : (xs : List ℕ) → LeastCommonMultipleOfAll xs (lcm_of_all xs)
lcm_of_all_is [] = lcm_all_none
lcm_of_all_is (x ∷ xs) = lcm_all_cons x xs (lcm_of_all xs) _ (lcm_of_all_is xs) (lcm_of_is x (lcm_of_all xs))

-- it is above 0 where every number is
pub lcm_all_positive : (xs : List ℕ) (l : ℕ) → AllPositive xs → LeastCommonMultipleOfAll xs l → 0 < l
lcm_all_positive xs l p h = rw (lcm_all_unique xs l (lcm_of_all xs) h (lcm_of_all_is xs)) (positive xs p)
  where
    positive : (ys : List ℕ) → AllPositive ys → 0 < lcm_of_all ys
    positive [] q = omega arith
    positive (y ∷ ys) q = lcm_positive y (lcm_of_all ys) _ q.0 (positive ys q.1) (lcm_of_is y (lcm_of_all ys))
