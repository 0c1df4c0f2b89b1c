-- Laws of the greatest common divisor and the least common multiple.
use mathlib.Core.Path.{◌≡◌, refl, sym, ◌∙◌, ap}
use Prim.Native.Nat.{ℕ, zero, suc, ◌-◌, ◌*◌, ◌/◌, ◌%◌, ◌<◌, ◌≤◌}
use native.Mathlib.Nat.{mul_comm, mul_assoc, mul_left_comm, mul-zero, zero-mul, mul-div_cancel, mul-pos, mod-lt, mod_def, mul-div-mul_left, mul-sub}
use native.Mathlib.Omega.{arith}
use Rattle.numbers.specs.Divisors.{Divides, GreatestCommonDivisor, LeastCommonMultiple}
use Rattle.numbers.proofs.Dividing.{divides_self, divides_zero, zero_divides, divides_antisym, divides_le, divides_positive, divides_cancel, divides_remainder, divides_from_remainder}

-- the greatest common divisor of a and 0 is a
pub gcd_zero : (a : ℕ) → GreatestCommonDivisor a 0 a
gcd_zero a = record { of_first = divides_self a; of_second = divides_zero a; greatest = λ d h _. h }

-- a and b have the greatest common divisor of b and the remainder of a by b
pub gcd_step : (a b g : ℕ) → GreatestCommonDivisor b (a % b) g → GreatestCommonDivisor a b g
gcd_step a b g h = record {
  of_first = divides_from_remainder g a b h.of_first h.of_second;
  of_second = h.of_first;
  greatest = λ d i j. h.greatest d j (divides_remainder d a b j i);
}

gcd_unstep : (a b g : ℕ) → GreatestCommonDivisor a b g → GreatestCommonDivisor b (a % b) g
gcd_unstep a b g h = record {
  of_first = h.of_second;
  of_second = divides_remainder g a b h.of_second h.of_first;
  greatest = λ d i j. h.greatest d (divides_from_remainder d a b i j) i;
}

pub gcd_unique : (a b g g' : ℕ) → GreatestCommonDivisor a b g → GreatestCommonDivisor a b g' → g ≡ g'
gcd_unique a b g g' h i =
    divides_antisym g g' (i.greatest g h.of_first h.of_second) (h.greatest g' i.of_first i.of_second)

-- it is 0 only where both are
pub gcd_of_zeros : (a b : ℕ) → GreatestCommonDivisor a b 0 → (a ≡ 0) × (b ≡ 0)
gcd_of_zeros a b h = (zero_divides a h.of_first, zero_divides b h.of_second)

-- m times as large numbers leave an m times as large remainder
mod_scale : (m a b : ℕ) → (m * a) % (m * b) ≡ m * (a % b)
mod_scale zero a b = simp zero-mul
mod_scale (suc m) a b =
    mod_def (suc m * a) (suc m * b)
    ∙ ap (λ (q : ℕ). suc m * a - suc m * b * q) (mul-div-mul_left {m = suc m} a b (omega arith))
    ∙ ap (λ (x : ℕ). suc m * a - x) (mul_assoc (suc m) b (a / b))
    ∙ sym (mul-sub (suc m) a (b * (a / b)))
    ∙ sym (ap (λ (x : ℕ). suc m * x) (mod_def a b))

-- m times as large numbers have an m times as large greatest common divisor; along the remainders
gcd_scale : (steps m a b g : ℕ) → b < steps → GreatestCommonDivisor a b g → GreatestCommonDivisor (m * a) (m * b) (m * g)
gcd_scale zero m a b g f h = absurd (omega (arith, f))
gcd_scale (suc steps) m a zero g f h =
    let e : g ≡ a = gcd_unique a 0 g a h (gcd_zero a) in simp (mul-zero, e) (gcd_zero (m * a))
gcd_scale (suc steps) m a (suc b) g f h =
    let less : a % suc b < steps = omega (arith, f, mod-lt a {m = suc b} (omega arith)) in
    let scaled = gcd_scale steps m (suc b) (a % suc b) g less (gcd_unstep a (suc b) g h) in
    gcd_step (m * a) (m * suc b) (m * g) (rw (mod_scale m a (suc b)) scaled)

-- a common multiple m is divided by a * b / g: a * b divides m * a and m * b, and so m * g
lcm_least : (a b g x m : ℕ) → 0 < g → GreatestCommonDivisor a b g → a ≡ x * g → Divides a m → Divides b m → Divides (x * b) m
lcm_least a b g x m p h e i j =
    let of-a : Divides (a * b) (m * a) = (j.0, ap (λ (v : ℕ). v * a) j.1 ∙ mul_assoc j.0 b a ∙ ap (λ (v : ℕ). j.0 * v) (mul_comm b a)) in
    let of-b : Divides (a * b) (m * b) = (i.0, ap (λ (v : ℕ). v * b) i.1 ∙ mul_assoc i.0 a b) in
    let whole : Divides (a * b) (m * g) = (gcd_scale (suc b) m a b g (omega arith) h).greatest (a * b) of-a of-b in
    let left : a * b ≡ g * (x * b) = ap (λ (v : ℕ). v * b) (e ∙ mul_comm x g) ∙ mul_assoc g x b in
    divides_cancel g (x * b) m p (rw (left, mul_comm m g) at whole)

-- the product, divided by the greatest common divisor, is the least common multiple
pub lcm_from_gcd : (a b g : ℕ) → 0 < g → GreatestCommonDivisor a b g → LeastCommonMultiple a b (a / g * b)
lcm_from_gcd a b g p h =
    let x : ℕ = h.of_first.0 in
    let y : ℕ = h.of_second.0 in
    let e : a / g ≡ x = ap (λ (v : ℕ). v / g) h.of_first.1 ∙ mul-div_cancel x p in
    let swap : x * b ≡ y * a =
    ap (λ (v : ℕ). x * v) h.of_second.1 ∙ mul_left_comm x y g ∙ ap (λ (v : ℕ). y * v) (sym h.of_first.1) in
    rw e (record {
      of_first = (y, swap);
      of_second = (x, refl);
      least = λ m i j. lcm_least a b g x m p h h.of_first.1 i j;
    })

pub lcm_of_zeros : LeastCommonMultiple 0 0 0
lcm_of_zeros = record { of_first = (0, refl); of_second = (0, refl); least = λ m i _. i }

pub lcm_unique : (a b l l' : ℕ) → LeastCommonMultiple a b l → LeastCommonMultiple a b l' → l ≡ l'
lcm_unique a b l l' h i =
    divides_antisym l l' (h.least l' i.of_first i.of_second) (i.least l h.of_first h.of_second)

pub lcm_swap : (a b l : ℕ) → LeastCommonMultiple a b l → LeastCommonMultiple b a l
lcm_swap a b l h = record { of_first = h.of_second; of_second = h.of_first; least = λ m i j. h.least m j i }

pub lcm_positive : (a b l : ℕ) → 0 < a → 0 < b → LeastCommonMultiple a b l → 0 < l
lcm_positive a b l p q h =
    divides_positive l (a * b) (mul-pos p q) (h.least (a * b) (b, mul_comm a b) (a, refl))

-- each part is at most the least common multiple of parts above 0
pub lcm_above : (a b l : ℕ) → 0 < a → 0 < b → LeastCommonMultiple a b l → (a ≤ l) × (b ≤ l)
lcm_above a b l p q h =
    let above : 0 < l = lcm_positive a b l p q h in
    (divides_le a l above h.of_first, divides_le b l above h.of_second)
