-- Laws of divisors, and of remainders by a divisor.
use Rattle.std.proofs.Common.{◌≡◌, ℕ, zero, suc, ◌+◌, ◌*◌, ◌/◌, ◌%◌, ◌<◌, ◌≤◌, sym, ap, ◌∙◌, mul_assoc, mul_comm, one-mul, div-add-mod', zero-mul, arith}
use Prim.Native.Nat.{◌∣◌}
use native.Mathlib.Nat.{mod-eq-zero_of_dvd, dvd_antisymm, dvd_trans, dvd-mod_iff, le_of_dvd, mod-mod_of_dvd, dvd_of_mul-dvd-mul_left, mul-add-mod_self_right}
use Rattle.numbers.specs.Divisors.{Divides}

-- the library's divisibility says the same
to_dvd : (d n : ℕ) → Divides d n → d ∣ n
to_dvd d n h = ∣ (h.0, h.1 ∙ mul_comm h.0 d) ∣₁

from_dvd : (d n : ℕ) → d ∣ n → Divides d n
from_dvd d n h = (n / d, omega (arith, div-add-mod' n d, mod-eq-zero_of_dvd d h))

pub divides_self : (d : ℕ) → Divides d d
divides_self d = (1, sym (one-mul d))

pub divides_zero : (d : ℕ) → Divides d 0
divides_zero d = (0, sym (zero-mul d))

pub one_divides : (n : ℕ) → Divides 1 n
one_divides n = (n, omega arith)

pub zero_divides : (n : ℕ) → Divides 0 n → n ≡ 0
zero_divides n h = omega (arith, h.1)

pub divides_times : (d k n : ℕ) → Divides d n → Divides d (k * n)
divides_times d k n h = (k * h.0, ap (λ (x : ℕ). k * x) h.1 ∙ sym (mul_assoc k h.0 d))

pub divides_trans : (a b c : ℕ) → Divides a b → Divides b c → Divides a c
divides_trans a b c h i = from_dvd a c (dvd_trans a (to_dvd a b h) (to_dvd b c i))

pub divides_antisym : (a b : ℕ) → Divides a b → Divides b a → a ≡ b
divides_antisym a b h i = dvd_antisymm (to_dvd a b h) (to_dvd b a i)

-- a divisor of a number above 0 is at most that number
pub divides_le : (d n : ℕ) → 0 < n → Divides d n → d ≤ n
divides_le d n p h = le_of_dvd p (to_dvd d n h)

-- a divisor of a number above 0 is above 0
pub divides_positive : (d n : ℕ) → 0 < n → Divides d n → 0 < d
divides_positive zero n p h = let e = zero_divides n h in omega arith
divides_positive (suc d) n p h = omega arith

-- a factor above 0 may be left out on both sides
pub divides_cancel : (k a b : ℕ) → 0 < k → Divides (k * a) (k * b) → Divides a b
divides_cancel k a b p h = from_dvd a b (dvd_of_mul-dvd-mul_left a p (to_dvd (k * a) (k * b) h))

-- what divides b divides a exactly where it divides the remainder of a by b
pub divides_remainder : (d a b : ℕ) → Divides d b → Divides d a → Divides d (a % b)
divides_remainder d a b h i = from_dvd d (a % b) ((dvd-mod_iff d (to_dvd d b h)).1 (to_dvd d a i))

pub divides_from_remainder : (d a b : ℕ) → Divides d b → Divides d (a % b) → Divides d a
divides_from_remainder d a b h i = from_dvd d a ((dvd-mod_iff d (to_dvd d b h)).0 (to_dvd d (a % b) i))

-- a remainder by a multiple of q keeps the remainder by q
pub mod_of_multiple : (q p t : ℕ) → Divides q p → (t % p) % q ≡ t % q
mod_of_multiple q p t h = mod-mod_of_dvd q t (to_dvd q p h)

-- a multiple of q later, the remainder by q is the same
pub mod_later : (q p t : ℕ) → Divides q p → (t + p) % q ≡ t % q
mod_later q p t h =
    ap (λ (x : ℕ). x % q) (omega (arith, h.1)) ∙ mul-add-mod_self_right h.0 q t
