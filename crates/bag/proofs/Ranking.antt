-- Orders one after the other.
use Rattle.std.proofs.Common.{◌≡◌, Bool, true, false, not, ◌&&◌, ◌||◌, sym, refl, ⊎_elim}
use Rattle.std.specs.Cmp.{IsStrictWeakOrder}
use Rattle.std.proofs.lemmas.Bool.{true≢false, or_parts, or_from, and_left, and_right, not_from_true, cases_Bool}
use Rattle.bag.specs.Orders.{by_then}

turned : (p q r s : Bool) → (p ≡ true → q ≡ false) → (r ≡ true → s ≡ false) → (p || (not q && r)) ≡ true → (q || (not p && s)) ≡ false
turned true true r s h k e = h refl
turned true false r s h k e = refl
turned false true r s h k e = sym e
turned false false r s h k e = k e

other : (s t : Bool) → s ≡ false → (not s && t) ≡ false → t ≡ false
other true t h e = absurd (true≢false h)
other false t h e = e

-- the first order decides, and the second between its ties
pub ranks_then : {X : Type 0} (a b : X → X → Bool) → IsStrictWeakOrder a → IsStrictWeakOrder b → IsStrictWeakOrder (by_then a b)
ranks_then a b ra rb = record {
  one_way = λ x y. turned (a x y) (a y x) (b x y) (b y x) (ra.one_way x y) (rb.one_way x y);
  chain = λ x y z e f.
      let p = or_parts (a x y) (not (a y x) && b x y) e in
      let q = or_parts (a y z) (not (a z y) && b y z) f in
      or_from (a x z) (not (a z x) && b x z) (ra.chain x y z p.0 q.0)
      (⊎_elim
      (λ t. and_left (not (a z x)) (b x z) (not_from_true (a z x) t))
      (λ t.
      and_right (not (a z x)) (b x z)
      (rb.chain x y z
      (other (a y x) (b x y) (ra.chain y z x q.0 t) p.1)
      (other (a z y) (b y z) (ra.chain z x y t p.0) q.1)))
      (cases_Bool (a z x)));
}

-- what ties in both ties in each
pub ties_then : {X : Type 0} (a b : X → X → Bool) (x y : X) → by_then a b x y ≡ false → by_then a b y x ≡ false → (a x y ≡ false) × (a y x ≡ false) × (b x y ≡ false) × (b y x ≡ false)
ties_then a b x y e f =
    let p = or_parts (a x y) (not (a y x) && b x y) e in
    let q = or_parts (a y x) (not (a x y) && b y x) f in
    (p.0, q.0, other (a y x) (b x y) q.0 p.1, other (a x y) (b y x) p.0 q.1)
