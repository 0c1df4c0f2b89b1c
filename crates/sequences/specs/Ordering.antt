-- The order of free sequences.
use Rattle.std.specs.Prelude.{◌≡◌, ℕ, ◌%◌, Bool, false, nat_lt}
use Rattle.std.proofs.Common.{arith}
use Rattle.std.specs.Cmp.{IsStrictWeakOrder}
use Rattle.std.proofs.lemmas.List.MinMax.{IsStrictWeakOrder-by_number, IsStrictWeakOrder-flip}
use Rattle.std.proofs.lemmas.Bool.{ltb-false}
use Rattle.bag.proofs.Ranking.{ranks_then, ties_then}
use Rattle.bag.specs.Orders.{ascending, descending, by_then}
use Rattle.sequences.specs.Sequences.{earlier}
use Rattle.sequences.specs.declared.sequence.FreeSequence.{FreeSequence}

-- its four keys
abbrev by_rest : ℕ → FreeSequence → FreeSequence → Bool
by_rest w = ascending (λ s. w % s.period)

abbrev by_period : FreeSequence → FreeSequence → Bool
by_period = descending (λ s. s.period)

abbrev by_channel : FreeSequence → FreeSequence → Bool
by_channel = ascending (λ s. s.channel)

abbrev by_start : FreeSequence → FreeSequence → Bool
by_start = ascending (λ s. s.start)

pub earlier_ranks : (w : ℕ) → IsStrictWeakOrder (earlier w)
earlier_ranks w =
    ranks_then _ _ (IsStrictWeakOrder-by_number (λ (s : FreeSequence). w % s.period))
    (ranks_then _ _ (IsStrictWeakOrder-flip _ (IsStrictWeakOrder-by_number (λ (s : FreeSequence). s.period)))
    (ranks_then _ _ (IsStrictWeakOrder-by_number (λ (s : FreeSequence). s.channel)) (IsStrictWeakOrder-by_number (λ (s : FreeSequence). s.start))))

same_number : (a b : ℕ) → nat_lt a b ≡ false → nat_lt b a ≡ false → a ≡ b
same_number a b e f = omega (arith, ltb-false a b e, ltb-false b a f)

-- no two sequences tie
pub earlier_decides : (w : ℕ) (x y : FreeSequence) → earlier w x y ≡ false → earlier w y x ≡ false → x ≡ y
earlier_decides w x y e f =
    let rests = ties_then (by_rest w) (by_then by_period (by_then by_channel by_start)) x y e f in
    let periods = ties_then by_period (by_then by_channel by_start) x y rests.2 rests.3 in
    let channels = ties_then by_channel by_start x y periods.2 periods.3 in
    let period : x.period ≡ y.period = same_number x.period y.period periods.1 periods.0 in
    let channel : x.channel ≡ y.channel = same_number x.channel y.channel channels.0 channels.1 in
    let start : x.start ≡ y.start = same_number x.start y.start channels.2 channels.3 in
    λ i. record { channel = channel i; start = start i; period = period i }
