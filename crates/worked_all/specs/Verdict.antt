-- The check's answer, computed: what it names is looked for among all channels, slots and pages, in order.
use Rattle.std.specs.Prelude.{◌≡◌, ℕ, zero, suc, ◌+◌, ◌*◌, Bool, true, false, cond, not, ◌&&◌, ◌||◌, ltb, leb, [], ◌∷◌, Ok, Err, ◌==◌, nat_le, nat_lt}
use Rattle.timetable.specs.Meaning.{Meaning, Lawful}
use Rattle.timetable.specs.Windows.{window}
use Rattle.checker.specs.Judged.{Verdict, Judged}

-- the first of `many` numbers from `low` on that passes a test, or the number after them
abbrev pub seek : (ℕ → Bool) → ℕ → ℕ → ℕ
seek test low zero = low
seek test low (suc many) = cond (test low) low (seek test (low + 1) many)

-- whether one of the first k channels carries page i in slot t
abbrev pub comes : Meaning → ℕ → ℕ → ℕ → Bool
comes X i t zero = false
comes X i t (suc k) = X.page (k + 1) t == i || comes X i t k

-- whether page i does not come in the w slots from t on
abbrev pub lacks : Meaning → ℕ → ℕ → ℕ → Bool
lacks X i t zero = true
lacks X i t (suc w) = not (comes X i (t + w) X.channels) && lacks X i t w

-- the first channel that carries a number beyond the film in a slot, or a number above the channels
abbrev pub stray_channel : Meaning → ℕ → ℕ → ℕ
stray_channel X n s = seek (λ k. ltb n (X.page k s)) 1 X.channels

-- the first slot with such a channel, or the period
abbrev pub stray_slot : Meaning → ℕ → ℕ
stray_slot X n = seek (λ s. leb (stray_channel X n s) X.channels) 0 X.period

-- the first tune-in slot at which page i starves, or the period
abbrev pub starving_slot : Meaning → ℕ → ℕ → ℕ
starving_slot X m i = seek (λ t. lacks X i t (window m i)) 0 X.period

-- the lowest page with such a slot, or a number above n
abbrev pub starving_page : Meaning → ℕ → ℕ → ℕ
starving_page X m n = seek (λ i. ltb (starving_slot X m i) X.period) 1 n

abbrev pub between : ℕ → ℕ → ℕ → Bool
between a b x = nat_le a x && nat_le x b

abbrev pub in_range : Meaning → ℕ → ℕ → Bool
in_range X m n = between 1 1024 m && (between 1 1024 n && (between 1 8 X.channels && between 1 65536 X.period))

-- where page i, the lowest that starves, is above n, none does
abbrev pub starving_verdict : Meaning → ℕ → ℕ → ℕ → Verdict
starving_verdict X m n i = cond (nat_le i n) (Err (15, i ∷ (starving_slot X m i ∷ []))) (Ok tt)

-- where slot s, the first with a stray entry, is not below the period, no entry is stray
abbrev pub stray_verdict : Meaning → ℕ → ℕ → ℕ → Verdict
stray_verdict X m n s =
    cond (nat_lt s X.period)
    (Err (14, s ∷ (stray_channel X n s ∷ (X.page (stray_channel X n s) s ∷ []))))
    (starving_verdict X m n (starving_page X m n))

abbrev pub verdict : Meaning → ℕ → ℕ → ℕ → Verdict
verdict X m n cells =
    cond (in_range X m n)
    (cond (nat_lt cells (2 * n)) (Err (13, [])) (stray_verdict X m n (stray_slot X n)))
    (Err (12, []))

-- the computed answer is one that the check may give
abbrev pub CheckComputed : Type 0
CheckComputed = (X : Meaning) (m n cells : ℕ) → Lawful X → Judged X m n cells (verdict X m n cells)

-- and it may give no other
abbrev pub CheckHasOneAnswer : Type 0
CheckHasOneAnswer =
    (X : Meaning) (m n cells : ℕ) (a b : Verdict) → Judged X m n cells a → Judged X m n cells b → a ≡ b
