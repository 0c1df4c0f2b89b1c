-- The closures of a plan, judged in their order.
use Rattle.std.specs.Prelude.{◌≡◌, ℕ, ◌<◌, ◌≤◌, true, false, List, length, take, Result, MatchResult, slice_index_or}
use Rattle.records.specs.declared.kinds.Closure.{Closure}
use Rattle.timetable.specs.Closed.{closed_in}
use Rattle.load.specs.declared.fault.ClosureFault.{ClosureFault}
use Rattle.load.specs.declared.fault.ClosureFault.TheVariants.{NoEntry, ClosedAlready}

-- the number of each fault of a closure
abbrev pub told_closure : ClosureFault → ℕ
told_closure NoEntry = 19
told_closure ClosedAlready = 20

-- an entry of a timetable of c channels and period p
abbrev pub InTable : ℕ → ℕ → Closure → Type 0
InTable c p x = (1 ≤ x.channel) × (x.channel ≤ c) × (x.slot < p)

-- a closure that may stand after the earlier ones
abbrev pub Closes : ℕ → ℕ → List Closure → Closure → Type 0
Closes c p earlier x = InTable c p x × (closed_in earlier x.channel x.slot ≡ false)

-- why one may not
abbrev pub Idles : ℕ → ℕ → List Closure → Closure → ClosureFault → Type 0
Idles c p earlier x NoEntry = InTable c p x → ⊥
Idles c p earlier x ClosedAlready = InTable c p x × (closed_in earlier x.channel x.slot ≡ true)

abbrev pub Judged : ℕ → ℕ → List Closure → Closure → Result (Unit {0}) ClosureFault → Type 0
Judged c p earlier x answer = MatchResult answer (λ _. Closes c p earlier x) (Idles c p earlier x)

abbrev pub closure_at : List Closure → ℕ → Closure
closure_at cs i = slice_index_or cs i (record { channel = 0; slot = 0 })

-- the first i closures close something each
abbrev pub CloseTo : ℕ → ℕ → List Closure → ℕ → Type 0
CloseTo c p cs i = (j : ℕ) → j < i → Closes c p (take j cs) (closure_at cs j)

-- closure i is the first that closes nothing
pub record FirstIdle (c p : ℕ) (cs : List Closure) (i : ℕ) (f : ClosureFault) : Type 0 where
  pub there : i < length cs
  pub idles : Idles c p (take i cs) (closure_at cs i) f
  pub before : CloseTo c p cs i

-- all close something, or this is the first that does not
abbrev pub FirstJudged : ℕ → ℕ → List Closure → Result (Unit {0}) (ℕ × ClosureFault) → Type 0
FirstJudged c p cs answer = MatchResult answer (λ _. CloseTo c p cs (length cs)) (λ r. FirstIdle c p cs r.0 r.1)
