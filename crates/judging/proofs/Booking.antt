-- Closures that can be booked are booked, one after the other.
use Rattle.std.proofs.Common.{◌≡◌, ℕ, zero, suc, ◌+◌, ◌<◌, ◌≤◌, true, false, List, [], ◌∷◌, ◌++◌, map, length, take, drop, sym, refl, ap, ◌∙◌, subst, arith, length-take-le}
use Rattle.std.proofs.lemmas.List.{take_more, take_all, drop_more, drop_all}
use Rattle.std.proofs.lemmas.Bool.{lt-leb}
use Rattle.records.specs.declared.kinds.Closure.{Closure}
use Rattle.timetable.specs.Closed.{closed_in}
use Rattle.timetable.specs.Meaning.{Meaning}
use Rattle.station.specs.declared.call.Call.{Call}
use Rattle.station.specs.declared.call.Call.TheVariants.{Close}
use Rattle.station.specs.declared.phase.Phase.TheVariants.{Open}
use Rattle.station.specs.Calls.{Replied, Run}
use Rattle.station.specs.States.{State, Told, slip, closes, in_table}
use Rattle.station.specs.Tables.{entry_at}
use Rattle.judging.specs.Judgements.{Bookable}
use Rattle.judging.specs.Telling.{told_lines, all_lines}

-- what some replies say
abbrev pub said : List Replied → List Told
said rs = map (λ r. r.answer) rs

-- an open station with some entries closed
abbrev pub booked : Meaning → ℕ → ℕ → List Closure → State
booked M m n es = record { table = M; delay = m; pages = n; mark = 0; closures = es; phase = Open }

-- one more is closed
close_granted : (M : Meaning) (m n : ℕ) (es : List Closure) (e : Closure) → in_table M e ≡ true → closed_in es e.channel e.slot ≡ false → length es < 64
    → ((closes (booked M m n es) e).0 ≡ slip 0 e) × ((closes (booked M m n es) e).1 ≡ booked M m n (es ++ e ∷ []))
close_granted M m n es e there apart few = rw (there, apart, lt-leb 64 (length es) few) (refl, refl)

module _ (M : Meaning) (m n : ℕ) (es : List Closure) (b : Bookable M es) (calls : List Call) (s' : State) where
  -- the calls lead to s', and the bookings among them say nothing
  abbrev pub Books : List Replied → Type 0
  Books rs = (rest : List Replied) × Run (booked M m n es) calls rest s' × (all_lines (said rs) ≡ all_lines (said rest))

  -- the closure at place j, where those after it are booked
  book_one : (j : ℕ) (rs : List Replied) → j < length es → Run (booked M m n (take j es)) (Close (entry_at es j) ∷ (map Close (drop (j + 1) es) ++ calls)) rs s'
      → ((rs' : List Replied) → Run (booked M m n (take (j + 1) es)) (map Close (drop (j + 1) es) ++ calls) rs' s' → Books rs') → Books rs
  book_one j [] low h on = absurd h
  book_one j (r ∷ rs) low h on =
      let x = entry_at es j in
      let long : length (take j es) ≡ j = length-take-le j es (omega arith) in
      let granted = close_granted M m n (take j es) x (b.there j low) (b.apart j low) (omega (arith, b.few)) in
      let told : r.answer ≡ slip 0 x = h.1.steps.0 ∙ granted.0 in
      let next : h.0 ≡ booked M m n (take (j + 1) es) = h.1.steps.1 ∙ granted.1 ∙ ap (λ fs. booked M m n fs) (sym (take_more es j (record { channel = 0; slot = 0 }) low)) in
      let later = on rs (subst (λ s. Run s (map Close (drop (j + 1) es) ++ calls) rs s') next h.2) in
      (later.0, later.1, ap (λ t. told_lines t ++ all_lines (said rs)) told ∙ later.2)

  -- the closures from place j on, of which there are k
  book_from : (k j : ℕ) (rs : List Replied) → j + k ≡ length es → Run (booked M m n (take j es)) (map Close (drop j es) ++ calls) rs s' → Books rs
  book_from zero j rs e h =
      let past : length es ≤ j = omega arith in (
        rs,
        subst (λ cs. Run (booked M m n es) (map Close cs ++ calls) rs s') (drop_all j es past)
            (subst (λ fs. Run (booked M m n fs) (map Close (drop j es) ++ calls) rs s') (take_all j es past) h),
        refl,
      )
  book_from (suc k) j rs e h =
      let low : j < length es = omega arith in
      book_one j rs low
      (subst (λ cs. Run (booked M m n (take j es)) (map Close cs ++ calls) rs s') (drop_more es j (record { channel = 0; slot = 0 }) low) h)
      (λ rs' h'. book_from k (j + 1) rs' (omega arith) h')

  pub book_all : (rs : List Replied) → Run (booked M m n []) (map Close es ++ calls) rs s' → Books rs
  book_all rs h = book_from (length es) 0 rs (omega arith) h
