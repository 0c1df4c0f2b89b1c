use Rattle.std.proofs.Common.{◌≡◌, ◌+◌, ◌-◌, leb, length, ap, ◌∙◌, subst, arith}
use Rattle.timetable.specs.Closed.{line}
use Rattle.receiver.specs.Count.{count}
use Rattle.feeding.specs.Laws.{top}
use Rattle.survey.specs.Cells.{Comings, late, noted}
use Rattle.survey.specs.Surveys.{peak_from, Airable}
use Rattle.survey.proofs.Nexts.{comings_step}
use Rattle.survey.proofs.Serving.{sound_serves}
use Rattle.survey.proofs.Peaks.{peak_takes, peak_keeps, turn}
use Rattle.survey.proofs.greatest.greatest_peak.Goals as goal

pub loop-after-preserved : goal.loop-after-preserved
loop-after-preserved g c =
    let L = line (g.T.Timetable.meaning c.args.table.now) in
    let u = c.loop-after.after - 1 in
    let whole : length c.loop-after.nexts ≡ c.args.film = omega arith in (
      omega arith,
      comings_step L c.args.film c.loop-after.after u (c.period-period.result + c.from-3.result + c.from-4.result)
          c.loop-after.nexts c.note_slot.new.nexts (omega arith) (omega arith) (omega arith)
          (c.note_slot.ensures.notes_line ∙ ap (λ k. noted k u c.loop-after.nexts (L u)) whole) c.loop-after.invariant.1,
    )

pub loop-slot-preserved-then-peak-best : goal.loop-slot-preserved-then-peak-best
loop-slot-preserved-then-peak-best g c =
    let M = g.T.Timetable.meaning c.args.table.now in
    let f = peak_from (line M) c.args.delay c.args.film in
    let T = c.loop-slot.slot in
    let P = c.period-period.result in
    let m = c.args.delay in
    let n = c.args.film in
    let end = P + c.from-3.result + c.from-4.result in
    let ys = c.note_slot-in-loop-slot.new.nexts in
    let whole : length c.loop-slot.nexts ≡ n = omega arith in
    let same : length ys ≡ n = omega arith in
    let far : end ≡ P + m + n = omega arith in
    let seen : Comings (line M) n (T - 1) end ys =
    comings_step (line M) n T (T - 1) end c.loop-slot.nexts ys (omega arith) (omega arith) (omega arith)
    (c.note_slot-in-loop-slot.ensures.notes_line ∙ ap (λ k. noted k (T - 1) c.loop-slot.nexts (line M (T - 1))) whole) c.loop-slot.invariant.0 in
    let peak : c.peak_from-peak.result ≡ top (λ s. count n (λ i. leb (late m n (T - 1) ys i) s) - s) 0 n 0 =
    c.peak_from-peak.ensures.by_comings ∙ ap (λ k. top (λ s. count k (λ i. leb (late m k (T - 1) ys i) s) - s) 0 k 0) same in
    let is : Airable M m n → c.peak_from-peak.result ≡ f (T - 1) = λ ok.
    turn (line M) m n P T ys c.peak_from-peak.result
    ok.in_range.delay.0 ok.in_range.delay.1 ok.in_range.pages.0 ok.in_range.pages.1 (sound_serves M m n ok.sound) (omega arith) (omega arith) peak
    (subst (λ e. Comings (line M) n (T - 1) e ys) far seen) in (
      seen,
      (λ ok. (
        (λ h. absurd (omega arith)),
        (λ h. peak_takes f T (T - 1) P c.loop-slot.best c.loop-slot.first c.peak_from-peak.result
            (omega arith) h (is ok) (omega arith) (c.loop-slot.invariant.1 ok).1),
      )),
    )

pub loop-slot-preserved : goal.loop-slot-preserved
loop-slot-preserved g c =
    let M = g.T.Timetable.meaning c.args.table.now in
    let f = peak_from (line M) c.args.delay c.args.film in
    let T = c.loop-slot.slot in
    let P = c.period-period.result in
    let m = c.args.delay in
    let n = c.args.film in
    let end = P + c.from-3.result + c.from-4.result in
    let ys = c.note_slot-in-loop-slot.new.nexts in
    let whole : length c.loop-slot.nexts ≡ n = omega arith in
    let same : length ys ≡ n = omega arith in
    let far : end ≡ P + m + n = omega arith in
    let seen : Comings (line M) n (T - 1) end ys =
    comings_step (line M) n T (T - 1) end c.loop-slot.nexts ys (omega arith) (omega arith) (omega arith)
    (c.note_slot-in-loop-slot.ensures.notes_line ∙ ap (λ k. noted k (T - 1) c.loop-slot.nexts (line M (T - 1))) whole) c.loop-slot.invariant.0 in
    let peak : c.peak_from-peak.result ≡ top (λ s. count n (λ i. leb (late m n (T - 1) ys i) s) - s) 0 n 0 =
    c.peak_from-peak.ensures.by_comings ∙ ap (λ k. top (λ s. count k (λ i. leb (late m k (T - 1) ys i) s) - s) 0 k 0) same in
    let is : Airable M m n → c.peak_from-peak.result ≡ f (T - 1) = λ ok.
    turn (line M) m n P T ys c.peak_from-peak.result
    ok.in_range.delay.0 ok.in_range.delay.1 ok.in_range.pages.0 ok.in_range.pages.1 (sound_serves M m n ok.sound) (omega arith) (omega arith) peak
    (subst (λ e. Comings (line M) n (T - 1) e ys) far seen) in (
      seen,
      (λ ok. (
        (λ h. absurd (omega arith)),
        (λ h. peak_keeps f T (T - 1) P c.loop-slot.best c.loop-slot.first c.peak_from-peak.result
            (omega arith) h (is ok) (omega arith) (c.loop-slot.invariant.1 ok).0 (c.loop-slot.invariant.1 ok).1),
      )),
    )
