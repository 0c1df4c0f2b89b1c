use Rattle.std.proofs.Common.{◌≡◌, ℕ, ◌+◌, List, sym, subst, arith}
use Rattle.timetable.specs.Windows.{FirstStray}
use Rattle.checker.specs.Sweep.{Heard, Clean}
use Rattle.checker.proofs.Steps.{heard_more, heard_next, clean_more, clean_next}
use Rattle.checker.proofs.Ending.{clean_stray}
use Rattle.checker.proofs.sweep.sweep.Goals as goal
use Rattle.checker.proofs.sweep.sweep.Goals.{else-loop-channel-test, then-loop-channel-test+else-page-highest+else-channel-channel-end}

pub loop-channel-preserved : goal.loop-channel-preserved
loop-channel-preserved g c = (
  c.loop-channel.invariant.0,
  omega arith,
  clean_more _ _ _ _ c.page_at-page.result c.page_at-page.ensures.answers_page (omega arith) c.loop-channel.invariant.2,
  heard_more _ _ _ _ _ c.page_at-page.result c.loop-channel.scratch _ (omega arith) (omega arith) c.page_at-page.ensures.answers_page (omega arith) c.settle.ensures.page_heard c.loop-channel.invariant.3,
)

pub sweep-preserved : goal.sweep-preserved
sweep-preserved g c =
    let X = g.T.Timetable.meaning c.args.table.now in
    let m = c.args.film.delay in
    let n = c.args.film.pages in
    let here = c.loop-channel.invariant in
    let next : (xs : List ℕ) → Clean X c.args.highest c.sweep.slot (X.channels + 1) → Heard X m n c.sweep.slot (X.channels + 1) xs → c.loop-channel-test.scratch ≡ xs → Heard X m n (c.sweep.slot + 1) 1 c.loop-channel-test.scratch =
    λ xs clean heard is. subst (λ (ys : List ℕ). Heard X m n (c.sweep.slot + 1) 1 ys) (sym is) (heard_next _ _ _ _ _ heard) in
    elim c.loop-channel-test.branch [
      | else-loop-channel-test w ↦
          let last : c.loop-channel.channel ≡ X.channels + 1 = omega arith in
          let clean = subst (λ (k : ℕ). Clean X c.args.highest c.sweep.slot k) last here.2 in
          (here.0, clean_next _ _ _ clean, next c.loop-channel.scratch clean (subst (λ (k : ℕ). Heard X m n c.sweep.slot k c.loop-channel.scratch) last here.3) w.scratch-is)
      | then-loop-channel-test+else-page-highest+else-channel-channel-end w ↦
          let last : c.loop-channel.channel + 1 ≡ X.channels + 1 = omega arith in
          let clean = subst (λ (k : ℕ). Clean X c.args.highest c.sweep.slot k) last
          (clean_more _ _ _ _ w.page_at-page.result w.page_at-page.ensures.answers_page (omega arith) here.2) in
          let heard = heard_more X m n c.sweep.slot c.loop-channel.channel w.page_at-page.result c.loop-channel.scratch w.settle.new.scratch (omega arith) (omega arith) w.page_at-page.ensures.answers_page (omega arith) w.settle.ensures.page_heard here.3 in
          (here.0, clean_next _ _ _ clean, next w.settle.new.scratch clean (subst (λ (k : ℕ). Heard X m n c.sweep.slot k w.settle.new.scratch) last heard) w.scratch-is)
    ]

pub returns-then-page-highest : goal.returns-then-page-highest
returns-then-page-highest g c =
    let X = g.T.Timetable.meaning c.args.table.now in
    record {
      clean_or_stray = subst (λ p. FirstStray X c.args.highest c.sweep.slot c.loop-channel.channel p) (sym c.page_at-page.ensures.answers_page)
          (clean_stray X (g.T.Timetable.lawful c.args.table.now) c.args.highest c.sweep.slot c.loop-channel.channel
          c.requires.ready.in_range.period.0 (omega arith) (omega arith) c.loop-channel.invariant.2 (omega arith));
    }
