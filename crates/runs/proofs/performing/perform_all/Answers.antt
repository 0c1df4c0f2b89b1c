use Rattle.std.proofs.Common.{vec_items}
use Rattle.station.specs.States.{seen}
use Rattle.runs.proofs.Doing.{performs_more}
use Rattle.runs.proofs.performing.perform_all.Goals as goal

pub loop-call-preserved : goal.loop-call-preserved
loop-call-preserved g c =
    performs_more (seen (g.T.Timetable.meaning c.args.station.now.table) c.args.station.now) _ _ (vec_items c.loop-call.replies) _
    (seen (g.T.Timetable.meaning c.loop-call.station.table) c.loop-call.station) _ _ c.in_ok-perform.field-0
    c.loop-call.invariant c.in_ok-perform.ensures.does_or_stays c.in_ok-push.ensures.items
