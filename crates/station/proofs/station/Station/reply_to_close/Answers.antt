use Rattle.station.specs.States.{seen, by_close}
use Rattle.station.specs.Calls.{answered, replied}
use Rattle.station.specs.declared.call.Call.TheVariants.{Close}
use Rattle.station.proofs.Replies.{bare_leaves, bare_steps}
use Rattle.station.proofs.station.Station.reply_to_close.Goals as goal

pub returns : goal.returns
returns g c =
    let s = seen (g.T.Timetable.meaning c.args.self.now.table) c.args.self.now in
    let s' = seen (g.T.Timetable.meaning c.close-result.new.self.table) c.close-result.new.self in
    let r = replied c.bare.result in
    record {
      does = record {
        steps = bare_steps s (Close c.args.entry) s' (answered c.close_answer.result) (by_close c.close-result.result) r c.bare.ensures.nothing_lent c.close_answer.ensures.tells_result c.close-result.ensures.closes_or_refuses;
        leaves = bare_leaves _ r c.bare.ensures.nothing_lent;
      };
    }
