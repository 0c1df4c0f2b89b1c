use Rattle.std.proofs.Common.{◌≡◌, ℕ, ◌≤◌, List, ◌++◌, length, take, drop}
use Rattle.planner.specs.Pagoda.{first_of, channel_cycles, subchannels_of}
use Rattle.plans.specs.Periods.{PeriodOf}
use Rattle.planner.proofs.pagoda.progress.Progress.deal_channel.Given as goal

abbrev pub invariant-loop-turn : goal.invariant-loop-turn
invariant-loop-turn l =
    record {
      delay : l.next.0 ≡ l.self.delay;
      low : 1 ≤ l.next.1.0;
      high : l.next.1.0 ≤ 1025;
      next : l.next.1.0 ≡ first_of l.self.delay l.subchannels l.self.first l.turn;
      places : length l.list ≡ 32;
      rest : drop l.turn l.list ≡ drop l.turn l.initial.list;
      lists : take l.turn l.list ≡ subchannels_of l.self.delay l.subchannels l.self.first l.turn;
      together : (xs : List ℕ) → PeriodOf xs l.self.period → PeriodOf (xs ++ channel_cycles l.self.delay l.subchannels l.self.first l.turn) l.next.1.1.0;
    }
