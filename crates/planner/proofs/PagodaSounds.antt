-- What the planner of pagoda plans answers is sound.
use Rattle.std.proofs.Common.{ℕ, List, []}
use Rattle.records.specs.declared.kinds.Channel.{Channel}
use Rattle.timetable.specs.Closed.{aired}
use Rattle.timetable.specs.Windows.{Sound}
use Rattle.planner.specs.PagodaAnswers.{Planned, meant}
use Rattle.planner.specs.declared.pagoda.Pagoda.{Pagoda}
use Rattle.planner.proofs.PagodaPlans.{pagoda_sound}

pub planned_sound : (m : ℕ) (cs : List Channel) (plan : Pagoda) → Planned m cs plan → Sound (aired (meant plan) []) plan.delay plan.pages
planned_sound m cs plan h =
    rw (h.delay, h.channels, h.pages) (pagoda_sound m cs h.deals plan.period plan.positive h.period.of_all)
