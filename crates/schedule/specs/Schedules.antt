-- What a loaded plan means as a timetable.
use Rattle.std.specs.Prelude.{vec_items}
use Rattle.timetable.specs.Meaning.{Meaning, Lawful}
use Rattle.planner.specs.Pagoda.{pagoda_lawful}
use Rattle.planner.specs.PagodaAnswers as pagodas
use Rattle.rows.specs.Rows.{rows_timetable, rows_timetable_lawful}
use Rattle.nodes.specs.Turns.{tree, tree_lawful}
use Rattle.schedule.specs.declared.schedule.Schedule.{Schedule}
use Rattle.schedule.specs.declared.schedule.Schedule.TheVariants.{Pagoda, Rows, Tree}

abbrev pub meant : Schedule → Meaning
meant (Pagoda plan) = pagodas.meant plan
meant (Rows plan) = rows_timetable (vec_items plan.rows) plan.channels plan.period
meant (Tree plan) = tree (vec_items plan.nodes) plan.channels plan.period

pub meant_lawful : (s : Schedule) → Lawful (meant s)
meant_lawful (Pagoda plan) = pagoda_lawful plan.delay (vec_items plan.channels) plan.period
meant_lawful (Rows plan) = rows_timetable_lawful (vec_items plan.rows) plan.channels plan.period
meant_lawful (Tree plan) = tree_lawful (vec_items plan.nodes) plan.channels plan.period
