-- Loops worked through by hand: plans, checks, a survey and feedings, each computed from its definition.
use Rattle.std.specs.Prelude.{◌≡◌, ℕ, ◌+◌, ◌*◌, List, [], ◌∷◌, map, length, replicate, Ok, Err}
use Rattle.std.specs.List.{range_with_len}
use Rattle.records.specs.declared.kinds.Channel.{Channel}
use Rattle.records.specs.declared.kinds.Closure.{Closure}
use Rattle.numbers.specs.Computed.{lcm_of_all}
use Rattle.numbers.specs.Divisors.{LeastCommonMultipleOfAll}
use Rattle.timetable.specs.Meaning.{Meaning}
use Rattle.timetable.specs.Closed.{aired, line}
use Rattle.timetable.specs.Grid.{grid}
use Rattle.splitting_rule.specs.Shown.{Split, split_of}
use Rattle.fast.specs.Fast.{fast, fast_pages}
use Rattle.planner.specs.Pagoda.{cycles, pagoda, pagoda_pages}
use Rattle.checker.specs.Judged.{Verdict}
use Rattle.feeding.specs.Feeding.{Ending, whole, denied, Fed, fed}
use Rattle.worked_all.specs.Surveyed.{greatest}
use Rattle.worked_all.specs.Verdict.{verdict}

-- how a loop comes out
pub data Outcome : Type 0 where
  -- a plan: the pages, the period, and what channel 1 carries in the first slots
  loop : ℕ → ℕ → List ℕ → Outcome
  -- a plan of rows: the channel, the start and the period of each page's row, and the period that they have together
  rows : List (ℕ × ℕ × ℕ) → ℕ → Outcome
  -- a check that is passed
  passed : Outcome
  -- a refusal, of a plan or by the check, with its number and values
  refused : ℕ → List ℕ → Outcome
  -- a survey: the greatest peak, and the first tune-in slot that reaches it
  surveyed : ℕ → ℕ → Outcome
  -- a feeding: the pages that were shown, how many slots were granted, and how it ended
  viewed : List ℕ → ℕ → Ending → Outcome

-- plans

abbrev pub loop_of : ℕ → Meaning → ℕ → Outcome
loop_of n M k = loop n M.period (map (λ t. M.page 1 t) (range_with_len 0 k))

abbrev pub split_outcome : Split → Outcome
split_outcome (Ok x) = rows x.0 x.1
split_outcome (Err t) = refused t.0 t.1

abbrev pub channels_of : List ℕ → List Channel
channels_of counts = map (λ s. record { subchannels = s }) counts

-- the pagoda plan of a delay m and some channels, with the period computed
abbrev pub pagoda_plan : ℕ → List Channel → Meaning
pagoda_plan m cs = pagoda m cs (lcm_of_all (cycles m cs (length cs)))

abbrev pub pagoda_loop : ℕ → List Channel → ℕ → Outcome
pagoda_loop m cs k = loop_of (pagoda_pages m cs) (pagoda_plan m cs) k

abbrev pub fast_loop : ℕ → ℕ → Outcome
fast_loop c k = loop_of (fast_pages c) (fast c) k

-- what is sent of them

abbrev pub verdict_outcome : Verdict → Outcome
verdict_outcome (Ok _) = passed
verdict_outcome (Err t) = refused t.0 t.1

-- the check of a timetable for a film of delay m and n pages, with as much scratch as it takes
abbrev pub checked : Meaning → ℕ → ℕ → Outcome
checked X m n = verdict_outcome (verdict X m n (2 * n))

-- slot s is closed on channel 1
abbrev pub closing : ℕ → List Closure
closing s = record { channel = 1; slot = s } ∷ []

-- the check of a pagoda plan with its own delay and pages, and some entries closed
abbrev pub pagoda_checked : ℕ → List Channel → List Closure → Outcome
pagoda_checked m cs es = checked (aired (pagoda_plan m cs) es) m (pagoda_pages m cs)

abbrev pub survey_outcome : ℕ × ℕ → Outcome
survey_outcome r = surveyed r.0 r.1

abbrev pub pagoda_surveyed : ℕ → List Channel → Outcome
pagoda_surveyed m cs = survey_outcome (greatest (pagoda_plan m cs) m (pagoda_pages m cs))

abbrev pub view_outcome : Fed → Outcome
view_outcome f = viewed f.shows (length f.stocks) f.ending

-- a receiver of some capacity that tunes in at slot t and is fed a pagoda plan to the end of the film
abbrev pub pagoda_viewed : ℕ → List Channel → ℕ → ℕ → Outcome
pagoda_viewed m cs capacity t =
    view_outcome (fed m (pagoda_pages m cs) capacity (replicate (pagoda_pages m cs) 0)
    (map (line (pagoda_plan m cs)) (range_with_len t (m + pagoda_pages m cs))))

-- the channels of two plans of delay 4: one of 2 subchannels; and one of 2 with one of 3
abbrev pub two : List Channel
two = channels_of (2 ∷ [])

abbrev pub two_and_three : List Channel
two_and_three = channels_of (2 ∷ (3 ∷ []))

abbrev pub worked_loops : List Outcome
worked_loops =
    pagoda_loop 9 (channels_of (3 ∷ [])) 6
    ∷ (pagoda_loop 4 two 12
    ∷ (pagoda_surveyed 4 two
    ∷ (pagoda_viewed 4 two 4 0
    ∷ (pagoda_viewed 4 two 4 1
    ∷ (pagoda_checked 4 two []
    ∷ (pagoda_checked 4 two (closing 11)
    ∷ (pagoda_checked 4 two (closing 0)
    ∷ (pagoda_loop 4 two_and_three 4
    ∷ (pagoda_checked 4 two_and_three []
    ∷ (fast_loop 3 2
    ∷ (split_outcome (split_of 1 3 9)
    ∷ (split_outcome (split_of 1 3 10)
    ∷ (checked (grid (1 ∷ (0 ∷ [])) 1 2) 2 1
    ∷ (checked (grid (1 ∷ (0 ∷ [])) 1 2) 1 1
    ∷ (checked (grid (1 ∷ (3 ∷ [])) 1 2) 2 2
    ∷ (checked (grid [] 1 4) 2 2
    ∷ []))))))))))))))))

abbrev pub LoopsAsWorked : Type 0
LoopsAsWorked =
    worked_loops
    ≡ loop 12 180 (1 ∷ (4 ∷ (8 ∷ (2 ∷ (5 ∷ (9 ∷ []))))))
    ∷ (loop 5 12 (1 ∷ (3 ∷ (2 ∷ (4 ∷ (1 ∷ (5 ∷ (2 ∷ (3 ∷ (1 ∷ (4 ∷ (2 ∷ (5 ∷ []))))))))))))
    ∷ (surveyed 5 1
    ∷ (viewed (1 ∷ (2 ∷ (3 ∷ (4 ∷ (5 ∷ []))))) 9 whole
    ∷ (viewed [] 4 (denied 34 [])
    ∷ (passed
    ∷ (refused 15 (5 ∷ (6 ∷ []))
    ∷ (refused 15 (1 ∷ (0 ∷ []))
    ∷ (loop 17 180 (1 ∷ (3 ∷ (2 ∷ (4 ∷ []))))
    ∷ (passed
    ∷ (loop 7 4 (1 ∷ (1 ∷ []))
    ∷ (rows ((1, 0, 1) ∷ ((2, 0, 2) ∷ ((3, 0, 3) ∷ ((2, 1, 4) ∷ ((2, 3, 4)
    ∷ ((3, 1, 6) ∷ ((3, 4, 6) ∷ ((3, 2, 6) ∷ ((3, 5, 6) ∷ []))))))))) 12
    ∷ (refused 5 (9 ∷ [])
    ∷ (passed
    ∷ (refused 15 (1 ∷ (1 ∷ []))
    ∷ (refused 14 (1 ∷ (1 ∷ (3 ∷ [])))
    ∷ (refused 15 (1 ∷ (0 ∷ []))
    ∷ []))))))))))))))))

-- what is computed for a period is the least common multiple
abbrev pub PeriodComputed : Type 0
PeriodComputed = (xs : List ℕ) → LeastCommonMultipleOfAll xs (lcm_of_all xs)
