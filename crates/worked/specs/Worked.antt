-- Plans worked through by hand.
use Rattle.std.specs.Prelude.{◌≡◌, ℕ, List, [], ◌∷◌, map, length, Ok, Err}
use Rattle.std.specs.List.{range_with_len}
use Rattle.records.specs.declared.kinds.Channel.{Channel}
use Rattle.numbers.specs.Computed.{lcm_of_all}
use Rattle.numbers.specs.Divisors.{LeastCommonMultipleOfAll}
use Rattle.timetable.specs.Meaning.{Meaning}
use Rattle.splitting_rule.specs.Shown.{Split, split_of}
use Rattle.fast.specs.Fast.{fast, fast_pages}
use Rattle.planner.specs.Pagoda.{cycles, pagoda, pagoda_pages}

-- how a plan comes out
pub data Outcome : Type 0 where
  -- the pages, the period, and what channel 1 carries in the first slots
  loop : ℕ → ℕ → List ℕ → Outcome
  -- the channel, the start and the period of each page's row, and the period that they have together
  rows : List (ℕ × ℕ × ℕ) → ℕ → Outcome
  -- a refusal by its number and values
  refused : ℕ → List ℕ → Outcome

abbrev pub loop_of : ℕ → Meaning → ℕ → Outcome
loop_of n M k = loop n M.period (map (λ t. M.page 1 t) (range_with_len 0 k))

abbrev pub outcome : Split → Outcome
outcome (Ok x) = rows x.0 x.1
outcome (Err t) = refused t.0 t.1

abbrev pub channels_of : List ℕ → List Channel
channels_of counts = map (λ s. record { subchannels = s }) counts

-- the loop of the pagoda plan of a delay m and some channels, with the period computed
abbrev pub pagoda_loop : ℕ → List Channel → ℕ → Outcome
pagoda_loop m cs k = loop_of (pagoda_pages m cs) (pagoda m cs (lcm_of_all (cycles m cs (length cs)))) k

abbrev pub fast_loop : ℕ → ℕ → Outcome
fast_loop c k = loop_of (fast_pages c) (fast c) k

abbrev pub worked_loops : List Outcome
worked_loops =
    pagoda_loop 9 (channels_of (3 ∷ [])) 6
    ∷ (pagoda_loop 4 (channels_of (2 ∷ [])) 12
    ∷ (pagoda_loop 4 (channels_of (2 ∷ (3 ∷ []))) 4
    ∷ (fast_loop 3 2
    ∷ (outcome (split_of 1 3 9)
    ∷ (outcome (split_of 1 3 10)
    ∷ [])))))

abbrev pub LoopsAsWorked : Type 0
LoopsAsWorked =
    worked_loops
    ≡ loop 12 180 (1 ∷ (4 ∷ (8 ∷ (2 ∷ (5 ∷ (9 ∷ []))))))
    ∷ (loop 5 12 (1 ∷ (3 ∷ (2 ∷ (4 ∷ (1 ∷ (5 ∷ (2 ∷ (3 ∷ (1 ∷ (4 ∷ (2 ∷ (5 ∷ []))))))))))))
    ∷ (loop 17 180 (1 ∷ (3 ∷ (2 ∷ (4 ∷ []))))
    ∷ (loop 7 4 (1 ∷ (1 ∷ []))
    ∷ (rows ((1, 0, 1) ∷ ((2, 0, 2) ∷ ((3, 0, 3) ∷ ((2, 1, 4) ∷ ((2, 3, 4) ∷ ((3, 1, 6) ∷ ((3, 4, 6) ∷ ((3, 2, 6) ∷ ((3, 5, 6) ∷ []))))))))) 12
    ∷ (refused 5 (9 ∷ [])
    ∷ [])))))

-- what is computed for a period is the least common multiple
abbrev pub PeriodComputed : Type 0
PeriodComputed = (xs : List ℕ) → LeastCommonMultipleOfAll xs (lcm_of_all xs)
