-- Plans by splitting, computed, as they are shown.
use Rattle.std.specs.Prelude.{ℕ, List, map, Ok, Err, Result}
use Rattle.numbers.specs.Computed.{lcm_of_all}
use Rattle.rows.specs.Period.{row_periods}
use Rattle.splitting_rule.specs.Listed.{Listed, split_list}
use Rattle.sequences.specs.Sequences.{whole_channels}

-- the channel, the start and the period of each page's row, and the period that they have together; or a refusal
abbrev pub Split : Type 0
Split = Result (List (ℕ × ℕ × ℕ) × ℕ) (ℕ × List ℕ)

abbrev pub shown : Listed → Split
shown (Ok x) = Ok (map (λ r. (r.channel, r.start, r.period)) x.0, lcm_of_all (row_periods x.0))
shown (Err t) = Err t

-- the plan of n pages at the delay m on c channels, with a bag of 16 places
abbrev pub split_of : ℕ → ℕ → ℕ → Split
split_of m c n = shown (split_list m 16 (whole_channels c) n)
