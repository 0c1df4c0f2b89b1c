-- The fast plan on c channels, for a film that starts 1 slot after the tune-in: channel k carries the pages
-- 2^(k-1) to 2^k - 1, one after the other, over and over.
use Rattle.std.specs.Prelude.{ℕ, ◌+◌, ◌-◌, ◌%◌, ◌^◌}
use Rattle.timetable.specs.Meaning.{Meaning, Lawful, repeating, repeating_lawful}

abbrev pub fast_page : ℕ → ℕ → ℕ
fast_page k u = 2 ^ (k - 1) + u % 2 ^ (k - 1)

abbrev pub fast : ℕ → Meaning
fast c = repeating c (2 ^ (c - 1)) fast_page

-- the delay in slots, and the pages of the film
abbrev pub fast_delay : ℕ
fast_delay = 1

abbrev pub fast_pages : ℕ → ℕ
fast_pages c = 2 ^ c - 1

pub fast_lawful : (c : ℕ) → Lawful (fast c)
fast_lawful c = repeating_lawful c (2 ^ (c - 1)) fast_page
