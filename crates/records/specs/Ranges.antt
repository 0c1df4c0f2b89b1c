-- The numbers of a film.
use Rattle.std.specs.Prelude.{◌≤◌}
use Rattle.records.specs.declared.kinds.Film.{Film}

-- the numbers that a film may have
pub record FilmInRange (f : Film) : Type 0 where
  pub delay : (1 ≤ f.delay) × (f.delay ≤ 1024)
  pub pages : (1 ≤ f.pages) × (f.pages ≤ 1024)
  pub channels : (1 ≤ f.channels) × (f.channels ≤ 8)
