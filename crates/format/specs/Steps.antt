-- Steps of reading a plan file.
use Rattle.std.specs.Prelude.{◌≡◌, ℕ, ◌<◌, ◌≤◌, List, map, length, Some, None, Option, ◌≢◌}
use Rattle.records.specs.Faults.{told}
use Rattle.records.specs.Places.{Spans, Opens}
use Rattle.records.specs.declared.fault.Fault.{Fault}
use Rattle.records.specs.declared.kinds.Film.{Film}
use Rattle.format.specs.Items.{Part, Item, film, part, kind, size, bytes}
use Rattle.format.specs.Format.{Sort, sort, most, Alike, encoded, Reached, Follows, Refused}

-- the length of the bodies of records of kind k
abbrev pub KindLength : ℕ → Option ℕ → Type 0
KindLength k None = (x : Item) → kind x ≢ k
KindLength k (Some n) = (x : Item) × (kind x ≡ k) × (size x ≡ n)

-- the file is refused with this fault
abbrev pub Faulty : List ℕ → Fault → Type 0
Faulty file f = Refused file (told f).0 (told f).1

-- where records have been read up to b, and none that begins there is in its place, the file is refused with this fault
abbrev pub Misfit : List ℕ → ℕ → Fault → Type 0
Misfit file b f = (rs : List Item) → length file ≤ 32768 → Reached file rs b → ((x : Item) → Opens file b (kind x) → Follows rs x → ⊥) → Faulty file f

-- all plan records of one sort from a on, up to e
pub record PartsAt (file : List ℕ) (a e : ℕ) (ps : List Part) : Type 0 where
  pub of : Sort
  pub spans : Spans file a e (encoded (map part ps))
  pub alike : Alike of ps
  pub some : 0 < length ps
  pub within : length ps ≤ most of
  pub stops : (p : Part) → sort p ≡ of → Opens file e (kind (part p)) → ⊥

-- where a film stands before a, the file is refused with this fault
abbrev pub AfterFilm : List ℕ → ℕ → Fault → Type 0
AfterFilm file a f = (x : Film) → length file ≤ 32768 → Spans file 0 a (bytes (film x)) → Faulty file f
