-- Numbers as bytes, the highest byte first, and the bodies of records.
use Rattle.std.specs.Prelude.{ℕ, ◌/◌, ◌%◌, List, [], ◌∷◌, ◌++◌}
use Rattle.records.specs.declared.kinds.Film.{Film}
use Rattle.records.specs.declared.kinds.Channel.{Channel}
use Rattle.records.specs.declared.kinds.Row.{Row}
use Rattle.records.specs.declared.kinds.Leaf.{Leaf}
use Rattle.records.specs.declared.kinds.Inner.{Inner}
use Rattle.records.specs.declared.kinds.Closure.{Closure}

abbrev pub two : ℕ → List ℕ
two n = n / 256 ∷ n % 256 ∷ []

abbrev pub four : ℕ → List ℕ
four n = n / 16777216 ∷ n / 65536 % 256 ∷ n / 256 % 256 ∷ n % 256 ∷ []

-- the bytes of each kind of record, after its kind byte
abbrev pub film_body : Film → List ℕ
film_body x = two x.delay ++ (two x.pages ++ (x.channels ∷ []))

abbrev pub channel_body : Channel → List ℕ
channel_body x = x.subchannels ∷ []

abbrev pub row_body : Row → List ℕ
row_body x = two x.page ++ (x.channel ∷ (four x.start ++ four x.period))

abbrev pub leaf_body : Leaf → List ℕ
leaf_body x = two x.page

abbrev pub inner_body : Inner → List ℕ
inner_body x = two x.first_child ++ two x.degree

abbrev pub closure_body : Closure → List ℕ
closure_body x = x.channel ∷ four x.slot
