-- A viewing, read as what a feeding tells.
use Rattle.std.specs.Prelude.{◌≡◌, ℕ, List, map, Ok, Err, vec_items, Result, Vec}
use Rattle.receiver.specs.Refusals.{told}
use Rattle.feeding.specs.Feeding.{Fed, Ending, cut, whole, denied, fed, left}
use Rattle.receiver.specs.declared.refusal.Refusal.{Refusal}
use Rattle.feeding.specs.declared.viewing.Stop.{Stop}
use Rattle.feeding.specs.declared.viewing.Stop.TheVariants.{LinesEnded, FilmWhole}
use Rattle.feeding.specs.declared.viewing.Viewing.{Viewing}

abbrev pub ending_of : Result Stop Refusal → Ending
ending_of (Ok LinesEnded) = cut
ending_of (Ok FilmWhole) = whole
ending_of (Err e) = denied (told e).0 (told e).1

abbrev pub viewed : Viewing → Fed
viewed v = record { shows = vec_items v.shows; stocks = vec_items v.stocks; peak = v.peak; ending = ending_of v.stop }

-- the viewing and the store are what the feeding of a receiver over the lines tells and leaves; without memory for the viewing
-- nothing is fed
abbrev pub Views : {Z E : Type 0} → ℕ → ℕ → ℕ → List ℕ → List (Vec ℕ Z) → Result Viewing E → List ℕ → Type 0
Views m n capacity store lines (Ok v) store' =
    (viewed v ≡ fed m n capacity store (map vec_items lines)) × (store' ≡ left m n capacity store (map vec_items lines))
Views m n capacity store lines (Err e) store' = store' ≡ store
