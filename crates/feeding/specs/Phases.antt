-- What the parts of a feeding do, on what was told before them and what is left to tell.
use Rattle.std.specs.Prelude.{◌≡◌, ℕ, ◌+◌, ◌≤◌, max, List, [], ◌∷◌, ◌++◌, map, drop, Ok, Err, vec_items, vec_len, vec_capacity, Result, Vec}
use Rattle.receiver.specs.Stores.{stock}
use Rattle.receiver.specs.Calls.{granted, refused, hear, show}
use Rattle.receiver.specs.Refusals.{told}
use Rattle.receiver.specs.declared.numbers.Numbers.{Numbers}
use Rattle.receiver.specs.declared.refusal.Refusal.{Refusal}
use Rattle.feeding.specs.Feeding.{Fed, denied, before, stop, waiting, showing, feeding}
use Rattle.feeding.specs.Viewings.{ending_of}
use Rattle.feeding.specs.declared.viewing.Stop.{Stop}
use Rattle.feeding.specs.declared.viewing.Viewing.{Viewing}

-- the lines from a place on
abbrev pub rows : {Z : Type 0} → List (Vec ℕ Z) → ℕ → List (List ℕ)
rows lines i = map vec_items (drop i lines)

-- before all that, these pages were shown and these were the stocks
abbrev pub preceded : List ℕ → List ℕ → Fed → Fed
preceded ps ss f = record { shows = ps ++ f.shows; stocks = ss ++ f.stocks; peak = f.peak; ending = f.ending }

-- a line that is heard, with its stock, or refused
abbrev pub HearsLine : Numbers → List ℕ → List ℕ → Result ℕ Refusal → Numbers → List ℕ → Type 0
HearsLine r store l (Ok s) r' store' = (hear r store l ≡ granted (r', store')) × (s ≡ stock r.pages store l)
HearsLine r store l (Err e) r' store' = (hear r store l ≡ refused (told e)) × (r' ≡ r) × (store' ≡ store)

-- a line at which a page is shown, with the page and the stock, or that is refused
abbrev pub ShowsLine : Numbers → List ℕ → List ℕ → Result (ℕ × ℕ) Refusal → Numbers → List ℕ → Type 0
ShowsLine r store l (Ok x) r' store' = (show r store l ≡ granted (x.0, r', store')) × (x.1 ≡ stock r.pages store l)
ShowsLine r store l (Err e) r' store' = (show r store l ≡ refused (told e)) × (r' ≡ r) × (store' ≡ store)

-- a viewing so far, before what is left to tell
abbrev pub so_far : Viewing → Fed × List ℕ → Fed × List ℕ
so_far v w = before (preceded (vec_items v.shows) (vec_items v.stocks)) w

-- the lists of a viewing have room for n slots more
abbrev pub HasRoom : Viewing → ℕ → Type 0
HasRoom v n = (vec_len v.shows + n ≤ vec_capacity v.shows) × (vec_len v.stocks + n ≤ vec_capacity v.stocks)

-- the lists of a viewing took up no more room than for n slots
abbrev pub GrowsBy : ℕ → Viewing → Viewing → Type 0
GrowsBy n v v' =
    (vec_len v'.shows ≤ vec_len v.shows + n) × (vec_capacity v'.shows ≡ vec_capacity v.shows)
    × (vec_len v'.stocks ≤ vec_len v.stocks + n) × (vec_capacity v'.stocks ≡ vec_capacity v.stocks)

-- a slot with this stock was granted
abbrev pub Grants : Viewing → ℕ → Viewing → Type 0
Grants v s v' =
    (v'.shows ≡ v.shows) × (vec_items v'.stocks ≡ vec_items v.stocks ++ (s ∷ [])) × (v'.peak ≡ max v.peak s)
    × (vec_len v'.stocks ≡ vec_len v.stocks + 1) × (vec_capacity v'.stocks ≡ vec_capacity v.stocks)

-- nothing was told yet, and there is room for n slots
abbrev pub Begins : Viewing → ℕ → Type 0
Begins v n = (vec_items v.shows ≡ []) × (vec_items v.stocks ≡ []) × (v.peak ≡ 0) × HasRoom v n

-- What waiting on some lines and the rest tells is what waiting on the rest tells once the lines were heard; or the refusal.
abbrev pub HearsAll : {Z : Type 0} → List (Vec ℕ Z) → List (List ℕ) → Viewing → Numbers → List ℕ → Result Unit Refusal → Viewing → Numbers → List ℕ → Type 0
HearsAll lines rest v r store (Ok _) v' r' store' =
    so_far v (waiting (map vec_items lines ++ rest) r store) ≡ so_far v' (waiting rest r' store')
HearsAll lines rest v r store (Err e) v' r' store' =
    so_far v (waiting (map vec_items lines ++ rest) r store) ≡ so_far v' (stop v'.peak store' (denied (told e).0 (told e).1))

-- what showing on some lines tells is all told
abbrev pub ShowsAll : {Z : Type 0} → List (Vec ℕ Z) → Viewing → Numbers → List ℕ → Result Stop Refusal → Viewing → List ℕ → Type 0
ShowsAll lines v r store e v' store' =
    so_far v (showing (map vec_items lines) r store) ≡ so_far v' (stop v'.peak store' (ending_of e))

-- what a feeding tells is all told
abbrev pub Tells : {Z : Type 0} → ℕ → ℕ → ℕ → List ℕ → List (Vec ℕ Z) → Result Stop Refusal → Viewing → List ℕ → Type 0
Tells m n capacity store lines e v' store' =
    feeding m n capacity store (map vec_items lines) ≡ so_far v' (stop v'.peak store' (ending_of e))
