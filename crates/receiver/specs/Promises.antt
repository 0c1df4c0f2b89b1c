-- A call's answer, and what it leaves, is the outcome that its definition gives; a refused call leaves all as it was.
use Rattle.std.specs.Prelude.{◌≡◌, ℕ, ◌<◌, ◌≤◌, List, [], Ok, Err, Result}
use Rattle.receiver.specs.Refusals.{told}
use Rattle.receiver.specs.Calls.{Outcome, granted, refused, peaked}
use Rattle.receiver.specs.Stores.{taken, stock}
use Rattle.receiver.specs.declared.numbers.Numbers.{Numbers}
use Rattle.receiver.specs.declared.refusal.Refusal.{Refusal}
use Rattle.receiver.specs.declared.states.Receiver.{Receiver}
use Rattle.receiver.specs.declared.states.Waiting.{Waiting}
use Rattle.receiver.specs.declared.states.Showing.{Showing}

-- the outcome, the store before, the answer, the store after
abbrev pub Tunes : Outcome (Numbers × List ℕ) → List ℕ → Result (Receiver Waiting) Refusal → List ℕ → Type 0
Tunes o store (Ok w) store' = o ≡ granted (w.numbers, store')
Tunes o store (Err e) store' = (o ≡ refused (told e)) × (store' ≡ store)

-- A slot's pages are held, over the n bytes of a film, and their stock counts in the peak; or they do not fit. The answer stands
-- between the numbers and the bytes before and those after.
abbrev pub Takes : ℕ → List ℕ → Numbers → List ℕ → Result Unit Refusal → Numbers → List ℕ → Type 0
Takes n ps r film (Ok _) r' film' = (stock n film ps ≤ r.capacity) × (r' ≡ peaked r (stock n film ps)) × (film' ≡ taken n film ps)
Takes n ps r film (Err e) r' film' = (r.capacity < stock n film ps) × (told e ≡ (34, [])) × (r' ≡ r) × (film' ≡ film)

-- the outcome and the answer
abbrev pub Weighs : Outcome ℕ → Result ℕ Refusal → Type 0
Weighs o (Ok s) = o ≡ granted s
Weighs o (Err e) = o ≡ refused (told e)

-- the outcome, the numbers and the store before, the answer, the numbers and the store after
abbrev pub Hears : Outcome (Numbers × List ℕ) → Numbers → List ℕ → Result Unit Refusal → Numbers → List ℕ → Type 0
Hears o r store (Ok _) r' store' = o ≡ granted (r', store')
Hears o r store (Err e) r' store' = (o ≡ refused (told e)) × (r' ≡ r) × (store' ≡ store)

-- the outcome, the numbers before, and the answer, which hands the waiting receiver back where it is a refusal
abbrev pub Starts : Outcome Numbers → Numbers → Result (Receiver Showing) (Refusal × Receiver Waiting) → Type 0
Starts o r (Ok s) = o ≡ granted s.numbers
Starts o r (Err x) = (o ≡ refused (told x.0)) × (x.1.numbers ≡ r)

-- the outcome, the numbers and the store before, the answer, the numbers and the store after
abbrev pub Shows : Outcome (ℕ × Numbers × List ℕ) → Numbers → List ℕ → Result ℕ Refusal → Numbers → List ℕ → Type 0
Shows o r store (Ok page) r' store' = o ≡ granted (page, r', store')
Shows o r store (Err e) r' store' = (o ≡ refused (told e)) × (r' ≡ r) × (store' ≡ store)
