-- A good spell serves all receivers.
use Rattle.std.proofs.Common.{◌≡◌, ℕ, zero, suc, ◌+◌, ◌-◌, ◌≤◌, List, map, length, drop, refl, ap, ◌∙◌, arith}
use Rattle.std.specs.List.{range_with_len}
use Rattle.std.proofs.lemmas.List.FromFn.{length-map-range_with_len}
use Rattle.std.proofs.lemmas.List.{drop-map}
use Rattle.timetable.specs.Meaning.{Meaning, Lawful}
use Rattle.timetable.specs.Closed.{aired, aired_lawful, line}
use Rattle.feeding.specs.Feeding.{fed}
use Rattle.feeding.specs.Laws.{Unbroken}
use Rattle.feeding.proofs.Story.{enough_room, stock_le}
use Rattle.survey.specs.Surveys.{Airable}
use Rattle.survey.proofs.Guarantee.{enough, least}
use Rattle.survey.proofs.Serving.{sound_serves}
use Rattle.guarantee.specs.Guarantee.{Served}
use Rattle.guarantee.specs.Spells.{Spell}
use Rattle.guarantee.proofs.Keeping.{Good}

drop_counting : (t a k b r : ℕ) → a + t ≡ b → k - t ≡ r → drop t (range_with_len a k) ≡ range_with_len b r
drop_counting zero a k b r e f =
    let from : a ≡ b = omega arith in
    let many : k ≡ r = omega arith in
    cc
drop_counting (suc t) a zero b r e f =
    let none : 0 ≡ r = omega arith in ap (λ (x : ℕ). range_with_len b x) none
drop_counting (suc t) a (suc k) b r e f = drop_counting t (a + 1) k b r (omega arith) (omega arith)

-- what is left from slot t on of the lines of the first slots
lines_left : (L : ℕ → List ℕ) (t slots : ℕ) → drop t (map L (range_with_len 0 slots)) ≡ map L (range_with_len t (slots - t))
lines_left L t slots =
    drop-map L t (range_with_len 0 slots) ∙ ap (λ (xs : List ℕ). map L xs) (drop_counting t 0 slots t (slots - t) (omega arith) refl)

-- with room for the whole film, nobody is refused what may be aired
whole_enough : (X : Meaning) (m n t k : ℕ) (store : List ℕ) → Airable X m n → n ≤ length store → Unbroken m n k (fed m n n store (map (line X) (range_with_len t k)))
whole_enough X m n t k store x long =
    enough_room (line X) m n n t k store
    (record { delay = x.in_range.delay; pages = x.in_range.pages; capacity = omega arith; long = long })
    (λ i low _. sound_serves X m n x.sound t i low)
    (λ j _ _. stock_le (line X) m n t j)

module _ (M : Meaning) (law : Lawful M) (m n : ℕ) (w : Spell) (good : Good M m n w) where
  abbrev X : Meaning
  X = aired M good.closures

  lines_from_slot : (t : ℕ) → drop t w.lines ≡ map (line X) (range_with_len t (good.slots - t))
  lines_from_slot t = ap (λ (ls : List (List ℕ)). drop t ls) good.lines ∙ lines_left (line X) t good.slots

  pub served : Served m n M.period w
  served = record {
    unbroken = λ t store long.
        rw (lines_from_slot t, length-map-range_with_len) (whole_enough X m n t (good.slots - t) store good.airable long);
    enough = λ peak slot i t store long.
        rw (lines_from_slot t, length-map-range_with_len)
        (enough X m n peak slot t (good.slots - t) store (aired_lawful M good.closures law) good.airable.in_range good.airable.sound (good.peaks peak slot i) long);
    least = λ peak slot i t store long place far.
        rw (lines_from_slot t)
        (least X m n peak slot t (good.slots - t) store (aired_lawful M good.closures law) good.airable.in_range good.airable.sound (good.peaks peak slot i) long place
        (omega (arith, far, ap length (lines_from_slot t), length-map-range_with_len (line X) t (good.slots - t))));
  }
