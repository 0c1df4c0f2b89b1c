-- What a receiver is fed, answer by answer.
use Rattle.std.proofs.Common.{◌≡◌, ℕ, zero, suc, ◌+◌, ◌<◌, ◌≤◌, true, false, List, [], ◌∷◌, ◌++◌, length, get_or, drop, is_some, Option, sym, refl, ap, ◌∙◌, append_assoc, append-nil}
use Rattle.std.specs.Option.{option_to_list}
use Rattle.std.proofs.lemmas.List.{drop_more, drop_all}
use Rattle.std.proofs.lemmas.Bool.{both_ways}
use Rattle.station.specs.declared.call.Reply.{Reply}
use Rattle.station.specs.Calls.{answered}
use Rattle.station.specs.States.{Told, slip, reopened, passes, found, surveyed, goes_on_air, ticked, withdrawn, refused}
use Rattle.guarantee.specs.Spells.{lines_from, until_withdrawn}
use Rattle.runs.specs.Rehearsals.{told_of, line_told, withdrawn_told}

-- an answer that is not the withdrawal
pub until_on : (a : Told) (rest : List Told) → withdrawn_told a ≡ false → until_withdrawn (a ∷ rest) ≡ option_to_list (line_told a) ++ until_withdrawn rest
until_on (slip mark e) rest h = refl
until_on reopened rest h = refl
until_on passes rest h = refl
until_on (found fs) rest h = refl
until_on (surveyed p t) rest h = refl
until_on goes_on_air rest h = refl
until_on (ticked c l) rest h = refl
until_on withdrawn rest h = absurd (both_ways true h refl)
until_on (refused t) rest h = refl

pub until_end : (a : Told) (rest : List Told) → withdrawn_told a ≡ true → until_withdrawn (a ∷ rest) ≡ []
until_end (slip mark e) rest h = absurd (both_ways false refl h)
until_end reopened rest h = absurd (both_ways false refl h)
until_end passes rest h = absurd (both_ways false refl h)
until_end (found fs) rest h = absurd (both_ways false refl h)
until_end (surveyed p t) rest h = absurd (both_ways false refl h)
until_end goes_on_air rest h = absurd (both_ways false refl h)
until_end (ticked c l) rest h = absurd (both_ways false refl h)
until_end withdrawn rest h = refl
until_end (refused t) rest h = absurd (both_ways false refl h)

-- an answer of another call
pub from_other : (k : ℕ) (a : Told) (rest : List Told) → is_some (line_told a) ≡ false → lines_from k (a ∷ rest) ≡ lines_from k rest
from_other k (slip mark e) rest h = refl
from_other k reopened rest h = refl
from_other k passes rest h = refl
from_other k (found fs) rest h = refl
from_other k (surveyed p t) rest h = refl
from_other k goes_on_air rest h = refl
from_other k (ticked c l) rest h = absurd (both_ways true h refl)
from_other k withdrawn rest h = refl
from_other k (refused t) rest h = refl

-- a tick: the one where feeding begins, or an earlier one
pub from_tick : (a : Told) (rest : List Told) → is_some (line_told a) ≡ true
    → (lines_from zero (a ∷ rest) ≡ until_withdrawn (a ∷ rest)) × ((k : ℕ) → lines_from (suc k) (a ∷ rest) ≡ lines_from k rest)
from_tick (slip mark e) rest h = absurd (both_ways false refl h)
from_tick reopened rest h = absurd (both_ways false refl h)
from_tick passes rest h = absurd (both_ways false refl h)
from_tick (found fs) rest h = absurd (both_ways false refl h)
from_tick (surveyed p t) rest h = absurd (both_ways false refl h)
from_tick goes_on_air rest h = absurd (both_ways false refl h)
from_tick (ticked c l) rest h = (refl, λ k. refl)
from_tick withdrawn rest h = absurd (both_ways false refl h)
from_tick (refused t) rest h = absurd (both_ways false refl h)

module _ (rs : List Reply) (i : ℕ) (r : Reply) (low : i < length rs) (at : r ≡ get_or rs i r) where
  -- the answer at place i
  abbrev here : Told
  here = answered r.answer

  -- the answers from place i on
  told_drop : told_of (drop i rs) ≡ here ∷ told_of (drop (i + 1) rs)
  told_drop =
      ap (λ xs. told_of xs) (drop_more rs i r low)
      ∙ ap (λ (x : Reply). answered x.answer ∷ told_of (drop (i + 1) rs)) (sym at)

  module _ (tick left : ℕ) (h : lines_from tick (told_of rs) ≡ lines_from left (told_of (drop i rs))) where
    -- another call's answer
    pub place_other : false ≡ is_some (line_told here) → lines_from tick (told_of rs) ≡ lines_from left (told_of (drop (i + 1) rs))
    place_other e = h ∙ ap (λ ts. lines_from left ts) told_drop ∙ from_other left here _ (sym e)

    -- an earlier tick
    pub place_later : (k : ℕ) → left ≡ suc k → true ≡ is_some (line_told here) → lines_from tick (told_of rs) ≡ lines_from k (told_of (drop (i + 1) rs))
    place_later k more e = h ∙ ap (λ ts. lines_from left ts) told_drop ∙ ap (λ n. lines_from n (here ∷ told_of (drop (i + 1) rs))) more ∙ (from_tick here _ (sym e)).1 k

    -- the tick
    pub place_here : left ≡ 0 → true ≡ is_some (line_told here) → lines_from tick (told_of rs) ≡ until_withdrawn (told_of (drop i rs))
    place_here none e =
        h ∙ ap (λ ts. lines_from left ts) told_drop ∙ ap (λ n. lines_from n (here ∷ told_of (drop (i + 1) rs))) none ∙ (from_tick here _ (sym e)).0 ∙ ap (λ ts. until_withdrawn ts) (sym told_drop)

  module _ (all ls : List (List ℕ)) (h : all ≡ ls ++ until_withdrawn (told_of (drop i rs))) where
    -- the withdrawal
    pub sent_end : true ≡ withdrawn_told here → ls ≡ all
    sent_end e = sym (h ∙ ap (λ xs. ls ++ xs) (ap (λ ts. until_withdrawn ts) told_drop ∙ until_end here _ (sym e)) ∙ append-nil ls)

    -- another answer, with or without a line
    pub sent_on : (o : Option (List ℕ)) → false ≡ withdrawn_told here → o ≡ line_told here → all ≡ (ls ++ option_to_list o) ++ until_withdrawn (told_of (drop (i + 1) rs))
    sent_on o e line =
        h
        ∙ ap (λ xs. ls ++ xs) (ap (λ ts. until_withdrawn ts) told_drop ∙ until_on here _ (sym e) ∙ ap (λ x. option_to_list x ++ until_withdrawn (told_of (drop (i + 1) rs))) (sym line))
        ∙ sym (append_assoc ls (option_to_list o) (until_withdrawn (told_of (drop (i + 1) rs))))

-- past the last reply there is no answer
pub told_end : (rs : List Reply) (i : ℕ) → length rs ≤ i → told_of (drop i rs) ≡ []
told_end rs i high = ap (λ xs. told_of xs) (drop_all i rs high)
