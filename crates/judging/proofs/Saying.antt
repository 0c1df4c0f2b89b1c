-- Lines of several answers.
use Rattle.std.proofs.Common.{◌≡◌, ℕ, ◌+◌, ◌<◌, List, [], ◌∷◌, ◌++◌, map, length, get_or, drop, sym, refl, ap, ◌∙◌, append_assoc}
use Rattle.std.proofs.lemmas.List.{drop_more}
use Rattle.station.specs.declared.call.Reply.{Reply}
use Rattle.station.specs.Calls.{answered, replied}
use Rattle.station.specs.States.{Told}
use Rattle.runs.specs.Rehearsals.{told_of}
use Rattle.judging.specs.Telling.{told_lines, all_lines}

-- one reply more
pub lines_more : (rs : List Reply) (i : ℕ) (r : Reply) → i < length rs → r ≡ get_or rs i r → all_lines (told_of (drop i rs)) ≡ told_lines (answered r.answer) ++ all_lines (told_of (drop (i + 1) rs))
lines_more rs i r low here =
    ap (λ xs. all_lines (told_of xs)) (drop_more rs i r low)
    ∙ ap (λ (x : Reply). told_lines (answered x.answer) ++ all_lines (told_of (drop (i + 1) rs))) (sym here)

pub lines_append : (xs ys : List Told) → all_lines (xs ++ ys) ≡ all_lines xs ++ all_lines ys
lines_append [] ys = refl
lines_append (x ∷ xs) ys = ap (λ ls. told_lines x ++ ls) (lines_append xs ys) ∙ sym (append_assoc (told_lines x) (all_lines xs) (all_lines ys))

-- the answers of replies, either way
pub answers_told : (rs : List Reply) → map (λ r. r.answer) (map replied rs) ≡ told_of rs
answers_told [] = refl
answers_told (r ∷ rs) = ap (λ ts. answered r.answer ∷ ts) (answers_told rs)
