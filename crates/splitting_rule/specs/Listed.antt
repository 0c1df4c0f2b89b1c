-- The rule of splitting, computed on lists.
use Rattle.std.specs.Prelude.{◌≡◌, ℕ, zero, suc, ◌+◌, ◌≤◌, cond, List, [], ◌∷◌, ◌++◌, length, take, Ok, Err, Result, MatchResult, nat_le}
use Rattle.records.specs.declared.kinds.Row.{Row}
use Rattle.sequences.specs.Sequences.{earlier}
use Rattle.splitting_rule.specs.Rule.{Splits, Refuses, rest_of, row_of}
use Rattle.sequences.specs.declared.sequence.FreeSequence.{FreeSequence}

-- a sequence, and the others
abbrev pub Pick : Type 0
Pick = FreeSequence × List FreeSequence

abbrev pub left_too : FreeSequence → Pick → Pick
left_too s p = (p.0, s ∷ p.1)

-- the first of x and xs at the window w, and the others
abbrev pub pick : ℕ → FreeSequence → List FreeSequence → Pick
pick w x [] = (x, [])
pick w x (y ∷ ys) = cond (earlier w y x) (left_too x (pick w y ys)) (left_too y (pick w x ys))

-- the rows so far and what is free, or a refusal by its number and values
abbrev pub Listed : Type 0
Listed = Result (List Row × List FreeSequence) (ℕ × List ℕ)

abbrev pub fitted : ℕ → List Row → List FreeSequence → Listed
fitted most rows left = cond (nat_le (length left) most) (Ok (rows, left)) (Err (6, []))

-- page n + 1 with the window w takes the one that was picked
abbrev pub place_picked : ℕ → ℕ → ℕ → List Row → Pick → Listed
place_picked w most n rows p = fitted most (rows ++ (row_of (n + 1) w p.0 ∷ [])) (rest_of w p.0 ++ p.1)

-- page n + 1 with the window w, after n pages
abbrev pub place_next : ℕ → ℕ → ℕ → List Row → List FreeSequence → Listed
place_next w most n rows [] = Err (5, n ∷ [])
place_next w most n rows (x ∷ xs) = place_picked w most n rows (pick w x xs)

abbrev pub one_page_more : ℕ → ℕ → ℕ → Listed → Listed
one_page_more w most n (Ok x) = place_next w most n x.0 x.1
one_page_more w most n (Err t) = Err t

-- pages 1 to n, at the delay m
abbrev pub split_list : ℕ → ℕ → List FreeSequence → ℕ → Listed
split_list m most free zero = Ok ([], free)
split_list m most free (suc n) = one_page_more (m + n) most n (split_list m most free n)

-- the rows and what is free follow the rule, and so does a refusal
abbrev pub Follows : ℕ → ℕ → List FreeSequence → ℕ → Listed → Type 0
Follows m most free n answer =
    MatchResult answer (λ x. Splits m most free n x.0 x.1 × (length x.0 ≡ n)) (Refuses m most free n)

-- what is computed follows the rule,
abbrev pub ListsFollow : Type 0
ListsFollow = (m most : ℕ) (free : List FreeSequence) (n : ℕ) → Follows m most free n (split_list m most free n)

-- and the rule leaves nothing open: the rows that it gives are those that are computed,
abbrev pub RowsListed : Type 0
RowsListed =
    (m most : ℕ) (free : List FreeSequence) (n : ℕ) (rows : List Row) (left : List FreeSequence) → n ≤ length rows →
    Splits m most free n rows left → (rest : List FreeSequence) × (split_list m most free n ≡ Ok (take n rows, rest))

-- and so are its refusals
abbrev pub RefusalsListed : Type 0
RefusalsListed =
    (m most : ℕ) (free : List FreeSequence) (n : ℕ) (t : ℕ × List ℕ) →
    Refuses m most free n t → split_list m most free n ≡ Err t
