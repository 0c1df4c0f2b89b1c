-- Writing what is sent into a list, channel by channel.
use Rattle.std.proofs.Common.{◌≡◌, ℕ, suc, ◌+◌, ◌<◌, ◌≤◌, List, ◌++◌, map, length, get_or, drop, set, ap, ◌∙◌, append_assoc, append-nil, add-one, arith, drop-cons}
use Rattle.std.specs.List.{range_with_len}
use Rattle.std.proofs.lemmas.List.FromFn.{map-range_with_len_more, length-map-range_with_len}
use Rattle.std.proofs.lemmas.List.{set_at, drop_all}
use Rattle.timetable.specs.Closed.{line}
use Rattle.timetable.specs.Meaning.{Meaning}

pub line_more : (f : ℕ → ℕ) (ys : List ℕ) (i : ℕ) → i < length ys → set (map f (range_with_len 1 i) ++ drop i ys) i (f (i + 1)) ≡ map f (range_with_len 1 (i + 1)) ++ drop (i + 1) ys
line_more f ys i l =
    rw (drop-cons ys i 0 l, map-range_with_len_more f 1 i (i + 1) (omega arith), set_at (map f (range_with_len 1 i)) (get_or ys i 0) (drop (suc i) ys) (f (i + 1)) i (length-map-range_with_len f 1 i)) (simp (append_assoc, add-one))

-- one channel more is written
pub line_set : (X : Meaning) (t : ℕ) (xs ys : List ℕ) (i page : ℕ) → i < length ys → page ≡ X.page (i + 1) t
    → xs ≡ map (λ n. X.page n t) (range_with_len 1 i) ++ drop i ys → set xs i page ≡ map (λ n. X.page n t) (range_with_len 1 (i + 1)) ++ drop (i + 1) ys
line_set X t xs ys i page low carried so_far =
    let f : ℕ → ℕ = λ n. X.page n t in
    ap (λ zs. set zs i page) so_far ∙ ap (λ p. set (map f (range_with_len 1 i) ++ drop i ys) i p) carried ∙ line_more f ys i low

-- all channels are written
pub line_whole : (X : Meaning) (t : ℕ) (xs ys : List ℕ) (i : ℕ) → i ≡ X.channels → length ys ≤ i → xs ≡ map (λ n. X.page n t) (range_with_len 1 i) ++ drop i ys → xs ≡ line X t
line_whole X t xs ys i all end so_far =
    let f : ℕ → ℕ = λ n. X.page n t in
    so_far ∙ ap (λ zs. map f (range_with_len 1 i) ++ zs) (drop_all i ys end) ∙ append-nil (map f (range_with_len 1 i)) ∙ ap (λ n. map f (range_with_len 1 n)) all
