-- What is sent repeats, and so does the stock of a tune-in.
use Rattle.std.proofs.Common.{◌≡◌, ℕ, zero, suc, ◌+◌, ◌-◌, ◌*◌, ◌/◌, ◌%◌, ◌||◌, List, [], ◌∷◌, map, refl, ap, ◌∙◌, mul-suc, arith}
use Rattle.std.specs.List.{range_with_len}
use Rattle.timetable.specs.Meaning.{Meaning, Lawful}
use Rattle.receiver.specs.Stores.{member}
use Rattle.receiver.proofs.Counts.{count_same}
use Rattle.feeding.specs.Laws.{came, stock_at}
use Rattle.timetable.specs.Closed.{line}

map_same : (f h : ℕ → ℕ) (xs : List ℕ) → ((k : ℕ) → f k ≡ h k) → map f xs ≡ map h xs
map_same f h [] e = refl
map_same f h (x ∷ xs) e = ap (λ y. y ∷ map f xs) (e x) ∙ ap (λ ys. h x ∷ ys) (map_same f h xs e)

pub line_repeats : (M : Meaning) → Lawful M → (t : ℕ) → line M (t + M.period) ≡ line M t
line_repeats M law t = map_same (λ k. M.page k (t + M.period)) (λ k. M.page k t) (range_with_len 1 M.channels) (λ k. law.repeats k t)

came_shift : (L : ℕ → List ℕ) (P : ℕ) → ((u : ℕ) → L (u + P) ≡ L u) → (p t j : ℕ) → came L p (t + P) j ≡ came L p t j
came_shift L P e p t zero = refl
came_shift L P e p t (suc j) =
    let s : t + P + j ≡ t + j + P = omega arith in
    ap (λ b. b || member p (L (t + P + j))) (came_shift L P e p t j)
    ∙ ap (λ x. came L p t j || member p (L x)) s ∙ ap (λ l. came L p t j || member p l) (e (t + j))

came_shifts : (L : ℕ → List ℕ) (P : ℕ) → ((u : ℕ) → L (u + P) ≡ L u) → (p t j q : ℕ) → came L p (t + P * q) j ≡ came L p t j
came_shifts L P e p t j zero = let s : t + P * zero ≡ t = omega arith in ap (λ x. came L p x j) s
came_shifts L P e p t j (suc q) =
    let m = mul-suc P q in
    let s : t + P * suc q ≡ t + P * q + P = omega arith in
    ap (λ x. came L p x j) s ∙ came_shift L P e p (t + P * q) j ∙ came_shifts L P e p t j q

pub came_mod : (L : ℕ → List ℕ) (P : ℕ) → ((u : ℕ) → L (u + P) ≡ L u) → (p t j : ℕ) → came L p t j ≡ came L p (t % P) j
came_mod L P e p t j = ap (λ x. came L p x j) (split t P) ∙ came_shifts L P e p (t % P) j (t / P)
  where
    split : (a b : ℕ) → a ≡ a % b + b * (a / b)
    split a b = omega arith

pub stock_mod : (L : ℕ → List ℕ) (P : ℕ) → ((u : ℕ) → L (u + P) ≡ L u) → (m n t j : ℕ) → stock_at L m n t j ≡ stock_at L m n (t % P) j
stock_mod L P e m n t j = ap (λ x. x - (j - m)) (count_same n _ _ (λ i l. came_mod L P e (i + 1) t (suc j)))
