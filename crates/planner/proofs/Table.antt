-- The subchannels of the channels, one after the other, and the lists that hold them.
use Rattle.std.proofs.Common.{◌≡◌, ℕ, zero, suc, ◌+◌, ◌-◌, ◌*◌, ◌<◌, ◌≤◌, List, [], ◌∷◌, ◌++◌, length, get_or, take, drop, set, map, replicate, Some, Option, sym, refl, ap, ◌∙◌, append_assoc, add-one, inl, inr, arith, below_more}
use Rattle.std.proofs.Math.Seq.{set-append_seam, take_at, drop-drop}
use Rattle.std.proofs.lemmas.Bool.{cases_lt}
use Rattle.std.proofs.lemmas.List.{length_push, get_or_push, get_or_append_left, get_or-map, take_more_set, take-append-drop, drop-replicate, map_push}
use Rattle.records.specs.declared.kinds.Channel.{Channel}
use Rattle.numbers.proofs.All.{lcm_all_none}
use Rattle.planner.specs.Pagoda.{Takes, count_at, begins, cycles, first_of, share, share_of, channel_cycles, subchannels_of, laid, filled, Laid}
use Rattle.planner.specs.declared.pagoda.progress.Progress.{Progress}
use Rattle.plans.specs.Periods.{PeriodOf}
use Rattle.planner.specs.Dealing.{OneDealt, DealtTo}
use Rattle.planner.specs.declared.subchannel.Subchannel.{Subchannel}

-- what the next subchannel begins with
pub next_first : (m s f n first pages : ℕ) → first ≡ first_of m s f n → pages ≡ share m s first → first + pages ≡ first_of m s f (n + 1)
next_first m s f n first pages e d = rw (d, e, add-one n)

pub next_share : (m s f n first pages : ℕ) → first ≡ first_of m s f n → pages ≡ share m s first → pages ≡ share_of m s f n
next_share m s f n first pages e d = d ∙ ap (λ (x : ℕ). share m s x) e

-- one subchannel more
pub next_dealt : (m s f n first pages : ℕ) (xs : List Subchannel) → first ≡ first_of m s f n → pages ≡ share_of m s f n → xs ≡ subchannels_of m s f n → xs ++ (record { first = first; pages = pages } ∷ []) ≡ subchannels_of m s f (n + 1)
next_dealt m s f n first pages xs e d h = rw (add-one n, h, e, d)

-- one cycle more
pub next_period : (m s f n : ℕ) (xs : List ℕ) (r : Option ℕ) (cycle : ℕ) → cycle ≡ s * share_of m s f n → PeriodOf ((xs ++ channel_cycles m s f n) ++ (cycle ∷ [])) r → PeriodOf (xs ++ channel_cycles m s f (n + 1)) r
next_period m s f n xs r cycle e h = rw (add-one n, ← append_assoc, ← e) h

-- one place more of a list is written
pub next_written : {X : Type 0} (xs : List X) (n i : ℕ) (y : X) → i ≡ n → n < length xs → take (n + 1) (set xs i y) ≡ take n xs ++ (y ∷ [])
next_written xs n i y e low = rw e (take_more_set xs n y low)

-- the last element of a list is written over
pub last_written : {X : Type 0} (xs : List X) (x y : X) (i : ℕ) → i ≡ length xs → set (xs ++ (x ∷ [])) i y ≡ xs ++ (y ∷ [])
last_written xs x y i e = rw e (set-append_seam xs x [] y)

-- two lists that are the same from a place on are so from each later one on
pub same_later : {X : Type 0} (xs ys : List X) (n k : ℕ) → n ≤ k → drop n xs ≡ drop n ys → drop k xs ≡ drop k ys
same_later xs ys n k le e =
    let there : n + (k - n) ≡ k = omega (arith, le) in
    ap (λ (i : ℕ). drop i xs) (sym there) ∙ sym (drop-drop (k - n) n xs) ∙ ap (drop (k - n)) e ∙ drop-drop (k - n) n ys ∙ ap (λ (i : ℕ). drop i ys) there

-- before the first channel
pub dealt_none : (m : ℕ) (cs : List Channel) → DealtTo m cs 0 [] 1 (Some 1)
dealt_none m cs = record {
  next = refl;
  deals = λ i h. absurd (omega (arith, h));
  many = refl;
  lists = λ i h. absurd (omega (arith, h));
  together = (lcm_all_none, omega arith, omega arith);
}

-- an element of a list with one more at the end
pushed : {X : Type 0} (xs : List X) (y d : X) (i n : ℕ) → length xs ≡ n → i < n → get_or (xs ++ (y ∷ [])) i d ≡ get_or xs i d
pushed xs y d i n many low = get_or_append_left xs (y ∷ []) d i (omega (arith, many, low))

-- one channel more
pub dealt_more : (m : ℕ) (cs : List Channel) (k : ℕ) (all : List (List Subchannel)) (xs : List Subchannel) (first : ℕ) (period : Option ℕ) (q : Progress) → DealtTo m cs k all first period → Takes m (count_at cs k) (begins m cs k) → OneDealt m (count_at cs k) (begins m cs k) period (take (count_at cs k) xs) q → DealtTo m cs (k + 1) (all ++ (xs ∷ [])) q.first q.period
dealt_more m cs k all xs first period q h t d = record {
  next = rw (add-one k) d.next;
  deals = below_more _ _ h.deals (t, omega (arith, d.next, q.in_range));
  many = length_push all xs ∙ ap (λ (x : ℕ). x + 1) h.many;
  lists =
      below_more _ _ (λ i low. ap (take (count_at cs i)) (pushed all xs [] i k h.many low) ∙ h.lists i low)
      (ap (take (count_at cs k)) (get_or_push all xs [] k h.many) ∙ d.subchannels);
  together = rw (add-one k) (d.together (cycles m cs k) h.together);
}

-- the same, from what the code has: the progress so far says where the channel begins
pub dealt_next : (m : ℕ) (cs : List Channel) (k s : ℕ) (all : List (List Subchannel)) (xs : List Subchannel) (delay first : ℕ) (period : Option ℕ) (q : Progress) → delay ≡ m → s ≡ count_at cs k → DealtTo m cs k all first period → Takes delay s first → OneDealt delay s first period (take s xs) q → DealtTo m cs (k + 1) (all ++ (xs ∷ [])) q.first q.period
dealt_next m cs k s all xs delay first period q at count h t d =
    dealt_more m cs k all xs first period q h (rw (← count, ← h.next, ← at) t) (rw (← count, ← h.next, ← at) d)

-- how many subchannels a channel has, and each of them
pub many_of : (m s f n : ℕ) → length (subchannels_of m s f n) ≡ n
many_of m s f zero = refl
many_of m s f (suc n) = length_push (subchannels_of m s f n) _ ∙ ap (λ (x : ℕ). x + 1) (many_of m s f n) ∙ add-one n

pub subchannel_of : (m s f n j : ℕ) (d : Subchannel) → j < n → get_or (subchannels_of m s f n) j d ≡ record { first = first_of m s f j; pages = share_of m s f j }
subchannel_of m s f zero j d low = absurd (omega (arith, low))
subchannel_of m s f (suc n) j d low =
    elim (cases_lt j n) [
      | inl less ↦ pushed (subchannels_of m s f n) _ d j n (many_of m s f n) less ∙ subchannel_of m s f n j d less
      | inr more ↦
          let e : n ≡ j = omega arith in
          get_or_push (subchannels_of m s f n) _ d j (many_of m s f n ∙ e) ∙ ap (λ (x : ℕ). record { first = first_of m s f x; pages = share_of m s f x }) e
    ]

-- how many channels have been dealt their subchannels, and those of each
pub many_laid : (m : ℕ) (cs : List Channel) (k : ℕ) → length (laid m cs k) ≡ k
many_laid m cs zero = refl
many_laid m cs (suc k) = length_push (laid m cs k) _ ∙ ap (λ (x : ℕ). x + 1) (many_laid m cs k) ∙ add-one k

pub channel_laid : (m : ℕ) (cs : List Channel) (n k : ℕ) (d : List Subchannel) → k < n → get_or (laid m cs n) k d ≡ subchannels_of m (count_at cs k) (begins m cs k) (count_at cs k)
channel_laid m cs zero k d low = absurd (omega (arith, low))
channel_laid m cs (suc n) k d low =
    elim (cases_lt k n) [
      | inl less ↦ pushed (laid m cs n) _ d k n (many_laid m cs n) less ∙ channel_laid m cs n k d less
      | inr more ↦
          let e : n ≡ k = omega arith in
          get_or_push (laid m cs n) _ d k (many_laid m cs n ∙ e) ∙ ap (λ (x : ℕ). subchannels_of m (count_at cs x) (begins m cs x) (count_at cs x)) e
    ]

-- lists that hold the subchannels of their channels and no others begin with them
pub filled_begins : (m : ℕ) (cs : List Channel) (n : ℕ) (lists : List (List Subchannel)) → lists ≡ map filled (laid m cs n) → Laid m cs n lists
filled_begins m cs n lists e i low =
    let s : ℕ = count_at cs i in
    let own : List Subchannel = subchannels_of m s (begins m cs i) s in
    ap (λ (all : List (List Subchannel)). take s (get_or all i [])) e
    ∙ ap (take s) (get_or-map filled (laid m cs n) i [] [] (omega (arith, low, many_laid m cs n)))
    ∙ ap (λ (l : List Subchannel). take s (filled l)) (channel_laid m cs n i [] low)
    ∙ take_at own _ s (many_of m s (begins m cs i) s)

-- a list that was blank, begins with the subchannels of a channel and is otherwise as it was holds these and no others
filled_of : (m s f : ℕ) (before xs : List Subchannel) → before ≡ replicate 32 (record { first = 0; pages = 0 }) → take s xs ≡ subchannels_of m s f s → drop s xs ≡ drop s before → xs ≡ filled (subchannels_of m s f s)
filled_of m s f before xs blank begun rest =
    let none : Subchannel = record { first = 0; pages = 0 } in
    sym (take-append-drop s xs)
    ∙ ap (λ (l : List Subchannel). l ++ drop s xs) begun
    ∙ ap (λ (l : List Subchannel). subchannels_of m s f s ++ l)
    (rest ∙ ap (drop s) blank ∙ drop-replicate s 32 none ∙ ap (λ (n : ℕ). replicate (32 - n) none) (sym (many_of m s f s)))

-- one list more of those that hold the subchannels of their channels and no others
pub filled_next : (m : ℕ) (cs : List Channel) (k s : ℕ) (all : List (List Subchannel)) (before xs : List Subchannel) (delay first : ℕ) → delay ≡ m → s ≡ count_at cs k → first ≡ begins m cs k → all ≡ map filled (laid m cs k) → before ≡ replicate 32 (record { first = 0; pages = 0 }) → take s xs ≡ subchannels_of delay s first s → drop s xs ≡ drop s before → all ++ (xs ∷ []) ≡ map filled (laid m cs (k + 1))
filled_next m cs k s all before xs delay first at count begun h blank taken rest =
    let own : xs ≡ filled (subchannels_of m (count_at cs k) (begins m cs k) (count_at cs k)) = rw (← count, ← begun, ← at) (filled_of delay s first before xs blank taken rest) in
    rw (add-one k, h, own) (sym (map_push filled (laid m cs k) _))
