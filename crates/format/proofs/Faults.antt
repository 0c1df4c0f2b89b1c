-- From the parts of a file to the answer on the whole of it.
use Rattle.std.proofs.Common.{◌≡◌, ℕ, ◌+◌, ◌<◌, ◌≤◌, false, cond, ltb, List, [], ◌∷◌, ◌++◌, map, length, sym, refl, ap, ◌∙◌, subst, inr, ⊎_elim, append_assoc, arith, length-append, le-ltb}
use Rattle.std.proofs.lemmas.List.{length-map}
use Rattle.std.proofs.lemmas.Bool.{cases_Bool}
use Rattle.records.specs.Places.{Spans, Opens, Cuts}
use Rattle.records.proofs.Spanning.{spans_none, spans_join, spans_within, spans_opens}
use Rattle.records.specs.declared.fault.Fault.{Fault}
use Rattle.records.specs.declared.fault.Fault.TheVariants.{CutShort, UnknownKind, OutOfPlace, AfterEnd, TooLong, Memory}
use Rattle.records.specs.declared.kinds.Film.{Film}
use Rattle.records.specs.declared.kinds.Channel.{Channel}
use Rattle.records.specs.declared.kinds.Row.{Row}
use Rattle.records.specs.declared.kinds.Node.{Node}
use Rattle.records.specs.declared.kinds.Node.TheVariants.{Leaf, Inner}
use Rattle.records.specs.declared.kinds.Closure.{Closure}
use Rattle.format.specs.Items.{Part, channel, row, node, Item, film, part, closure, end, kind, size, bytes}
use Rattle.format.specs.Format.{Sort, pagoda, rows, tree, sort, most, Alike, Sheet, Lawful, records, encoded, Follows, Reached, Misplaced, Stands, cut_short, out_of_place, no_memory}
use Rattle.format.specs.Runs.{Run, RunFault}
use Rattle.format.specs.Steps.{Faulty, PartsAt}
use Rattle.format.proofs.Lists.{map_map, map_append, spans_items}
use Rattle.format.proofs.Stages.{Stage, start, opened, listing, closing, bad, role, closes, place, run, same, same_eq, same_role, stage_after, listing_stage, reached_stage, stuck}

long_of : (x : Item) → length (bytes x) ≡ 1 + size x
long_of (film x) = refl
long_of (part (channel x)) = refl
long_of (part (row x)) = refl
long_of (part (node (Leaf x))) = refl
long_of (part (node (Inner x))) = refl
long_of (closure x) = refl
long_of end = refl

-- a record that stands where none with its role may
pub misplaced : (file : List ℕ) (rs : List Item) (b : ℕ) (x : Item) (st : Stage) → run start rs ≡ st → place st (role x) ≡ bad → Stands file b x → Misplaced file rs b
misplaced file rs b x st e h s = record {
  like = x;
  whole = record { opens = spans_opens s; within = omega (arith, spans_within s, long_of x) };
  unfit = λ y k. stuck rs y st e (ap (place st) (same_role y x k) ∙ h);
}

full : (s : Sort) (p : Part) (n : ℕ) → sort p ≡ s → n ≡ most s → place (listing s n) (role (part p)) ≡ bad
full s p n e h =
    let f : ltb n (most s) ≡ false = le-ltb n (most s) (omega arith) in
    ⊎_elim
    (λ t. ap (λ b. cond b (cond (ltb n (most s)) (listing s (n + 1)) bad) bad) t ∙ ap (λ b. cond b (listing s (n + 1)) bad) f)
    (λ t. ap (λ b. cond b (cond (ltb n (most s)) (listing s (n + 1)) bad) bad) t)
    (cases_Bool (same s (sort p)))

most_some : (s : Sort) → 0 < most s
most_some pagoda = omega arith
most_some rows = omega arith
most_some tree = omega arith

alike_map : {X : Type 0} (K : X → Part) (s : Sort) → ((x : X) → sort (K x) ≡ s) → (xs : List X) → Alike s (map K xs)
alike_map K s h [] = tt
alike_map K s h (x ∷ xs) = (h x, alike_map K s h xs)

abbrev any_part : Part
any_part = channel (record { subchannels = 1 })

-- the records of a film and of plan records, which something follows
follows_parts : (f : Film) (s : Sort) (ps : List Part) → Alike s ps → length ps ≤ most s → (x : Item) × Follows (film f ∷ map part ps) x
follows_parts f s [] a w = (
  part any_part,
  record {
    sheet = record { opening = f; parts = any_part ∷ []; closed = [] };
    lawful = record { of = pagoda; alike = (refl, tt); some = omega arith; within = omega arith; few = omega arith };
    more = end ∷ [];
    same = refl;
  },
)
follows_parts f s (p ∷ ps) a w = (
  end,
  record {
    sheet = record { opening = f; parts = p ∷ ps; closed = [] };
    lawful = record { of = s; alike = a; some = omega arith; within = w; few = omega arith };
    more = [];
    same = refl;
  },
)

follows_closures : (f : Film) (s : Sort) (ps : List Part) (cs : List Closure) → Alike s ps → 0 < length ps → length ps ≤ most s → length cs ≤ 64 → Follows (film f ∷ (map part ps ++ map closure cs)) end
follows_closures f s ps cs a h w few = record {
  sheet = record { opening = f; parts = ps; closed = cs };
  lawful = record { of = s; alike = a; some = h; within = w; few = few };
  more = [];
  same = ap (λ l. film f ∷ l) (sym (append_assoc (map part ps) (map closure cs) (end ∷ [])));
}

-- a film may come first
pub reached_none : (file : List ℕ) → Reached file [] 0
reached_none file =
    let f : Film = record { delay = 1; pages = 1; channels = 1 } in
    record {
      spans = spans_none file 0;
      next = film f;
      follows = record {
        sheet = record { opening = f; parts = any_part ∷ []; closed = [] };
        lawful = record { of = pagoda; alike = (refl, tt); some = omega arith; within = omega arith; few = omega arith };
        more = part any_part ∷ end ∷ [];
        same = refl;
      };
    }

-- what is no film cannot come first
pub not_first : (file : List ℕ) → (Opens file 0 1 → ⊥) → (x : Item) → Opens file 0 (kind x) → Follows [] x → ⊥
not_first file o (film x) h = absurd (o h)
not_first file o (part p) h = stuck [] (part p) start refl refl
not_first file o (closure x) h = stuck [] (closure x) start refl refl
not_first file o end h = stuck [] end start refl refl

pub film_cut : (file : List ℕ) → length file ≤ 32768 → Cuts file 0 1 5 → Faulty file (CutShort 0)
film_cut file h c = cut_short 0 [] h (reached_none file) (inr (film (record { delay = 1; pages = 1; channels = 1 }), c))

-- a list of plan records of one sort
module _ (file : List ℕ) (a : ℕ) {X : Type 0} (K : X → Part) (s : Sort) (one : (x : X) → sort (K x) ≡ s) where
  as_parts : {b : ℕ} (xs : List X) → Spans file a b (encoded (map (λ x. part (K x)) xs)) → Spans file a b (encoded (map part (map K xs)))
  as_parts {b} xs sp = subst (λ l. Spans file a b (encoded l)) (map_map part K xs) sp

  pub run_parts : (e : ℕ) (xs : List X) → Run (λ x. part (K x)) file a (most s) e xs → 0 < length xs → ((p : Part) → sort p ≡ s → (x : X) × (K x ≡ p)) → PartsAt file a e (map K xs)
  run_parts e xs r h all = record {
    of = s;
    spans = as_parts xs r.spans;
    alike = alike_map K s one xs;
    some = omega (arith, length-map xs K);
    within = omega (arith, length-map xs K, r.within);
    stops = λ p is o. let x = all p is in r.stops x.0 (subst (λ p. Opens file e (kind (part p))) (sym x.1) o);
  }

module _ (file : List ℕ) (f : Film) (short : length file ≤ 32768) (a : ℕ) (first : Spans file 0 a (bytes (film f))) where
  pub reached_parts : (s : Sort) (ps : List Part) (b : ℕ) → Alike s ps → length ps ≤ most s → Spans file a b (encoded (map part ps)) → Reached file (film f ∷ map part ps) b
  reached_parts s ps b al w sp =
      let next = follows_parts f s ps al w in
      record { spans = spans_join first sp; next = next.0; follows = next.1 }

  -- a fault among the plan records of one sort
  module _ {X : Type 0} (K : X → Part) (s : Sort) (one : (x : X) → sort (K x) ≡ s) where
    some_parts : {b : ℕ} (xs : List X) → length xs ≤ most s → Spans file a b (encoded (map (λ x. part (K x)) xs)) → Reached file (film f ∷ map part (map K xs)) b
    some_parts xs w sp = reached_parts s (map K xs) _ (alike_map K s one xs) (omega (arith, length-map xs K)) (as_parts file a K s one xs sp)

    pub run_faulty : (e : Fault) → RunFault (λ x. part (K x)) file a (most s) e → Faulty file e
    run_faulty (CutShort b) r =
        cut_short b _ short (some_parts r.0 r.2.within r.2.spans) (inr (part (K r.1), r.2.cuts))
    run_faulty (OutOfPlace b) r =
        let xs = r.0 in
        let n = length-map xs K in
        let top = most_some s in
        let stage = listing_stage s (map K xs) (alike_map K s one xs) (omega (arith, r.3)) (omega (arith, r.3)) in
        out_of_place b _ short (some_parts xs (omega (arith, r.3)) r.2.spans)
        (misplaced file _ b (part (K r.1)) _ stage (full s (K r.1) _ (one r.1) (omega (arith, r.3))) r.2.stands)
    run_faulty Memory r =
        let xs = r.1 in
        let x = r.2 in
        let e : map part (map K (xs ++ x ∷ [])) ≡ map part (map K xs) ++ (part (K x) ∷ []) = ap (map part) (map_append K xs (x ∷ [])) ∙ map_append part (map K xs) (K x ∷ []) in
        let n = length-map (xs ++ x ∷ []) K in
        let m = length-append xs (x ∷ []) in
        no_memory r.0 (film f ∷ map part (map K xs)) (part (K x)) short (record {
          spans = spans_join first (as_parts file a K s one xs r.3.spans);
          stands = r.3.stands;
          follows = record {
            sheet = record { opening = f; parts = map K (xs ++ x ∷ []); closed = [] };
            lawful = record { of = s; alike = alike_map K s one (xs ++ x ∷ []); some = omega arith; within = omega (arith, r.4); few = omega arith };
            more = end ∷ [];
            same = ap (λ l. film f ∷ (l ++ (end ∷ []))) e ∙ ap (λ l. film f ∷ l) (append_assoc (map part (map K xs)) (part (K x) ∷ []) (end ∷ []));
          };
        })
    run_faulty (UnknownKind b) r = absurd r
    run_faulty (AfterEnd b) r = absurd r
    run_faulty TooLong r = absurd r

  -- after plan records of one sort
  module _ (ps : List Part) (m : ℕ) (at : PartsAt file a m ps) where
    reached_closures : (cs : List Closure) (b : ℕ) → length cs ≤ 64 → Spans file m b (encoded (map closure cs)) → Reached file (film f ∷ (map part ps ++ map closure cs)) b
    reached_closures cs b few sp = record {
      spans = spans_join first (spans_items (map part ps) (map closure cs) at.spans sp);
      next = end;
      follows = follows_closures f at.of ps cs at.alike at.some at.within few;
    }

    stage_of : (cs : List Closure) → length cs ≤ 64 → run start (film f ∷ (map part ps ++ map closure cs)) ≡ stage_after at.of (length ps) cs
    stage_of cs few = reached_stage at.of ps cs at.alike at.some at.within few

    closures_full : (n : ℕ) (cs : List Closure) (x : Closure) → length cs ≡ 64 → place (stage_after at.of n cs) closes ≡ bad
    closures_full n [] x h = absurd (omega arith)
    closures_full n (y ∷ cs) x h = ap (λ b. cond b (closing (length (y ∷ cs) + 1)) bad) (le-ltb (length (y ∷ cs)) 64 (omega arith))

    pub closures_faulty : (e : Fault) → RunFault closure file m 64 e → Faulty file e
    closures_faulty (CutShort b) r =
        cut_short b _ short (reached_closures r.0 b r.2.within r.2.spans) (inr (closure r.1, r.2.cuts))
    closures_faulty (OutOfPlace b) r =
        let few : length r.0 ≤ 64 = omega (arith, r.3) in
        out_of_place b _ short (reached_closures r.0 b few r.2.spans)
        (misplaced file _ b (closure r.1) _ (stage_of r.0 few) (closures_full (length ps) r.0 r.1 r.3) r.2.stands)
    closures_faulty Memory r =
        let cs = r.1 in
        let x = r.2 in
        let sh : Sheet = record { opening = f; parts = ps; closed = cs ++ x ∷ [] } in
        let e : map closure (cs ++ x ∷ []) ++ (end ∷ []) ≡ map closure cs ++ (closure x ∷ end ∷ []) = ap (λ l. l ++ (end ∷ [])) (map_append closure cs (x ∷ [])) ∙ append_assoc (map closure cs) (closure x ∷ []) (end ∷ []) in
        no_memory r.0 (film f ∷ (map part ps ++ map closure cs)) (closure x) short (record {
          spans = spans_join first (spans_items (map part ps) (map closure cs) at.spans r.3.spans);
          stands = r.3.stands;
          follows = record {
            sheet = sh;
            lawful = record { of = at.of; alike = at.alike; some = at.some; within = at.within; few = omega (arith, r.4, length-append cs (x ∷ [])) };
            more = end ∷ [];
            same = ap (λ l. film f ∷ l) (ap (λ l. map part ps ++ l) e ∙ sym (append_assoc (map part ps) (map closure cs) (closure x ∷ end ∷ [])));
          };
        })
    closures_faulty (UnknownKind b) r = absurd r
    closures_faulty (AfterEnd b) r = absurd r
    closures_faulty TooLong r = absurd r

    off_listing : (n b : ℕ) → b ≡ m → (p : Part) → Opens file b (kind (part p)) → place (listing at.of n) (role (part p)) ≡ bad
    off_listing n b e p o =
        ⊎_elim
        (λ t. absurd (at.stops p (same_eq at.of (sort p) t) (subst (λ b. Opens file b (kind (part p))) e o)))
        (λ t. ap (λ b. cond b (cond (ltb n (most at.of)) (listing at.of (n + 1)) bad) bad) t)
        (cases_Bool (same at.of (sort p)))

    -- where no closure and no end stands
    off_stage : (cs : List Closure) (n b : ℕ) → Spans file m b (encoded (map closure cs)) → (Opens file b 6 → ⊥) → (Opens file b 0 → ⊥) → (x : Item) → Opens file b (kind x) → place (stage_after at.of n cs) (role x) ≡ bad
    off_stage [] n b sp c e (film x) o = refl
    off_stage [] n b sp c e (part p) o = off_listing n b (omega (arith, sp.ends)) p o
    off_stage [] n b sp c e (closure x) o = absurd (c o)
    off_stage [] n b sp c e end o = absurd (e o)
    off_stage (y ∷ cs) n b sp c e (film x) o = refl
    off_stage (y ∷ cs) n b sp c e (part p) o = refl
    off_stage (y ∷ cs) n b sp c e (closure x) o = absurd (c o)
    off_stage (y ∷ cs) n b sp c e end o = absurd (e o)

    module _ (cs : List Closure) (b : ℕ) (r : Run closure file m 64 b cs) where
      pub reached_end : Reached file (film f ∷ (map part ps ++ map closure cs)) b
      reached_end = reached_closures cs b r.within r.spans

      pub not_last : (Opens file b 0 → ⊥) → (x : Item) → Opens file b (kind x) → Follows (film f ∷ (map part ps ++ map closure cs)) x → ⊥
      not_last none x o =
          stuck _ x _ (stage_of cs r.within) (off_stage cs (length ps) b r.spans (λ h. r.stops (record { channel = 0; slot = 0 }) h) none x o)

      pub end_cut : Cuts file b 0 0 → Faulty file (CutShort b)
      end_cut c = cut_short b _ short reached_end (inr (end, c))

      abbrev pub whole_sheet : Sheet
      whole_sheet = record { opening = f; parts = ps; closed = cs }

      pub whole_lawful : Lawful whole_sheet
      whole_lawful = record { of = at.of; alike = at.alike; some = at.some; within = at.within; few = r.within }

      pub whole_spans : (e : ℕ) → Spans file b e (0 ∷ []) → Spans file 0 e (encoded (records whole_sheet))
      whole_spans e sp =
          spans_join first (spans_items (map part ps) (map closure cs ++ (end ∷ [])) at.spans (spans_items (map closure cs) (end ∷ []) r.spans sp))

-- where no plan record of any sort stands after the film
pub not_part : (file : List ℕ) (a : ℕ) → ((p : Part) → Opens file a (kind (part p)) → ⊥) → (f : Film) (x : Item) → Opens file a (kind x) → Follows (film f ∷ []) x → ⊥
not_part file a none f (film x) o = stuck (film f ∷ []) (film x) opened refl refl
not_part file a none f (part p) o = absurd (none p o)
not_part file a none f (closure x) o = stuck (film f ∷ []) (closure x) opened refl refl
not_part file a none f end o = stuck (film f ∷ []) end opened refl refl

pub a_channel : (p : Part) → sort p ≡ pagoda → (x : Channel) × (channel x ≡ p)
a_channel (channel x) e = (x, refl)
a_channel (row x) e = let z : ◌≡◌ {A = ℕ} 0 1 = cc in absurd (omega arith)
a_channel (node x) e = let z : ◌≡◌ {A = ℕ} 0 1 = cc in absurd (omega arith)

pub a_row : (p : Part) → sort p ≡ rows → (x : Row) × (row x ≡ p)
a_row (channel x) e = let z : ◌≡◌ {A = ℕ} 0 1 = cc in absurd (omega arith)
a_row (row x) e = (x, refl)
a_row (node x) e = let z : ◌≡◌ {A = ℕ} 0 1 = cc in absurd (omega arith)

pub a_node : (p : Part) → sort p ≡ tree → (x : Node) × (node x ≡ p)
a_node (channel x) e = let z : ◌≡◌ {A = ℕ} 0 1 = cc in absurd (omega arith)
a_node (row x) e = let z : ◌≡◌ {A = ℕ} 0 1 = cc in absurd (omega arith)
a_node (node x) e = (x, refl)

-- a list of none: no such record begins there
pub empty_run : {X : Type 0} (item : X → Item) (file : List ℕ) (a top e : ℕ) (xs : List X) → Run item file a top e xs → length xs ≡ 0 → (x : X) → Opens file a (kind (item x)) → ⊥
empty_run item file a top e [] r h x o = r.stops x (subst (λ b. Opens file b (kind (item x))) (omega (arith, r.spans.ends)) o)
empty_run item file a top e (y ∷ xs) r h x o = omega arith

-- no plan record of any sort
pub no_part : (file : List ℕ) (a : ℕ) → ((x : Channel) → Opens file a (kind (part (channel x))) → ⊥) → ((x : Row) → Opens file a (kind (part (row x))) → ⊥) → ((x : Node) → Opens file a (kind (part (node x))) → ⊥) → (p : Part) → Opens file a (kind (part p)) → ⊥
no_part file a c r n (channel x) = c x
no_part file a c r n (row x) = r x
no_part file a c r n (node x) = n x
