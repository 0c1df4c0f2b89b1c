-- A file has one answer, but for want of memory.
use Rattle.std.proofs.Common.{◌≡◌, ℕ, ◌+◌, ◌<◌, ◌≤◌, cond, eqb, ◌⊎◌, List, [], ◌∷◌, ◌++◌, length, get_or, drop, Ok, Err, Result, sym, refl, ap, ◌∙◌, subst, inl, inr, ⊎_elim, append_assoc, append-nil, add-zero, arith, length-append, length-drop}
use Rattle.std.proofs.lemmas.List.{drop_all, get_or-drop}
use Rattle.records.specs.Faults.{told}
use Rattle.records.specs.Places.{Spans, Opens}
use Rattle.records.specs.declared.fault.Fault.{Fault}
use Rattle.records.specs.declared.fault.Fault.TheVariants.{CutShort, UnknownKind, OutOfPlace, AfterEnd, TooLong, Memory}
use Rattle.format.specs.declared.plan.Plan.{Plan}
use Rattle.format.specs.Items.{Item, kind, size, bytes}
use Rattle.format.specs.Format.{Sheet, Lawful, records, encoded, Follows, Reached, Ends, NoKind, Misplaced, Refused, too_long, cut_short, unknown_kind, out_of_place, after_end, no_memory}
use Rattle.format.specs.Answers.{sheet, Answers, Agree}
use Rattle.format.proofs.Stages.{over, lawful_over, stuck}
use Rattle.format.proofs.Codes.{body_long, same_size, Longer, compared, same_sheet, lawful_short}

-- rs begin some lawful plan
pub record Begins (rs : List Item) : Type 0 where
  pub whole : Sheet
  pub lawful : Lawful whole
  pub more : List Item
  pub same : records whole ≡ rs ++ more

-- nothing follows a whole plan
none_after : (s : Sheet) → Lawful s → (x : Item) → Follows (records s) x → ⊥
none_after s l x = stuck (records s) x over (lawful_over s l) refl

-- a record of a list that begins a plan follows those before it
follows_next : (rs ts : List Item) (t : List ℕ) → Begins rs → (p : Longer rs ts t) → Follows ts p.next
follows_next rs ts t b p = record {
  sheet = b.whole;
  lawful = b.lawful;
  more = p.more ++ b.more;
  same = b.same ∙ ap (λ l. l ++ b.more) p.same ∙ append_assoc ts (p.next ∷ p.more) b.more;
}

module _ (file : List ℕ) where
  -- a record that stands at b
  module _ (b : ℕ) (y : Item) (t : List ℕ) (there : drop b file ≡ bytes y ++ t) where
    reach : b + 1 + size y ≤ length file
    reach = omega (arith, ap length there, length-append (bytes y) t, length-drop b file, body_long y)

    opens_there : Opens file b (kind y)
    opens_there = record {
      within = omega (arith, reach);
      kind = ap (λ n. get_or file n 0) (sym (add-zero b)) ∙ sym (get_or-drop b file 0 0) ∙ ap (λ l. get_or l 0 0) there;
    }

  -- reading stops at b, after the records rs: none that may follow them stands there
  pub record Halt (rs : List Item) (b : ℕ) : Type 0 where
    pub spans : Spans file 0 b (encoded rs)
    pub begins : Begins rs
    pub none : (y : Item) (t : List ℕ) → drop b file ≡ bytes y ++ t → Follows rs y → ⊥

  -- it stops at one place alone
  one_halt : {rs ts : List Item} {b d : ℕ} → Halt rs b → Halt ts d → rs ≡ ts
  one_halt {rs} {ts} {b} {d} h k =
      ⊎_elim
      (λ e. e)
      (⊎_elim
      (λ p. absurd (k.none p.next p.rest p.there (follows_next rs ts _ h.begins p)))
      (λ p. absurd (h.none p.next p.rest p.there (follows_next ts rs _ k.begins p))))
      (compared rs ts (drop b file) (drop d file) (sym h.spans.reads ∙ k.spans.reads))

  same_place : {rs ts : List Item} {b d : ℕ} → Spans file 0 b (encoded rs) → Spans file 0 d (encoded ts) → rs ≡ ts → b ≡ d
  same_place s t e = s.ends ∙ ap (λ l. 0 + length (encoded l)) e ∙ sym t.ends

  begins_with : {rs : List Item} {b : ℕ} → Reached file rs b → Begins rs
  begins_with r = record { whole = r.follows.sheet; lawful = r.follows.lawful; more = r.next ∷ r.follows.more; same = r.follows.same }

  ends_none : (b : ℕ) → Ends file b → (y : Item) (t : List ℕ) → drop b file ≡ bytes y ++ t → ⊥
  ends_none b (inl past) y t e = omega (arith, reach b y t e)
  ends_none b (inr cut) y t e =
      let k : kind y ≡ kind cut.0 = sym (opens_there b y t e).kind ∙ cut.1.opens.kind in
      omega (arith, reach b y t e, cut.1.short, same_size y cut.0 k)

  ends_halt : {rs : List Item} {b : ℕ} → Reached file rs b → Ends file b → Halt rs b
  ends_halt {rs} {b} r h = record { spans = r.spans; begins = begins_with r; none = λ y t e f. ends_none b h y t e }

  kind_halt : {rs : List Item} {b : ℕ} → Reached file rs b → NoKind file b → Halt rs b
  kind_halt {rs} {b} r h = record { spans = r.spans; begins = begins_with r; none = λ y t e f. h.none y (opens_there b y t e) }

  misplaced_halt : {rs : List Item} {b : ℕ} → Reached file rs b → Misplaced file rs b → Halt rs b
  misplaced_halt {rs} {b} r h = record {
    spans = r.spans;
    begins = begins_with r;
    none = λ y t e. h.unfit y (sym (opens_there b y t e).kind ∙ h.whole.opens.kind);
  }

  whole_halt : {s : Sheet} {b : ℕ} → Lawful s → Spans file 0 b (encoded (records s)) → Halt (records s) b
  whole_halt {s} {b} l sp = record {
    spans = sp;
    begins = record { whole = s; lawful = l; more = []; same = sym (append-nil (records s)) };
    none = λ y t e. none_after s l y;
  }

  -- what is found at the place where reading stops, by its number: an end, no kind, a record out of place, bytes after a whole plan
  pub data Why (rs : List Item) (b : ℕ) : ℕ → Type 0 where
    ends : Reached file rs b → Ends file b → Why rs b 41
    unknown : Reached file rs b → NoKind file b → Why rs b 42
    misplaced : Reached file rs b → Misplaced file rs b → Why rs b 43
    past : (s : Sheet) → Lawful s → records s ≡ rs → Spans file 0 b (encoded rs) → b < length file → Why rs b 44

  why_halt : {rs : List Item} {b k : ℕ} → Why rs b k → Halt rs b
  why_halt (ends r h) = ends_halt r h
  why_halt (unknown r h) = kind_halt r h
  why_halt (misplaced r h) = misplaced_halt r h
  why_halt {b = b} (past s l e sp h) = subst (λ rs. Halt rs b) e (whole_halt l (subst (λ rs. Spans file 0 b (encoded rs)) (sym e) sp))

  ends_known : (b : ℕ) → Ends file b → NoKind file b → ⊥
  ends_known b (inl p) n = omega (arith, n.within)
  ends_known b (inr cut) n = n.none cut.0 cut.1.opens

  ends_whole : (rs : List Item) (b : ℕ) → Ends file b → Misplaced file rs b → ⊥
  ends_whole rs b (inl p) m = omega (arith, m.whole.opens.within)
  ends_whole rs b (inr cut) m =
      omega (arith, cut.1.short, m.whole.within, same_size cut.0 m.like (sym cut.1.opens.kind ∙ m.whole.opens.kind))

  known_whole : (rs : List Item) (b : ℕ) → NoKind file b → Misplaced file rs b → ⊥
  known_whole rs b n m = n.none m.like m.whole.opens

  past_over : (rs : List Item) (b : ℕ) (s : Sheet) → Lawful s → records s ≡ rs → Reached file rs b → ⊥
  past_over rs b s l e r = none_after s l r.next (subst (λ rs. Follows rs r.next) (sym e) r.follows)

  one_why : {rs : List Item} {b k n : ℕ} → Why rs b k → Why rs b n → k ≡ n
  one_why (ends r h) (ends q g) = refl
  one_why {b = b} (ends r h) (unknown q g) = absurd (ends_known b h g)
  one_why {rs} {b} (ends r h) (misplaced q g) = absurd (ends_whole rs b h g)
  one_why {rs} {b} (ends r h) (past s l e sp g) = absurd (past_over rs b s l e r)
  one_why {b = b} (unknown r h) (ends q g) = absurd (ends_known b g h)
  one_why (unknown r h) (unknown q g) = refl
  one_why {rs} {b} (unknown r h) (misplaced q g) = absurd (known_whole rs b h g)
  one_why {rs} {b} (unknown r h) (past s l e sp g) = absurd (past_over rs b s l e r)
  one_why {rs} {b} (misplaced r h) (ends q g) = absurd (ends_whole rs b g h)
  one_why {rs} {b} (misplaced r h) (unknown q g) = absurd (known_whole rs b g h)
  one_why (misplaced r h) (misplaced q g) = refl
  one_why {rs} {b} (misplaced r h) (past s l e sp g) = absurd (past_over rs b s l e r)
  one_why {rs} {b} (past s l e sp h) (ends q g) = absurd (past_over rs b s l e q)
  one_why {rs} {b} (past s l e sp h) (unknown q g) = absurd (past_over rs b s l e q)
  one_why {rs} {b} (past s l e sp h) (misplaced q g) = absurd (past_over rs b s l e q)
  one_why (past s l e sp h) (past t m d sq g) = refl

  -- a refusal: want of memory, a file that is too long, or a place where reading stops
  pub data Shape : ℕ → List ℕ → Type 0 where
    memory : Shape 0 []
    long : 32768 < length file → Shape 46 (0 ∷ [])
    stops : (rs : List Item) (b k : ℕ) → length file ≤ 32768 → Why rs b k → Shape k (b ∷ [])

  shape : {k : ℕ} {vs : List ℕ} → Refused file k vs → Shape k vs
  shape (too_long h) = long h
  shape (cut_short b rs h r e) = stops rs b 41 h (ends r e)
  shape (unknown_kind b rs h r e) = stops rs b 42 h (unknown r e)
  shape (out_of_place b rs h r e) = stops rs b 43 h (misplaced r e)
  shape (after_end b s h l sp e) = stops (records s) b 44 h (past s l refl sp e)
  shape (no_memory b rs x h f) = memory

  agree_why : {rs ts : List Item} {b d k n : ℕ} → Why rs b k → Why ts d n → (k ≡ n) × (b ≡ d)
  agree_why {rs} {ts} {b} {d} {k} {n} v w =
      let e = one_halt (why_halt v) (why_halt w) in
      let p = same_place (why_halt v).spans (why_halt w).spans e in
      (one_why v (subst (λ b. Why rs b n) (sym p) (subst (λ ts. Why ts d n) (sym e) w)), p)

  same_shape : {k n : ℕ} {vs ws : List ℕ} → Shape k vs → Shape n ws → ((k ≡ n) × (vs ≡ ws)) ⊎ ((k ≡ 0) ⊎ (n ≡ 0))
  same_shape memory w = inr (inl refl)
  same_shape (long h) memory = inr (inr refl)
  same_shape (long h) (long g) = inl (refl, refl)
  same_shape (long h) (stops rs b k g w) = absurd (omega arith)
  same_shape (stops rs b k h v) memory = inr (inr refl)
  same_shape (stops rs b k h v) (long g) = absurd (omega arith)
  same_shape (stops rs b k h v) (stops ts d n g w) = let p = agree_why v w in inl (p.0, ap (λ b. b ∷ []) p.1)

  pub same_refusal : {k n : ℕ} {vs ws : List ℕ} → Refused file k vs → Refused file n ws → ((k ≡ n) × (vs ≡ ws)) ⊎ ((k ≡ 0) ⊎ (n ≡ 0))
  same_refusal r s = same_shape (shape r) (shape s)

  -- the bytes of a lawful plan
  module _ (s : Sheet) (l : Lawful s) (is : file ≡ encoded (records s)) where
    all_spans : Spans file 0 (length file) (encoded (records s))
    all_spans = record {
      reads = is ∙ sym (append-nil (encoded (records s))) ∙ ap (λ l. encoded (records s) ++ l) (sym (drop_all (length file) file (omega arith)));
      ends = ap length is ∙ (omega arith);
    }

    not_why : {rs : List Item} {b k : ℕ} → Why rs b k → ⊥
    not_why {rs} {b} {k} (past t m d sp g) =
        let h = why_halt {k = 44} (past t m d sp g) in
        let p = same_place h.spans all_spans (one_halt h (whole_halt l all_spans)) in
        omega arith
    not_why {rs} {b} (ends r g) = past_over rs b s l (sym (one_halt (ends_halt r g) (whole_halt l all_spans))) r
    not_why {rs} {b} (unknown r g) = past_over rs b s l (sym (one_halt (kind_halt r g) (whole_halt l all_spans))) r
    not_why {rs} {b} (misplaced r g) = past_over rs b s l (sym (one_halt (misplaced_halt r g) (whole_halt l all_spans))) r

    not_shape : {k : ℕ} {vs : List ℕ} → Shape k vs → k ≡ 0
    not_shape memory = refl
    not_shape (long h) = absurd (omega (arith, ap length is, lawful_short s l))
    not_shape (stops rs b k h w) = absurd (not_why w)

    -- they are refused for want of memory alone
    pub unrefused : {k : ℕ} {vs : List ℕ} → Refused file k vs → k ≡ 0
    unrefused r = not_shape (shape r)

  -- and they are one plan's
  pub one_sheet : (s t : Sheet) → Lawful s → Lawful t → file ≡ encoded (records s) → file ≡ encoded (records t) → s ≡ t
  one_sheet s t l m e d = same_sheet s t (one_halt (whole_halt l (all_spans s l e)) (whole_halt m (all_spans t m d)))

-- a fault is told by its number and values
abbrev untold : ℕ → List ℕ → Fault
untold k vs =
    let b = get_or vs 0 0 in
    cond (eqb k 41) (CutShort b) (cond (eqb k 42) (UnknownKind b) (cond (eqb k 43) (OutOfPlace b) (cond (eqb k 44) (AfterEnd b) (cond (eqb k 46) TooLong Memory))))

untolds : (f : Fault) → untold (told f).0 (told f).1 ≡ f
untolds (CutShort b) = refl
untolds (UnknownKind b) = refl
untolds (OutOfPlace b) = refl
untolds (AfterEnd b) = refl
untolds TooLong = refl
untolds Memory = refl

same_fault : (f g : Fault) → (told f).0 ≡ (told g).0 → (told f).1 ≡ (told g).1 → f ≡ g
same_fault f g k vs = sym (untolds f) ∙ (λ i. untold (k i) (vs i)) ∙ untolds g

pub is_memory : (f : Fault) → (told f).0 ≡ 0 → f ≡ Memory
is_memory (CutShort b) e = absurd (omega arith)
is_memory (UnknownKind b) e = absurd (omega arith)
is_memory (OutOfPlace b) e = absurd (omega arith)
is_memory (AfterEnd b) e = absurd (omega arith)
is_memory TooLong e = absurd (omega arith)
is_memory Memory e = refl

pub only : (file : List ℕ) (r s : Result Plan Fault) → Answers file r → Answers file s → Agree r s
only file (Ok p) (Ok q) a b = one_sheet file (sheet p) (sheet q) a.lawful b.lawful a.whole b.whole
only file (Ok p) (Err g) a b = is_memory g (unrefused file (sheet p) a.lawful a.whole b)
only file (Err f) (Ok q) a b = is_memory f (unrefused file (sheet q) b.lawful b.whole a)
only file (Err f) (Err g) a b =
    ⊎_elim
    (λ p. inl (same_fault f g p.0 p.1))
    (λ p. inr (⊎_elim (λ e. inl (is_memory f e)) (λ e. inr (is_memory g e)) p))
    (same_refusal file a b)
