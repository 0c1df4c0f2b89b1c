-- From the bytes of a plan to the answer on writing it, and that reading and writing undo each other.
use Rattle.std.proofs.Common.{◌≡◌, ℕ, ◌<◌, ◌⊎◌, List, [], ◌∷◌, ◌++◌, length, take, drop, Some, None, Option, Ok, Err, Result, ok_or, sym, refl, ap, ◌∙◌, subst, inl, inr, ⊎_elim, append-nil, arith, length-append, MatchResult}
use Rattle.std.proofs.lemmas.List.{take_at}
use Rattle.records.specs.Faults.{told}
use Rattle.records.specs.declared.fault.Fault.{Fault}
use Rattle.records.specs.declared.fault.Fault.TheVariants.{CutShort, UnknownKind, OutOfPlace, AfterEnd, TooLong, Memory}
use Rattle.format.specs.declared.fault.WriteFault.{WriteFault}
use Rattle.format.specs.declared.fault.WriteFault.TheVariants.{Unfit, NoRoom}
use Rattle.format.specs.declared.plan.Plan.{Plan}
use Rattle.format.specs.Items as items
use Rattle.format.specs.Items.{Item}
use Rattle.format.specs.Format.{Lawful, encoded, too_long}
use Rattle.format.specs.Answers.{sheet, file_of, Reads, Answers}
use Rattle.format.specs.Runs.{Unappended}
use Rattle.format.specs.Writing.{PutAll, told_write, Unwritten, unfit, no_room, no_memory, Wrote, Written, ReadsBack, WritesBack}
use Rattle.format.proofs.Codes.{Longer, compared, same_sheet}
use Rattle.format.proofs.Unique.{unrefused, one_sheet, is_memory}

-- bytes that are not made
pub not_made : (p : Plan) (room : ℕ) (f : Fault) → Unappended (file_of p) f → Unwritten p room (told f).0 (told f).1
not_made p room f (inl e) = subst (λ f. Unwritten p room (told f).0 (told f).1) (sym e) no_memory
not_made p room f (inr e) = subst (λ f. Unwritten p room (told f).0 (told f).1) (sym e.0) (unfit 46 (0 ∷ []) (too_long e.1))

not_longer : (rs ts : List Item) → Longer rs ts [] → ⊥
not_longer rs ts p = omega (arith, ap length p.there, length-append (items.bytes p.next) p.rest)

-- a list of records is told by its bytes
same_records : (rs ts : List Item) → encoded rs ≡ encoded ts → rs ≡ ts
same_records rs ts e =
    ⊎_elim
    (λ p. p)
    (⊎_elim (λ p. absurd (not_longer rs ts p)) (λ p. absurd (not_longer ts rs p)))
    (compared rs ts [] [] (append-nil (encoded rs) ∙ e ∙ sym (append-nil (encoded ts))))

-- a plan whose bytes read as a plan is lawful
pub lawful_if_read : (p q : Plan) → Reads (file_of p) q → Lawful (sheet p)
lawful_if_read p q r = subst Lawful (sym (same_sheet (sheet p) (sheet q) (same_records _ _ r.whole))) r.lawful

-- what putting the bytes of a plan that reads leaves
pub wrote_of : (p q : Plan) (bytes was now : List ℕ) (n : ℕ) → bytes ≡ file_of p → Reads (file_of p) q → PutAll bytes was now (Some n) → Wrote p was now n
wrote_of p q bytes was now n e r w = record {
  lawful = lawful_if_read p q r;
  count = w.0 ∙ ap length e;
  room = w.1;
  after = w.2 ∙ ap (λ l. l ++ drop n was) e;
}

pub no_room_of : (p q : Plan) (bytes was now : List ℕ) → bytes ≡ file_of p → Reads (file_of p) q → PutAll bytes was now None → Unwritten p (length was) 13 [] × (now ≡ was)
no_room_of p q bytes was now e r w = (no_room (lawful_if_read p q r) (omega (arith, w.0, ap length e)), w.1)

-- what the answer on putting them is as the answer on writing the plan
pub written_of : (p q : Plan) (bytes was now : List ℕ) (o : Option ℕ) → bytes ≡ file_of p → Reads (file_of p) q → PutAll bytes was now o → Written p was now (ok_or o NoRoom)
written_of p q bytes was now (Some n) e r w = wrote_of p q bytes was now n e r w
written_of p q bytes was now None e r w = no_room_of p q bytes was now e r w

read_again : (p : Plan) (file : List ℕ) → Lawful (sheet p) → file ≡ file_of p → (s : Result Plan Fault) → Answers file s → MatchResult s (λ q. sheet q ≡ sheet p) (λ f. f ≡ Memory)
read_again p file l e (Ok q) a = one_sheet file (sheet q) (sheet p) a.lawful l a.whole e
read_again p file l e (Err f) a = is_memory f (unrefused file (sheet p) l e a)

pub reads_back : (p : Plan) (was now : List ℕ) (r : Result ℕ WriteFault) → Written p was now r → ReadsBack p now r
reads_back p was now (Ok n) w = read_again p (take n now) w.lawful (ap (take n) w.after ∙ take_at (file_of p) (drop n was) n (sym w.count))
reads_back p was now (Err f) w = tt

unwritten_of : (p : Plan) (room : ℕ) (file : List ℕ) → Reads file p → (k : ℕ) (vs : List ℕ) → Unwritten p room k vs → (k ≡ 0) ⊎ ((k ≡ 13) × (room < length file))
unwritten_of p room file r k vs (unfit _ _ d) = inl (unrefused (file_of p) (sheet p) r.lawful refl d)
unwritten_of p room file r _ _ (no_room l h) = inr (refl, omega (arith, ap length r.whole))
unwritten_of p room file r _ _ no_memory = inl refl

-- which fault a number is, of want of memory and of room
numbered : (f : WriteFault) (P : Type 0) → ((told_write f).0 ≡ 0) ⊎ (((told_write f).0 ≡ 13) × P) → ((f ≡ NoRoom) × P) ⊎ (f ≡ Unfit Memory)
numbered (Unfit (CutShort b)) P e = absurd (⊎_elim (λ h. omega arith) (λ h. omega (arith, h.0)) e)
numbered (Unfit (UnknownKind b)) P e = absurd (⊎_elim (λ h. omega arith) (λ h. omega (arith, h.0)) e)
numbered (Unfit (OutOfPlace b)) P e = absurd (⊎_elim (λ h. omega arith) (λ h. omega (arith, h.0)) e)
numbered (Unfit (AfterEnd b)) P e = absurd (⊎_elim (λ h. omega arith) (λ h. omega (arith, h.0)) e)
numbered (Unfit TooLong) P e = absurd (⊎_elim (λ h. omega arith) (λ h. omega (arith, h.0)) e)
numbered (Unfit Memory) P e = inr refl
numbered NoRoom P e = ⊎_elim (λ h. absurd (omega arith)) (λ h. inl (refl, h.1)) e

pub writes_back : (p : Plan) (was now : List ℕ) (r : Result ℕ WriteFault) → Written p was now r → WritesBack p was now r
writes_back p was now (Ok n) w file r = (w.count ∙ ap length (sym r.whole), w.after ∙ ap (λ l. l ++ drop n was) (sym r.whole))
writes_back p was now (Err f) w file r = numbered f _ (unwritten_of p (length was) file r _ _ w.0)
