-- From the bytes of a plan to the answer on writing it.
use Rattle.std.proofs.Common.{◌≡◌, ℕ, List, [], ◌∷◌, ◌++◌, length, drop, Some, None, Option, ok_or, sym, ap, ◌∙◌, subst, inl, inr, arith}
use Rattle.records.specs.Faults.{told}
use Rattle.records.specs.declared.fault.Fault.{Fault}
use Rattle.format.specs.declared.plan.Plan.{Plan}
use Rattle.format.specs.Answers.{file_of}
use Rattle.format.specs.Format.{too_long}
use Rattle.format.specs.Runs.{Unappended}
use Rattle.format.specs.Writing.{PutAll}
use Rattle.load.specs.declared.loading.Loaded.{Loaded}
use Rattle.load.specs.Loading.{Loads, reading}
use Rattle.load.specs.Saving.{Unsaved, unfit, no_room, no_memory, Saves, Saved}
use Rattle.load.specs.declared.fault.SaveFault.TheVariants.{NoRoom}

-- bytes that are not made
pub not_made : (p : Plan) (room : ℕ) (f : Fault) → Unappended (file_of p) f → Unsaved p room (told f).0 (told f).1
not_made p room f (inl e) = subst (λ f. Unsaved p room (told f).0 (told f).1) (sym e) no_memory
not_made p room f (inr e) = subst (λ f. Unsaved p room (told f).0 (told f).1) (sym e.0) (unfit 46 (0 ∷ []) (reading 46 (0 ∷ []) (too_long e.1)))

-- what putting the bytes of a plan that loads leaves
pub saves_of : (p : Plan) (l : Loaded) (bytes was now : List ℕ) (n : ℕ) → bytes ≡ file_of p → Loads (file_of p) l → PutAll bytes was now (Some n) → Saves p was now n
saves_of p l bytes was now n e r w = record {
  loaded = l;
  loads = r;
  count = w.0 ∙ ap length e;
  room = w.1;
  after = w.2 ∙ ap (λ x. x ++ drop n was) e;
}

pub no_room_of : (p : Plan) (l : Loaded) (bytes was now : List ℕ) → bytes ≡ file_of p → Loads (file_of p) l → PutAll bytes was now None → Unsaved p (length was) 13 [] × (now ≡ was)
no_room_of p l bytes was now e r w = (no_room l r (omega (arith, w.0, ap length e)), w.1)

-- what the answer on putting them is as the answer on saving the plan
pub saved_of : (p : Plan) (l : Loaded) (bytes was now : List ℕ) (o : Option ℕ) → bytes ≡ file_of p → Loads (file_of p) l → PutAll bytes was now o → Saved p was now (ok_or o NoRoom)
saved_of p l bytes was now (Some n) e r w = saves_of p l bytes was now n e r w
saved_of p l bytes was now None e r w = no_room_of p l bytes was now e r w
