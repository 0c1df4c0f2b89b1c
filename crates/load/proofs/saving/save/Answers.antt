use Rattle.std.proofs.Common.{◌≡◌, length, sym, refl, ◌∙◌, subst}
use Rattle.records.proofs.Exits.{exit}
use Rattle.load.specs.declared.fault.LoadFault.TheVariants.{Reading}
use Rattle.load.specs.declared.fault.SaveFault.TheVariants.{Unfit}
use Rattle.load.specs.Loading.{Loads, LoadRefused}
use Rattle.load.specs.Told.{told_load}
use Rattle.load.specs.Saving.{Unsaved, unfit, Saves, Saved, told_save}
use Rattle.load.proofs.Puts.{not_made, saved_of}
use Rattle.load.proofs.saving.save.Goals as goal

pub returns-in_err-bytes : goal.returns-in_err-bytes
returns-in_err-bytes c =
    let p = c.args.plan.now in
    let out = c.args.out.now in
    let f = c.in_err-bytes.field-0.0 in
    record {
      saves_or_refuses = exit (Saves p out out) (λ f. Unsaved p (length out) (told_save f).0 (told_save f).1 × (out ≡ out)) c.from_residual.result (Unfit (Reading f)) c.from_residual.ensures.1
          (not_made p (length out) f c.in_err-bytes.ensures.makes_the_bytes, refl);
    }

pub returns-in_err-load : goal.returns-in_err-load
returns-in_err-load c =
    let p = c.args.plan.now in
    let out = c.args.out.now in
    let f = c.in_err-load.field-0.0 in
    let same = c.as_slice.ensures.value ∙ c.in_ok-bytes.ensures.makes_the_bytes in
    record {
      saves_or_refuses = exit (Saves p out out) (λ f. Unsaved p (length out) (told_save f).0 (told_save f).1 × (out ≡ out)) c.from_residual-in_err-load.result (Unfit f) c.from_residual-in_err-load.ensures.1
          (unfit _ _ (subst (λ l. LoadRefused l (told_load f).0 (told_load f).1) same c.in_err-load.ensures.loads_or_refuses), refl);
    }

pub returns-in_err-length : goal.returns-in_err-length
returns-in_err-length c =
    let p = c.args.plan.now in
    let l = c.in_ok-load.field-0 in
    let made = c.in_ok-bytes.ensures.makes_the_bytes in
    let loads = subst (λ x. Loads x l) (c.as_slice.ensures.value ∙ made) c.in_ok-load.ensures.loads_or_refuses in
    let saved = saved_of p l _ c.args.out.now _ _ (c.as_slice-2.ensures.value ∙ made) loads c.put_bytes.ensures.puts_all_or_nothing in
    let was = c.args.out.now in
    let now = c.put_bytes.new.out in
    record {
      saves_or_refuses = exit (Saves p was now) (λ f. Unsaved p (length was) (told_save f).0 (told_save f).1 × (now ≡ was)) c.from_residual-in_err-length.result c.in_err-length.field-0.0 c.from_residual-in_err-length.ensures.1
          (subst (Saved p was now) (sym c.in_err-length.ensures.value) saved);
    }

pub returns : goal.returns
returns c =
    let p = c.args.plan.now in
    let l = c.in_ok-load.field-0 in
    let made = c.in_ok-bytes.ensures.makes_the_bytes in
    let loads = subst (λ x. Loads x l) (c.as_slice.ensures.value ∙ made) c.in_ok-load.ensures.loads_or_refuses in
    let saved = saved_of p l _ c.args.out.now _ _ (c.as_slice-2.ensures.value ∙ made) loads c.put_bytes.ensures.puts_all_or_nothing in
    record { saves_or_refuses = subst (Saved p c.args.out.now c.put_bytes.new.out) (sym c.in_ok-length.ensures.value) saved }
