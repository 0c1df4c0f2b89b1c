use Rattle.std.proofs.Common.{◌≡◌, ℕ, length, Result, Ok, sym, refl, ◌∙◌, subst}
use Rattle.records.proofs.Exits.{exit}
use Rattle.records.specs.Faults.{told}
use Rattle.format.specs.declared.fault.WriteFault.{WriteFault}
use Rattle.format.specs.declared.fault.WriteFault.TheVariants.{Unfit}
use Rattle.format.specs.Answers.{Reads}
use Rattle.format.specs.Format.{Refused}
use Rattle.format.specs.Writing.{Wrote, Unwritten, Written, unfit, told_write}
use Rattle.format.proofs.Writing.{not_made, written_of, reads_back, writes_back}
use Rattle.planwriter.proofs.writer.write_plan.Goals as goal

pub returns-in_err-bytes : goal.returns-in_err-bytes
returns-in_err-bytes c =
    let p = c.args.plan.now in
    let out = c.args.out.now in
    let f = c.in_err-bytes.field-0.0 in
    let r = c.from_residual.result in
    let w : Written p out out r = exit (Wrote p out out) (λ f. Unwritten p (length out) (told_write f).0 (told_write f).1 × (out ≡ out)) r (Unfit f) c.from_residual.ensures.1
    (not_made p (length out) f c.in_err-bytes.ensures.makes_the_bytes, refl) in
    record { writes = w; reads_back = reads_back p out out r w; writes_back = writes_back p out out r w }

pub returns-in_err-read_plan : goal.returns-in_err-read_plan
returns-in_err-read_plan c =
    let p = c.args.plan.now in
    let out = c.args.out.now in
    let f = c.in_err-read_plan.field-0.0 in
    let same = c.as_slice.ensures.value ∙ c.in_ok-bytes.ensures.makes_the_bytes in
    let r = c.from_residual-in_err-read_plan.result in
    let w : Written p out out r = exit (Wrote p out out) (λ f. Unwritten p (length out) (told_write f).0 (told_write f).1 × (out ≡ out)) r (Unfit f) c.from_residual-in_err-read_plan.ensures.1
    (unfit _ _ (subst (λ l. Refused l (told f).0 (told f).1) same c.in_err-read_plan.ensures.answers), refl) in
    record { writes = w; reads_back = reads_back p out out r w; writes_back = writes_back p out out r w }

pub returns-in_err-length : goal.returns-in_err-length
returns-in_err-length c =
    let p = c.args.plan.now in
    let q = c.in_ok-read_plan.field-0 in
    let made = c.in_ok-bytes.ensures.makes_the_bytes in
    let read = subst (λ l. Reads l q) (c.as_slice.ensures.value ∙ made) c.in_ok-read_plan.ensures.answers in
    let written = written_of p q _ c.args.out.now _ _ (c.as_slice-2.ensures.value ∙ made) read c.put_bytes.ensures.puts_all_or_nothing in
    let was = c.args.out.now in
    let now = c.put_bytes.new.out in
    let f = c.in_err-length.field-0.0 in
    let r = c.from_residual-in_err-length.result in
    let w : Written p was now r = exit (Wrote p was now) (λ f. Unwritten p (length was) (told_write f).0 (told_write f).1 × (now ≡ was)) r f c.from_residual-in_err-length.ensures.1
    (subst (Written p was now) (sym c.in_err-length.ensures.value) written) in
    record { writes = w; reads_back = reads_back p was now r w; writes_back = writes_back p was now r w }

pub returns : goal.returns
returns c =
    let p = c.args.plan.now in
    let q = c.in_ok-read_plan.field-0 in
    let made = c.in_ok-bytes.ensures.makes_the_bytes in
    let read = subst (λ l. Reads l q) (c.as_slice.ensures.value ∙ made) c.in_ok-read_plan.ensures.answers in
    let written = written_of p q _ c.args.out.now _ _ (c.as_slice-2.ensures.value ∙ made) read c.put_bytes.ensures.puts_all_or_nothing in
    let was = c.args.out.now in
    let now = c.put_bytes.new.out in
    let r : Result ℕ WriteFault = Ok c.in_ok-length.length in
    let w : Written p was now r = subst (Written p was now) (sym c.in_ok-length.ensures.value) written in
    record { writes = w; reads_back = reads_back p was now r w; writes_back = writes_back p was now r w }
