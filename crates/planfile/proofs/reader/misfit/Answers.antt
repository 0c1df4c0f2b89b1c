use Rattle.std.proofs.Common.{sym, subst, inl, inr, arith}
use Rattle.records.specs.Places.{Opens}
use Rattle.format.specs.Format.{cut_short, unknown_kind, out_of_place}
use Rattle.planfile.proofs.reader.misfit.Goals as goal

pub returns-then-at-bytes : goal.returns-then-at-bytes
returns-then-at-bytes c = record { is_wrong = λ rs h r none. cut_short _ rs h r (inl c.if-at-bytes.true) }

pub returns-in_default : goal.returns-in_default
returns-in_default c = record {
  is_wrong = λ rs h r none. unknown_kind _ rs h r (record {
    within = c.if-at-bytes.false;
    none = λ x o. c.in_default.ensures.is_kind_length x (sym o.kind);
  });
}

pub returns-then-bytes-at : goal.returns-then-bytes-at
returns-then-bytes-at c =
    let known = c.in-Some.ensures.is_kind_length in
    record {
      is_wrong = λ rs h r none. cut_short _ rs h r (inr (
        known.0,
        record {
          opens = record { within = c.if-at-bytes.false; kind = sym known.1 };
          short = omega (arith, known.2);
        },
      ));
    }

pub returns-else-bytes-at : goal.returns-else-bytes-at
returns-else-bytes-at c =
    let known = c.in-Some.ensures.is_kind_length in
    let here : Opens c.args.bytes.now c.args.at _ = record { within = c.if-at-bytes.false; kind = sym known.1 } in
    record {
      is_wrong = λ rs h r none. out_of_place _ rs h r (record {
        like = known.0;
        whole = record { opens = here; within = omega (arith, known.2) };
        unfit = λ x k. none x (subst (Opens c.args.bytes.now c.args.at) (sym k) here);
      });
    }
