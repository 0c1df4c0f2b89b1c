use Rattle.std.proofs.Common.{◌≡◌, ◌∙◌, Result, Option, Some, None, is_some, MatchOption, rules, refl, [], Ok, Err, is_ok, ap, vec_items, sym, subst}
use Rattle.records.specs.Bytes.{film_body}
use Rattle.records.specs.declared.kinds.End.{End}
use Rattle.records.proofs.Exits.{exit}
use Rattle.records.proofs.Spanning.{found_some, found_none, spans_all}
use Rattle.format.specs.Answers.{Reads}
use Rattle.format.specs.Format.{too_long, after_end}
use Rattle.format.specs.Steps.{Faulty, Misfit}
use Rattle.format.proofs.Faults.{film_cut, reached_none, not_first, closures_faulty, reached_end, not_last, whole_lawful, whole_spans}
use Rattle.planfile.proofs.reader.parse_plan.Goals as goal

pub returns-then-bytes-gt-MOST_BYTES : goal.returns-then-bytes-gt-MOST_BYTES
returns-then-bytes-gt-MOST_BYTES c = record { answers = too_long c.if-bytes-gt-MOST_BYTES.true }

pub returns-in_err-read_record : goal.returns-in_err-read_record
returns-in_err-read_record c =
    let file = c.args.bytes.now in
    let f = c.in_err-read_record.ensures.finds in
    record {
      answers = exit (Reads file) (Faulty file) _ _ c.from_residual.ensures.1 (subst (Faulty file) (sym f.0) (film_cut file c.if-bytes-gt-MOST_BYTES.false f.1));
    }

-- an `ok_or_else` that answered an error had nothing to answer, and made the error
refused : {X T E : Type 0} (o : Option X) (r : Result T E) (e : E) (Q : Type 0) → r ≡ Err e → (M : X → Type 0) → MatchOption o Q M → is_ok r ≡ is_some o → (o ≡ None) × Q
refused (Some x) r e Q is M m v = let no = ap is_ok is in absurd (search (rules, no, v))
refused None r e Q is M m v = (refl, m)

-- one that answered a value had it
answered : {X E : Type 0} (o : Option X) (r : Result X E) (x : X) (Q : Type 0) → r ≡ Ok x → MatchOption o Q (λ x. r ≡ Ok x) → is_ok r ≡ is_some o → o ≡ Some x
answered (Some y) r x Q is m v = let same : Ok y ≡ Ok x = sym m ∙ is in search (rules, same)
answered None r x Q is m v = let yes = ap is_ok is in absurd (search (rules, yes, v))

pub returns-in_err-film : goal.returns-in_err-film
returns-in_err-film c =
    let file = c.args.bytes.now in
    let short = c.if-bytes-gt-MOST_BYTES.false in
    let post = refused _ c.ok_or_else.result c.in_err-film.field-0.0 _ c.in_err-film.was _ c.ok_or_else.ensures.cases c.ok_or_else.ensures.variant in
    let none = found_none 1 5 film_body file 0 _ c.in_ok-read_record.ensures.finds post.0 in
    let misfit = post.1 in
    let wrong : Misfit file 0 c.in_err-film.field-0.0 = search (rules, misfit) in
    record {
      answers = exit (Reads file) (Faulty file) _ _ c.from_residual-in_err-film.ensures.1 (wrong [] short (reached_none file) (not_first file none));
    }

pub returns-in_err-closures : goal.returns-in_err-closures
returns-in_err-closures c =
    let file = c.args.bytes.now in
    let some = answered _ _ (c.in_ok-film.film, c.in_ok-film.after_film) _ refl c.in_ok-film.ensures.cases c.in_ok-film.ensures.variant in
    let first = found_some 1 5 film_body file 0 _ _ _ c.in_ok-read_record.ensures.finds some in
    record {
      answers = exit (Reads file) (Faulty file) _ _ c.from_residual-in_err-closures.ensures.1
          (closures_faulty file c.in_ok-film.film c.if-bytes-gt-MOST_BYTES.false _ first _ _ c.in_ok-parts.ensures.reads_one_sort _ c.in_err-closures.ensures.reads_all);
    }

pub returns-in_err-after_end : goal.returns-in_err-after_end
returns-in_err-after_end c =
    let file = c.args.bytes.now in
    let short = c.if-bytes-gt-MOST_BYTES.false in
    let f = c.in_ok-film.film in
    let some = answered _ _ (f, c.in_ok-film.after_film) _ refl c.in_ok-film.ensures.cases c.in_ok-film.ensures.variant in
    let first = found_some 1 5 film_body file 0 _ _ _ c.in_ok-read_record.ensures.finds some in
    let at = c.in_ok-parts.ensures.reads_one_sort in
    let b = c.in_ok-closures.after_closures in
    let cs = vec_items c.in_ok-closures.closures in
    let r = c.in_ok-closures.ensures.reads_all in
    let post = refused _ c.ok_or_else-2.result c.in_err-after_end.field-0.0 _ c.in_err-after_end.was _ c.ok_or_else-2.ensures.cases c.ok_or_else-2.ensures.variant in
    let none = found_none {X = End} 0 0 (λ _. []) file b _ c.in_ok-read_record-2.ensures.finds post.0 in
    let misfit = post.1 in
    let wrong : Misfit file b c.in_err-after_end.field-0.0 = search (rules, misfit) in
    record {
      answers = exit (Reads file) (Faulty file) _ _ c.from_residual-in_err-after_end.ensures.1
          (wrong _ short (reached_end file f short _ first _ _ at cs b r) (not_last file f short _ first _ _ at cs b r none));
    }

pub returns-then-after_end-bytes : goal.returns-then-after_end-bytes
returns-then-after_end-bytes c =
    let file = c.args.bytes.now in
    let short = c.if-bytes-gt-MOST_BYTES.false in
    let f = c.in_ok-film.film in
    let some = answered _ _ (f, c.in_ok-film.after_film) _ refl c.in_ok-film.ensures.cases c.in_ok-film.ensures.variant in
    let first = found_some 1 5 film_body file 0 _ _ _ c.in_ok-read_record.ensures.finds some in
    let at = c.in_ok-parts.ensures.reads_one_sort in
    let b = c.in_ok-closures.after_closures in
    let cs = vec_items c.in_ok-closures.closures in
    let r = c.in_ok-closures.ensures.reads_all in
    let end = answered _ _ (c.in_ok-after_end.field-0-0, c.in_ok-after_end.after_end) _ refl c.in_ok-after_end.ensures.cases c.in_ok-after_end.ensures.variant in
    let last = found_some {X = End} 0 0 (λ _. []) file b _ _ _ c.in_ok-read_record-2.ensures.finds end in
    record {
      answers = after_end _ _ short (whole_lawful file f short _ first _ _ at cs b r) (whole_spans file f short _ first _ _ at cs b r _ last) c.if-after_end-bytes.true;
    }

pub returns : goal.returns
returns c =
    let file = c.args.bytes.now in
    let short = c.if-bytes-gt-MOST_BYTES.false in
    let f = c.in_ok-film.film in
    let some = answered _ _ (f, c.in_ok-film.after_film) _ refl c.in_ok-film.ensures.cases c.in_ok-film.ensures.variant in
    let first = found_some 1 5 film_body file 0 _ _ _ c.in_ok-read_record.ensures.finds some in
    let at = c.in_ok-parts.ensures.reads_one_sort in
    let b = c.in_ok-closures.after_closures in
    let cs = vec_items c.in_ok-closures.closures in
    let r = c.in_ok-closures.ensures.reads_all in
    let end = answered _ _ (c.in_ok-after_end.field-0-0, c.in_ok-after_end.after_end) _ refl c.in_ok-after_end.ensures.cases c.in_ok-after_end.ensures.variant in
    let last = found_some {X = End} 0 0 (λ _. []) file b _ _ _ c.in_ok-read_record-2.ensures.finds end in
    record {
      answers = record {
        lawful = whole_lawful file f short _ first _ _ at cs b r;
        whole = spans_all file _ _ (whole_spans file f short _ first _ _ at cs b r _ last) c.if-after_end-bytes.false;
      };
    }
