use Rattle.std.proofs.Common.{◌≡◌, ℕ, ◌+◌, max, List, ◌++◌, map, get_or, vec_items, vec_len, vec_capacity, refl, sym, ap, ◌∙◌, arith}
use Rattle.receiver.specs.Calls.{granted, hear}
use Rattle.receiver.specs.Refusals.{told}
use Rattle.receiver.specs.Stores.{stock}
use Rattle.receiver.specs.declared.numbers.Numbers.{Numbers}
use Rattle.feeding.specs.Feeding.{before, stop, denied, waiting}
use Rattle.feeding.specs.Phases.{preceded, rows, so_far}
use Rattle.feeding.proofs.Steps.{hear_numbers, hears_more, hears_refused, rows_end}
use Rattle.feeding.proofs.phases.hear_all.Goals as goal

pub loop-line-init : goal.loop-line-init
loop-line-init c = record {
  told = λ rest. refl;
  delay = refl;
  heard = omega arith;
  peak = c.requires.same_peak;
  grown = (omega arith, refl, omega arith, refl);
}

pub returns-in_err-hear_line-clause-told_so_far : goal.returns-in_err-hear_line-clause-told_so_far
returns-in_err-hear_line-clause-told_so_far c = λ rest.
    let lines = c.args.lines.now in
    let i = c.loop-line.line-index in
    let d = c.line-item.result in
    let r = c.loop-line.waiting.numbers in
    let store = c.loop-line.store in
    let v = c.loop-line.viewing in
    let told' = told c.in_err-hear_line.field-0.0 in
    let line-is : vec_items (get_or lines i d) ≡ c.as_slice.result.now = ap (λ x. vec_items x) (sym c.line-item.is) ∙ sym c.as_slice.ensures.value in
    let e = c.in_err-hear_line.ensures.hears_and_weighs in
    let all : so_far c.args.viewing.now (waiting (map vec_items lines ++ rest) c.args.waiting.now.numbers c.args.store.now) ≡ so_far v (stop v.peak c.hear_line.new.store (denied told'.0 told'.1)) =
    c.loop-line.invariant.told rest
    ∙ hears_refused lines i d (omega arith) rest r store (omega (arith, c.loop-line.invariant.heard, c.loop-line.invariant.delay, c.requires.early)) (vec_items v.shows) (vec_items v.stocks) told' (ap (λ l. hear r store l) line-is ∙ e.0)
    ∙ ap (λ x. so_far v (stop x store (denied told'.0 told'.1))) (sym c.loop-line.invariant.peak)
    ∙ ap (λ (x : List ℕ). so_far v (stop v.peak x (denied told'.0 told'.1))) (sym e.2) in
    grind (arith, all)

pub returns-in_err-hear_line-clause-same_peak : goal.returns-in_err-hear_line-clause-same_peak
returns-in_err-hear_line-clause-same_peak c = c.loop-line.invariant.peak ∙ ap (λ (x : Numbers). x.peak) (sym c.in_err-hear_line.ensures.hears_and_weighs.1)

pub returns-in_err-hear_line-clause-room_used : goal.returns-in_err-hear_line-clause-room_used
returns-in_err-hear_line-clause-room_used c =
    let g = c.loop-line.invariant.grown in
    (omega (arith, g.0), g.1, omega (arith, g.2), g.3)

pub loop-line-preserved : goal.loop-line-preserved
loop-line-preserved c =
    let lines = c.args.lines.now in
    let i = c.loop-line.line-index in
    let d = c.line-item.result in
    let r = c.loop-line.waiting.numbers in
    let r' = c.hear_line.new.waiting.numbers in
    let store = c.loop-line.store in
    let store' = c.hear_line.new.store in
    let v = c.loop-line.viewing in
    let v' = c.grant.new.self in
    let s = c.in_ok-hear_line.field-0 in
    let line-is : vec_items (get_or lines i d) ≡ c.as_slice.result.now = ap (λ x. vec_items x) (sym c.line-item.is) ∙ sym c.as_slice.ensures.value in
    let e : hear r store (vec_items (get_or lines i d)) ≡ granted (r', store') = ap (λ l. hear r store l) line-is ∙ c.in_ok-hear_line.ensures.hears_and_weighs.0 in
    let es : s ≡ stock r.pages store (vec_items (get_or lines i d)) = c.in_ok-hear_line.ensures.hears_and_weighs.1 ∙ ap (λ l. stock r.pages store l) (sym line-is) in
    let now = hear_numbers r r' store (vec_items (get_or lines i d)) store' e in
    let delay : r.delay ≡ r'.delay = ap (λ (x : Numbers). x.delay) now in
    let heard : r.heard + 1 ≡ r'.heard = ap (λ (x : Numbers). x.heard) now in
    let peak : max r.peak (stock r.pages store (vec_items (get_or lines i d))) ≡ r'.peak = ap (λ (x : Numbers). x.peak) now in
    let g = c.grant.ensures.one_more in
    let grown = c.loop-line.invariant.grown in
    let here = c.loop-line.invariant.peak in
    let before_delay = c.loop-line.invariant.delay in
    let before_heard = c.loop-line.invariant.heard in
    record {
      told =
          λ rest.
          c.loop-line.invariant.told rest
          ∙ hears_more lines i d (omega arith) rest r store (omega (arith, before_heard, before_delay, c.requires.early)) (vec_items v.shows) (vec_items v.stocks) s r' store' e es
          ∙ ap (λ (x : List ℕ). before (preceded (vec_items v.shows) x) (waiting (rows lines (i + 1) ++ rest) r' store')) (sym g.1)
          ∙ ap (λ x. before (preceded (vec_items x) (vec_items v'.stocks)) (waiting (rows lines (i + 1) ++ rest) r' store')) (sym g.0);
      delay = sym delay ∙ before_delay;
      heard = omega (arith, heard, before_heard);
      peak = omega (arith, g.2, es, peak, here);
      grown = (
        (let k = ap (λ x. vec_len x) g.0 in omega (arith, k, grown.0)),
        ap (λ x. vec_capacity x) g.0 ∙ grown.1,
        omega (arith, g.3, grown.2),
        g.4 ∙ grown.3,
      );
    }

pub returns : goal.returns
returns c =
    let end = c.loop-line in
    record {
      told_so_far = λ rest. end.invariant.told rest ∙ ap (λ x. so_far end.viewing (waiting (x ++ rest) end.waiting.numbers end.store)) (rows_end c.args.lines.now end.line-index (omega arith));
      each_heard = (omega (arith, end.invariant.heard), end.invariant.delay);
      same_peak = end.invariant.peak;
      room_used = (omega (arith, end.invariant.grown), end.invariant.grown.1, omega (arith, end.invariant.grown), end.invariant.grown.3);
    }
