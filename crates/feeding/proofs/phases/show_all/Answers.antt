use Rattle.std.proofs.Common.{◌≡◌, ℕ, ◌+◌, max, List, [], ◌∷◌, ◌++◌, map, get_or, vec_items, vec_len, vec_capacity, refl, sym, ap, ◌∙◌, arith}
use Rattle.receiver.specs.Calls.{granted, show}
use Rattle.receiver.specs.Refusals.{told}
use Rattle.receiver.specs.Stores.{stock}
use Rattle.receiver.specs.declared.numbers.Numbers.{Numbers}
use Rattle.feeding.specs.Feeding.{before, stop, cut, denied, whole, showing}
use Rattle.feeding.specs.Phases.{preceded, rows, so_far}
use Rattle.feeding.proofs.Steps.{show_numbers, shows_more, shows_last, shows_refused, rows_end}
use Rattle.feeding.proofs.phases.show_all.Goals as goal

pub loop-line-init : goal.loop-line-init
loop-line-init c = record { told = refl; peak = c.requires.same_peak; grown = (omega arith, refl, omega arith, refl) }

pub returns-in_err-page : goal.returns-in_err-page
returns-in_err-page c =
    let lines = c.args.lines.now in
    let i = c.loop-line.line-index in
    let d = c.line-item.result in
    let r = c.loop-line.showing.numbers in
    let store = c.loop-line.store in
    let v = c.loop-line.viewing in
    let told' = told c.in_err-page.field-0.0 in
    let line-is : vec_items (get_or lines i d) ≡ c.as_slice.result.now = ap (λ x. vec_items x) (sym c.line-item.is) ∙ sym c.as_slice.ensures.value in
    let e = c.in_err-page.ensures.shows_and_weighs in
    let all : so_far c.args.viewing.now (showing (map vec_items lines) c.args.showing.now.numbers c.args.store.now) ≡ so_far v (stop v.peak c.show_line.new.store (denied told'.0 told'.1)) =
    c.loop-line.invariant.told
    ∙ shows_refused lines i d (omega arith) r store (vec_items v.shows) (vec_items v.stocks) told' (ap (λ l. show r store l) line-is ∙ e.0)
    ∙ ap (λ x. so_far v (stop x store (denied told'.0 told'.1))) (sym c.loop-line.invariant.peak)
    ∙ ap (λ (x : List ℕ). so_far v (stop v.peak x (denied told'.0 told'.1))) (sym e.2) in
    record { all_told = grind (arith, all) }

pub loop-line-preserved : goal.loop-line-preserved
loop-line-preserved c =
    let lines = c.args.lines.now in
    let i = c.loop-line.line-index in
    let d = c.line-item.result in
    let r = c.loop-line.showing.numbers in
    let r' = c.show_line.new.showing.numbers in
    let store = c.loop-line.store in
    let store' = c.show_line.new.store in
    let v = c.loop-line.viewing in
    let v' = c.grant.new.self in
    let line-is : vec_items (get_or lines i d) ≡ c.as_slice.result.now = ap (λ x. vec_items x) (sym c.line-item.is) ∙ sym c.as_slice.ensures.value in
    let e : show r store (vec_items (get_or lines i d)) ≡ granted (c.in_ok-page.page, r', store') = ap (λ l. show r store l) line-is ∙ c.in_ok-page.ensures.shows_and_weighs.0 in
    let es : c.in_ok-page.stock ≡ stock r.pages store (vec_items (get_or lines i d)) = c.in_ok-page.ensures.shows_and_weighs.1 ∙ ap (λ l. stock r.pages store l) (sym line-is) in
    let now = show_numbers r r' c.in_ok-page.page store (vec_items (get_or lines i d)) store' e in
    let pages : r.pages ≡ r'.pages = ap (λ (x : Numbers). x.pages) now in
    let peak : max r.peak (stock r.pages store (vec_items (get_or lines i d))) ≡ r'.peak = ap (λ (x : Numbers). x.peak) now in
    let g = c.grant.ensures.one_more in
    let grown = c.loop-line.invariant.grown in
    let here = c.loop-line.invariant.peak in
    let taken_up = ap (λ x. vec_len x) g.0 in
    let rest = showing (rows lines (i + 1)) r' store' in
    record {
      told =
          c.loop-line.invariant.told
          ∙ shows_more lines i d (omega arith) r store (vec_items v.shows) (vec_items v.stocks) c.in_ok-page.page c.in_ok-page.stock r' store' e es (λ same. c.if-page-pages.false (same ∙ pages ∙ sym c.pages.ensures.of_film))
          ∙ ap (λ (x : List ℕ). before (preceded x (vec_items v.stocks ++ (c.in_ok-page.stock ∷ []))) rest) (sym c.push_reserved.ensures.items)
          ∙ ap (λ x. before (preceded (vec_items x) (vec_items v.stocks ++ (c.in_ok-page.stock ∷ []))) rest) (sym g.0)
          ∙ ap (λ (x : List ℕ). before (preceded (vec_items v'.shows) x) rest) (sym g.1);
      peak = omega (arith, g.2, es, peak, here);
      grown = (
        omega (arith, taken_up, c.push_reserved.ensures.len, grown.0),
        ap (λ x. vec_capacity x) g.0 ∙ c.push_reserved.ensures.capacity ∙ grown.1,
        omega (arith, g.3, grown.2),
        g.4 ∙ grown.3,
      );
    }

pub returns : goal.returns
returns c =
    let end = c.loop-line in
    record {
      all_told =
          end.invariant.told
          ∙ ap (λ x. so_far end.viewing (showing x end.showing.numbers end.store)) (rows_end c.args.lines.now end.line-index (omega arith))
          ∙ ap (λ x. so_far end.viewing (stop x end.store cut)) (sym end.invariant.peak);
    }

pub returns-then-page-pages : goal.returns-then-page-pages
returns-then-page-pages c =
    let lines = c.args.lines.now in
    let i = c.loop-line.line-index in
    let d = c.line-item.result in
    let r = c.loop-line.showing.numbers in
    let r' = c.show_line.new.showing.numbers in
    let store = c.loop-line.store in
    let store' = c.show_line.new.store in
    let v = c.loop-line.viewing in
    let v' = c.grant.new.self in
    let line-is : vec_items (get_or lines i d) ≡ c.as_slice.result.now = ap (λ x. vec_items x) (sym c.line-item.is) ∙ sym c.as_slice.ensures.value in
    let e : show r store (vec_items (get_or lines i d)) ≡ granted (c.in_ok-page.page, r', store') = ap (λ l. show r store l) line-is ∙ c.in_ok-page.ensures.shows_and_weighs.0 in
    let es : c.in_ok-page.stock ≡ stock r.pages store (vec_items (get_or lines i d)) = c.in_ok-page.ensures.shows_and_weighs.1 ∙ ap (λ l. stock r.pages store l) (sym line-is) in
    let now = show_numbers r r' c.in_ok-page.page store (vec_items (get_or lines i d)) store' e in
    let pages : r.pages ≡ r'.pages = ap (λ (x : Numbers). x.pages) now in
    let peak : max r.peak (stock r.pages store (vec_items (get_or lines i d))) ≡ r'.peak = ap (λ (x : Numbers). x.peak) now in
    let g = c.grant.ensures.one_more in
    let here = c.loop-line.invariant.peak in
    let top : r'.peak ≡ v'.peak = omega (arith, g.2, es, peak, here) in
    record {
      all_told =
          c.loop-line.invariant.told
          ∙ shows_last lines i d (omega arith) r store (vec_items v.shows) (vec_items v.stocks) c.in_ok-page.page c.in_ok-page.stock r' store' e es (c.if-page-pages.true ∙ c.pages.ensures.of_film ∙ sym pages)
          ∙ ap (λ (x : List ℕ). before (preceded x (vec_items v.stocks ++ (c.in_ok-page.stock ∷ []))) (stop r'.peak store' whole)) (sym c.push_reserved.ensures.items)
          ∙ ap (λ x. before (preceded (vec_items x) (vec_items v.stocks ++ (c.in_ok-page.stock ∷ []))) (stop r'.peak store' whole)) (sym g.0)
          ∙ ap (λ (x : List ℕ). before (preceded (vec_items v'.shows) x) (stop r'.peak store' whole)) (sym g.1)
          ∙ ap (λ (x : ℕ). so_far v' (stop x store' whole)) top;
    }
