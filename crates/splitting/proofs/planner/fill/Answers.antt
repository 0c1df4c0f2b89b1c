use Rattle.std.proofs.Common.{◌≡◌, ℕ, ◌++◌, List, length, take, drop, subst, inl, inr, arith, rules, length-append, length-drop}
use Rattle.std.proofs.Math.ListN.{get_or-append}
use Rattle.std.proofs.lemmas.List.{length-take-le}
use Rattle.std.proofs.lemmas.Slice.{drop-append-drop}
use Rattle.std.specs.List.Sorted.{IsPermutation}
use Rattle.std.proofs.lemmas.List.Sorted.{All-permutation}
use Rattle.records.proofs.Exits.{exit}
use Rattle.records.specs.declared.kinds.Row.{Row}
use Rattle.bag.specs.Bags.{held, room}
use Rattle.bag.proofs.Memory.{held_within}
use Rattle.plans.specs.Refusals.{told}
use Rattle.rows.specs.Period.{RowsPeriod}
use Rattle.splitting_rule.specs.Answers.{Enough, Plan, NoPlan}
use Rattle.splitting_rule.specs.Rule.{Splits, Refuses}
use Rattle.sequences.specs.Sequences.{Usable, whole_channels}
use Rattle.splitting_rule.proofs.Apart.{channels_usable}
use Rattle.splitting_rule.proofs.Pieces.{channels_fit}
use Rattle.splitting_rule.proofs.Placing.{splits_from, splits_kept, refuses_from}
use Rattle.splitting_rule.proofs.Planning.{filled}
use Rattle.splitting.proofs.planner.fill.Goals as goal

pub place_pages-requires-clause-all_usable : goal.place_pages-requires-clause-all_usable
place_pages-requires-clause-all_usable c =
    let put : IsPermutation (whole_channels c.args.film.channels) (held c.put_channels.new.bag) = search rules in
    All-permutation (Usable c.args.film.delay) (whole_channels c.args.film.channels) (held c.put_channels.new.bag) put (channels_usable c.args.film.delay c.args.film.channels c.requires.askable.delay.0)

pub returns-in_err-place_pages-clause-plan_or_none : goal.returns-in_err-place_pages-clause-plan_or_none
returns-in_err-place_pages-clause-plan_or_none c =
    let m = c.args.film.delay in
    let n = c.args.film.pages in
    let rows = c.args.rows.now in
    let most = room c.args.bag.now in
    let free = whole_channels c.args.film.channels in
    let whole = held c.put_channels.new.bag in
    let put : IsPermutation free whole = search rules in
    let e = c.in_err-place_pages.field-0.0 in
    let here : length (take c.from-count.result rows) ≡ n = omega (arith, length-take-le c.from-count.result rows (omega arith)) in
    let enough : Enough c.args.film.channels n (length rows) most =
    record { rows = omega arith; places = channels_fit c.args.film.channels most whole put (omega (arith, held_within c.put_channels.new.bag)) } in
    let refuses = subst (λ (k : ℕ). Refuses m (room c.put_channels.new.bag) whole k (told e)) here c.in_err-place_pages.ensures.rows_or_refusal in
    let placed = subst (λ (k : ℕ). Refuses m k whole n (told e)) c.put_channels.ensures.same_memory.same_room refuses in
    exit (Plan m c.args.film.channels n most rows (c.place_pages.new.rows ++ drop c.from-count.result rows))
    (λ e. NoPlan m c.args.film.channels n (length rows) most (told e))
    c.from_residual-in_err-place_pages.result e c.from_residual-in_err-place_pages.ensures.1
    (inr (inl (enough, refuses_from m most free whole put n (told e) placed)))

pub returns-clause-plan_or_none : goal.returns-clause-plan_or_none
returns-clause-plan_or_none c =
    let m = c.args.film.delay in
    let n = c.args.film.pages in
    let rows = c.args.rows.now in
    let count = c.from-count.result in
    let most = room c.args.bag.now in
    let free = whole_channels c.args.film.channels in
    let whole = held c.put_channels.new.bag in
    let left = held c.place_pages.new.bag in
    let put : IsPermutation free whole = search rules in
    let planned : List Row = c.place_pages.new.rows in
    let after : List Row = planned ++ drop count rows in
    let here : length (take count rows) ≡ n = omega (arith, length-take-le count rows (omega arith)) in
    let long : length planned ≡ count = omega (arith, length-take-le count rows (omega arith)) in
    let enough : Enough c.args.film.channels n (length rows) most =
    record { rows = omega arith; places = channels_fit c.args.film.channels most whole put (omega (arith, held_within c.put_channels.new.bag)) } in
    let splits = subst (λ (k : ℕ). Splits m (room c.put_channels.new.bag) whole k planned left) here c.in_ok-place_pages.ensures.rows_or_refusal in
    let from = splits_from m most free whole put n planned left
    (subst (λ (k : ℕ). Splits m k whole n planned left) c.put_channels.ensures.same_memory.same_room splits) in
    let kept = splits_kept m most free n planned after left (λ k d low. get_or-append planned (drop count rows) d k (omega (arith, long, c.from-count.ensures))) from in
    filled m c.args.film.channels n most rows after left c.requires.askable enough (omega (arith, length-append planned (drop count rows), length-drop count rows)) kept
    (drop-append-drop count rows planned n (omega arith) long) c.rows_period.result
    (subst (λ (k : ℕ). RowsPeriod (take k after) c.rows_period.result) c.from-count.ensures c.rows_period.ensures.least_common_multiple)
