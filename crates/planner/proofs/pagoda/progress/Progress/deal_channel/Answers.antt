use Rattle.std.proofs.Common.{◌≡◌, ℕ, ◌+◌, ◌*◌, List, ◌++◌, take, refl, sym, ◌∙◌, subst, mul-pos, arith}
use Rattle.std.proofs.Math.Seq.{drop-set-lt}
use Rattle.std.proofs.lemmas.List.{append-nil, length-set}
use Rattle.plans.specs.Periods.{PeriodOf}
use Rattle.planner.specs.Pagoda.{first_of, channel_cycles, share, subchannels_of}
use Rattle.planner.proofs.Channels.{first_of_grows, share_some}
use Rattle.planner.proofs.Table.{next_dealt, next_first, next_share, next_period, next_written, same_later}
use Rattle.planner.proofs.pagoda.progress.Progress.deal_channel.Goals as goal

same_product : (a b x y : ℕ) → a ≡ x → b ≡ y → a * b ≡ x * y
same_product a b x y e d = rw (e, d)

-- what the progress so far says, of the delay that was asked for
pages_shared : (m s delay first pages : ℕ) → delay ≡ m → pages ≡ share delay s first → pages ≡ share m s first
pages_shared m s delay first pages e h = rw (← e) h

pub loop-turn-init : goal.loop-turn-init
loop-turn-init c =
    record {
      delay = refl;
      low = omega arith;
      high = omega arith;
      next = refl;
      places = c.told-list;
      rest = refl;
      lists = refl;
      together = λ xs h. subst (λ (ys : List ℕ). PeriodOf ys c.args.self.period) (sym (append-nil xs)) h;
    }

pub returns-then-first-pages : goal.returns-then-first-pages
returns-then-first-pages c =
    let i = c.loop-turn.invariant in
    let m : ℕ = c.args.self.delay in
    let s : ℕ = c.args.subchannels in
    let f : ℕ = c.args.self.first in
    let n : ℕ = c.loop-turn.turn in
    let shared = pages_shared m s _ _ c.pages_next-pages.result i.delay c.pages_next-pages.ensures.share_of_window in
    let grows = first_of_grows m s f (n + 1) s (omega arith) in
    let next = next_first m s f n c.loop-turn.next.1.0 c.pages_next-pages.result i.next shared in
    record {
      dealt = (refl, omega (arith, grows, next));
      stopped_at = record { n = n; within = omega arith; fits = omega (arith, i.high, i.next); passes = omega (arith, next); front = i.lists; rest = i.rest };
      rest_kept = same_later c.loop-turn.list _ n s (omega arith) i.rest;
    }

pub loop-turn-preserved : goal.loop-turn-preserved
loop-turn-preserved c =
    let i = c.loop-turn.invariant in
    let m : ℕ = c.args.self.delay in
    let s : ℕ = c.args.subchannels in
    let f : ℕ = c.args.self.first in
    let n : ℕ = c.loop-turn.turn in
    let pages = pages_shared m s _ _ c.pages_next-pages.result i.delay c.pages_next-pages.ensures.share_of_window in
    let shared = next_share m s f n c.loop-turn.next.1.0 c.pages_next-pages.result i.next pages in
    record {
      delay = refl;
      low = omega arith;
      high = omega arith;
      next = next_first m s f n c.loop-turn.next.1.0 c.pages_next-pages.result i.next pages;
      places = length-set c.loop-turn.list _ _ ∙ i.places;
      rest = drop-set-lt (n + 1) c.loop-turn.list _ _ (omega (arith, c.from.ensures)) ∙ same_later c.loop-turn.list _ n (n + 1) (omega arith) i.rest;
      lists = next_written c.loop-turn.list n _ _ c.from.ensures (omega (arith, i.places, c.requires.takes.1)) ∙ next_dealt m s f n c.loop-turn.next.1.0 c.pages_next-pages.result (take n c.loop-turn.list) i.next shared i.lists;
      together = λ xs h.
          next_period m s f n xs _ _
          (same_product _ _ _ _ (omega arith) (omega (arith, shared)))
          (c.joined.ensures.joins_cycle _
          (mul-pos (omega arith) (omega (arith, shared, share_some m s f c.requires.takes n)))
          (i.together xs h));
    }

pub returns : goal.returns
returns c =
    let i = c.loop-turn.invariant in
    let m : ℕ = c.args.self.delay in
    let s : ℕ = c.args.subchannels in
    let f : ℕ = c.args.self.first in
    let all : c.loop-turn.turn ≡ s = omega arith in
    record {
      dealt = record {
        subchannels = subst (λ (n : ℕ). take n c.loop-turn.list ≡ subchannels_of m s f n) all i.lists;
        next = subst (λ (n : ℕ). c.loop-turn.next.1.0 ≡ first_of m s f n) all i.next;
        delay = i.delay;
        together = λ ns h. subst (λ (n : ℕ). PeriodOf (ns ++ channel_cycles m s f n) c.loop-turn.next.1.1.0) all (i.together ns h);
      };
      stopped_at = tt;
      rest_kept = same_later c.loop-turn.list _ c.loop-turn.turn s (omega (arith, all)) i.rest;
    }
