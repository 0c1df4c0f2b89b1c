use Rattle.std.proofs.Common.{◌+◌, List, get_or, slice_set, vec_items, refl, sym, ap, ◌∙◌, subst, arith}
use Rattle.std.proofs.lemmas.List.{get_or_push}
use Rattle.planner.specs.Dealing.{DealtTo}
use Rattle.planner.specs.declared.subchannel.Subchannel.{Subchannel}
use Rattle.planner.proofs.Table.{dealt_none, dealt_next, filled_next, last_written}
use Rattle.planner.proofs.pagoda.deal.deal.Goals as goal

pub loop-channel-init : goal.loop-channel-init
loop-channel-init c =
    record {
      delay = refl;
      in_range = (omega arith, omega arith);
      places = c.in_ok-all.ensures.exact;
      many = c.in_ok-all.ensures.len;
      so_far = rw c.in_ok-all.ensures.items (dealt_none c.args.delay c.args.channels.now);
      whole = c.in_ok-all.ensures.items;
    }

pub loop-channel-preserved : goal.loop-channel-preserved
loop-channel-preserved c =
    let i = c.loop-channel.invariant in
    let before = vec_items c.loop-channel.all in
    let list = c.deal_channel.new.list in
    let written = ap (λ (all : List (List Subchannel)). slice_set all c.len-index.result list) c.push_reserved.ensures.items ∙ last_written before _ list c.len-index.result (omega (arith, c.len-index.ensures, c.loop-channel.all.ok.0)) in
    let blank =
    c.index_mut.ensures.value
    ∙ ap (λ (all : List (List Subchannel)). get_or all c.len-index.result c.index_mut.result.now) c.push_reserved.ensures.items
    ∙ get_or_push before _ c.index_mut.result.now c.len-index.result (omega (arith, c.len-index.ensures, c.loop-channel.all.ok.0)) in
    record {
      delay = c.in_ok-progress.ensures.dealt.delay ∙ i.delay;
      in_range = (omega (arith, c.in_ok-progress.progress.in_range), omega (arith, c.in_ok-progress.progress.in_range));
      places = c.push_reserved.ensures.capacity ∙ i.places;
      many = omega (arith, c.push_reserved.ensures.len, i.many);
      so_far =
          subst (λ (all : List (List Subchannel)). DealtTo c.args.delay c.args.channels.now (c.loop-channel.channel-index + 1) all c.in_ok-progress.progress.first c.in_ok-progress.progress.period)
          (sym written)
          (dealt_next c.args.delay c.args.channels.now c.loop-channel.channel-index _ before list c.loop-channel.progress.0 c.loop-channel.progress.1.0 c.loop-channel.progress.1.1.0 c.in_ok-progress.progress i.delay refl i.so_far
          c.if-not-takes.ensures.decides c.in_ok-progress.ensures.dealt);
      whole =
          written
          ∙ filled_next c.args.delay c.args.channels.now c.loop-channel.channel-index _ before _ list c.loop-channel.progress.0 c.loop-channel.progress.1.0 i.delay refl i.so_far.next i.whole blank c.in_ok-progress.ensures.dealt.subchannels c.in_ok-progress.ensures.rest_kept;
    }
