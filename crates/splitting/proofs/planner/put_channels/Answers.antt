use Rattle.std.proofs.Common.{◌≡◌, ℕ, ◌+◌, ◌-◌, ◌∙◌, subst, arith}
use Rattle.std.specs.List.Sorted.{IsPermutation}
use Rattle.records.proofs.Exits.{exit}
use Rattle.bag.specs.Bags.{held, room}
use Rattle.bag.proofs.Memory.{same_memory_trans}
use Rattle.sequences.specs.Sequences.{whole_channels}
use Rattle.splitting_rule.proofs.Pieces.{channels_more, too_few}
use Rattle.splitting.proofs.planner.put_channels.Goals as goal

pub returns-in_err-put-clause-channels_or_full : goal.returns-in_err-put-clause-channels_or_full
returns-in_err-put-clause-channels_or_full c =
    let full = c.in_err-put.ensures.held_or_full in
    let memory = same_memory_trans c.args.bag.now c.clear.new.self c.loop-channel.bag c.clear.ensures.same_memory c.loop-channel.invariant.2 in
    exit _ _ c.from_residual.result c.in_err-put.field-0.0 c.from_residual.ensures.1
    (too_few (c.loop-channel.channel - 1) c.args.channels (room c.args.bag.now) (held c.loop-channel.bag) (omega arith) c.loop-channel.invariant.0 (full.1 ∙ memory.same_room))

pub loop-channel-preserved : goal.loop-channel-preserved
loop-channel-preserved c =
    let more = channels_more c.loop-channel.channel (held c.loop-channel.bag) (held c.put.new.self) (omega arith) c.loop-channel.invariant.0 c.in_ok-put.ensures.held_or_full.one_more in
    let same : c.loop-channel.channel ≡ c.loop-channel.channel + 1 - 1 = omega arith in (
      subst (λ (n : ℕ). IsPermutation (whole_channels n) (held c.put.new.self)) same more,
      omega arith,
      same_memory_trans c.clear.new.self c.loop-channel.bag c.put.new.self c.loop-channel.invariant.2 c.put.ensures.same_memory,
    )

pub returns-clause-channels_or_full : goal.returns-clause-channels_or_full
returns-clause-channels_or_full c =
    let all : c.loop-channel.channel - 1 ≡ c.args.channels = omega arith in
    subst (λ (n : ℕ). IsPermutation (whole_channels n) (held c.loop-channel.bag)) all c.loop-channel.invariant.0

pub returns-in_ok-put-clause-channels_or_full : goal.returns-in_ok-put-clause-channels_or_full
returns-in_ok-put-clause-channels_or_full c =
    let more = channels_more c.loop-channel.channel (held c.loop-channel.bag) (held c.put.new.self) (omega arith) c.loop-channel.invariant.0 c.in_ok-put.ensures.held_or_full.one_more in
    let all : c.loop-channel.channel ≡ c.args.channels = omega arith in
    subst (λ (n : ℕ). IsPermutation (whole_channels n) (held c.put.new.self)) all more
