use Rattle.std.proofs.Common.{◌≡◌, ℕ, ◌<◌, List, [], length, get_or, take, vec_items, sym, ap, ◌∙◌, arith}
use Rattle.std.proofs.lemmas.List.{get_or-take, get_or_read}
use Rattle.planner.specs.Pagoda.{count_at, begins, first_of, share_of, subchannels_of}
use Rattle.planner.specs.declared.subchannel.Subchannel.{Subchannel}
use Rattle.planner.proofs.Channels.{share_some}
use Rattle.planner.proofs.Questions.{subchannel_high}
use Rattle.planner.proofs.Table.{subchannel_of}
use Rattle.planner.proofs.pagoda.Pagoda.subchannel.Goals as goal

pub returns : goal.returns
returns c =
    let plan = c.args.self.now in
    let m : ℕ = plan.delay in
    let cs = vec_items plan.channels in
    let k : ℕ = c.args.index in
    let j : ℕ = c.args.turn in
    let s : ℕ = count_at cs k in
    let none : Subchannel = record { first = 0; pages = 0 } in
    let list = c.index.result.now in
    let within : k < length (vec_items plan.dealt) = omega (arith, c.requires.within, plan.lists, plan.dealt.ok.0) in
    let begun : take s list ≡ subchannels_of m s (begins m cs k) s =
    ap (take s) (get_or_read (vec_items plan.dealt) k list within c.index.ensures []) ∙ plan.begun k c.requires.within in
    let x : Subchannel = get_or list j none in
    let read : x ≡ record { first = first_of m s (begins m cs k) j; pages = share_of m s (begins m cs k) j } =
    sym (get_or-take s list j none c.requires.turn) ∙ ap (λ (l : List Subchannel). get_or l j none) begun ∙ subchannel_of m s (begins m cs k) s j none c.requires.turn in
    let first : x.first ≡ first_of m s (begins m cs k) j = ap (λ (y : Subchannel). y.first) read in
    let pages : x.pages ≡ share_of m s (begins m cs k) j = ap (λ (y : Subchannel). y.pages) read in
    let some = share_some m s (begins m cs k) (plan.deals k c.requires.within).0 j in
    let high = subchannel_high m cs _ plan.deals k j c.requires.within c.requires.turn in
    record { own = (first, pages); small = (omega (arith, pages, some), omega (arith, first, pages, high)) }
