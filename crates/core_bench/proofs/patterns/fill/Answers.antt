use Rattle.std.proofs.Common.{List, length, ap, arith, subst, sym}
use Rattle.ng_space.specs.Tokens.{Token}
use Rattle.ng_group.specs.Tests.{HasAll}
use Rattle.ng_group.proofs.TestLemmas.{came_last, has_none}
use Rattle.core_bench.proofs.patterns.fill.Goals as goal

pub loop-init : goal.loop-init
loop-init g c =
    (has_none c.args.hand.now c.args.slots.now.items c.requires.none, ap (λ (tokens : List Token). length tokens) c.requires.none, c.requires.room, c.requires.spare)

pub loop-preserved : goal.loop-preserved
loop-preserved g c =
    let came = c.in-Some.ensures in
    let pushed = c.push_reserved.ensures in
    let has = subst (HasAll c.get.new.hand) (sym pushed.items)
    (came_last c.loop.hand c.get.new.hand c.in-Some.slot c.loop.slots.items came.others came.slot came.apart c.loop.invariant.0) in (
      has,
      omega (arith, pushed.len, c.loop.invariant.1),
      omega (arith, pushed.capacity, c.loop.invariant.2),
      omega (arith, came.spare, c.loop.invariant.3),
    )
