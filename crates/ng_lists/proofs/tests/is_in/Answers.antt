use Rattle.std.proofs.Common.{arith, ◌<◌, Contains, length, subst}
use Rattle.ng_lists.specs.Rings.{ring_of}
use Rattle.ng_lists.proofs.tests.is_in.Goals as goal

pub returns-then-other-meta : goal.returns-then-other-meta
returns-then-other-meta c =
    let inside : c.loop-other.other-index < length c.deref-other-items.result.now = omega arith in
    record {
      member = λ _. subst (Contains (ring_of c.args.rings.now c.args.class)) c.if-other-meta.true (c.loop-other.invariant c.loop-other.other-index 0 inside);
    }
