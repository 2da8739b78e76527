use Rattle.std.proofs.Common.{arith, ◌≡◌, ◌<◌, ◌++◌, ◌∷◌, [], ℕ, List, All, Contains, length, subst, sym}
use Rattle.std.proofs.lemmas.List.Elements.{All-push, All-same}
use Rattle.ng_lists.specs.Rings.{ring_of}
use Rattle.ng_lists.proofs.MemberLemmas.{Contains-next_in}
use Rattle.ng_lists.proofs.tests.ring.Goals as goal

-- one more of the ring's metas
found_more : (ring xs ys : List ℕ) (x : ℕ) → ys ≡ xs ++ x ∷ [] → All (Contains ring) xs → Contains ring x → All (Contains ring) ys
found_more ring xs ys x is found member =
    All-same (Contains ring) ys (xs ++ x ∷ []) is (All-push (Contains ring) xs x found member)

pub loop-preserved : goal.loop-preserved
loop-preserved c =
    let known : c.args.class < length c.args.rings.now.rings = omega (arith, c.loop.invariant.classes, c.loop.invariant.known) in
    record {
      classes = c.loop.invariant.classes;
      known = c.loop.invariant.known;
      found = found_more (ring_of c.args.rings.now c.args.class) _ _ c.loop.at c.in_ok-push.ensures.items c.loop.invariant.found c.loop.invariant.member;
      member = subst
          (Contains (ring_of c.args.rings.now c.args.class))
          (sym (c.next-at.ensures.next c.args.class [] known c.loop.invariant.member))
          (Contains-next_in (ring_of c.args.rings.now c.args.class) c.loop.at c.loop.invariant.member);
    }

pub returns-then-at-first : goal.returns-then-at-first
returns-then-at-first c = record {
  members = found_more (ring_of c.args.rings.now c.args.class) _ _ c.loop.at c.in_ok-push.ensures.items c.loop.invariant.found c.loop.invariant.member;
}
