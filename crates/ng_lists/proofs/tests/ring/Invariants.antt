use Rattle.std.proofs.Common.{◌≡◌, ◌<◌, All, Contains, length}
use Rattle.ng_lists.specs.Rings.{ring_of}
use Rattle.ng_lists.proofs.tests.ring.Given as goal

-- what was found is in the ring
abbrev pub invariant-loop : goal.invariant-loop
invariant-loop l = record {
  classes : length l.rings.rings ≡ 48;
  known : l.class < 48;
  found : All (Contains (ring_of l.rings l.class)) l.metas.items;
  member : Contains (ring_of l.rings l.class) l.at;
}
