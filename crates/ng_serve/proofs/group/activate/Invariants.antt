use Rattle.std.proofs.Common.{◌-◌, ◌<◌}
use Rattle.ng_serve.specs.Groups.{IsRaisedTo}
use Rattle.ng_serve.specs.Reads.{Reads}
use Rattle.ng_serve.proofs.group.activate.Given as goal

-- words were read alone, and the index is one of five bits
abbrev pub invariant-loop-active : goal.invariant-loop-active
invariant-loop-active g l = record {
  reads : Reads l.fn.seat l.seat;
  small : l.active < 32;
  within : IsRaisedTo l.fn.seat l.group.base l.group.last l.active l.seat;
}

abbrev pub decreases-loop-active : goal.decreases-loop-active
decreases-loop-active g l = l.lowest - l.active
