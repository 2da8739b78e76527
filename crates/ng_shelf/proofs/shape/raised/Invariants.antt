use Rattle.std.proofs.Common.{ℕ, ◌-◌, ◌<◌, ◌≤◌}
use Rattle.ng_shelf.specs.Shape.{IsStop}
use Rattle.ng_shelf.proofs.shape.raised.Given as goal

-- at no index behind the active one and before this one to stop
abbrev pub invariant-loop-index : goal.invariant-loop-index
invariant-loop-index l = record {
  above : l.active < l.index;
  within : l.index ≤ l.last;
  least : (lower : ℕ) → l.active < lower → lower < l.index → ¬ IsStop l.class l.last lower;
}

abbrev pub decreases-loop-index : goal.decreases-loop-index
decreases-loop-index l = l.last - l.index
