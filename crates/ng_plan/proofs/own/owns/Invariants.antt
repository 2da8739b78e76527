use Rattle.std.proofs.Common.{◌≡◌, ◌++◌, [], length, take, drop}
use Rattle.ng_plan.specs.Steps.{owns_behind}
use Rattle.ng_plan.specs.Tables.{AreMakers}
use Rattle.ng_plan.proofs.own.owns.Given as goal

-- the ops so far and those of what is left are those of all
abbrev pub invariant-loop-number : goal.invariant-loop-number
invariant-loop-number l = record {
  told : l.owns.items ++ owns_behind (take l.number l.lines) (drop l.number l.lines) ≡ owns_behind [] l.lines;
  same : length l.makers.items ≡ length l.names;
  makers : AreMakers l.names l.makers.items (take l.number l.lines);
}
