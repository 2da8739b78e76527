use Rattle.std.proofs.Common.{◌+◌, ◌*◌}
use Rattle.ng_build.proofs.Cells.{Clears}
use Rattle.ng_build.proofs.clearing.clear_cells.Given as goal

abbrev pub invariant-loop-k : goal.invariant-loop-k
invariant-loop-k g l = Clears l.initial.seat l.from (l.from + 4 * l.k) l.seat
