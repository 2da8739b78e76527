use Rattle.std.proofs.Common.{◌+◌, ◌*◌}
use Rattle.ng_build.proofs.Cells.{Clears}
use Rattle.ng_build.proofs.clearing.clear_pages.Given as goal

abbrev pub invariant-loop-k : goal.invariant-loop-k
invariant-loop-k g l = Clears l.initial.seat l.base (l.base + 32 * l.k) l.seat
