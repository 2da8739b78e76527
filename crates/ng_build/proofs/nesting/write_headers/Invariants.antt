use Rattle.ng_build.proofs.Heads.{WritesHeaders}
use Rattle.ng_build.proofs.nesting.write_headers.Given as goal

abbrev pub invariant-loop-i : goal.invariant-loop-i
invariant-loop-i g l = WritesHeaders l.initial.seat l.parent.meta l.parent.index l.draft.base l.step l.i l.seat
