use Rattle.std.proofs.Common.{◌+◌, inl, sym, subst}
use Rattle.ng_space_tests.specs.Trials.{IsCleared}
use Rattle.ng_space_tests.proofs.Endings.{builds-then, cleared_load, cleared_none, cleared_store}
use Rattle.ng_space_tests.proofs.page.clear.Goals.{then-load_seat-ne0, else-load_seat-ne0}
use Rattle.ng_space_tests.proofs.page.clear.Goals as goal

pub loop-k-init : goal.loop-k-init
loop-k-init g c = cleared_none _ _

pub store_page-requires-clause-may : goal.store_page-requires-clause-may
store_page-requires-clause-may g c = inl (builds-then _ _ _ c.loop-k.k _ c.requires.cell c.requires.builds c.loop-k.invariant c.loop-k-test.true _ _ c.load_seat.ensures.view)

pub loop-k-preserved : goal.loop-k-preserved
loop-k-preserved g c = elim c.if-load_seat-ne0.branch [
  | then-load_seat-ne0 w ↦ subst (IsCleared c.args.seat.now c.args.from (c.loop-k.k + 1)) (sym w.seat-is) (cleared_store _ _ _ c.loop-k.k _ c.requires.cell c.requires.builds c.loop-k.invariant c.loop-k-test.true _ _ _ c.load_seat.ensures.view w.store_page.ensures)
  | else-load_seat-ne0 w ↦ subst (IsCleared c.args.seat.now c.args.from (c.loop-k.k + 1)) (sym w.seat-is) (cleared_load _ _ _ c.loop-k.k _ c.requires.cell c.requires.builds c.loop-k.invariant c.loop-k-test.true _ _ c.load_seat.ensures.view w.if-load_seat-ne0.false)
]
