use Rattle.std.proofs.Common.{◌+◌, ◌*◌, ◌<◌, ◌≤◌, inl, inr, ⊎_elim, sym, subst, arith}
use Rattle.ng_build.proofs.Cells.{Clears, builds_loaded, clears_load, clears_none, clears_store, within_more}
use Rattle.ng_build.proofs.clearing.clear_cells.Goals.{then-load_seat-ne0, else-load_seat-ne0}
use Rattle.ng_build.proofs.clearing.clear_cells.Goals as goal

pub loop-k-init : goal.loop-k-init
loop-k-init g c = clears_none _ _

pub store_page-requires-clause-may : goal.store_page-requires-clause-may
store_page-requires-clause-may g c = inl (builds_loaded _ _ _ _ c.loop-k.k c.requires.cell c.requires.builds c.loop-k.invariant c.loop-k-test.true _ _ c.load_seat.ensures.view)

pub loop-k-preserved : goal.loop-k-preserved
loop-k-preserved g c = elim c.if-load_seat-ne0.branch [
  | then-load_seat-ne0 w ↦ subst (Clears c.args.seat.now c.args.from (c.args.from + 4 * (c.loop-k.k + 1))) (sym w.seat-is) (clears_store _ _ _ _ c.loop-k.k c.requires.cell c.requires.builds c.loop-k.invariant c.loop-k-test.true _ _ c.load_seat.ensures.view _ w.store_page.ensures)
  | else-load_seat-ne0 w ↦ subst (Clears c.args.seat.now c.args.from (c.args.from + 4 * (c.loop-k.k + 1))) (sym w.seat-is) (clears_load _ _ _ _ c.loop-k.k c.requires.cell c.requires.builds c.loop-k.invariant c.loop-k-test.true _ _ c.load_seat.ensures.view w.if-load_seat-ne0.false)
]

pub returns-clause-kept : goal.returns-clause-kept
returns-clause-kept g c = λ b x out.
    c.loop-k.invariant.kept b x (⊎_elim (λ (l : b < c.args.from). inl l) (λ (l : c.args.from + 4 * c.args.cells ≤ b). inr (omega (arith, c.loop-k-test.false, c.loop-k.auto.k-end))) out)

pub returns-clause-reads : goal.returns-clause-reads
returns-clause-reads g c =
    let reads = c.loop-k.invariant.reads in record {
      words = reads.words;
      readings = reads.readings;
      within = within_more c.args.from (c.args.from + 4 * c.loop-k.k) c.args.from (c.args.from + 4 * c.args.cells) reads.words (omega arith) (omega (arith, c.loop-k.auto.k-end)) reads.within;
    }
