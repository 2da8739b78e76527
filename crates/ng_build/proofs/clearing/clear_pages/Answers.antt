use Rattle.std.proofs.Common.{◌+◌, ◌*◌, ◌<◌, ◌≤◌, ⊎_elim, inl, inr, arith}
use Rattle.ng_build.proofs.Cells.{builds_only, clears_block, clears_none}
use Rattle.ng_build.proofs.clearing.clear_pages.Goals as goal

pub loop-k-init : goal.loop-k-init
loop-k-init g c = clears_none _ _

pub clear_cells-requires-clause-builds : goal.clear_cells-requires-clause-builds
clear_cells-requires-clause-builds g c a al low high = builds_only _ _ a c.loop-k.invariant.view (c.requires.builds a al (omega arith) (omega (arith, c.loop-k-test.true)))

pub loop-k-preserved : goal.loop-k-preserved
loop-k-preserved g c =
    let block = c.clear_cells.ensures in
    clears_block _ _ _ c.args.base c.loop-k.k c.loop-k.invariant (record { view = block.view; zero = block.zero; kept = block.kept; reads = block.reads })

pub returns-clause-kept : goal.returns-clause-kept
returns-clause-kept g c = λ b x out.
    c.loop-k.invariant.kept b x (⊎_elim (λ (l : b < c.args.base). inl l) (λ (l : c.args.base + 4096 * c.args.pages ≤ b). inr (omega (arith, c.loop-k-test.false, c.loop-k.auto.k-end))) out)
