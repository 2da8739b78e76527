use Rattle.std.proofs.Common.{◌≡◌, ℕ, ◌+◌, ◌%◌, subst, arith}
use Rattle.ng_frame.specs.Judging.{IsSureByte}
use Rattle.ng_frame.proofs.Lengths.{block_whole}
use Rattle.ng_header.specs.Bytes.{byte_of}
use Rattle.ng_space.specs.Blocks.{OfSlot}
use Rattle.ng_space.proofs.LeavingFrames.{leaves_loaded}
use Rattle.ng_bytes.proofs.Sure.{loaded_sure, sure_loaded}
use Rattle.ng_bytes.proofs.cell.load_cell.Goals as goal

pub returns-clause-sure : goal.returns-clause-sure
returns-clause-sure g c = λ j lt.
    let key = g.N.Name.facts.start in
    let block = c.args.block.now in
    let old = c.args.hand.now in let new = c.load.new.hand in
    let a : ℕ = c.args.addr in let x : ℕ = c.load.result in
    let cell = c.requires.cell in let from = c.requires.from in
    let at = c.at-at.ensures.at in let low = c.at-at.ensures.from in
    let place : (a + j) % 4 ≡ j = omega (arith, cell, lt) in
    let whole = block_whole key old block c.requires.block c.load.ensures.placed in
    subst (λ k. OfSlot new block.slot (IsSureByte (a + j) (byte_of x k))) place
    (sure_loaded key old new block a x c.requires.block whole c.load.ensures.told c.load.ensures.view (omega (arith, from, at, low)) c.requires.below
    (a + j) (omega (arith, cell, lt)))

pub returns-clause-kept : goal.returns-clause-kept
returns-clause-kept g c =
    loaded_sure g.N.Name.facts.start c.args.hand.now.view c.load.new.hand.view c.args.addr c.load.result c.load.ensures.told c.load.ensures.view

pub returns-clause-leaves : goal.returns-clause-leaves
returns-clause-leaves g c = leaves_loaded c.args.hand.now.view c.load.new.hand.view c.args.addr c.load.result c.load.ensures.view
