use Rattle.std.proofs.Common.{◌≡◌, ◌⊎◌, ℕ, ◌+◌, ◌%◌, ◌<◌, ◌≤◌, ap, sym, ◌∙◌, subst, ⊎_elim, arith}
use Rattle.ng_frame.specs.Contents.{KeepsAround}
use Rattle.ng_frame.proofs.Bytes.{byte_of-low}
use Rattle.ng_frame.proofs.Lengths.{block_whole}
use Rattle.ng_frame.proofs.Verdicts.{loaded_known}
use Rattle.ng_header.specs.Bytes.{byte_of}
use Rattle.ng_space.proofs.LeavingFrames.{leaves_loaded}
use Rattle.ng_view.specs.Frame.{KnowsByte}
use Rattle.ng_view.specs.Steps.{learnt, wrote}
use Rattle.ng_bytes.proofs.Around.{part_around}
use Rattle.ng_bytes.proofs.Changes.{learns_changes, stored_byte, stored_changes}
use Rattle.ng_bytes.proofs.Sure.{knows_sure, loaded_sure, stored_sure, sure_loaded, sure_then}
use Rattle.ng_bytes.proofs.cell.store_low.Given.{Over}
use Rattle.ng_bytes.proofs.cell.store_low.Goals as goal

-- the bytes of the cell that are not stored are those that were loaded
high_bytes : (g : Over) (c : goal.After-store_in g) (j : ℕ) → j < 4 → (c.args.addr + j < c.args.addr) ⊎ (c.args.addr + c.args.count ≤ c.args.addr + j)
    → byte_of c.with_low-value.result j ≡ byte_of c.load.result j
high_bytes g c j lt out = ⊎_elim
    (λ (before : c.args.addr + j < c.args.addr). absurd (omega (arith, before)))
    (λ (after : c.args.addr + c.args.count ≤ c.args.addr + j).
    c.with_low-value.ensures.high j (omega (arith, after)) lt ∙ byte_of-low c.load.result j lt)
    out

-- so what is known around them is known still
keeps : (g : Over) (c : goal.After-store_in g) → KeepsAround c.args.addr (c.args.addr + c.args.count) c.requires.block.held
    (wrote c.args.addr c.with_low-value.result (learnt c.args.addr c.load.result c.requires.block.held))
keeps g c =
    let block = c.args.block.now in
    let has = c.requires.block in
    let some = c.requires.some in let few = c.requires.few in
    part_around has.held c.args.addr c.load.result c.with_low-value.result c.args.addr (c.args.addr + c.args.count) c.requires.cell (omega (arith, some))
    (omega arith) (omega (arith, few))
    (loaded_known g.N.Name.facts.start c.args.hand.now.view block.slot.meta block.slot.index c.args.addr c.load.result has.held has.found c.load.ensures.told)
    (high_bytes g c)

pub returns-then-value-cell-clause-stored : goal.returns-then-value-cell-clause-stored
returns-then-value-cell-clause-stored g c = λ j lt.
    let a : ℕ = c.args.addr in let v : ℕ = c.with_low-value.result in
    let cell = c.requires.cell in let few = c.requires.few in
    let place : (a + j) % 4 ≡ j = omega (arith, cell, few, lt) in
    stored_byte c.args.hand.now c.load.new.hand c.store_in.new.hand c.args.block.now c.requires.block a c.load.result v a (a + c.args.count)
    c.load.ensures.view c.store_in.ensures.view (keeps g c) (a + j) (byte_of c.args.bytes j) (omega (arith, cell, few, lt))
    (ap (byte_of v) place ∙ c.with_low-value.ensures.low j lt)

pub returns-then-value-cell-clause-changes : goal.returns-then-value-cell-clause-changes
returns-then-value-cell-clause-changes g c =
    let a : ℕ = c.args.addr in
    let load = c.load.ensures in let store = c.store_in.ensures in
    stored_changes c.args.hand.now c.load.new.hand c.store_in.new.hand c.args.block.now c.requires.block a c.load.result c.with_low-value.result
    a (a + c.args.count) load.view store.view (keeps g c) c.requires.from c.requires.within store.has
    (record { number = store.number ∙ load.number; spare = store.spare ∙ load.spare; entries = store.entries ∙ load.entries })

pub returns-then-value-cell-clause-others : goal.returns-then-value-cell-clause-others
returns-then-value-cell-clause-others g c = λ m i ne.
    let v = c.args.hand.now.view in let u = c.load.new.hand.view in let w = c.store_in.new.hand.view in
    let a : ℕ = c.args.addr in
    sure_then m i v u w (loaded_sure g.N.Name.facts.start v u a c.load.result c.load.ensures.told c.load.ensures.view m i)
    (stored_sure c.args.block.now.slot u w a c.with_low-value.result c.store_in.ensures.view m i ne)

pub returns-else-value-cell-clause-stored : goal.returns-else-value-cell-clause-stored
returns-else-value-cell-clause-stored g c = λ j lt h found.
    let key = g.N.Name.facts.start in
    let block = c.args.block.now in
    let old = c.args.hand.now in let new = c.load.new.hand in
    let a : ℕ = c.args.addr in let x : ℕ = c.load.result in
    let cell = c.requires.cell in let from = c.requires.from in let within = c.requires.within in let few = c.requires.few in let some = c.requires.some in
    let at = c.at-at.ensures.at in let low = c.at-at.ensures.from in
    let gap = c.gap-gap.ensures.gap in let enough = c.gap-gap.ensures.enough in
    let lt4 : j < 4 = omega (arith, lt, few) in
    let place : (a + j) % 4 ≡ j = omega (arith, cell, lt4) in
    let already : byte_of x ((a + j) % 4) ≡ byte_of c.args.bytes j = ap (byte_of x) place ∙ sym (byte_of-low x j lt4) ∙ ap (λ v. byte_of v j) (sym c.if-value-cell.false) ∙ c.with_low-value.ensures.low j lt in
    let whole = block_whole key old block c.requires.block c.load.ensures.placed in
    subst (λ b. KnowsByte (a + j) b h) already
    (knows_sure (a + j) (byte_of x ((a + j) % 4)) h
    (sure_loaded key old new block a x c.requires.block whole c.load.ensures.told c.load.ensures.view (omega (arith, from, at, low))
    (omega (arith, within, some, gap, enough)) (a + j) (omega (arith, cell, lt4)) h found))

pub returns-else-value-cell-clause-changes : goal.returns-else-value-cell-clause-changes
returns-else-value-cell-clause-changes g c =
    let load = c.load.ensures in
    learns_changes c.args.addr (c.args.addr + c.args.count) c.args.block.now c.args.hand.now c.load.new.hand (load.blocks c.args.block.now c.requires.block)
    (leaves_loaded c.args.hand.now.view c.load.new.hand.view c.args.addr c.load.result load.view)
    (record { number = load.number; spare = load.spare; entries = load.entries })

pub returns-else-value-cell-clause-others : goal.returns-else-value-cell-clause-others
returns-else-value-cell-clause-others g c = λ m i ne.
    loaded_sure g.N.Name.facts.start c.args.hand.now.view c.load.new.hand.view c.args.addr c.load.result c.load.ensures.told c.load.ensures.view m i
