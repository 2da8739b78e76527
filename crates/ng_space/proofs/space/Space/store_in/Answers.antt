use Rattle.std.proofs.Common.{◌≡◌, ap, ◌∙◌, arith}
use Rattle.ng_view.specs.Steps.{stored}
use Rattle.ng_space.specs.Blocks.{BlockToken}
use Rattle.ng_space.specs.Callers.{Caller}
use Rattle.ng_space.proofs.Granting.{stored_block, stores_in_block}
use Rattle.ng_space.proofs.Leaving.{stored_others, stored_rest}
use Rattle.ng_space.proofs.space.Space.store_in.Given.{Over}
use Rattle.ng_space.proofs.space.Space.store_in.Goals as goal

pub store_told-requires-clause-inside : goal.store_told-requires-clause-inside
store_told-requires-clause-inside g c =
    let token = c.place-meta.ensures.token in
    let most = token.below in let end = ap (λ (block : BlockToken). block.slot.end) c.block.view_is in let below = c.requires.below in omega arith

pub store_told-requires-clause-may : goal.store_told-requires-clause-may
store_told-requires-clause-may g c =
    let is = c.block.view_is in let r = c.requires in let place = c.place-meta.ensures in
    stores_in_block _ _ _ _ _ _ _ c.args.hand.now c.args.block.now (ap (λ (hand : Caller). hand.view) c.hand.view_is) (place.meta ∙ ap (λ (block : BlockToken). block.slot.meta) is) (place.index ∙ ap (λ (block : BlockToken). block.slot.index) is)
    r.block r.cell r.from r.below (let e = c.from-value.ensures in let f = c.ranges.value.fits in omega arith)

-- it is a store in the block's slot
stores : (g : Over) (c : goal.After-store_told g) → c.store_told.new.seat.me.0 ≡ stored c.args.hand.now.view c.args.block.now.slot.meta c.args.block.now.slot.index c.args.addr c.from-value.result
stores g c =
    let hand = c.hand.view_is in let is = c.block.view_is in let place = c.place-meta.ensures in
    let meta = place.meta ∙ ap (λ (block : BlockToken). block.slot.meta) is in let index = place.index ∙ ap (λ (block : BlockToken). block.slot.index) is in
    c.store_told.ensures.told ∙ (λ t. stored (hand t).view (meta t) (index t) c.args.addr c.from-value.result)

pub returns-clause-has : goal.returns-clause-has
returns-clause-has g c =
    stored_block c.args.hand.now _ c.args.block.now c.args.addr c.from-value.result c.requires.block (ap (λ (hand : Caller). hand.number) c.hand.view_is) (stores g c)

pub returns-clause-others : goal.returns-clause-others
returns-clause-others g c = stored_others c.args.block.now.slot c.args.hand.now.view c.store_told.new.seat.me.0 c.args.addr c.from-value.result (stores g c)

pub returns-clause-rest : goal.returns-clause-rest
returns-clause-rest g c = stored_rest c.args.hand.now.view c.store_told.new.seat.me.0 c.args.block.now.slot.meta c.args.block.now.slot.index c.args.addr c.from-value.result (stores g c)
