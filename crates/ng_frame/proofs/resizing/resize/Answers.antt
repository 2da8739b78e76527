use Rattle.std.proofs.Common.{◌≡◌, ◌-◌, ◌<◌, ap, ◌∙◌, subst, arith}
use Rattle.ng_view.specs.Frame.{IsTrailer}
use Rattle.ng_view.specs.Steps.{loaded}
use Rattle.ng_view.specs.Tells.{Tells}
use Rattle.ng_space.specs.Blocks.{HasFramed, OfSlot}
use Rattle.ng_space.specs.Placed.{IsSmall}
use Rattle.ng_frame.proofs.Besides.{besides_load, besides_then, regiven_leaves}
use Rattle.ng_frame.proofs.Lengths.{block_whole}
use Rattle.ng_frame.proofs.Resizes.{regiven_bytes, regiven_still, resize_ready, serves_still, since}
use Rattle.ng_frame.proofs.resizing.resize.Goals as goal

pub store_trailer_behind-requires-clause-whole : goal.store_trailer_behind-requires-clause-whole
store_trailer_behind-requires-clause-whole g c = block_whole g.N.Name.facts.start c.args.hand.now c.args.block c.requires.block c.load.ensures.placed

pub regive-requires-clause-serves : goal.regive-requires-clause-serves
regive-requires-clause-serves g c =
    serves_still c.args.hand.now c.store_trailer_behind.new.hand c.args.block (λ a. a < c.args.block.at) c.args.n c.requires.block
    (since g.N.Name.facts.start c.args.hand.now c.load.new.hand c.store_trailer_behind.new.hand c.args.block c.requires.block c.load.result
    (c.load.ensures.view ∙ ap (λ a. loaded c.args.hand.now.view (a - 4) c.load.result) c.at-front.ensures.at) c.store_trailer_behind.ensures.own)
    c.requires.serves

pub regive-requires-clause-ready : goal.regive-requires-clause-ready
regive-requires-clause-ready g c =
    let block = c.args.block in
    let key = g.N.Name.facts.start in
    let at = c.at-front.ensures.at in let whole = c.at-front.ensures.whole in let from = c.at-front.ensures.from in let gap = c.gap.ensures.gap in
    let reserved : c.gap.result - c.args.n ≡ (block.slot.end - block.at) - c.args.n = omega (arith, gap) in
    resize_ready key c.args.hand.now c.load.new.hand c.store_trailer_behind.new.hand block c.requires.block c.load.result
    (c.load.ensures.view ∙ ap (λ a. loaded c.args.hand.now.view (a - 4) c.load.result) at) c.store_trailer_behind.ensures.own
    (subst (λ a. Tells key c.args.hand.now.view (a - 4) c.load.result) at c.load.ensures.told)
    (subst (λ a. IsSmall c.args.hand.now.view (a - 4) c.load.result) at c.load.ensures.small)
    (block_whole key c.args.hand.now block c.requires.block c.load.ensures.placed) (omega (arith, at, whole)) (omega (arith, at, from))
    c.args.n c.requires.within c.requires.marked
    (subst (λ r. OfSlot c.store_trailer_behind.new.hand block.slot (λ h. IsTrailer h r)) reserved c.store_trailer_behind.ensures.trailer)

pub returns-clause-kept : goal.returns-clause-kept
returns-clause-kept g c =
    let block = c.args.block in
    let at = c.at-front.ensures.at in let whole = c.at-front.ensures.whole in let from = c.at-front.ensures.from in let gap = c.gap.ensures.gap in
    let is = block_whole g.N.Name.facts.start c.args.hand.now block c.requires.block c.load.ensures.placed in
    let front = is.front in let within = c.requires.within in
    regiven_bytes c.load.new.hand c.store_trailer_behind.new.hand c.regive.new.hand block c.args.n _ _ c.regive.ensures.view c.args.hand.now c.load.result
    (c.load.ensures.view ∙ ap (λ a. loaded c.args.hand.now.view (a - 4) c.load.result) at) c.store_trailer_behind.ensures.own (omega (arith, at, whole)) (omega (arith, at, from, front))
    (λ y b below known. c.store_trailer_behind.ensures.bytes y b (omega (arith, below, gap, within)) known)

pub returns-clause-still : goal.returns-clause-still
returns-clause-still g c =
    regiven_still c.load.new.hand c.store_trailer_behind.new.hand c.regive.new.hand c.args.block c.args.n _ _ c.regive.ensures.view c.args.hand.now.view (λ a. a < c.args.block.at)
    (since g.N.Name.facts.start c.args.hand.now c.load.new.hand c.store_trailer_behind.new.hand c.args.block c.requires.block c.load.result
    (c.load.ensures.view ∙ ap (λ a. loaded c.args.hand.now.view (a - 4) c.load.result) c.at-front.ensures.at) c.store_trailer_behind.ensures.own)

pub returns-clause-leaves : goal.returns-clause-leaves
returns-clause-leaves g c =
    regiven_leaves c.args.hand.now c.store_trailer_behind.new.hand c.regive.new.hand c.args.block c.args.n _ _
    (besides_then c.args.block.slot c.args.hand.now.view c.load.new.hand.view c.store_trailer_behind.new.hand.view (besides_load c.args.block.slot c.args.hand.now.view c.load.new.hand.view _ c.load.result c.load.ensures.view) c.store_trailer_behind.ensures.leaves)
    c.store_trailer_behind.ensures.block c.regive.ensures.view
    (subst (HasFramed c.regive.new.hand) c.regive.ensures.block c.regive.ensures.has)
