use Rattle.std.proofs.Common.{sym, ap, ◌∙◌, subst, arith}
use Rattle.ng_view.specs.Steps.{regiven}
use Rattle.ng_view.specs.Views.{numbered}
use Rattle.ng_space.specs.Blocks.{BlockToken, HasBlock, IsReady, OfSlot, Serves}
use Rattle.ng_space.specs.Callers.{Caller}
use Rattle.ng_space.specs.Leaving.{Leaves}
use Rattle.ng_space.proofs.Entering.{one_number}
use Rattle.ng_space.proofs.Granting.{regiven_block, regives_block}
use Rattle.ng_space.proofs.LeavingFrames.{leaves_regiven}
use Rattle.ng_space.proofs.space.Space.regive.Goals as goal

pub header_told-requires-clause-may : goal.header_told-requires-clause-may
header_told-requires-clause-may g c =
    let r = c.requires in let header = c.header-header.ensures in let block = sym c.block.view_is in
    regives_block _ _ _ c.args.hand.now _ _ (ap (λ (hand : Caller). hand.view) c.hand.view_is) (ap (λ k. numbered k c.hand.inside.seat.me.0) c.number-number.ensures ∙ one_number c.hand.inside.seat.me.0 _ _ c.hand.invariant.own_book)
    _ c.args.n (subst (HasBlock c.args.hand.now) block r.block) header.token (subst (λ (b : BlockToken). OfSlot c.args.hand.now b.slot (Serves c.args.n 16)) block r.serves) (subst (λ (b : BlockToken). OfSlot c.args.hand.now b.slot (IsReady b.slot b.at c.args.n)) block r.ready) header.value

pub returns-clause-has : goal.returns-clause-has
returns-clause-has g c =
    let r = c.requires in let header = c.header-header.ensures in let block = sym c.block.view_is in let hand = c.hand.view_is in
    let slot = c.block.inside.slot in let at = c.block.inside.at in
    let has = subst (HasBlock c.args.hand.now) block r.block in
    let ready = (subst (λ (b : BlockToken). OfSlot c.args.hand.now b.slot (IsReady b.slot b.at c.args.n)) block r.ready) has.held has.found in
    regiven_block c.args.hand.now _ _ c.args.n c.number-number.result c.header-header.result has (c.push.ensures.number ∙ ap (λ (hand : Caller). hand.number) hand)
    (c.header_told.ensures.told ∙ ap (λ (hand : Caller). regiven hand.view slot.meta slot.index at c.args.n c.number-number.result c.header-header.result) hand)
    header.token.few header.token.whole header.token.first (let from = ready.from in let start = has.place.start in omega arith) ready header.value

pub returns-clause-leaves : goal.returns-clause-leaves
returns-clause-leaves g c =
    let slot = c.block.inside.slot in let at = c.block.inside.at in
    subst (λ (block : BlockToken). Leaves block.slot c.args.hand.now.view c.header_told.new.seat.me.0) c.block.view_is
    (leaves_regiven c.args.hand.now _ _ c.args.n c.number-number.result c.header-header.result (subst (HasBlock c.args.hand.now) (sym c.block.view_is) c.requires.block)
    (c.header_told.ensures.told ∙ ap (λ (hand : Caller). regiven hand.view slot.meta slot.index at c.args.n c.number-number.result c.header-header.result) c.hand.view_is)
    (returns-clause-has g c))
