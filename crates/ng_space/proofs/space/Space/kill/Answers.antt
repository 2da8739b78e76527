use Rattle.std.proofs.Common.{ℕ, ◌+◌, ◌%◌, refl, sym, ap, ◌∙◌, subst}
use Rattle.ng_view.specs.Steps.{killed}
use Rattle.ng_view.specs.Views.{numbered}
use Rattle.ng_view.specs.declared.view.View.{View}
use Rattle.ng_space.specs.Blocks.{BlockToken, HasBlock}
use Rattle.ng_space.specs.Leaving.{Leaves}
use Rattle.ng_space.specs.Callers.{Caller}
use Rattle.ng_space.proofs.Entering.{one_number}
use Rattle.ng_space.proofs.Granting.{killed_slot, kills_block}
use Rattle.ng_space.proofs.LeavingFrames.{leaves_killed}
use Rattle.ng_space.proofs.space.Space.kill.Goals as goal

pub header_told-requires-clause-may : goal.header_told-requires-clause-may
header_told-requires-clause-may g c =
    let has = subst (HasBlock c.args.hand.now) (sym c.block.view_is) c.requires.block in
    kills_block _ _ _ c.args.hand.now _ _ c.load-header.result _ c.block.invariant has (ap (λ (hand : Caller). hand.view) c.hand.view_is ∙ c.load-header.ensures.view)
    (ap (λ k. numbered k c.hand.inside.seat.me.0) c.number-number.ensures ∙ one_number c.hand.inside.seat.me.0 _ _ c.hand.invariant.own_book) refl

pub returns-clause-has : goal.returns-clause-has
returns-clause-has g c =
    let has = subst (HasBlock c.args.hand.now) (sym c.block.view_is) c.requires.block in
    let slot = c.block.inside.slot in let y : ℕ = c.load-header.result in
    killed_slot c.args.hand.now _ _ c.number-number.result (y % 256 + 65280) y has (c.push.ensures.number ∙ ap (λ (hand : Caller). hand.number) c.hand.view_is ∙ c.load-header.ensures.number)
    (c.header_told.ensures.told ∙ ap (λ (u : View). killed u slot.meta slot.index c.block.inside.at c.number-number.result (y % 256 + 65280)) (ap (λ (hand : Caller). hand.view) c.hand.view_is ∙ c.load-header.ensures.view))

pub returns-clause-leaves : goal.returns-clause-leaves
returns-clause-leaves g c =
    let has = subst (HasBlock c.args.hand.now) (sym c.block.view_is) c.requires.block in
    let slot = c.block.inside.slot in let y : ℕ = c.load-header.result in
    subst (λ (block : BlockToken). Leaves block.slot c.args.hand.now.view c.header_told.new.seat.me.0) c.block.view_is
    (leaves_killed c.args.hand.now (record c.args.hand.now { view = c.header_told.new.seat.me.0 }) _ c.number-number.result has (record {
      header = y;
      view = c.header_told.ensures.told ∙ ap (λ (u : View). killed u slot.meta slot.index c.block.inside.at c.number-number.result (y % 256 + 65280)) (ap (λ (hand : Caller). hand.view) c.hand.view_is ∙ c.load-header.ensures.view);
    }))
