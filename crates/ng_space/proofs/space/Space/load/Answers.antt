use Rattle.std.proofs.Common.{ap, subst, ◌∙◌}
use Rattle.ng_view.specs.Steps.{loaded}
use Rattle.ng_view.specs.Tells.{Tells}
use Rattle.ng_view.specs.declared.view.View.{View}
use Rattle.ng_space.specs.Callers.{Caller}
use Rattle.ng_space.specs.Placed.{AreOnce, ArePlaced, IsSmall}
use Rattle.ng_space.proofs.Granting.{loaded_block}
use Rattle.ng_space.proofs.Holding.{has_loaded}
use Rattle.ng_space.proofs.Entering.{loads_and_tells}
use Rattle.ng_space.proofs.space.Space.load.Goals as goal

pub load_told-requires-clause-may : goal.load_told-requires-clause-may
load_told-requires-clause-may g c = loads_and_tells _ _ _ _ c.requires.cell

pub returns-clause-told : goal.returns-clause-told
returns-clause-told g c = subst (λ (v : View). Tells g.N.Name.facts.start v c.args.addr c.load_told.result) (ap (λ (hand : Caller). hand.view) c.hand.view_is) c.load_told.ensures.told.1

pub returns-clause-placed : goal.returns-clause-placed
returns-clause-placed g c = subst (ArePlaced g.N.Name.facts.start) (ap (λ (hand : Caller). hand.view) c.hand.view_is) c.load_told.ensures.told.2

pub returns-clause-slots : goal.returns-clause-slots
returns-clause-slots g c = λ slot has.
    let is = c.hand.view_is in
    has_loaded _ _ c.args.addr c.load_told.result slot (c.load_told.ensures.told.0 ∙ ap (λ (hand : Caller). loaded hand.view c.args.addr c.load_told.result) is) (ap (λ (hand : Caller). hand.number) is) has

pub returns-clause-blocks : goal.returns-clause-blocks
returns-clause-blocks g c = λ block has.
    let is = c.hand.view_is in
    loaded_block _ _ c.args.addr c.load_told.result block (c.load_told.ensures.told.0 ∙ ap (λ (hand : Caller). loaded hand.view c.args.addr c.load_told.result) is) (ap (λ (hand : Caller). hand.number) is) has

pub returns-clause-once : goal.returns-clause-once
returns-clause-once g c = subst AreOnce (ap (λ (hand : Caller). hand.view) c.hand.view_is) c.load_told.ensures.told.3

pub returns-clause-small : goal.returns-clause-small
returns-clause-small g c = subst (λ (v : View). IsSmall v c.args.addr c.load_told.result) (ap (λ (hand : Caller). hand.view) c.hand.view_is) c.load_told.ensures.told.4
