use Rattle.std.proofs.Common.{◌≡◌, ◌≢◌, ℕ, ◌-◌, ◌*◌, ◌/◌, eq-eqb, sym, ap, ◌∙◌, subst}
use Rattle.ng_view.specs.Steps.{loaded}
use Rattle.ng_view.specs.Tells.{Tells}
use Rattle.ng_space.proofs.LeavingFrames.{leaves_loaded}
use Rattle.ng_frame.specs.Located.{TellsDistance}
use Rattle.ng_frame.proofs.Lengths.{block_whole}
use Rattle.ng_frame.proofs.Marks.{mark_back, mark_first, mark_framed, mark_told}
use Rattle.ng_frame.proofs.Slots.{front_is}
use Rattle.ng_frame.proofs.locating.is_marked.Goals as goal

pub returns-then-at-start-clause-exact : goal.returns-then-at-start-clause-exact
returns-then-at-start-clause-exact g c =
    let at = c.at-at.ensures.at in (
      λ true_is. mark_first c.load-header.new.hand c.args.block.now (c.load-header.ensures.blocks c.args.block.now c.requires.block) (sym at ∙ c.if-at-start.true ∙ c.requires.start),
      λ shift. eq-eqb c.at-at.result c.args.start c.if-at-start.true,
    )

pub returns-then-at-start-clause-leaves : goal.returns-then-at-start-clause-leaves
returns-then-at-start-clause-leaves g c = leaves_loaded c.args.hand.now.view c.load-header.new.hand.view _ c.load-header.result c.load-header.ensures.view

pub returns-else-at-start-clause-exact : goal.returns-else-at-start-clause-exact
returns-else-at-start-clause-exact g c =
    let key = g.N.Name.facts.start in
    let block = c.args.block.now in
    let old = c.args.hand.now in let new = c.load-header.new.hand in let w : ℕ = c.load-header.result in
    let is = block_whole key old block c.requires.block c.load-header.ensures.placed in
    let there : c.args.start / 4 * 4 - 4 ≡ c.args.start - 4 = front_is block.slot c.args.start c.requires.start is ∙ ap (λ s. s - 4) (sym c.requires.start) in
    let loads = c.load-header.ensures.view ∙ ap (λ a. loaded old.view a w) there in
    let told = subst (λ a. Tells key old.view a w) there c.load-header.ensures.told in
    let at = c.at-at.ensures.at in
    let far = ap (λ a. (a - c.args.start) / 16) at in
    let ne : block.at ≢ c.args.start = (λ same. c.if-at-start.false (at ∙ same)) in (
      λ true_is. mark_told key old new block c.requires.block is c.args.start w c.requires.start loads told (subst (TellsDistance w) far (c.tells_distance.ensures.0 true_is)),
      λ shift. c.tells_distance.ensures.1 (subst (TellsDistance w) (sym far) (mark_back key old new block c.requires.block is c.args.start w c.requires.start loads told ne shift)),
    )

pub returns-else-at-start-clause-framed : goal.returns-else-at-start-clause-framed
returns-else-at-start-clause-framed g c = λ framed.
    let key = g.N.Name.facts.start in
    let block = c.args.block.now in
    let old = c.args.hand.now in let new = c.load-header.new.hand in let w : ℕ = c.load-header.result in
    let is = block_whole key old block c.requires.block c.load-header.ensures.placed in
    let there : c.args.start / 4 * 4 - 4 ≡ c.args.start - 4 = front_is block.slot c.args.start c.requires.start is ∙ ap (λ s. s - 4) (sym c.requires.start) in
    let loads = c.load-header.ensures.view ∙ ap (λ a. loaded old.view a w) there in
    let told = subst (λ a. Tells key old.view a w) there c.load-header.ensures.told in
    let at = c.at-at.ensures.at in
    let far = ap (λ a. (a - c.args.start) / 16) at in
    let ne : block.at ≢ c.args.start = (λ same. c.if-at-start.false (at ∙ same)) in
    let shift = mark_framed key old new block c.requires.block is c.args.start w c.requires.start loads told framed in
    c.tells_distance.ensures.1 (subst (TellsDistance w) (sym far) (mark_back key old new block c.requires.block is c.args.start w c.requires.start loads told ne shift))

pub returns-else-at-start-clause-leaves : goal.returns-else-at-start-clause-leaves
returns-else-at-start-clause-leaves g c = leaves_loaded c.args.hand.now.view c.load-header.new.hand.view _ c.load-header.result c.load-header.ensures.view
