use Rattle.std.proofs.Common.{◌+◌, eq-eqb, ne_eqb, sym, ap, ◌∙◌, subst}
use Rattle.std.proofs.lemmas.Bool.Decides.{when_false, when_true}
use Rattle.std.specs.Prelude.{IfErr, IfOk}
use Rattle.ng_view.specs.Steps.{pushed, read}
use Rattle.ng_space.specs.Callers.{Caller}
use Rattle.ng_space.specs.Leaving.{Leaves, LeavesAll}
use Rattle.ng_space.specs.Tokens.{Token}
use Rattle.ng_space.proofs.Holding.{pushes_slot}
use Rattle.ng_space.proofs.LeavingSlots.{leaves_pushed, leaves_read}
use Rattle.ng_space.proofs.space.Space.push_step.Goals as goal
use Rattle.ng_space.proofs.space.Space.push_step.Goals.{then-found-old, else-found-old}

pub exchange_told-found-requires-clause-may : goal.exchange_told-found-requires-clause-may
exchange_told-found-requires-clause-may g c =
    let is = c.slot.view_is in
    pushes_slot _ _ _ _ _ _ _ _ _ c.requires.slot (ap (λ (hand : Caller). hand.view) c.hand.view_is) (ap (λ (slot : Token). slot.meta) is) (ap (λ (slot : Token). slot.index) is) c.from-old.ensures c.requires.seen

pub returns-clause-leaves : goal.returns-clause-leaves
returns-clause-leaves g c = elim c.if-found-old.branch [
  | then-found-old w ↦
      let hand = c.hand.view_is in let slot = c.slot.view_is in
      let word = c.exchange_told-found.result in
      subst (λ r. IfOk r (λ done. Leaves c.args.slot c.args.hand.now.view c.exchange_told-found.new.seat.me.0)) (sym w.result-is)
      (leaves_pushed c.args.slot c.args.hand.now.view c.exchange_told-found.new.seat.me.0 (c.args.slot.meta + 28) word
      (when_true _ _ (eq-eqb _ _ w.if-found-old.true) c.exchange_told-found.ensures.told.1 ∙ (λ t. read (pushed (hand t).view (slot t).meta (slot t).index) ((slot t).meta + 28) word)))
  | else-found-old w ↦ subst (λ r. IfOk r (λ done. Leaves c.args.slot c.args.hand.now.view c.exchange_told-found.new.seat.me.0)) (sym w.result-is) tt
]

pub returns-clause-stays : goal.returns-clause-stays
returns-clause-stays g c = elim c.if-found-old.branch [
  | then-found-old w ↦ subst (λ r. IfErr r (λ left. LeavesAll c.args.hand.now.view c.exchange_told-found.new.seat.me.0)) (sym w.result-is) tt
  | else-found-old w ↦
      let hand = c.hand.view_is in let slot = c.slot.view_is in
      let word = c.exchange_told-found.result in
      subst (λ r. IfErr r (λ left. LeavesAll c.args.hand.now.view c.exchange_told-found.new.seat.me.0)) (sym w.result-is)
      (leaves_read c.args.hand.now.view c.exchange_told-found.new.seat.me.0 (c.args.slot.meta + 28) word
      (when_false _ _ (ne_eqb _ _ w.if-found-old.false) c.exchange_told-found.ensures.told.1 ∙ (λ t. read (hand t).view ((slot t).meta + 28) word)))
]
