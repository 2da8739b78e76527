use Rattle.std.proofs.Common.{ap, sym, subst, ◌∙◌}
use Rattle.ng_view.specs.Lists.{Among}
use Rattle.ng_view.specs.Views.{numbered}
use Rattle.ng_view.specs.declared.view.View.{View}
use Rattle.ng_space.specs.Callers.{Caller}
use Rattle.ng_space.specs.Passed.{ExcuseToken}
use Rattle.ng_space.proofs.Entering.{one_number}
use Rattle.ng_space.proofs.Passed.{enters_no_memory}
use Rattle.ng_space.proofs.space.Space.enter_no_memory.Goals as goal

pub enter_told-requires-clause-may : goal.enter_told-requires-clause-may
enter_told-requires-clause-may g c =
    let has = c.requires.excuse in
    enters_no_memory _ _ _ c.number-number.result c.args.n c.excuse.inside.number
    (ap (λ k. numbered k c.hand.inside.seat.me.0) c.number-number.ensures ∙ one_number c.hand.inside.seat.me.0 _ _ c.hand.invariant.own_book)
    has.excuse (subst (λ (v : View). Among has.excuse v.excuses) (sym (ap (λ (hand : Caller). hand.view) c.hand.view_is)) has.there) (has.of_number ∙ sym (ap (λ (token : ExcuseToken). token.number) c.excuse.view_is))
