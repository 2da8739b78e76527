use Rattle.std.proofs.Common.{ap, ◌∙◌}
use Rattle.ng_view.specs.Views.{numbered}
use Rattle.ng_space.proofs.Entering.{enters_anytime, one_number}
use Rattle.ng_space.proofs.space.Space.enter.Goals as goal

pub enter_told-requires-clause-may : goal.enter_told-requires-clause-may
enter_told-requires-clause-may g c = enters_anytime _ _ _ _ _ (ap (λ k. numbered k c.hand.inside.seat.me.0) c.number-number.ensures ∙ one_number c.hand.inside.seat.me.0 _ _ c.hand.invariant.own_book) c.requires.legal
