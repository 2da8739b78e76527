use Rattle.std.proofs.Common.{sym, subst}
use Rattle.ng_view.specs.Cuts.{Cut}
use Rattle.ng_view.specs.declared.view.View.{View}
use Rattle.ng_space.proofs.Passed.{cut_empty, may_cut}
use Rattle.ng_space.proofs.space.Space.pass_slot.Goals as goal

pub split_off-stand_in-requires-clause-allowed : goal.split_off-stand_in-requires-clause-allowed
split_off-stand_in-requires-clause-allowed g c = may_cut _ _ _ _ _ (cut_empty _)

pub split_off-requires-clause-allowed : goal.split_off-requires-clause-allowed
split_off-requires-clause-allowed g c = may_cut _ _ _ _ _ (subst (λ (v : View). Cut v g.C.Passing.left g.C.Passing.right) (sym c.take_in.ensures.both) c.requires.cut)
