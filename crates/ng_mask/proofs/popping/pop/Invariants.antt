use Rattle.std.proofs.Common.{◌≡◌}
use Rattle.ng_mask.specs.Pops.{Loses}
use Rattle.ng_mask.proofs.popping.pop.Given as goal

abbrev pub invariant-loop-lost : goal.invariant-loop-lost
invariant-loop-lost g l =
    Loses l.meta l.class l.lost l.initial.hand.view l.hand.view
    × (l.hand.number ≡ l.initial.hand.number)
    × (l.hand.spare ≡ l.initial.hand.spare)
    × (l.hand.entries ≡ l.initial.hand.entries)
