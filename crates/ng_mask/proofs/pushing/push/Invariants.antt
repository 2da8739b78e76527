use Rattle.std.proofs.Common.{◌≡◌, ◌%◌, ◌^◌}
use Rattle.ng_space.specs.Tokens.{HasSlot}
use Rattle.ng_mask.specs.Pushes.{Loses}
use Rattle.ng_mask.proofs.pushing.push.Given as goal

abbrev pub invariant-loop-lost : goal.invariant-loop-lost
invariant-loop-lost g l =
    Loses (record { meta = l.meta; index = l.fn.slot.index; last = l.flags % 2 ^ 5 }) l.lost l.initial.hand.view l.hand.view
    × (l.slot ≡ l.initial.slot)
    × HasSlot l.hand l.slot
    × (l.hand.number ≡ l.initial.hand.number)
    × (l.hand.spare ≡ l.initial.hand.spare)
    × (l.hand.entries ≡ l.initial.hand.entries)
