-- The hand after a pop, as a close asks of it.
use Rattle.std.proofs.Common.{◌≡◌, ℕ}
use Rattle.ng_space.specs.Callers.{Caller}
use Rattle.ng_space.specs.Tests.{HasEntered}
use Rattle.ng_mask.specs.Pops.{HasPopCause}
use Rattle.ng_mask.specs.declared.outcome.Pop.{Pop}
use Rattle.ng_mask.proofs.Trading.{pop_even}

-- it sent no parcel and took none in
pub has_popped : {X : Type 0} (meta class : ℕ) (answer : Pop X) (before after : Caller) → after.number ≡ before.number → HasPopCause before.view meta class answer after.view → HasEntered before after
has_popped meta class answer before after number cause =
    let keeps = pop_even before.view meta class answer after.view cause in
    record { number = number; sent = keeps.sent; taken = keeps.taken }
