-- A hand of a test.
use Rattle.std.specs.Prelude.{◌≡◌}
use Rattle.ng_space.specs.Callers.{Caller}

-- the same hand later, which sent and took in no parcel in between
pub record HasEntered (before after : Caller) : Type 0 where
  pub number : after.number ≡ before.number
  pub sent : after.view.sent ≡ before.view.sent
  pub taken : after.view.taken ≡ before.view.taken
