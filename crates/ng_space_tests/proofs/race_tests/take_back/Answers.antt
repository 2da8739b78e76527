use Rattle.std.proofs.Common.{subst}
use Rattle.std.specs.Prelude.{IfSome, Option}
use Rattle.ng_space.specs.Tokens.{HasSlot, Token}
use Rattle.ng_space_tests.proofs.Race.{serves-came}
use Rattle.ng_space_tests.proofs.race_tests.take_back.Goals as goal

pub returns-clause-serves : goal.returns-clause-serves
returns-clause-serves g c =
    let has = subst (λ (kept : Option Token). IfSome kept (HasSlot c.args.hand.now)) c.in-Some.is c.requires.kept in
    serves-came _ _ c.args.hand.now c.in-Some.slot c.requires.serves has c.slot_to_seat.ensures.seat
