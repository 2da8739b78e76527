use Rattle.std.proofs.Common.{◌-◌, arith, sym, ◌∙◌}
use Rattle.ng_replay.proofs.OpLemmas.{AreHeld-sent, KeepsBalance-sent, handed_in-nothing, handed_in-sent}
use Rattle.ng_replay.proofs.source.hand_off.Goals as goal

pub returns-in_default-block-clause-handed : goal.returns-in_default-block-clause-handed
returns-in_default-block-clause-handed g c = handed_in-nothing _ _ _ c.in_default-block.is c.requires.vacant

pub returns-clause-handed : goal.returns-clause-handed
returns-clause-handed g c =
    handed_in-sent _ c.in-Some.number _ c.in-Some-block.block _ _ c.send-parcel.result (sym c.handed_number.ensures ∙ c.in-Some.is) c.in-Some-block.is c.replace.ensures.after c.send-parcel.ensures.block

pub returns-clause-held : goal.returns-clause-held
returns-clause-held g c = AreHeld-sent _ _ _ c.in-Some-block.block c.in-Some-block.is c.send-parcel.ensures.book.number c.send-parcel.ensures.leaves

pub returns-clause-balance : goal.returns-clause-balance
returns-clause-balance g c =
    let rest = c.send-parcel.ensures.leaves.rest in
    let number = c.in-Some.number in
    let within = c.requires.numbered number (sym c.handed_number.ensures ∙ c.in-Some.is) in
    let least = within.least in let most = within.most in
    KeepsBalance-sent c.args.hand.now c.send-parcel.new.hand c.args.parcels.now (number - 1) c.replace.new.dest _ c.send-parcel.result
    (omega (arith, least, most)) (sym c.replace.ensures.value ∙ c.in-None.is) c.replace.ensures.after rest.sent rest.taken
