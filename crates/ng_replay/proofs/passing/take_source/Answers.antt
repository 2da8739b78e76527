use Rattle.std.proofs.Common.{◌≡◌, None, Some, ap, sym, ◌∙◌}
use Rattle.ng_post.specs.Letters.{address_of}
use Rattle.ng_replay.proofs.MoveLemmas.{HasFramed-kept}
use Rattle.ng_replay.proofs.RowLemmas.{AreApartFrom-fresh, AreApartFrom-taken, AreHeld-kept, AreHeld-taken, get_or-there}
use Rattle.ng_space.specs.Blocks.{BlockToken}
use Rattle.ng_terms.specs.Calls.{origin_of}
use Rattle.ng_terms.specs.declared.plan.Origin.TheVariants.{Claim}
use Rattle.ng_replay.proofs.passing.take_source.Goals as goal

pub returns-in-Own-clause-apart : goal.returns-in-Own-clause-apart
returns-in-Own-clause-apart g c =
    rw c.take.ensures.after
    (AreApartFrom-taken c.args.hand.now c.args.row.now c.in-Own.maker c.take.result
    (c.take.ensures.value ∙ get_or-there c.args.row.now c.in-Own.maker c.index-row-maker.result None (c.requires.earlier c.in-Own.maker (sym c.origin.ensures ∙ c.in-Own.is))) c.requires.held)

pub returns-in-Own-clause-held : goal.returns-in-Own-clause-held
returns-in-Own-clause-held g c = rw c.take.ensures.after (AreHeld-taken c.args.hand.now c.args.row.now c.in-Own.maker c.requires.held)

pub returns-in-Sent-clause-collects : goal.returns-in-Sent-clause-collects
returns-in-Sent-clause-collects g c =
    let claims : origin_of c.args.op.now ≡ Claim c.in-Claim.number = sym c.origin.ensures ∙ c.in-Claim.is in
    rw claims (record {
      taken = Some c.in-Sent.parcel.block.at;
      source_is = ap (λ (b : BlockToken). Some b.at) c.receive.ensures.block;
      got = rw (ap address_of c.in-Sent.is) at c.collect.ensures.got;
      counted = c.receive.ensures.leaves.rest.taken;
      unsent = c.receive.ensures.leaves.rest.sent;
    })

pub returns-in-Sent-clause-apart : goal.returns-in-Sent-clause-apart
returns-in-Sent-clause-apart g c = AreApartFrom-fresh c.args.hand.now c.args.row.now c.receive.result c.receive.ensures.fresh c.requires.held

pub returns-in-Sent-clause-held : goal.returns-in-Sent-clause-held
returns-in-Sent-clause-held g c =
    AreHeld-kept c.args.hand.now c.receive.new.hand c.args.row.now
    (λ op block is framed. HasFramed-kept _ _ c.receive.ensures.book.number c.receive.ensures.slots block framed) c.requires.held
