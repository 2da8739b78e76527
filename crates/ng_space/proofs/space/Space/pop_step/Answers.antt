use Rattle.std.proofs.lemmas.Bool.Decides.{when_false, when_true}
use Rattle.std.proofs.Common.{ℕ, ◌+◌, eq-eqb, ne_eqb, sym, ap, ◌∙◌, arith}
use Rattle.ng_view.specs.Steps.{popped, read}
use Rattle.std.specs.Int.{trailing_zeros, w32}
use Rattle.ng_space.specs.Callers.{Caller}
use Rattle.ng_space.proofs.Holding.{pops_lowest, popped_free}
use Rattle.ng_space.proofs.LeavingSlots.{leaves_came, leaves_read}
use Rattle.ng_space.proofs.space.Space.pop_step.Goals as goal

pub exchange_told-found-requires-clause-may : goal.exchange_told-found-requires-clause-may
exchange_told-found-requires-clause-may g c =
    let place = c.requires.place in let stands = place.stands in
    pops_lowest _ _ _ _ _ _ (λ none. absurd (let own = c.hand.invariant.own_book in cc)) (omega arith) c.requires.tag c.requires.mask c.mask_of-mask.ensures

pub slot_at-requires-clause-free : goal.slot_at-requires-clause-free
slot_at-requires-clause-free g c =
    let t = when_true _ _ (eq-eqb _ _ c.if-found-seen.true) c.exchange_told-found.ensures.told in
    popped_free c.hand.inside.seat.me.0 _ t.0 _ _ _ _ t.1 t.3

pub returns-then-found-seen-clause-leaves : goal.returns-then-found-seen-clause-leaves
returns-then-found-seen-clause-leaves g c =
    let t = when_true _ _ (eq-eqb _ _ c.if-found-seen.true) c.exchange_told-found.ensures.told in
    let at = c.slot_at.ensures in
    let low : ℕ = trailing_zeros w32 c.mask_of-mask.result in
    leaves_came c.slot_at.result c.args.hand.now.view c.exchange_told-found.new.seat.me.0 c.slot_at.new.hand.view t.0 low (c.args.meta + 24) c.exchange_told-found.result c.args.meta
    (t.1 ∙ sym at.meta) (sym at.index) (t.3 ∙ ap (λ (hand : Caller). read (popped hand.view t.0 low) (c.args.meta + 24) c.exchange_told-found.result) c.hand.view_is) at.view

pub returns-else-found-seen-clause-stays : goal.returns-else-found-seen-clause-stays
returns-else-found-seen-clause-stays g c =
    leaves_read c.args.hand.now.view c.exchange_told-found.new.seat.me.0 (c.args.meta + 24) c.exchange_told-found.result
    (when_false _ _ (ne_eqb _ _ c.if-found-seen.false) c.exchange_told-found.ensures.told ∙ ap (λ (hand : Caller). read hand.view (c.args.meta + 24) c.exchange_told-found.result) c.hand.view_is)
