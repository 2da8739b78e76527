use Rattle.std.proofs.Common.{◌∙◌, ◌≢◌, ℕ, ◌-◌, ◌<◌, ◌≤◌, ◌⊎◌, sym, subst}
use Rattle.ng_view.specs.Frame.{IsTrailer}
use Rattle.ng_space.specs.Blocks.{BlockToken, HasFramed, OfSlot}
use Rattle.ng_space.specs.Leaving.{Leaves}
use Rattle.ng_space.proofs.LeavingFrames.{leaves_given, leaves_then}
use Rattle.ng_frame.proofs.Frames.{given_still, ready}
use Rattle.ng_frame.proofs.Tokens.{block_kept, live_apart}
use Rattle.ng_frame.proofs.putting.put.Given.{Over}
use Rattle.ng_frame.proofs.putting.put.Goals as goal

pub give-requires-clause-ready : goal.give-requires-clause-ready
give-requires-clause-ready g c =
    let p : ℕ = c.place-at.result in
    ready c.store_mark.new.hand c.store_trailer.new.hand c.store_wide.new.hand c.args.slot c.args.n c.args.align p c.requires.near.whole c.place-at.ensures.fits
    c.store_mark.ensures.slot c.store_mark.ensures.shift c.store_trailer.ensures.own c.store_trailer.ensures.slot
    (subst (λ e. OfSlot c.store_trailer.new.hand c.args.slot (λ h. IsTrailer h ((e - p) - c.args.n))) c.end.ensures.end c.store_trailer.ensures.trailer)
    c.store_wide.ensures.own c.store_wide.ensures.wide

pub returns-clause-still : goal.returns-clause-still
returns-clause-still g c =
    given_still c.args.hand.now.view c.store_mark.new.hand.view c.store_trailer.new.hand.view c.store_wide.new.hand.view c.give.new.hand.view c.args.slot
    (λ a. c.args.slot.start ≤ a) (λ a. a < c.args.slot.start) (λ a. (a < c.args.slot.start) ⊎ (c.place-at.result ≤ a)) _ _ c.args.align _ _ c.store_mark.ensures.own c.store_trailer.ensures.own
    c.store_wide.ensures.own c.give.ensures.view

-- what the hand has besides once the frame is stored
framed_leaves : (g : Over) (c : goal.After-give g) → Leaves c.args.slot c.args.hand.now.view c.store_wide.new.hand.view
framed_leaves g c = leaves_then c.args.slot _ _ _ c.store_mark.ensures.leaves (leaves_then c.args.slot _ _ _ c.store_trailer.ensures.leaves c.store_wide.ensures.leaves)

pub returns-clause-leaves : goal.returns-clause-leaves
returns-clause-leaves g c =
    leaves_then c.args.slot _ _ _ (framed_leaves g c)
    (leaves_given {a = c.args.align} c.store_wide.new.hand c.give.new.hand c.args.slot _ _ _ _ c.store_wide.ensures.slot c.give.ensures.view
    (subst (HasFramed c.give.new.hand) c.give.ensures.block c.give.ensures.has))

pub returns-clause-apart : goal.returns-clause-apart
returns-clause-apart g c = λ other has.
    let number = c.store_wide.ensures.book.number ∙ c.store_trailer.ensures.book.number ∙ c.store_mark.ensures.book.number in
    let apart = live_apart c.args.hand.now c.args.slot other c.requires.slot has in
    let still = block_kept c.args.hand.now c.store_wide.new.hand c.args.slot number (framed_leaves g c).others other apart has in
    subst (λ (b : BlockToken). other.at ≢ b.at) (sym c.give.ensures.block) (c.give.ensures.apart other still)
