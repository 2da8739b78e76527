use Rattle.std.proofs.Common.{◌≡◌, ◌∷◌, [], List, length, refl, sym, ap, subst, ◌∙◌, arith}
use Rattle.std.specs.Vec.Iter.{into_iter_items}
use Rattle.ng_view.specs.declared.view.View.{View}
use Rattle.ng_space.specs.Callers.{Caller}
use Rattle.ng_space.proofs.Opening.{length-snoc}
use Rattle.ng_space.proofs.Gathering.{Gathered, gathers_none, gathers_one, gathers_all, still_leads}
use Rattle.ng_space.proofs.Closed.{IsLock, closes}
use Rattle.ng_space.proofs.space.Space.close.Given.{Over}
use Rattle.ng_space.proofs.space.Space.close.Goals as goal

nothing_left : {X : Type 0} (l : List X) → length l ≡ 0 → l ≡ []
nothing_left [] h = refl
nothing_left (x ∷ xs) h = absurd (omega arith)

pub loop-hand-init : goal.loop-hand-init
loop-hand-init g c =
    let is = c.seat.invariant in
    let hands = c.into_iter-hand-iterator.ensures.into_iter_gives in
    let rest : List Caller = into_iter_items c.into_iter-hand-iterator.result in
    let len : length rest ≡ length c.args.hands.items = ap length hands.0 in (
      gathers_none c.seat.inside.seat.me.0 rest c.seat.inside.shelf.items is.cleared,
      is.fits,
      hands.1 ∙ c.args.hands.ok.0 ∙ sym len,
      (let none : length c.seat.inside.shelf.items ≡ 0 = ap length is.cleared in let room = is.roomy in let few = is.few in let many = c.requires.all.many in omega arith),
    )

pub take_hand-requires-clause-leads : goal.take_hand-requires-clause-leads
take_hand-requires-clause-leads g c = still_leads _ _ _ _ _ _ c.loop-hand.invariant.0 c.seat.invariant.leads

pub loop-hand-preserved : goal.loop-hand-preserved
loop-hand-preserved g c =
    let at = c.loop-hand in
    let steps = c.in-Some.ensures.steps in
    let taken = c.take_hand.ensures in
    let pushed = c.push_reserved.ensures in (
      gathers_one _ _ _ _ _ _ _ _ _ _ _ at.invariant.0 steps.0 (ap (λ me. me.0) taken.seat) taken.deskless (record { book = taken.own; whole = taken.whole }) taken.book pushed.items,
      taken.table ∙ at.invariant.1,
      (let was = at.invariant.2 in let gone = steps.1 in let short = ap length steps.0 in omega arith),
      (let more = ap length pushed.items in let one = length-snoc at.books.items c.take_hand.result in let short = ap length steps.0 in let room = at.invariant.3 in let same = pushed.capacity in omega arith),
    )

in_all : (g : Over) (c : goal.After-close_seat g) → Gathered c.args.seat c.args.hands.items c.loop-hand.seat.me.0 c.loop-hand.books.items
in_all g c =
    let at = c.loop-hand in
    gathers_all _ _ _ _ _ _ _ _ at.invariant.0 (nothing_left _ (sym at.invariant.2 ∙ c.in-None.ensures.steps.0)) c.seat.view_is c.into_iter-hand-iterator.ensures.into_iter_gives.0

pub returns-clause-closed : goal.returns-clause-closed
returns-clause-closed g c =
    let is = c.seat.invariant in
    let lock : IsLock c.args.seat = subst IsLock c.seat.view_is (record { leads = is.leads; whole = is.whole; none_sent = is.none_sent; none_taken = is.none_taken }) in
    let next = sym (ap (λ (v : View). v.desk.next) c.seat.view_is) ∙ is.next in
    closes _ _ _ _ _ _ c.close_seat.ensures.ended (in_all g c) lock _ next c.requires.all c.requires.parcels c.requires.settled c.requires.blanked

pub returns-clause-books : goal.returns-clause-books
returns-clause-books g c = (in_all g c).books
