use Rattle.std.proofs.Common.{ℕ, [], sym, ap, ◌∙◌, subst}
use Rattle.ng_view.specs.Cuts.{Cut}
use Rattle.ng_view.specs.Lists.{find}
use Rattle.ng_view.specs.Steps.{split_off}
use Rattle.ng_view.specs.declared.view.View.{View}
use Rattle.ng_space.specs.Callers.{Caller}
use Rattle.ng_space.specs.Parcels.{sent_with}
use Rattle.ng_space.proofs.Sending.{packed, sends}
use Rattle.ng_space.proofs.space.Space.split_parcel.Goals as goal

pub send-seat-requires-clause-cut : goal.send-seat-requires-clause-cut
send-seat-requires-clause-cut g c =
    let meta = c.meta-meta.ensures.meta in let index = c.index-index.ensures.index in
    let v : View = c.hand.inside.seat.me.0 in
    subst (λ (q : ℕ × ℕ). Cut v (split_off v q.0 q.1) (sent_with (find q.0 q.1 v.held))) (λ t. (sym meta t, sym index t))
    (sends c.args.hand.now c.args.block c.requires.block v (ap (λ (hand : Caller). hand.view) c.hand.view_is) (λ none. absurd (let own = c.hand.invariant.own_book in cc)))

pub invariant_of-hand : goal.invariant_of-hand
invariant_of-hand g c =
    let left = c.send-seat.ensures.left in let is = c.hand.invariant in record {
      fits = c.send-seat.ensures.table ∙ is.fits;
      no_slots = ap (λ me. me.1) left ∙ is.no_slots;
      follows = ap (λ me. me.0.leads) left ∙ is.follows;
      whole = ap (λ me. me.0.parcel) left ∙ is.whole;
      deskless = ap (λ me. me.0.desk) left ∙ is.deskless;
      own_book = ap (λ me. me.0.books) left ∙ is.own_book;
    }

pub invariant_of-result : goal.invariant_of-result
invariant_of-result g c =
    let meta = c.meta-meta.ensures.meta in let index = c.index-index.ensures.index in let hand = c.hand.view_is in
    packed c.args.hand.now c.args.block c.requires.block _ c.send-seat.result (c.send-seat.ensures.own ∙ c.hand.invariant.fits)
    (c.send-seat.ensures.right ∙ (λ t. (sent_with (find (meta t) (index t) (hand t).view.held), [])))

pub returns-clause-sent : goal.returns-clause-sent
returns-clause-sent g c =
    let meta = c.meta-meta.ensures.meta in let index = c.index-index.ensures.index in let hand = c.hand.view_is in
    ap (λ me. me.0) c.send-seat.ensures.right ∙ (λ t. sent_with (find (meta t) (index t) (hand t).view.held))

pub returns-clause-view : goal.returns-clause-view
returns-clause-view g c =
    let meta = c.meta-meta.ensures.meta in let index = c.index-index.ensures.index in let hand = c.hand.view_is in
    ap (λ me. me.0) c.send-seat.ensures.left ∙ (λ t. split_off (hand t).view (meta t) (index t))
