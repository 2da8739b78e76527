use Rattle.std.proofs.Common.{ap, sym, subst, refl, inl}
use Rattle.std.specs.Prelude.{Option}
use Rattle.ng_rule.proofs.hand.Passing.{merge_hand}
use Rattle.ng_view.specs.Lists.{Among}
use Rattle.ng_view.specs.Steps.{with_excuse}
use Rattle.ng_view.specs.declared.view.Excuse.{Excuse}
use Rattle.ng_view.specs.declared.view.View.{View}
use Rattle.ng_space.specs.Passed.{HasNumber}
use Rattle.ng_space.proofs.Locked.{lock_stays}
use Rattle.ng_space.proofs.Passed.{one_book, cut_with_excuse, excuse_found}
use Rattle.ng_space.proofs.space.Space.excuse_to_hand.Goals as goal

pub pass_excuse-requires-clause-merge : goal.pass_excuse-requires-clause-merge
pass_excuse-requires-clause-merge g c = let hand = c.hand.invariant in merge_hand _ _ c.seat.invariant.leads hand.follows hand.whole hand.deskless

pub pass_excuse-requires-clause-cut : goal.pass_excuse-requires-clause-cut
pass_excuse-requires-clause-cut g c =
    let hand = c.hand.invariant in
    cut_with_excuse _ _ c.seat.invariant.leads c.seat.invariant.moving hand.follows hand.whole hand.deskless (λ none. absurd (let own = hand.own_book in cc)) c.seat.invariant.none_sent c.seat.invariant.none_taken (one_book _ _ hand.own_book) _ (subst (λ (v : View). HasNumber v c.args.number) (sym c.seat.view_is) c.requires.excuse)

pub invariant_of-seat : goal.invariant_of-seat
invariant_of-seat g c =
    let lock = c.pass_excuse.ensures.lock in
    lock_stays _ _ _ _ _ _ c.seat.invariant c.pass_excuse.ensures.tables.0 (ap (λ me. me.1) lock) (ap (λ me. me.0) lock)
    (record { leads = refl; parcel = refl; books = refl; sent = refl; taken = refl; next = refl; groups = λ g q. inl q; carrying = λ n q. inl q; still = λ h s. inl s })

pub returns-clause-has : goal.returns-clause-has
returns-clause-has g c =
    let s = subst (λ (v : View). HasNumber v c.args.number) (sym c.seat.view_is) c.requires.excuse in
    let w = c.hand.inside.seat.me.0 in record {
      own = c.number.ensures;
      excuse = s.excuse;
      there = subst (λ (v : View). Among s.excuse v.excuses) (sym (ap (λ me. me.0) c.pass_excuse.ensures.own)) (subst (λ (o : Option Excuse). Among s.excuse (with_excuse w o).excuses) (sym s.found) (inl refl));
      of_number = excuse_found c.args.number c.seat.inside.seat.me.0.excuses s.excuse s.found;
    }
