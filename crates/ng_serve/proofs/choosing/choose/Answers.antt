use Rattle.std.proofs.Common.{◌<◌, [], length, arith, sym, subst}
use Rattle.std.specs.Prelude.{IfNone}
use Rattle.ng_lists.specs.Rings.{ring_of}
use Rattle.ng_serve.specs.Choices.{FindsAllBare}
use Rattle.ng_serve.proofs.Candidates.{Looked, all_bare, best_is, lives_at, looked_bare, looked_notes, looked_offer, notes_after, walked_less, walked_next, walked_none}
use Rattle.ng_serve.proofs.Looks.{inside_noted}
use Rattle.ng_serve.proofs.choosing.choose.Given.{Over}
use Rattle.ng_serve.proofs.choosing.choose.Goals.{After-next-meta, in-Some+else-eq, in_default}
use Rattle.ng_serve.proofs.choosing.choose.Goals as goal

pub loop-offer-init : goal.loop-offer-init
loop-offer-init g c = walked_none _ _ _ c.requires.start

pub look-requires-clause-live : goal.look-requires-clause-live
look-requires-clause-live g c = lives_at _ _ _ _ c.args.class _ c.loop-offer.invariant.noted c.requires.live c.loop-offer.invariant.member

pub look-requires-clause-bare : goal.look-requires-clause-bare
look-requires-clause-bare g c = c.loop-offer.invariant.noted.zero_avail _ (c.requires.bare _ c.loop-offer.invariant.member)

pub look-requires-clause-inside : goal.look-requires-clause-inside
look-requires-clause-inside g c = inside_noted _ _ _ _ c.loop-offer.invariant.noted c.requires.inside

pub returns-then-eq-clause-notes : goal.returns-then-eq-clause-notes
returns-then-eq-clause-notes g c = notes_after _ _ _ _ c.loop-offer.invariant.noted c.look.ensures.notes

looked : (g : Over) (c : After-next-meta g) → Looked c.args.seat.now (ring_of c.args.rings.now c.args.class) c.args.start c.loop-offer.meta c.match-look.best c.look.new.seat
looked g c = elim c.match-look.branch [
  | in-Some+else-eq w ↦
      subst (λ best. Looked c.args.seat.now (ring_of c.args.rings.now c.args.class) c.args.start c.loop-offer.meta best c.look.new.seat) (sym w.best-is) (looked_offer _ _ _ _ _ _ _ c.loop-offer.invariant w.in-Some.offer _ c.look.ensures.notes w.in-Some.ensures.freed w.in-Some.ensures.meta w.or_earlier.ensures)
  | in_default w ↦
      subst (λ best. Looked c.args.seat.now (ring_of c.args.rings.now c.args.class) c.args.start c.loop-offer.meta best c.look.new.seat) (sym w.best-is) (looked_bare _ _ _ _ _ _ _ c.loop-offer.invariant w.in_default.ensures.none)
]

pub loop-offer-preserved : goal.loop-offer-preserved
loop-offer-preserved g c =
    let known : c.args.class < length c.args.rings.now.rings = (let l = c.stand_once.ensures.classes in let k = c.requires.class in omega arith) in
    walked_next _ _ _ _ _ _ _ (c.stand_once.ensures.once c.args.class [] known) c.requires.start c.loop-offer.invariant.member (c.next-meta.ensures.next c.args.class [] known c.loop-offer.invariant.member) c.if-meta-start.false (looked g c.before)

pub loop-offer-smaller : goal.loop-offer-smaller
loop-offer-smaller g c =
    let known : c.args.class < length c.args.rings.now.rings = (let l = c.stand_once.ensures.classes in let k = c.requires.class in omega arith) in
    walked_less c.args.seat.now c.look.new.seat _ _ _ _ c.match-look.best (c.stand_once.ensures.once c.args.class [] known) c.requires.start c.loop-offer.invariant.member (c.next-meta.ensures.next c.args.class [] known c.loop-offer.invariant.member) c.if-meta-start.false

pub returns-in_err-best-clause-notes : goal.returns-in_err-best-clause-notes
returns-in_err-best-clause-notes g c = looked_notes _ _ _ _ _ _ (looked g c.before.before.before.before)

pub returns-in_err-best-clause-none : goal.returns-in_err-best-clause-none
returns-in_err-best-clause-none g c =
    let known : c.args.class < length c.args.rings.now.rings = (let l = c.stand_once.ensures.classes in let k = c.requires.class in omega arith) in
    subst (λ r. IfNone r (FindsAllBare c.args.seat.now (ring_of c.args.rings.now c.args.class) c.look.new.seat)) (sym c.from_residual.ensures)
    (all_bare _ _ _ _ _ _ _ (c.stand_once.ensures.once c.args.class [] known) c.requires.start c.loop-offer.invariant.member (c.next-meta.ensures.next c.args.class [] known c.loop-offer.invariant.member) c.if-meta-start.true (looked g c.before.before.before.before) c.in_err-best.was)

pub returns-then-meta-start-clause-notes : goal.returns-then-meta-start-clause-notes
returns-then-meta-start-clause-notes g c = looked_notes _ _ _ _ _ _ (looked g c.before.before.before.before)

pub returns-then-meta-start-clause-freed : goal.returns-then-meta-start-clause-freed
returns-then-meta-start-clause-freed g c = (best_is _ _ _ _ _ _ c.in_ok-best.field-0 c.in_ok-best.was (looked g c.before.before.before.before)).choice_is
