use Rattle.std.proofs.Common.{◌≡◌, ℕ, ◌+◌, ◌*◌, ◌/◌, sym, subst, arith}
use Rattle.ng_view.specs.May.{May}
use Rattle.ng_view.specs.declared.view.View.{View}
use Rattle.ng_view.specs.Groups.{MayPublish, Publishes}
use Rattle.ng_rule.proofs.lock.Publishing.{publishes}
use Rattle.ng_space.proofs.Lived.{publishes_stays}
use Rattle.ng_space.proofs.space.Space.publish.Goals as goal

pub publish_told-requires-clause-may : goal.publish_told-requires-clause-may
publish_told-requires-clause-may g c =
    let value = c.avail_word-word.ensures.value in
    let same : (c.args.class + 1) * 4294967296 + c.args.mask ≡ c.avail_word-word.result = omega arith in
    subst (λ (n : ℕ). May g.N.Name.facts.start c.seat.inside.seat.id c.seat.inside.seat.me.0 ((c.args.meta + 24) / 4) (λ _. n) (λ before found after. Publishes before c.args.meta c.args.class c.args.mask after)) same
    (publishes _ _ _ c.seat.invariant.leads c.seat.invariant.moving c.args.meta c.args.class c.args.mask (subst (λ (v : View). MayPublish v c.args.meta c.args.class c.args.mask) (sym c.seat.view_is) c.requires.built))

pub invariant_of-seat : goal.invariant_of-seat
invariant_of-seat g c = publishes_stays _ _ _ _ _ c.seat.invariant c.publish_told.ensures.table c.publish_told.ensures.slots c.args.meta c.args.class c.args.mask c.requires.place
    (subst (λ (v : View). MayPublish v c.args.meta c.args.class c.args.mask) (sym c.seat.view_is) c.requires.built) c.publish_told.ensures.told
