use Rattle.std.proofs.Common.{ℕ, ◌+◌, ap, subst, sym, ◌∙◌, arith}
use Rattle.ng_view.specs.Lists.{find}
use Rattle.ng_view.specs.Steps.{learnt, loaded}
use Rattle.ng_view.specs.Tells.{Tells}
use Rattle.ng_view.specs.declared.view.View.{View}
use Rattle.ng_rule.proofs.geometry.Lists.{find_among}
use Rattle.ng_space.specs.Placed.{AreOnce, IsRead}
use Rattle.ng_space.proofs.Holding.{find-loaded, once_loaded, read_of}
use Rattle.ng_space.proofs.space.Space.slot_at.Given.{Over}
use Rattle.ng_space.proofs.space.Space.slot_at.Goals as goal

is_read : (g : Over) (c : goal.After-number-number g) → IsRead c.requires.free.held.place c.args.meta c.args.index c.load-base.result c.load-flags.result
is_read g c =
    let second = subst (λ (v : View). Tells g.N.Name.facts.start v (c.args.meta + 32) c.load-flags.result) c.load-base.ensures.view c.load-flags.ensures.told in
    read_of g.N.Name.facts.start c.args.hand.now.view _ _ _ _ c.requires.free.held c.requires.free.found c.load-base.ensures.told second

pub overflow_cast-flags : goal.overflow_cast-flags
overflow_cast-flags g c =
    let r = is_read g c in
    let free = c.requires.free in
    let placed = c.load-base.ensures.placed free.held (find_among _ _ _ _ free.found).0 in
    let maplen = r.flags_are.maplen in let few = placed.few in record { fits = omega arith }

pub new-requires-clause-place : goal.new-requires-clause-place
new-requires-clause-place g c =
    let free = c.requires.free in
    (free.held.place, is_read g c, c.load-base.ensures.placed free.held (find_among _ _ _ _ free.found).0)

pub returns-clause-slot : goal.returns-clause-slot
returns-clause-slot g c =
    let free = c.requires.free in
    let made = c.new.ensures in
    let base = c.load-base in let flags = c.load-flags in
    let meta : ℕ = c.args.meta in let index : ℕ = c.args.index in
    let before : View = c.args.hand.now.view in
    let found = find-loaded (loaded before (meta + 16) base.result) (meta + 32) flags.result meta index (learnt (meta + 16) base.result free.held) (find-loaded before (meta + 16) base.result meta index free.held free.found) in record {
      own = made.hand ∙ c.number-number.ensures.number;
      held = learnt (c.args.meta + 32) flags.result (learnt (c.args.meta + 16) base.result free.held);
      found = (λ k. find (made.meta k) (made.index k) (flags.ensures.view k).held) ∙ ap (λ (v : View). find c.args.meta c.args.index (loaded v (c.args.meta + 32) flags.result).held) base.ensures.view ∙ found;
      free = free.free;
      place = made.stands free.held.place (is_read g c.before);
    }

pub returns-clause-once : goal.returns-clause-once
returns-clause-once g c = subst AreOnce (sym c.load-flags.ensures.view) (once_loaded c.load-base.new.hand.view (c.args.meta + 32) c.load-flags.result c.load-flags.ensures.once)
