use Rattle.std.proofs.Common.{arith, ◌≡◌, ◌*◌, ◌<◌, get_or, ap, ◌∙◌}
use Rattle.ng_lists.specs.Place.{address_at, index_at}
use Rattle.ng_lists.proofs.rings.Rings.next.Goals as goal
use Rattle.ng_lists.proofs.ReadLemmas.{next_inside, next_is, next_shown}
use Rattle.ng_lists.proofs.ShownLemmas.{index_inside, meta_behind_head, meta_low, somewhere}

pub index_of-requires-clause-low : goal.index_of-requires-clause-low
index_of-requires-clause-low c =
    let place = somewhere c.self.invariant c.self.view_is c.args.meta c.requires.listed in
    meta_low c.self.invariant c.self.view_is place.class c.args.meta place.here

pub index_of-requires-clause-behind_head : goal.index_of-requires-clause-behind_head
index_of-requires-clause-behind_head c =
    let place = somewhere c.self.invariant c.self.view_is c.args.meta c.requires.listed in
    meta_behind_head c.self.invariant c.self.view_is place.class c.args.meta place.here

pub index-requires : goal.index-requires
index-requires c =
    let place = somewhere c.self.invariant c.self.view_is c.args.meta c.requires.listed in
    let inside : index_at c.args.meta < 101 * c.self.inside.pages = index_inside c.self.invariant c.self.view_is place.class c.args.meta place.here in
    rw c.index_of.ensures (omega (arith, c.self.invariant.nexts))

pub address_of-requires : goal.address_of-requires
address_of-requires c =
    let after : c.index.result.now ≡ get_or c.self.inside.links.next.items (index_at c.args.meta) 0 =
    next_is c.self.invariant c.self.view_is c.args.meta c.requires.listed c.index_of.ensures c.index.ensures in
    let inside : get_or c.self.inside.links.next.items (index_at c.args.meta) 0 < 101 * c.self.inside.pages =
    next_inside c.self.invariant c.self.view_is c.args.meta c.requires.listed in
    rw after (omega (arith, inside, c.self.invariant.greatest))

pub returns : goal.returns
returns c =
    let after : c.index.result.now ≡ get_or c.self.inside.links.next.items (index_at c.args.meta) 0 =
    next_is c.self.invariant c.self.view_is c.args.meta c.requires.listed c.index_of.ensures c.index.ensures in
    record { next = λ k d within in'. c.address_of.ensures ∙ ap address_at after ∙ next_shown c.self.invariant c.self.view_is c.args.meta k d within in' }
