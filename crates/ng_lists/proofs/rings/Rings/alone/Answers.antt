use Rattle.std.proofs.Common.{arith, ◌≡◌, ◌*◌, ◌<◌, get_or, sym, ◌∙◌, eq-eqb}
use Rattle.std.proofs.lemmas.Bool.{eqb-true}
use Rattle.ng_lists.specs.Place.{index_at}
use Rattle.ng_lists.proofs.rings.Rings.alone.Goals as goal
use Rattle.ng_lists.proofs.ReadLemmas.{alone_from, alone_to, next_is}
use Rattle.ng_lists.proofs.ShownLemmas.{index_inside, meta_behind_head, meta_low, somewhere}

pub index_of-index-requires-clause-low : goal.index_of-index-requires-clause-low
index_of-index-requires-clause-low c =
    let place = somewhere c.self.invariant c.self.view_is c.args.meta c.requires.listed in
    meta_low c.self.invariant c.self.view_is place.class c.args.meta place.here

pub index_of-index-requires-clause-behind_head : goal.index_of-index-requires-clause-behind_head
index_of-index-requires-clause-behind_head c =
    let place = somewhere c.self.invariant c.self.view_is c.args.meta c.requires.listed in
    meta_behind_head c.self.invariant c.self.view_is place.class c.args.meta place.here

pub index-requires : goal.index-requires
index-requires c =
    let place = somewhere c.self.invariant c.self.view_is c.args.meta c.requires.listed in
    let inside : index_at c.args.meta < 101 * c.self.inside.pages = index_inside c.self.invariant c.self.view_is place.class c.args.meta place.here in
    rw c.index_of-index.ensures (omega (arith, c.self.invariant.nexts))

pub returns : goal.returns
returns c =
    let after : c.index.result.now ≡ get_or c.self.inside.links.next.items (index_at c.args.meta) 0 =
    next_is c.self.invariant c.self.view_is c.args.meta c.requires.listed c.index_of-index.ensures c.index.ensures in
    record {
      alone = (
        λ same. alone_from c.self.invariant c.self.view_is c.args.meta c.requires.listed (sym after ∙ eqb-true _ _ same ∙ c.index_of-index.ensures),
        λ one. eq-eqb _ _ (after ∙ alone_to c.self.invariant c.self.view_is c.args.meta one ∙ sym c.index_of-index.ensures),
      );
    }
