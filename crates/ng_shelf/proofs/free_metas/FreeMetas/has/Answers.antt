use Rattle.std.proofs.Common.{refl}
use Rattle.std.proofs.lemmas.Bool.{both_ways, eqb-false, not_from_false, ne_eqb, not-true}
use Rattle.ng_meta.specs.Place.{IsMetaPlace}
use Rattle.ng_shelf.proofs.ShownLemmas.{has_from, has_to, listed_place}
use Rattle.ng_shelf.proofs.free_metas.FreeMetas.has.Goals as goal

pub returns-then-is_meta_place : goal.returns-then-is_meta_place
returns-then-is_meta_place c =
    let place : IsMetaPlace c.args.meta c.self.inside.pages = c.if-is_meta_place.ensures.0 refl in
    record {
      member = (
        λ some. has_from c.self.invariant c.self.view_is place c.index_of.ensures c.index.ensures (eqb-false _ _ (not-true _ some)),
        λ listed. not_from_false _ (ne_eqb _ _ (has_to c.self.invariant c.self.view_is place c.index_of.ensures c.index.ensures listed)),
      );
    }

pub returns-else-is_meta_place : goal.returns-else-is_meta_place
returns-else-is_meta_place c =
    record {
      member = (
        λ is. absurd (both_ways _ c.if-is_meta_place.false is),
        λ listed. c.is_meta_place.ensures.1 (listed_place c.self.invariant c.self.view_is c.args.meta listed),
      );
    }
