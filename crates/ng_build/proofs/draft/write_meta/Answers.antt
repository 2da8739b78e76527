use Rattle.std.proofs.Common.{inl, refl, arith}
use Rattle.ng_build.proofs.Cells.{only_none}
use Rattle.ng_build.proofs.Metas.{meta_1, meta_2, meta_3, meta_cell}
use Rattle.ng_build.proofs.draft.write_meta.Goals as goal

pub store_page-requires-clause-may : goal.store_page-requires-clause-may
store_page-requires-clause-may g c =
    let v = c.args.seat.now in
    inl (meta_cell v v c.args.draft.now.meta g.N.Name.facts.start.pages 16 c.requires.place c.requires.idle (only_none v) (omega arith) refl)

pub store_page-requires-2-clause-may : goal.store_page-requires-2-clause-may
store_page-requires-2-clause-may g c =
    let w = c.store_page.new.seat in
    inl (meta_cell _ w c.args.draft.now.meta g.N.Name.facts.start.pages 28 c.requires.place c.requires.idle (meta_1 _ w w w c.args.draft.now g.N.Name.facts.start.pages c.requires.place c.requires.idle c.store_page.ensures) (omega arith) refl)

pub store_page-requires-3-clause-may : goal.store_page-requires-3-clause-may
store_page-requires-3-clause-may g c =
    let w = c.store_page-2.new.seat in
    inl (meta_cell _ w c.args.draft.now.meta g.N.Name.facts.start.pages 32 c.requires.place c.requires.idle (meta_2 _ _ w w c.args.draft.now g.N.Name.facts.start.pages c.requires.place c.requires.idle c.store_page.ensures _ c.store_page-2.ensures) (omega arith) refl)

pub returns : goal.returns
returns g c = meta_3 _ _ _ _ c.args.draft.now g.N.Name.facts.start.pages c.requires.place c.requires.idle c.store_page.ensures _ c.store_page-2.ensures _ c.freed.ensures c.flags.ensures c.store_page-3.ensures
