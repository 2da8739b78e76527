use Rattle.std.proofs.Common.{◌%◌, ◌/◌, ap, ◌∙◌, inl, refl, arith}
use Rattle.ng_view.specs.declared.view.Start.{Start}
use Rattle.ng_build.proofs.Areas.{area_1, area_2, area_3, area_built, area_kept, area_metas, area_reads, area_view, low_half_is, run_cell, run_head}
use Rattle.ng_build.proofs.area.make_area.Goals as goal

pub store_page-requires-clause-may : goal.store_page-requires-clause-may
store_page-requires-clause-may g c = inl (run_head _ c.args.addr 1 c.requires.run c.requires.whole (omega arith))

pub store_page-requires-2-clause-may : goal.store_page-requires-2-clause-may
store_page-requires-2-clause-may g c =
    let w = c.store_page.new.seat in
    inl (run_cell _ w c.args.addr 1 4 c.requires.run c.requires.whole (area_1 g.N.Name.facts.start _ w w w w c.args.addr 0 _ 0 c.requires.run c.requires.whole c.store_page.ensures) (omega arith) refl)

pub store_page-requires-3-clause-may : goal.store_page-requires-3-clause-may
store_page-requires-3-clause-may g c =
    let w = c.store_page-2.new.seat in
    inl (run_cell _ w c.args.addr 1 8 c.requires.run c.requires.whole (area_2 g.N.Name.facts.start _ _ w w w c.args.addr 0 _ _ c.requires.run c.requires.whole c.store_page.ensures c.store_page-2.ensures) (omega arith) refl)

pub store_page-requires-4-clause-may : goal.store_page-requires-4-clause-may
store_page-requires-4-clause-may g c =
    let w = c.store_page-3.new.seat in
    inl (run_cell _ w c.args.addr 1 16 c.requires.run c.requires.whole (area_3 g.N.Name.facts.start _ _ _ w w c.args.addr _ _ _ c.requires.run c.requires.whole c.store_page.ensures c.store_page-2.ensures c.store_page-3.ensures) (omega arith) refl)

pub note_area-requires : goal.note_area-requires
note_area-requires g c = record {
  built = area_built g.N.Name.facts.start _ _ _ _ _ c.args.addr c.args.before _ _ c.requires.run c.requires.whole c.store_page.ensures c.store_page-2.ensures c.store_page-3.ensures c.store_page-4.ensures c.requires.link
      (low_half_is c.start.result.now.secret ∙ ap (λ (k : Start). k.secret % 4294967296) c.start.ensures)
      (ap (λ (k : Start). k.secret / 4294967296) c.start.ensures);
}

pub returns-clause-view : goal.returns-clause-view
returns-clause-view g c = area_view g.N.Name.facts.start _ _ _ _ _ c.args.addr c.args.before _ _ c.requires.run c.requires.whole c.store_page.ensures c.store_page-2.ensures c.store_page-3.ensures c.store_page-4.ensures _ c.note_area.ensures

pub returns-clause-reads : goal.returns-clause-reads
returns-clause-reads g c = area_reads g.N.Name.facts.start _ _ _ _ _ c.args.addr c.args.before _ _ c.requires.run c.requires.whole c.store_page.ensures c.store_page-2.ensures c.store_page-3.ensures c.store_page-4.ensures _ c.note_area.ensures

pub returns-clause-metas : goal.returns-clause-metas
returns-clause-metas g c = area_metas g.N.Name.facts.start _ _ _ _ _ c.args.addr c.args.before _ _ c.requires.run c.requires.whole c.store_page.ensures c.store_page-2.ensures c.store_page-3.ensures c.store_page-4.ensures _ c.note_area.ensures

pub returns-clause-kept : goal.returns-clause-kept
returns-clause-kept g c = area_kept g.N.Name.facts.start _ _ _ _ _ c.args.addr c.args.before _ _ c.requires.run c.requires.whole c.store_page.ensures c.store_page-2.ensures c.store_page-3.ensures c.store_page-4.ensures _ c.note_area.ensures
