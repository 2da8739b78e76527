use Rattle.std.proofs.Common.{[], true, refl, sym, subst, inl, arith}
use Rattle.ng_view.specs.Conditions.{AreaBuilt}
use Rattle.ng_view.specs.declared.view.Start.{Start}
use Rattle.ng_view.specs.Notes.{MayNoteRun, plain_run}
use Rattle.ng_space_tests.proofs.Trials.{area_0, area_1, area_2, area_built, area_metas, area_stands, builds-run, new_area}
use Rattle.ng_space_tests.proofs.page.make_area.Goals as goal

pub note_run-requires : goal.note_run-requires
note_run-requires g c = record { run = subst (λ (k : Start). MayNoteRun k c.args.seat.now 4096 1 true) (sym c.requires.start) (new_area _ c.requires.fresh) }

pub store_page-requires-clause-may : goal.store_page-requires-clause-may
store_page-requires-clause-may g c = inl (builds-run _ [] 4096 4096 (area_0 _ _ c.note_run.new.seat c.note_run.new.seat c.note_run.new.seat c.requires.fresh c.note_run.ensures) refl (omega arith) (omega arith))

pub store_page-requires-2-clause-may : goal.store_page-requires-2-clause-may
store_page-requires-2-clause-may g c =
    let v = c.store_page.new.seat in
    inl (builds-run _ [] 4096 4100 (area_1 _ _ v v v c.requires.fresh c.note_run.ensures c.store_page.ensures).1 refl (omega arith) (omega arith))

pub store_page-requires-3-clause-may : goal.store_page-requires-3-clause-may
store_page-requires-3-clause-may g c =
    let v = c.store_page-2.new.seat in
    inl (builds-run _ [] 4096 4112 (area_2 _ _ _ v v c.requires.fresh c.note_run.ensures c.store_page.ensures c.store_page-2.ensures).1 refl (omega arith) (omega arith))

pub note_area-requires : goal.note_area-requires
note_area-requires g c = record {
  built = subst (λ (k : Start). AreaBuilt k c.store_page-3.new.seat (plain_run 4096 1)) (sym c.requires.start)
      (area_built _ _ _ _ _ c.requires.fresh c.note_run.ensures c.store_page.ensures c.store_page-2.ensures c.store_page-3.ensures);
}

pub returns-clause-stands : goal.returns-clause-stands
returns-clause-stands g c = area_stands _ _ _ _ _ c.requires.fresh c.note_run.ensures c.store_page.ensures c.store_page-2.ensures c.store_page-3.ensures _ c.note_area.ensures

pub returns-clause-metas : goal.returns-clause-metas
returns-clause-metas g c = area_metas _ _ _ _ _ c.requires.fresh c.note_run.ensures c.store_page.ensures c.store_page-2.ensures c.store_page-3.ensures _ c.note_area.ensures
