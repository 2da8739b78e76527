use Rattle.std.proofs.Common.{[], ◌∷◌, true, refl, sym, subst, inl, inr, arith}
use Rattle.ng_view.specs.declared.view.Start.{Start}
use Rattle.ng_view.specs.Notes.{MayNoteRun}
use Rattle.ng_space_tests.specs.Trials.{area_run, page_runs}
use Rattle.ng_space_tests.proofs.Trials.{builds-meta, builds-run, new_run}
use Rattle.ng_space_tests.proofs.Pages.{page_0, page_1, page_2, page_builds, page_built, page_place}
use Rattle.ng_space_tests.proofs.page.build_group.Goals as goal

pub note_run-requires : goal.note_run-requires
note_run-requires g c = record { run = subst (λ (k : Start). MayNoteRun k c.args.seat.now 8192 1 true) (sym c.requires.start) (new_run _ c.requires.stands) }

pub store_page-requires-clause-may : goal.store_page-requires-clause-may
store_page-requires-clause-may g c =
    let v = c.note_run.new.seat in
    inl (builds-run _ (area_run ∷ []) 8192 8192 (page_0 _ _ _ c.requires.fills _ _ v v v c.requires.stands c.requires.metas c.note_run.ensures) refl (omega arith) (omega arith))

pub store_page-requires-2-clause-may : goal.store_page-requires-2-clause-may
store_page-requires-2-clause-may g c =
    let v = c.store_page.new.seat in
    inl (builds-meta _ page_runs 0 16 (page_1 _ _ _ c.requires.fills _ _ v v v c.requires.stands c.requires.metas c.note_run.ensures c.store_page.ensures).1 (inr (inl refl)) (omega arith) (omega arith) refl)

pub store_page-requires-3-clause-may : goal.store_page-requires-3-clause-may
store_page-requires-3-clause-may g c =
    let v = c.store_page-2.new.seat in
    inl (builds-meta _ page_runs 0 32 (page_2 _ _ _ c.requires.fills _ _ _ v v c.requires.stands c.requires.metas c.note_run.ensures c.store_page.ensures c.store_page-2.ensures).1 (inr (inl refl)) (omega arith) (omega arith) refl)

pub publish-requires-clause-place : goal.publish-requires-clause-place
publish-requires-clause-place g c = page_place _ c.requires.start

pub publish-requires-clause-built : goal.publish-requires-clause-built
publish-requires-clause-built g c = inl (page_builds _ _ _ c.requires.fills _ _ _ _ _ c.requires.stands c.requires.metas c.note_run.ensures c.store_page.ensures c.store_page-2.ensures c.store_page-3.ensures)

pub returns : goal.returns
returns g c = page_built _ _ _ c.requires.fills _ _ _ _ _ c.requires.stands c.requires.metas c.note_run.ensures c.store_page.ensures c.store_page-2.ensures c.store_page-3.ensures _ c.publish.ensures
