use Rattle.std.proofs.Common.{refl}
use Rattle.ng_space_tests.specs.Trials.{page_group}
use Rattle.ng_space_tests.proofs.Endings.{builds-old_meta, builds-old_run, ends_metas, ends_stands, run_clear}
use Rattle.ng_space_tests.proofs.Pages.{page_place}
use Rattle.ng_space_tests.proofs.page.end_group.Goals as goal

pub clear-requires-clause-builds : goal.clear-requires-clause-builds
clear-requires-clause-builds g c = let v = c.retire.new.seat in builds-old_meta _ v v v (page_group (c.requires.stands.0) (c.requires.stands.1)) refl c.requires.stands.2 c.requires.metas c.retire.ensures

pub clear-requires-2-clause-builds : goal.clear-requires-2-clause-builds
clear-requires-2-clause-builds g c = let v = c.clear.new.seat in builds-old_run _ _ v v (page_group (c.requires.stands.0) (c.requires.stands.1)) refl c.requires.stands.2 c.requires.metas c.retire.ensures c.clear.ensures

pub note_run-requires : goal.note_run-requires
note_run-requires g c = record { run = run_clear _ _ _ _ (page_group (c.requires.stands.0) (c.requires.stands.1)) refl c.requires.stands.2 c.requires.metas c.retire.ensures c.clear.ensures c.clear-2.ensures }

pub returns-clause-stands : goal.returns-clause-stands
returns-clause-stands g c = ends_stands _ _ _ _ (page_group (c.requires.stands.0) (c.requires.stands.1)) refl c.requires.stands.2 c.requires.metas c.retire.ensures c.clear.ensures c.clear-2.ensures _ c.note_run.ensures

pub returns-clause-metas : goal.returns-clause-metas
returns-clause-metas g c = ends_metas _ _ _ _ (page_group (c.requires.stands.0) (c.requires.stands.1)) refl c.requires.stands.2 c.requires.metas c.retire.ensures c.clear.ensures c.clear-2.ensures _ c.note_run.ensures
