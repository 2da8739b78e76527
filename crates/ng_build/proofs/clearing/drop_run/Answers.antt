use Rattle.ng_build.proofs.Areas.{builds_all, cleared, gone_kept, gone_reads, gone_view}
use Rattle.ng_build.proofs.clearing.drop_run.Goals as goal

pub clear_pages-requires-clause-builds : goal.clear_pages-requires-clause-builds
clear_pages-requires-clause-builds g c = let v = c.args.seat.now in builds_all v v c.args.base c.args.pages c.requires.idle

pub note_run-requires : goal.note_run-requires
note_run-requires g c = record { run = cleared _ _ c.args.base c.args.pages c.requires.idle c.clear_pages.ensures.view c.clear_pages.ensures.zero }

pub returns-clause-view : goal.returns-clause-view
returns-clause-view g c = gone_view _ _ c.args.base c.args.pages c.requires.idle c.clear_pages.ensures.view c.clear_pages.ensures.zero _ c.note_run.ensures

pub returns-clause-kept : goal.returns-clause-kept
returns-clause-kept g c = gone_kept _ _ c.args.base c.args.pages c.requires.idle c.clear_pages.ensures.view c.clear_pages.ensures.zero _ c.note_run.ensures c.clear_pages.ensures.kept

pub returns-clause-reads : goal.returns-clause-reads
returns-clause-reads g c = gone_reads _ _ c.args.base c.args.pages c.requires.idle c.clear_pages.ensures.view c.clear_pages.ensures.zero _ c.note_run.ensures c.clear_pages.ensures.reads
