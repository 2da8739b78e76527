use Rattle.std.proofs.Common.{inl, refl, arith}
use Rattle.ng_build.proofs.Areas.{run_cell, run_head}
use Rattle.ng_build.proofs.Runs.{idle_2, run_1, run_builds, run_index, run_lows, run_publishes}
use Rattle.ng_build.proofs.run.publish_run.Goals as goal

pub store_page-requires-clause-may : goal.store_page-requires-clause-may
store_page-requires-clause-may g c = inl (run_head _ c.args.draft.now.base c.args.draft.now.maplen c.requires.run c.requires.whole c.requires.some)

pub store_page-requires-2-clause-may : goal.store_page-requires-2-clause-may
store_page-requires-2-clause-may g c =
    let w = c.store_page.new.seat in let some = c.requires.some in
    inl (run_cell _ w c.args.draft.now.base c.args.draft.now.maplen 8 c.requires.run c.requires.whole
    (run_1 _ w w c.args.draft.now g.N.Name.facts.start.pages c.requires.place c.requires.meta c.requires.whole c.requires.some c.requires.run c.store_page.ensures) (omega arith) refl)

pub write_meta-requires-clause-idle : goal.write_meta-requires-clause-idle
write_meta-requires-clause-idle g c = idle_2 _ _ _ c.args.draft.now g.N.Name.facts.start.pages c.requires.place c.requires.meta c.requires.whole c.requires.some c.requires.run c.store_page.ensures c.store_page-2.ensures

pub publish_mapped-requires-clause-built : goal.publish_mapped-requires-clause-built
publish_mapped-requires-clause-built g c = inl (run_builds _ _ _ c.args.draft.now g.N.Name.facts.start.pages c.requires.place c.requires.meta c.requires.whole c.requires.some c.requires.run c.store_page.ensures c.store_page-2.ensures
    c.requires.apart c.requires.counted c.requires.shape _ c.write_meta.ensures)

pub publish_mapped-requires-clause-index : goal.publish_mapped-requires-clause-index
publish_mapped-requires-clause-index g c = run_index _ _ _ c.args.draft.now g.N.Name.facts.start.pages c.requires.place c.requires.meta c.requires.whole c.requires.some c.requires.run c.store_page.ensures c.store_page-2.ensures
    c.requires.apart c.requires.counted c.requires.shape _ c.write_meta.ensures

pub publish_mapped-requires-clause-lows : goal.publish_mapped-requires-clause-lows
publish_mapped-requires-clause-lows g c = run_lows _ _ _ c.args.draft.now g.N.Name.facts.start.pages c.requires.place c.requires.meta c.requires.whole c.requires.some c.requires.run c.store_page.ensures c.store_page-2.ensures
    c.requires.apart c.requires.counted c.requires.shape _ c.write_meta.ensures

pub returns : goal.returns
returns g c = run_publishes _ _ _ c.args.draft.now g.N.Name.facts.start.pages c.requires.place c.requires.meta c.requires.whole c.requires.some c.requires.run c.store_page.ensures c.store_page-2.ensures
    c.requires.apart c.requires.counted c.requires.shape _ c.write_meta.ensures _ c.publish_mapped.ensures
