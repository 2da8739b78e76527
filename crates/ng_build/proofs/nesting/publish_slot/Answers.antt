use Rattle.std.proofs.Common.{◌+◌, inr}
use Rattle.ng_build.specs.Drafts.{draft_group}
use Rattle.ng_build.proofs.Heads.{carrier_after}
use Rattle.ng_build.proofs.Nestings.{lows_kept, nested_idle, slot_builds, slot_publishes, written_kept}
use Rattle.ng_build.proofs.Storing.{stores_both}
use Rattle.ng_build.proofs.nesting.publish_slot.Goals as goal

pub write_headers-requires-clause-carrier : goal.write_headers-requires-clause-carrier
write_headers-requires-clause-carrier g c = carrier_after _ _ c.args.parent.now (draft_group c.args.draft.now) c.requires.carrier c.write_head.ensures.view

pub write_meta-requires-clause-idle : goal.write_meta-requires-clause-idle
write_meta-requires-clause-idle g c = nested_idle _ _ _ c.args.parent.now c.args.draft.now c.requires.meta c.requires.carrier c.write_head.ensures.view c.write_headers.ensures.view

pub publish_carried-requires-clause-built : goal.publish_carried-requires-clause-built
publish_carried-requires-clause-built g c =
    let p = c.args.parent.now in let d = c.args.draft.now in let head = c.write_head.ensures.written in
    inr (slot_builds _ _ _ p d c.requires.meta c.requires.carrier c.write_head.ensures.view c.write_headers.ensures.view
    _ g.N.Name.facts.start.pages c.requires.place c.requires.counted c.write_meta.ensures head.meta_low head.meta_high c.write_headers.ensures.kept c.write_headers.ensures.lows)

pub publish_carried-requires-clause-written : goal.publish_carried-requires-clause-written
publish_carried-requires-clause-written g c =
    let p = c.args.parent.now in let d = c.args.draft.now in
    written_kept _ _ _ p d c.requires.carrier c.write_head.ensures.written c.write_headers.ensures.kept c.write_meta.ensures

pub publish_carried-requires-clause-lows : goal.publish_carried-requires-clause-lows
publish_carried-requires-clause-lows g c = lows_kept _ _ c.args.parent.now c.args.draft.now c.write_headers.ensures.lows c.write_meta.ensures

pub returns : goal.returns
returns g c =
    let p = c.args.parent.now in let d = c.args.draft.now in
    slot_publishes _ _ _ p d c.requires.meta c.requires.carrier c.write_head.ensures.view c.write_headers.ensures.view
    _ g.N.Name.facts.start.pages c.requires.place c.requires.counted c.write_meta.ensures c.write_head.ensures.written.meta_low c.write_head.ensures.written.meta_high c.write_headers.ensures.kept c.write_headers.ensures.lows _
    c.publish_carried.ensures (stores_both _ _ _ (d.base + 12) c.write_head.ensures.stores c.write_headers.ensures.stores)
