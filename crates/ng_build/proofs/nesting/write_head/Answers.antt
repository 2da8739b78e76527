use Rattle.std.proofs.Common.{◌+◌, ◌-◌, ◌/◌, inl, inr, refl, subst, arith}
use Rattle.ng_build.specs.Drafts.{draft_group}
use Rattle.ng_build.specs.Nestings.{SeesIn, carrying_header}
use Rattle.ng_build.proofs.Heads.{base_fits, carrier_base, carrier_roomy, head_1, head_2, head_active, head_base, head_fits, head_front, head_high, head_only, head_stores, headed, header_fits, header_only, header_seen, header_stores, in_range}
use Rattle.ng_build.proofs.Slots.{slot_both}
use Rattle.ng_build.proofs.Storing.{stores_both}
use Rattle.ng_build.proofs.nesting.write_head.Goals as goal

pub cell_of-requires : goal.cell_of-requires
cell_of-requires g c = in_range _ c.args.parent.now (draft_group c.args.draft.now) c.requires.carrier _ refl refl refl

pub store_page-requires-clause-may : goal.store_page-requires-clause-may
store_page-requires-clause-may g c =
    let room = carrier_roomy _ c.args.parent.now c.args.draft.now c.requires.carrier in
    inr (inr (header_fits _ c.args.parent.now (draft_group c.args.draft.now)
    (record { check = 0; index = c.args.parent.now.index; reserved = 6; offset = (c.args.draft.now.base - c.args.parent.now.storage) / 16 })
    c.cell_of.result c.requires.carrier c.requires.whole refl c.cell_of.ensures.cell (omega arith)))

pub store_page-requires-2-clause-may : goal.store_page-requires-2-clause-may
store_page-requires-2-clause-may g c =
    let p = c.args.parent.now in let d = c.args.draft.now in
    let room = carrier_roomy _ p d c.requires.carrier in
    inr (inr (base_fits _ p.meta p.index d.base p.stride (headed _ _ p d _ c.requires.carrier c.requires.whole c.store_page.ensures) c.requires.whole (omega arith) d.meta))

pub store_page-requires-3-clause-may : goal.store_page-requires-3-clause-may
store_page-requires-3-clause-may g c =
    let p = c.args.parent.now in let d = c.args.draft.now in let w = c.store_page-2.new.seat in
    let room = carrier_roomy _ p d c.requires.carrier in
    let has = headed _ _ p d _ c.requires.carrier c.requires.whole c.store_page.ensures in
    let first = head_1 _ p.meta p.index d.base p.stride has c.requires.whole (omega arith) w w w d.meta 0 0 c.store_page-2.ensures in
    inr (inr (head_fits w p.meta p.index d.base p.stride first c.requires.whole (omega arith) 4 0 (omega arith) refl))

pub store_page-requires-4-clause-may : goal.store_page-requires-4-clause-may
store_page-requires-4-clause-may g c =
    let p = c.args.parent.now in let d = c.args.draft.now in let w = c.store_page-3.new.seat in
    let room = carrier_roomy _ p d c.requires.carrier in
    let has = headed _ _ p d _ c.requires.carrier c.requires.whole c.store_page.ensures in
    let second = head_2 _ p.meta p.index d.base p.stride has c.requires.whole (omega arith) _ w w d.meta 0 0 c.store_page-2.ensures c.store_page-3.ensures in
    inr (inr (head_fits w p.meta p.index d.base p.stride second c.requires.whole (omega arith) 8 d.active (omega arith) refl))

pub returns-clause-view : goal.returns-clause-view
returns-clause-view g c =
    let p = c.args.parent.now in let d = c.args.draft.now in
    let room = carrier_roomy _ p d c.requires.carrier in
    let has = headed _ _ p d _ c.requires.carrier c.requires.whole c.store_page.ensures in
    slot_both _ _ _ p.meta p.index (header_only _ _ p d _ c.requires.carrier c.requires.whole c.store_page.ensures)
    (head_only _ p.meta p.index d.base p.stride has c.requires.whole (omega arith) _ _ _ d.meta 0 d.active c.store_page-2.ensures c.store_page-3.ensures c.store_page-4.ensures)

pub returns-clause-written : goal.returns-clause-written
returns-clause-written g c =
    let p = c.args.parent.now in let d = c.args.draft.now in
    let room = carrier_roomy _ p d c.requires.carrier in
    let front = carrier_base _ p (draft_group d) c.requires.carrier in
    let seen = header_seen _ _ p d _ c.requires.carrier c.requires.whole c.store_page.ensures in
    let has = headed _ _ p d _ c.requires.carrier c.requires.whole c.store_page.ensures in record {
      header = head_front _ p.meta p.index d.base p.stride has c.requires.whole (omega arith) _ _ _ d.meta 0 d.active c.store_page-2.ensures c.store_page-3.ensures c.store_page-4.ensures (d.base - 4) (carrying_header p d.base) (omega arith)
          (subst (λ n. SeesIn c.store_page.new.seat p.meta p.index (d.base - 4) n) c.cell_of.ensures.cell seen);
      meta_low = head_base _ p.meta p.index d.base p.stride has c.requires.whole (omega arith) _ _ _ d.meta 0 d.active c.store_page-2.ensures c.store_page-3.ensures c.store_page-4.ensures;
      meta_high = head_high _ p.meta p.index d.base p.stride has c.requires.whole (omega arith) _ _ _ d.meta 0 d.active c.store_page-2.ensures c.store_page-3.ensures c.store_page-4.ensures;
      index = head_active _ p.meta p.index d.base p.stride has c.requires.whole (omega arith) _ _ _ d.meta 0 d.active c.store_page-2.ensures c.store_page-3.ensures c.store_page-4.ensures;
    }

pub returns-clause-stores : goal.returns-clause-stores
returns-clause-stores g c =
    let p = c.args.parent.now in let d = c.args.draft.now in
    let room = carrier_roomy _ p d c.requires.carrier in
    let has = headed _ _ p d _ c.requires.carrier c.requires.whole c.store_page.ensures in
    stores_both _ _ _ (d.base + 12) (header_stores _ _ p d _ c.requires.carrier c.requires.whole c.store_page.ensures)
    (head_stores _ p.meta p.index d.base p.stride has c.requires.whole (omega arith) _ _ _ d.meta 0 d.active c.store_page-2.ensures c.store_page-3.ensures c.store_page-4.ensures (d.base + 12) (inl (omega arith)) (inl (omega arith)) (inl (omega arith)))
