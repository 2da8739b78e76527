use Rattle.std.proofs.Common.{inr, refl, arith}
use Rattle.ng_build.proofs.Heads.{base_fits, head_1, head_2, head_active, head_at, head_base, head_fits, head_high, head_only, head_stores}
use Rattle.ng_build.proofs.nesting.clear_head.Goals as goal

pub store_page-requires-clause-may : goal.store_page-requires-clause-may
store_page-requires-clause-may g c = inr (inr (base_fits _ c.args.meta c.args.index c.args.base _ (head_at _ _ _ _ c.requires.slot) c.requires.whole c.requires.slot.room 0))

pub store_page-requires-2-clause-may : goal.store_page-requires-2-clause-may
store_page-requires-2-clause-may g c =
    let w = c.store_page.new.seat in
    let first = head_1 _ c.args.meta c.args.index c.args.base _ (head_at _ _ _ _ c.requires.slot) c.requires.whole c.requires.slot.room w w w 0 0 0 c.store_page.ensures in
    inr (inr (head_fits w c.args.meta c.args.index c.args.base _ first c.requires.whole c.requires.slot.room 4 0 (omega arith) refl))

pub store_page-requires-3-clause-may : goal.store_page-requires-3-clause-may
store_page-requires-3-clause-may g c =
    let w = c.store_page-2.new.seat in
    let second = head_2 _ c.args.meta c.args.index c.args.base _ (head_at _ _ _ _ c.requires.slot) c.requires.whole c.requires.slot.room _ w w 0 0 0 c.store_page.ensures c.store_page-2.ensures in
    inr (inr (head_fits w c.args.meta c.args.index c.args.base _ second c.requires.whole c.requires.slot.room 8 0 (omega arith) refl))

pub returns-clause-view : goal.returns-clause-view
returns-clause-view g c = head_only _ c.args.meta c.args.index c.args.base _ (head_at _ _ _ _ c.requires.slot) c.requires.whole c.requires.slot.room _ _ _ 0 0 0 c.store_page.ensures c.store_page-2.ensures c.store_page-3.ensures

pub returns-clause-zero : goal.returns-clause-zero
returns-clause-zero g c = head_base _ c.args.meta c.args.index c.args.base _ (head_at _ _ _ _ c.requires.slot) c.requires.whole c.requires.slot.room _ _ _ 0 0 0 c.store_page.ensures c.store_page-2.ensures c.store_page-3.ensures

pub returns-clause-zero_high : goal.returns-clause-zero_high
returns-clause-zero_high g c = head_high _ c.args.meta c.args.index c.args.base _ (head_at _ _ _ _ c.requires.slot) c.requires.whole c.requires.slot.room _ _ _ 0 0 0 c.store_page.ensures c.store_page-2.ensures c.store_page-3.ensures

pub returns-clause-zero_active : goal.returns-clause-zero_active
returns-clause-zero_active g c = head_active _ c.args.meta c.args.index c.args.base _ (head_at _ _ _ _ c.requires.slot) c.requires.whole c.requires.slot.room _ _ _ 0 0 0 c.store_page.ensures c.store_page-2.ensures c.store_page-3.ensures

pub returns-clause-stores : goal.returns-clause-stores
returns-clause-stores g c = head_stores _ c.args.meta c.args.index c.args.base _ (head_at _ _ _ _ c.requires.slot) c.requires.whole c.requires.slot.room _ _ _ 0 0 0 c.store_page.ensures c.store_page-2.ensures c.store_page-3.ensures 0 (inr refl) (inr refl) (inr refl)
