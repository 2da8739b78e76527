use Rattle.std.proofs.Common.{inl, inr, refl, arith}
use Rattle.ng_serve.proofs.Fields.{index_cell, index_stays, reads_stored}
use Rattle.ng_serve.proofs.group.activate.Goals as goal

pub loop-active-init : goal.loop-active-init
loop-active-init g c = record {
  reads = c.active_index-active.ensures.reads;
  small = c.active_index-active.ensures.small;
  within = inr c.active_index-active.ensures.index;
}

pub overflow_add-group : goal.overflow_add-group
overflow_add-group g c =
    let cell = index_cell _ c.args.group.now.base _ c.requires.group c.requires.inside in
    let inside = cell.inside in
    let pages = c.args.space.now.range.addressed in
    omega arith

pub store_page-requires-clause-inside : goal.store_page-requires-clause-inside
store_page-requires-clause-inside g c =
    let cell = index_cell _ c.args.group.now.base _ c.requires.group c.requires.inside in
    let inside = cell.inside in
    omega arith

pub store_page-requires-clause-may : goal.store_page-requires-clause-may
store_page-requires-clause-may g c = inr (inl (index_stays _ _ _ _ c.requires.group refl c.loop-active.invariant.reads))

pub loop-active-preserved : goal.loop-active-preserved
loop-active-preserved g c = record {
  reads = reads_stored _ _ _ _ _ (index_stays _ _ _ _ c.requires.group refl c.loop-active.invariant.reads) c.loop-active.invariant.reads c.store_page.ensures;
  small = (let w = c.raised-active.ensures.within in let l = c.requires.last in omega arith);
  within = inl c.raised-active.ensures.within;
}

pub returns : goal.returns
returns g c = record {
  reached = c.loop-active-test.false;
  small = c.loop-active.invariant.small;
  within = c.loop-active.invariant.within;
  reads = c.loop-active.invariant.reads;
}
