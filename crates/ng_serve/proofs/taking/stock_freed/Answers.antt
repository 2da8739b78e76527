use Rattle.ng_serve.proofs.Fields.{group_index, inside_then, lives_then, bare_then}
use Rattle.ng_serve.proofs.Freed.{may_stock_all, stocks_then}
use Rattle.ng_serve.proofs.taking.stock_freed.Goals as goal

pub active_index-active-requires-clause-group : goal.active_index-active-requires-clause-group
active_index-active-requires-clause-group g c = group_index _ _ c.args.meta _ c.requires.live c.group_of-group.ensures.group c.group_of-group.ensures.reads

pub active_index-active-requires-clause-inside : goal.active_index-active-requires-clause-inside
active_index-active-requires-clause-inside g c = inside_then _ _ _ c.group_of-group.ensures.reads c.requires.inside

pub take-taken-requires-clause-live : goal.take-taken-requires-clause-live
take-taken-requires-clause-live g c = lives_then _ _ c.args.meta c.active_index-active.ensures.reads (lives_then _ _ c.args.meta c.group_of-group.ensures.reads c.requires.live)

pub stock-requires : goal.stock-requires
stock-requires g c = record {
  may = (
      may_stock_all _ _ c.args.meta c.active_index-active.result _
      (lives_then _ _ c.args.meta c.active_index-active.ensures.reads (lives_then _ _ c.args.meta c.group_of-group.ensures.reads c.requires.live))
      c.take-taken.ensures.taken
      (bare_then _ _ c.args.meta c.active_index-active.ensures.reads (bare_then _ _ c.args.meta c.group_of-group.ensures.reads c.requires.bare)));
}

pub returns : goal.returns
returns g c = stocks_then _ _ _ _ _ c.args.meta c.active_index-active.result _ c.group_of-group.result c.requires.live c.group_of-group.ensures.group c.group_of-group.ensures.loads c.group_of-group.ensures.reads c.active_index-active.ensures.index c.active_index-active.ensures.reads c.take-taken.ensures.taken c.stock.ensures.none c.stock.ensures.stocked
