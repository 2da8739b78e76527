use Rattle.std.proofs.Common.{refl, arith}
use Rattle.std.proofs.lemmas.Nat.{and_mask}
use Rattle.ng_serve.proofs.Fields.{index_cell, index_reads, reads_index}
use Rattle.ng_serve.proofs.group.active_index.Goals as goal

pub overflow_add-base : goal.overflow_add-base
overflow_add-base g c =
    let cell = index_cell _ c.args.base _ c.requires.group c.requires.inside in
    let inside = cell.inside in
    let pages = c.args.space.now.range.addressed in
    omega arith

pub load_seat-requires-clause-cell : goal.load_seat-requires-clause-cell
load_seat-requires-clause-cell g c =
    let cell = index_cell _ c.args.base _ c.requires.group c.requires.inside in
    let whole = cell.whole in
    omega arith

pub load_seat-requires-clause-inside : goal.load_seat-requires-clause-inside
load_seat-requires-clause-inside g c =
    let cell = index_cell _ c.args.base _ c.requires.group c.requires.inside in
    let inside = cell.inside in
    omega arith

pub returns-clause-index : goal.returns-clause-index
returns-clause-index g c = reads_index _ _ c.args.base _ _ c.requires.group c.load_seat.ensures.view (and_mask c.load_seat.result 5)

pub returns-clause-reads : goal.returns-clause-reads
returns-clause-reads g c = index_reads _ _ c.args.base _ (reads_index _ _ c.args.base _ _ c.requires.group c.load_seat.ensures.view refl)
