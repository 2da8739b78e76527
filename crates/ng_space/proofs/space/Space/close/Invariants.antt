use Rattle.std.proofs.Common.{◌≡◌, ◌+◌, ◌≤◌, length, vec_capacity}
use Rattle.std.specs.Vec.Iter.{into_iter_items, into_iter_len}
use Rattle.ng_space.proofs.Gathering.{Gathering}
use Rattle.ng_space.proofs.space.Space.close.Given as goal

abbrev pub invariant-loop-hand : goal.invariant-loop-hand
invariant-loop-hand g l =
    Gathering l.initial.seat.me.0 (into_iter_items l.initial.hand-iterator) l.yielded (into_iter_items l.hand-iterator) l.seat.me.0 l.books.items
    × (l.seat.table_id ≡ g.N.Name.facts.table)
    × (into_iter_len l.hand-iterator ≡ length (into_iter_items l.hand-iterator))
    × (length l.books.items + length (into_iter_items l.hand-iterator) ≤ vec_capacity l.books)
