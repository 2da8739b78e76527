use Rattle.std.proofs.Common.{◌≡◌, ◌+◌, ◌≤◌, [], length, vec_capacity}
use Rattle.std.specs.Vec.Iter.{into_iter_items, into_iter_len}
use Rattle.ng_space.proofs.Opening.{Opening}
use Rattle.ng_space.specs.Blanks.{rooms_of}
use Rattle.ng_space.proofs.space.Space.open.Given as goal

abbrev pub invariant-loop-book : goal.invariant-loop-book
invariant-loop-book g l =
    Opening g.N.Name.facts.start (rooms_of (into_iter_items l.initial.book-iterator)) l.seat.me.0 l.hands.items (into_iter_items l.book-iterator)
    × (l.seat.table_id ≡ g.N.Name.facts.table)
    × (l.seat.me.1 ≡ [])
    × (into_iter_len l.book-iterator ≡ length (into_iter_items l.book-iterator))
    × (length l.hands.items + length (into_iter_items l.book-iterator) ≤ vec_capacity l.hands)
