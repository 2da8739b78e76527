use Rattle.std.proofs.Common.{◌≡◌, ◌≤◌, vec_len, vec_capacity}
use Rattle.std.proofs.Math.ListN.{take}
use Rattle.ng_space.specs.Blanks.{fresh_books}
use Rattle.ng_space.proofs.blank.open_books.Given as goal

abbrev pub invariant-loop-i : goal.invariant-loop-i
invariant-loop-i l = (l.books.items ≡ fresh_books 1 (take l.i l.rooms)) × (vec_len l.books ≡ l.i) × (16 ≤ vec_capacity l.books)
