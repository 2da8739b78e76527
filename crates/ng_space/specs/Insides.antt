-- What holds of private fields. No public clause cites this module.
use Rattle.std.specs.Prelude.{◌≡◌, ◌*◌, ◌≤◌, [], length, vec_capacity}
use Rattle.ng_view.specs.Layouts.{InRange}
use Rattle.ng_view.specs.Steps.{opener}
use Rattle.ng_space.specs.Blanks.{rooms_of, fresh_books}
use Rattle.ng_space.specs.declared.blank.Blank.TheInside as blank

pub record IsBlank (b : blank.Inside) : Type 0 where
  pub words : b.table.shared.table_id.words ≡ 1024 * b.start.pages
  pub slots : b.table.shared.table_id.slots ≡ 0
  pub key : b.table.shared.key ≡ b.start
  pub range : InRange b.start
  pub fits : b.seat.table_id ≡ b.table.shared.table_id
  pub first : b.seat.me ≡ (opener b.start, [])
  pub fresh : b.books.items ≡ fresh_books 1 (rooms_of b.books.items)
  pub few : length b.books.items ≤ 16
  pub cleared : b.shelf.items ≡ []
  pub shelf_room : 16 ≤ vec_capacity b.shelf
