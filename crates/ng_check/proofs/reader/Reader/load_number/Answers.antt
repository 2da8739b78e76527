use Rattle.std.proofs.Common.{◌+◌, ◌∙◌, ap, sym}
use Rattle.std.specs.Prelude.{Some}
use Rattle.ng_meta.specs.Cells.{joined}
use Rattle.ng_check.specs.Queries.{cell, number}
use Rattle.ng_check.proofs.Options.{both_is}
use Rattle.ng_check.proofs.reader.Reader.load_number.Goals as goal

pub returns-clause-number : goal.returns-clause-number
unfolding number
returns-clause-number g c =
    let r = c.load-high.new.self in
    let a = c.args.addr in
    both_is joined (cell r a) (cell r (a + 4)) c.load-low.result c.load-high.result (c.load-high.ensures.goes.grows.cells a c.load-low.result c.load-low.ensures.cell) c.load-high.ensures.cell
    ∙ ap (λ n. Some n) (sym c.join.ensures)
