use Rattle.std.proofs.Common.{◌≡◌, None, sym, ◌∙◌, refl}
use Rattle.ng_space.specs.Leaving.{KeepsBook}
use Rattle.ng_check.specs.Queries.{cell}
use Rattle.ng_check.proofs.Loading.{loads_as, loads_cell_as}
use Rattle.ng_check.proofs.reader.Reader.load.Given.{Over}
use Rattle.ng_check.proofs.reader.Reader.load.Goals as goal

none : (g : Over) (c : goal.After-push g) → cell c.args.self.now c.args.addr ≡ None
none g c = sym c.cell.ensures ∙ c.in_default.is

book : (g : Over) (c : goal.After-push g) → KeepsBook c.args.hand.now c.load-word.new.hand
book g c = record { number = c.load-word.ensures.number; spare = c.load-word.ensures.spare; entries = c.load-word.ensures.entries }

pub returns-clause-cell : goal.returns-clause-cell
returns-clause-cell g c =
    let load = c.load-word in
    loads_cell_as g.N.Name.facts.start c.args.self.now c.args.hand.now load.new.hand c.args.addr load.result (none g c) load.ensures.view load.ensures.told load.ensures.placed load.ensures.small (book g c)
    _ _ c.self.view_is refl c.push.ensures.items

pub returns-clause-goes : goal.returns-clause-goes
returns-clause-goes g c =
    let load = c.load-word in
    loads_as g.N.Name.facts.start c.args.self.now c.args.hand.now load.new.hand c.args.addr load.result (none g c) load.ensures.view load.ensures.told load.ensures.placed load.ensures.small (book g c)
    _ _ c.self.view_is refl c.push.ensures.items
