use Rattle.ng_drill.proofs.IndexLemmas.{indexed_more}
use Rattle.std.proofs.Common.{arith, ap, sym, ◌∙◌, ◌≡◌, length}
use Rattle.ng_drill.proofs.desk.Desk.insert.Goals as goal

pub returns-clause-index : goal.returns-clause-index
returns-clause-index g c =
    let whole = c.at.ensures.whole in let at = c.at.ensures.at in
    let gap = c.gap-gap.ensures in let table = c.requires.table in
    let long : c.args.self.now.held.len ≡ length c.args.self.now.held.items = omega (arith, c.args.self.now.held.ok) in
    rw c.push_reserved.ensures.items
    (rw at (rw (c.len.ensures ∙ long)
    (indexed_more c.args.self.now.held.items c.args.self.now.places.items c.args.block c.requires.index c.requires.none (omega (arith, whole, at)) (omega (arith, table)))))
