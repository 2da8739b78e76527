use Rattle.std.proofs.Common.{eqb, nat_cmp, IsSorted, rules}
use Rattle.std.proofs.lemmas.List.Filters.{dedup_is}
use Rattle.ng_plan.proofs.SortedLemmas.{rises, still_known}
use Rattle.ng_plan.proofs.names.each_once.Goals as goal

pub returns-clause-rising : goal.returns-clause-rising
returns-clause-rising c =
    let sorted = c.sort_unstable.new.self.items in
    let order : IsSorted nat_cmp sorted = search (rules, c.sort_unstable.ensures.sorted) in
    rises sorted c.dedup.new.self.items order (dedup_is eqb sorted c.dedup.new.self.items c.dedup.ensures.filtered)

pub returns-clause-known : goal.returns-clause-known
returns-clause-known c = λ name known.
    let sorted = c.sort_unstable.new.self.items in
    still_known c.args.names.items sorted c.dedup.new.self.items name c.sort_unstable.ensures.permutation (dedup_is eqb sorted c.dedup.new.self.items c.dedup.ensures.filtered) known
