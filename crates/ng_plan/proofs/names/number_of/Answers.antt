use Rattle.std.proofs.Common.{Err}
use Rattle.std.proofs.lemmas.List.Sorted.{searched}
use Rattle.ng_plan.proofs.TableLemmas.{flat, not_missing}
use Rattle.ng_plan.proofs.names.number_of.Goals as goal

pub unreachable-requires : goal.unreachable-requires
unreachable-requires c =
    let names = c.args.names.now in
    not_missing names c.args.name c.in-Err.field-0 c.requires.known (searched names c.args.name (Err c.in-Err.field-0) c.in-Err.ensures.position (flat names c.requires.rising))
