use Rattle.std.proofs.Common.{◌+◌, ◌*◌, nat_lt, rules}
use Rattle.std.proofs.lemmas.List.Sorted.{IsPartitionPoint-from_clause}
use Rattle.ng_class.specs.Class.{unit_table}
use Rattle.ng_class.proofs.Classes.{unit_table_partitioned, least_class_point}
use Rattle.ng_class.proofs.class.least_class.Goals as goal

pub returns : goal.returns
unfolding unit_table
returns c =
    let size = c.args.n + 4 in
    let called = c.partition_point-class.ensures in
    let point = IsPartitionPoint-from_clause (λ units. nat_lt (16 * units) size) unit_table c.partition_point-class.result called.partitioned (unit_table_partitioned size) (λ x b f' k. search rules) in
    least_class_point c.args.n c.partition_point-class.result c.requires called.bound point
