use Rattle.ng_group.proofs.BuildingLemmas.{carrier_above, carrier_least}
use Rattle.ng_group.proofs.serving.slot_for_group.Goals as goal

pub returns-clause-above : goal.returns-clause-above
returns-clause-above c = carrier_above c.args.class c.args.count c.unwrap.result c.requires.class c.requires.count.some (carrier_least c.class_of.result c.units.result c.from.result c.args.class c.args.count c.unwrap.result c.class_of.ensures.least c.unwrap.ensures c.units.ensures.value c.from.ensures)
