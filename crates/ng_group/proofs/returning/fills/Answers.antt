use Rattle.ng_group.proofs.FillingLemmas.{fills_slots}
use Rattle.ng_group.proofs.returning.fills.Goals as goal

pub returns : goal.returns
returns c = fills_slots c.args.masks.0 c.args.masks.1 c.args.index c.args.last c.all_bits.result c.all_bits.ensures.value c.requires.index c.requires.last c.requires.avail c.requires.freed
