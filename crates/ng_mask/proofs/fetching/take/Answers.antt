use Rattle.ng_mask.proofs.Fetches.{takes_bits}
use Rattle.std.proofs.Common.{refl}
use Rattle.ng_mask.proofs.fetching.take.Goals as goal

pub returns : goal.returns
returns g c = record { taken = takes_bits _ _ c.args.meta c.args.upto c.clear_freed.result _ c.all_bits-bits.result c.requires.live c.requires.upto refl c.all_bits-bits.ensures.value c.clear_freed.ensures }
