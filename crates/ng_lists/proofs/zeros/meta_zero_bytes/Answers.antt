use Rattle.ng_terms.proofs.ZeroLemmas.{zeros_of}
use Rattle.ng_lists.proofs.zeros.meta_zero_bytes.Goals as goal

pub returns-in-Ok : goal.returns-in-Ok
returns-in-Ok c = zeros_of c.args.pages 101 c.as_slice.result.now c.in-Ok.zeros.items c.as_slice.ensures c.in-Ok.ensures.items
