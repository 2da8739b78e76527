use Rattle.ng_terms.proofs.ZeroLemmas.{zeros_of}
use Rattle.ng_space.proofs.blank.zeros.Goals as goal

pub returns-in-Ok : goal.returns-in-Ok
returns-in-Ok c = zeros_of c.args.pages 1024 c.as_slice.result.now c.in-Ok.words.items c.as_slice.ensures c.in-Ok.ensures.items
