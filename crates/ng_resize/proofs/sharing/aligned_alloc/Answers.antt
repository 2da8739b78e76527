use Rattle.std.proofs.lemmas.Result.{IfOk-weaker}
use Rattle.ng_resize.proofs.sharing.aligned_alloc.Goals as goal

pub returns-clause-given : goal.returns-clause-given
returns-clause-given g c = IfOk-weaker c.aligned_in.result _ _ (λ block given. (c.aligned_in.new.core.counter, given)) c.aligned_in.ensures.given
