use Rattle.std.proofs.Common.{◌≡◌, ◌∙◌, ap, sym, length, arith}
use Rattle.std.proofs.lemmas.Grind.{common_steps}
use Rattle.ng_mtrace.specs.InMemory.{Feed}
use Rattle.ng_mtrace.proofs.StreamLemmas.{drop-copied}
use Rattle.ng_mtrace.proofs.bytes_in.BytesInSource.read.Goals as goal

pub returns-clause-bytes : goal.returns-clause-bytes
returns-clause-bytes c =
    let len : length c.copy_from_slice.new.self ≡ c.min-count.result = grind (arith, common_steps) in
    sym (ap (λ (feed : Feed). feed.left) c.self.view_is)
    ∙ drop-copied _ _ _ _ _ (rw c.deref-2.ensures.value at c.copy_from_slice.ensures.after) len
