use Rattle.std.proofs.Common.{rules}
use Rattle.std.proofs.lemmas.List.Sorted.{answers_always}
use Rattle.ng_mapper.proofs.SearchLemmas.{searched}
use Rattle.ng_mapper.proofs.run_list.run_index.Goals as goal

-- the closure gives a run's address
pub returns : goal.returns
returns c =
    let facts = c.binary_search_by_key.ensures in
    let by_key = facts.position (λ run. run.0) (answers_always _ _ _ (λ f a r g called. search rules)) in
    rw c.ok.ensures.value (searched c.args.runs.now c.requires c.args.addr c.binary_search_by_key.result facts.bound by_key)
