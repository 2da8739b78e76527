use Rattle.std.proofs.Common.{arith, ◌≡◌, ◌+◌}
use Rattle.std.proofs.lemmas.List.Sorted.{sum_by_popped}
use Rattle.ng_quota.specs.Quota.{pages_of}
use Rattle.ng_quota.proofs.quota.QuotaMapper.unmap.Goals as goal

pub invariant_of-self : goal.invariant_of-self
invariant_of-self g c =
    let quota = c.args.self.now in
    let less : pages_of (g.M.Mapper.runs c.unmap.new.self) + c.args.pages ≡ pages_of (g.M.Mapper.runs quota.inner) =
    sum_by_popped (λ run. run.1) _ _ _ c.unmap.ensures.unmapped in
    record {
      counted = omega (arith, less, quota.counted);
      within = omega (arith, quota.within);
    }
