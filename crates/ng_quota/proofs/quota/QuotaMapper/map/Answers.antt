use Rattle.std.proofs.Common.{arith, ◌≡◌, ◌+◌}
use Rattle.std.proofs.lemmas.List.Sorted.{sum_by_pushed}
use Rattle.ng_quota.specs.Quota.{pages_of}
use Rattle.ng_quota.proofs.quota.QuotaMapper.map.Goals as goal

pub invariant_of-self-in-Ok : goal.invariant_of-self-in-Ok
invariant_of-self-in-Ok g c =
    let quota = c.args.self.now in
    let more : pages_of (g.M.Mapper.runs c.map.new.self) ≡ c.args.pages + pages_of (g.M.Mapper.runs quota.inner) =
    sum_by_pushed (λ run. run.1) _ _ _ c.in-Ok.ensures.mapped in
    record {
      counted = omega (arith, more, quota.counted);
      within = omega (arith, c.if-pages-self.false, quota.within);
    }
