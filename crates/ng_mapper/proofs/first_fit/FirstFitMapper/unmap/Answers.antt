use Rattle.std.proofs.Common.{arith, rules, ◌≡◌}
use Rattle.std.proofs.lemmas.List.Sorted.{IsPermutation-remove}
use Rattle.ng_mapper.specs.InOrder.{run_of}
use Rattle.ng_mapper.proofs.RunLemmas.{ordered-remove, run-once, no_hole-whole}
use Rattle.ng_mapper.proofs.first_fit.FirstFitMapper.unmap.Goals as goal

pub invariant_of-self : goal.invariant_of-self
invariant_of-self c =
    let mapper = c.args.self.now in
    let within = rw c.deref.ensures.value at c.in-Some.ensures.within in
    record {
      least = mapper.least;
      greatest = mapper.greatest;
      bounded = mapper.bounded;
      ordered = rw c.remove.ensures.items (ordered-remove _ _ mapper.ordered _ within);
      room = search rules;
      some = omega (arith, mapper.least);
      none_fits = rw c.from-self.ensures (no_hole-whole _ _);
    }

pub returns-in-Some-clause-unmapped : goal.returns-in-Some-clause-unmapped
returns-in-Some-clause-unmapped c =
    let mapper = c.args.self.now in
    let within = rw c.deref.ensures.value at c.in-Some.ensures.within in
    let begins : (run_of mapper.runs.items c.in-Some.k).0 ≡ c.args.addr = search (rules, c.in-Some.ensures.begins) in
    let this = run-once _ _ mapper.ordered (c.args.addr, c.args.pages) c.requires _ within begins in
    rw c.remove.ensures.items (IsPermutation-remove _ _ _ within this)
