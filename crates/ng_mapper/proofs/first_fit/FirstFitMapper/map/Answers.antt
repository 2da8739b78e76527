use Rattle.std.proofs.Common.{arith, rules, ◌+◌, ◌≤◌, length, ⊎_elim, Contains}
use Rattle.std.proofs.lemmas.List.Sorted.{IsPermutation-insert}
use Rattle.ng_mapper.specs.FirstFit.{next_number}
use Rattle.ng_mapper.proofs.RunLemmas.{room-insert, ordered-insert, free-fits, no_hole-insert}
use Rattle.ng_mapper.proofs.first_fit.FirstFitMapper.map.Goals as goal

pub insert_run-requires-clause-room : goal.insert_run-requires-clause-room
insert_run-requires-clause-room c =
    let mapper = c.args.self.now in
    let fits = rw c.deref-2.ensures.value at c.in-Some.ensures.fits in
    let left : length mapper.runs.items + 2 ≤ mapper.pages = room-insert _ _ _ _ _ mapper.ordered fits in
    omega (arith, mapper.room)

pub invariant_of-self-2 : goal.invariant_of-self-2
invariant_of-self-2 c =
    let mapper = c.args.self.now in
    let fits = rw c.deref-2.ensures.value at c.in-Some.ensures.fits in
    record {
      least = mapper.least;
      greatest = mapper.greatest;
      bounded = mapper.bounded;
      ordered = rw c.insert_run.ensures.items (ordered-insert _ _ _ _ _ mapper.ordered fits);
      room = search rules;
      some = mapper.some;
      none_fits = rw c.insert_run.ensures.items (no_hole-insert _ _ _ _ _ mapper.none_fits);
    }

pub returns-clause-free : goal.returns-clause-free
returns-clause-free c =
    free-fits _ _ _ _ _ c.args.self.now.ordered (rw c.deref-2.ensures.value at c.in-Some.ensures.fits)

pub returns-clause-mapped : goal.returns-clause-mapped
returns-clause-mapped c = rw c.insert_run.ensures.items (IsPermutation-insert _ _ _)

pub returns-clause-exactly : goal.returns-clause-exactly
returns-clause-exactly c =
    let mapper = c.args.self.now in
    let fits = rw c.deref-2.ensures.value at c.in-Some.ensures.fits in
    let unlisted : ¬ Contains mapper.refuse.items (next_number mapper.calls) = search rules in
    let hole = free-fits _ _ _ _ _ mapper.ordered fits in
    ((λ err. absurd (cc)), ⊎_elim (λ listed. absurd (unlisted listed)) (λ none. absurd (none _ hole)))
