use Rattle.std.proofs.Common.{ℕ, refl, ap, ◌∙◌, arith}
use Rattle.std.proofs.lemmas.List.{length-set}
use Rattle.std.specs.Prelude.{Option, Some, None, Ok, Err}
use Rattle.std.specs.Global.{Vec}
use Rattle.ng_space.specs.Blocks.{BlockToken}
use Rattle.ng_drill.specs.Steps.{with_name}
use Rattle.ng_drill.proofs.StepLemmas.{large_of, malloc_given, malloc_refused, none_made, small_unless}
use Rattle.ng_drill.proofs.steps.malloc.Goals as goal

pub insert-requires-clause-none : goal.insert-requires-clause-none
insert-requires-clause-none g c =
    none_made c.args.hand.now c.malloc_in.new.hand c.args.desk.now.held.items c.requires.at.0.blocks c.args.size c.in-Ok.block c.requires.at.1.blocks c.in-Ok.ensures.made

pub returns-in-Ok-clause-steps : goal.returns-in-Ok-clause-steps
returns-in-Ok-clause-steps g c =
    malloc_given g.N.Name.facts.start.pages c.args.name c.args.size c.at-at.result c.args.hand.now c.malloc_in.new.hand c.args.desk.now c.insert.new.self c.in-Ok.block c.at-at.ensures.at
    (let end = c.gap-gap.ensures.gap in omega (arith, end)) c.gap-gap.ensures.below c.in-Ok.ensures.entered.number c.in-Ok.ensures.slots
    c.in-Ok.ensures.made (small_unless {A = BlockToken} c.args.size (Ok c.in-Ok.block) c.in-Ok.ensures.large.1 (λ e. cc))
    (ap (λ (names : Vec (Option ℕ)). names.items) c.insert.ensures.names) c.insert.ensures.held

pub returns-in-Ok-clause-desk : goal.returns-in-Ok-clause-desk
returns-in-Ok-clause-desk g c = record {
  named = ap (λ (names : Vec (Option ℕ)). Rattle.std.proofs.Common.length names.items) c.insert.ensures.names ∙ length-set c.args.desk.now.names.items c.args.name (Some c.at-at.result);
  table = c.insert.ensures.table ∙ c.requires.desk.table;
  index = c.insert.ensures.index;
}

pub returns-in-NoMemory-clause-steps : goal.returns-in-NoMemory-clause-steps
returns-in-NoMemory-clause-steps g c = λ state s.
    let other = c.in-NoMemory.is in (
      with_name c.args.name None state,
      (small_unless {A = BlockToken} c.args.size (Err c.in-Err.why) c.in-Err.ensures.large.1 (λ e. cc), refl),
      malloc_refused c.args.name c.args.hand.now c.malloc_in.new.hand c.args.desk.now _ state c.in-Err.ensures.entered.number c.in-Err.ensures.slots refl refl s,
    )

pub returns-in-TooLarge-clause-steps : goal.returns-in-TooLarge-clause-steps
returns-in-TooLarge-clause-steps g c = λ state s. (
  with_name c.args.name None state,
  (large_of c.args.size (c.in-Err.ensures.large.0 (ap (λ why. Err why) c.in-TooLarge.is)), refl),
  malloc_refused c.args.name c.args.hand.now c.malloc_in.new.hand c.args.desk.now _ state c.in-Err.ensures.entered.number c.in-Err.ensures.slots refl refl s,
)
