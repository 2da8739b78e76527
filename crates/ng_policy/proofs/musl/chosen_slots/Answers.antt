use Rattle.std.proofs.Common.{◌≡◌, rules}
use Rattle.ng_policy.specs.Musl.{choices_of, first_choice}
use Rattle.ng_policy.proofs.Choices.{choices_of-some, first_choice-pos, first_choice-le, allowed_small, allowed_fitting}
use Rattle.ng_policy.proofs.musl.chosen_slots.Goals as goal

pub first_of-slots-requires : goal.first_of-slots-requires
first_of-slots-requires c = rw c.choices.ensures (choices_of-some c.args.class c.requires.class)

pub halved-requires-clause-slots : goal.halved-requires-clause-slots
halved-requires-clause-slots c =
    let value : c.first_of-slots.result ≡ first_choice (choices_of c.args.class) c.args.usage = rw c.choices.ensures at c.first_of-slots.ensures in
    rw value (first_choice-le c.args.class c.args.usage c.requires.class)

pub returns-then-class-lt9-clause-allowed : goal.returns-then-class-lt9-clause-allowed
returns-then-class-lt9-clause-allowed c =
    let value : c.first_of-slots.result ≡ first_choice (choices_of c.args.class) c.args.usage = rw c.choices.ensures at c.first_of-slots.ensures in
    rw value (allowed_small c.args.class _ (search rules) (first_choice-pos c.args.class c.args.usage c.requires.class) (first_choice-le c.args.class c.args.usage c.requires.class))

pub returns-else-class-lt9-clause-allowed : goal.returns-else-class-lt9-clause-allowed
returns-else-class-lt9-clause-allowed c =
    let value : c.first_of-slots.result ≡ first_choice (choices_of c.args.class) c.args.usage = rw c.choices.ensures at c.first_of-slots.ensures in
    rw (c.halved.ensures, c.units.ensures.value, value) (allowed_fitting c.args.class _ c.requires.class (first_choice-pos c.args.class c.args.usage c.requires.class) (first_choice-le c.args.class c.args.usage c.requires.class))
