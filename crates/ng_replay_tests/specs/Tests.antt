-- What the tests begin with.
use Rattle.std.specs.Prelude.{◌≡◌}
use Rattle.ng_group.specs.Opening.{AreEmpty, Empty, IsFreshMapper}
use Rattle.ng_mapper.specs.FirstFit.{refused_of, runs_of, span_of}
use Rattle.ng_mapper.specs.declared.first_fit.FirstFit.{FirstFit}
use Rattle.ng_space.specs.Blanks.{BlankHeap}
use Rattle.ng_terms.specs.declared.plan.Plan.{Plan}
use Rattle.ng_terms.specs.declared.reply.Mode.{Mode}
use Rattle.ng_replay.specs.Books.{rooms_for}
use Rattle.ng_replay.specs.Serving.{IsCapOf}

-- the memory of a heap for the plan and of its core, and a mapper of its space that has given nothing yet
pub record AreParts (plan : Plan) (mode : Mode) (blank : BlankHeap) (tables : Empty) (mapper : FirstFit) : Type 0 where
  pub rooms : blank.rooms ≡ rooms_for plan
  pub cap : IsCapOf blank.start.cap plan mode
  pub empty : AreEmpty blank.start.pages tables
  pub fresh : IsFreshMapper blank.start (span_of mapper) (runs_of mapper) (refused_of mapper)
  pub calm : (refused_of mapper).most ≡ 0
