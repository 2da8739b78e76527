-- The definition at small logs.
use Rattle.std.proofs.Common.{◌≡◌, List, [], ◌∷◌, Some, None, refl}
use Rattle.ng_mtrace.specs.declared.log.Line.{Line}
use Rattle.ng_mtrace.specs.declared.log.Line.TheVariants as line
use Rattle.ng_terms.specs.declared.plan.Op.TheVariants.{Make, Free, Move}
use Rattle.ng_terms.specs.declared.plan.Origin.TheVariants.{Own, Claim, Skip}
use Rattle.ng_plan.specs.Turns.{turns_of}
use Rattle.ng_plan.specs.Plans.{plan_of}

-- a block that is handed to its own log, and one that is the log's own
abbrev twice : List (List Line)
twice = (line.Make 16 20 ∷ line.Make 16 20 ∷ line.End 16 ∷ line.End 16 ∷ []) ∷ []

to_itself : plan_of twice ≡ record {
  logs = (Make 16 20 (Some 1) ∷ Make 16 20 None ∷ Free 16 (Own 1) ∷ Free 16 (Claim 1) ∷ []) ∷ [];
  order = 0 ∷ 0 ∷ 0 ∷ 0 ∷ [];
  receivers = 0 ∷ [];
}
unfolding turns_of
to_itself = refl

-- a claim before its block waits, and one without a block is skipped
abbrev crossed : List (List Line)
crossed = (line.End 16 ∷ line.End 32 ∷ []) ∷ (line.Make 16 8 ∷ line.Move 16 48 8 ∷ line.Make 16 8 ∷ []) ∷ []

waits : plan_of crossed ≡ record {
  logs = (Free 16 (Claim 1) ∷ Free 32 Skip ∷ []) ∷ (Make 16 8 None ∷ Move 16 48 (Own 0) 8 None ∷ Make 16 8 (Some 1) ∷ []) ∷ [];
  order = 1 ∷ 1 ∷ 1 ∷ 0 ∷ 0 ∷ [];
  receivers = 0 ∷ [];
}
unfolding turns_of
waits = refl

-- where a round does nothing the first log skips, and a claim takes the earliest block
abbrev vain : List (List Line)
vain = (line.End 32 ∷ line.Make 16 20 ∷ []) ∷ (line.End 16 ∷ line.Make 16 20 ∷ []) ∷ []

in_vain : plan_of vain ≡ record {
  logs = (Free 32 Skip ∷ Make 16 20 (Some 1) ∷ []) ∷ (Free 16 (Claim 1) ∷ Make 16 20 None ∷ []) ∷ [];
  order = 0 ∷ 0 ∷ 1 ∷ 1 ∷ [];
  receivers = 1 ∷ [];
}
unfolding turns_of
in_vain = refl

abbrev moving : List (List Line)
moving = (line.Make 16 1 ∷ line.Make 16 2 ∷ line.Make 16 3 ∷ []) ∷ (line.End 16 ∷ line.Move 16 16 4 ∷ line.End 16 ∷ []) ∷ []

earliest_first : plan_of moving ≡ record {
  logs = (Make 16 1 (Some 1) ∷ Make 16 2 (Some 2) ∷ Make 16 3 None ∷ []) ∷ (Free 16 (Claim 1) ∷ Move 16 16 (Claim 2) 4 None ∷ Free 16 (Own 1) ∷ []) ∷ [];
  order = 0 ∷ 1 ∷ 0 ∷ 1 ∷ 0 ∷ 1 ∷ [];
  receivers = 1 ∷ 1 ∷ [];
}
unfolding turns_of
earliest_first = refl
