-- What the ops of a log have to do with other logs, read off its lines.
use Rattle.std.specs.Prelude.{ℕ, List, [], ◌∷◌, ◌++◌, Option}
use Rattle.ng_mtrace.specs.declared.log.Line.{Line}
use Rattle.ng_plan.specs.declared.step.Step.{Step}
use Rattle.ng_plan.specs.Mentions.{own, claimed, handed}

-- the own ops of lines behind these lines
abbrev pub owns_behind : List Line → List Line → List (Option ℕ)
owns_behind before [] = []
owns_behind before (line ∷ lines) = own before line ∷ owns_behind (before ++ line ∷ []) lines

-- of each line of a log the log's own op that it takes
abbrev pub owns_of : List Line → List (Option ℕ)
owns_of lines = owns_behind [] lines

-- the name that a line claims and the name under which it posts, between these lines
abbrev pub step_of : List Line → Line → List Line → Step
step_of before line after = record { claims = claimed before line; posts = handed line after }

-- the steps of lines behind these lines
abbrev pub steps_behind : List Line → List Line → List Step
steps_behind before [] = []
steps_behind before (line ∷ lines) = step_of before line lines ∷ steps_behind (before ++ line ∷ []) lines

-- the steps of a log
abbrev pub steps_of : List Line → List Step
steps_of lines = steps_behind [] lines
