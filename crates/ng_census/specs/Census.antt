-- The census of a plan: how many logs it has, how many ops of each kind, how many hand-offs, and how many ops whose block comes
-- from nowhere.
use Rattle.std.specs.Prelude.{ℕ, ◌++◌, Bool, true, false, List, length, sum_by, count_by, codes}
use Rattle.ng_terms.specs.Calls.{is_skip}
use Rattle.ng_terms.specs.Reports.{count_line}
use Rattle.ng_terms.specs.declared.plan.Op.{Op}
use Rattle.ng_terms.specs.declared.plan.Op.TheVariants.{Make, Free, Move}
use Rattle.ng_terms.specs.declared.plan.Plan.{Plan}

abbrev pub makes : Op → Bool
makes (Make name size to) = true
makes (Free name origin) = false
makes (Move old name origin size to) = false

abbrev pub ends : Op → Bool
ends (Make name size to) = false
ends (Free name origin) = true
ends (Move old name origin size to) = false

abbrev pub moves : Op → Bool
moves (Make name size to) = false
moves (Free name origin) = false
moves (Move old name origin size to) = true

-- the op ends a block that comes from nowhere
abbrev pub skips : Op → Bool
skips (Make name size to) = false
skips (Free name origin) = is_skip origin
skips (Move old name origin size to) = is_skip origin

-- how many ops of all logs pass a test
abbrev pub ops_with : (Op → Bool) → List (List Op) → ℕ
ops_with test logs = sum_by (λ ops. count_by test ops) logs

-- the six lines
abbrev pub census : Plan → List ℕ
census plan =
    count_line (codes "logs") (length plan.logs)
    ++ count_line (codes "makes") (ops_with makes plan.logs)
    ++ count_line (codes "ends") (ops_with ends plan.logs)
    ++ count_line (codes "moves") (ops_with moves plan.logs)
    ++ count_line (codes "handed") (length plan.receivers)
    ++ count_line (codes "skips") (ops_with skips plan.logs)
