-- Inputs, and what is made of them.
use Rattle.std.specs.Prelude.{◌≡◌, ◌≢◌, ℕ, List, [], Option, Some, None}
use Rattle.ng_generator.specs.Generated.{made}
use Rattle.ng_mtrace.specs.declared.log.Logs.{Logs}
use Rattle.ng_mtrace.specs.Faults.{first_fault}
use Rattle.ng_mtrace.specs.Reads.{IsWithinLimits, ReadsLogs}
use Rattle.ng_mtrace.specs.Sections.{logs_of}
use Rattle.ng_plan.specs.Plans.{lines_of, plan_of}
use Rattle.ng_script.specs.Faults as script
use Rattle.ng_terms.specs.declared.plan.Plan.{Plan}

-- the whole rest of an input was read, it has logs within the limits, and they have this plan
pub record PlansInput (before now : Option (List ℕ)) (plan : Plan) : Type 0 where
  pub logs : Logs
  pub read : ReadsLogs before now logs
  pub limits : IsWithinLimits logs
  pub planned : plan ≡ plan_of (lines_of logs.logs)

-- nothing of an input was read, and this is the plan of the logs that are made of a number
pub record PlansMade (before now : Option (List ℕ)) (seed : ℕ) (plan : Plan) : Type 0 where
  pub unread : now ≡ before
  pub planned : plan ≡ plan_of (made seed)

-- the whole rest of an input was read, and no line of it begins a section
abbrev pub HasNoLog : Option (List ℕ) → Option (List ℕ) → Type 0
HasNoLog before now = ReadsLogs before now (record { logs = [] })

-- the whole input, of which all is left, is told, has no fault and has a log
pub record IsInForm (left : Option (List ℕ)) : Type 0 where
  pub bytes : List ℕ
  pub told : left ≡ Some bytes
  pub faultless : first_fault bytes ≡ None
  pub some : logs_of bytes ≢ record { logs = [] }

-- the whole input, of which all is left, is told, and is a script without a fault
pub record IsScript (left : Option (List ℕ)) : Type 0 where
  pub bytes : List ℕ
  pub told : left ≡ Some bytes
  pub faultless : script.first_fault bytes ≡ None
