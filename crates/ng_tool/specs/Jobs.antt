-- What is made ready for a command. No public clause cites this module.
use Rattle.std.specs.Prelude.{◌≡◌, ℕ, ◌∷◌, [], Bool, false, List, Option}
use Rattle.ng_generator.specs.Generated.{made}
use Rattle.ng_mapper.specs.Mapping.{Span}
use Rattle.ng_mapper.specs.Runs as mapper
use Rattle.ng_plan.specs.Plans.{plan_of}
use Rattle.ng_plan.specs.Sound.{IsSound}
use Rattle.ng_census.specs.Census.{census}
use Rattle.ng_script.specs.Reads.{IsWithinLimits, ReadsScript}
use Rattle.ng_terms.specs.Accounts.{Counts}
use Rattle.ng_terms.specs.declared.plan.Plan.{Plan}
use Rattle.ng_words.specs.declared.asked.Command.{Command}
use Rattle.ng_words.specs.declared.verb.Verb.{Verb}
use Rattle.ng_words.specs.declared.verb.Verb.TheVariants.{Serial, Replay, Check, Drill, Make}
use Rattle.ng_tool.specs.Drill.{Drills}
use Rattle.ng_tool.specs.Inputs.{PlansInput}
use Rattle.ng_tool.specs.Tool.{Runs, plain}
use Rattle.ng_tool.specs.declared.closed.Closed.{Closed}
use Rattle.ng_tool.specs.declared.job.Job.{Job}
use Rattle.ng_tool.specs.declared.job.Job.TheVariants.{Replayed, Drilled, Counted}

-- the job is a replay of the plan of the input's logs, as the command asks for it
abbrev pub IsReplay : Command → Option (List ℕ) → Option (List ℕ) → Job → Type 0
IsReplay command left left' (Replayed run) =
    PlansInput left left' run.plan × (run.mode ≡ command.mode) × (run.calls_shown ≡ command.calls_shown)
IsReplay command left left' (Drilled run) = ⊥
IsReplay command left left' (Counted text) = ⊥

-- the job is the census of that plan
abbrev pub IsCount : Option (List ℕ) → Option (List ℕ) → Job → Type 0
IsCount left left' (Replayed run) = ⊥
IsCount left left' (Drilled run) = ⊥
IsCount left left' (Counted text) = (plan : Plan) × PlansInput left left' plan × (text.items ≡ census plan)

-- the job is the script of the input
abbrev pub IsDrill : Option (List ℕ) → Option (List ℕ) → Job → Type 0
IsDrill left left' (Replayed run) = ⊥
IsDrill left left' (Drilled run) = ReadsScript left left' run.script
IsDrill left left' (Counted text) = ⊥

-- the job is a replay of the plan of the logs that are made of a number
abbrev pub IsMade : ℕ → Job → Type 0
IsMade seed (Replayed run) = (run.plan ≡ plan_of (made seed)) × (run.mode ≡ plain) × (run.calls_shown ≡ false)
IsMade seed (Drilled run) = ⊥
IsMade seed (Counted text) = ⊥

-- the job is what the command asks for
abbrev pub IsJob : Verb → Command → Option (List ℕ) → Option (List ℕ) → Job → Type 0
IsJob Serial command left left' job = IsReplay command left left' job
IsJob Replay command left left' job = IsReplay command left left' job
IsJob Check command left left' job = IsCount left left' job
IsJob Drill command left left' job = IsDrill left left' job
IsJob Make command left left' job = (left' ≡ left) × IsMade command.seed job

-- a plan to be replayed is sound, and a script is within the limits
abbrev pub IsSoundJob : Job → Type 0
IsSoundJob (Replayed run) = IsSound run.plan
IsSoundJob (Drilled run) = IsWithinLimits run.script
IsSoundJob (Counted text) = Unit {0}

-- the job needs no heap
abbrev pub IsCounted : Job → Type 0
IsCounted (Replayed run) = ⊥
IsCounted (Drilled run) = ⊥
IsCounted (Counted text) = Unit {0}

-- the text tells what came of the job
abbrev pub Tells : Job → Span → Counts → Counts → List mapper.Run → List Closed → List ℕ → Type 0
Tells (Replayed run) span before now live closed text = Runs run.plan run.mode run.calls_shown span before now live closed text
Tells (Drilled run) span before now live closed text = Drills run.script span before now live closed text
Tells (Counted count) span before now live closed text = (text ≡ count.items) × (closed ≡ []) × (now ≡ before)
