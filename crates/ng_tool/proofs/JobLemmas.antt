-- What a job tells answers the command that it was made ready for.
use Rattle.std.proofs.Common.{◌≡◌, ℕ, Bool, true, false, List, ◌∙◌, sym, subst}
use Rattle.std.specs.Prelude.{Option, IsTrue}
use Rattle.ng_mapper.specs.Mapping.{Span}
use Rattle.ng_mapper.specs.Runs as mapper
use Rattle.ng_terms.specs.Accounts.{Counts}
use Rattle.ng_terms.specs.declared.plan.Plan.{Plan}
use Rattle.ng_terms.specs.declared.reply.Mode.{Mode}
use Rattle.ng_words.specs.Words.{IsCommand}
use Rattle.ng_words.specs.declared.asked.Command.{Command}
use Rattle.ng_words.specs.declared.status.Status.{Status}
use Rattle.ng_words.specs.declared.status.Status.TheVariants.{Done, WriteFault}
use Rattle.ng_words.specs.declared.verb.Verb.{Verb}
use Rattle.ng_words.specs.declared.verb.Verb.TheVariants.{Serial, Replay, Check, Drill, Make}
use Rattle.ng_tool.specs.Causes.{serves}
use Rattle.ng_tool.specs.Jobs.{IsCounted, IsJob, IsReplay, Tells}
use Rattle.ng_tool.specs.Statuses.{IsLate}
use Rattle.ng_tool.specs.Tool.{Answers, Runs, Serves, Writes, WritesAnswer, WritesBeginning, plain}
use Rattle.ng_tool.specs.declared.call.Call.{Call}
use Rattle.ng_tool.specs.declared.call.Call.TheVariants.{Beside}
use Rattle.ng_tool.specs.declared.closed.Closed.{Closed}
use Rattle.ng_tool.specs.declared.job.Job.{Job}
use Rattle.ng_tool.specs.declared.job.Job.TheVariants.{Replayed, Drilled, Counted}

module _ (span : Span) (before now : Counts) (live : List mapper.Run) (closed : List Closed) (text : List ℕ) where
  -- a run under the mode that was asked for
  runs_as : (plan : Plan) (mode asked : Mode) (shown calls : Bool) → mode ≡ asked → shown ≡ calls
      → Runs plan mode shown span before now live closed text → Runs plan asked calls span before now live closed text
  runs_as plan mode asked shown calls mode_is shown_is runs =
      subst (λ (c : Bool). Runs plan asked c span before now live closed text) shown_is
      (subst (λ (m : Mode). Runs plan m shown span before now live closed text) mode_is runs)

  module _ (command : Command) (left left' : Option (List ℕ)) where
    pub answers_job : (verb : Verb) (job : Job) → IsJob verb command left left' job → Tells job span before now live closed text
        → Answers verb command left left' span before now live closed text
    answers_job Serial (Replayed run) is tells = record {
      plan = run.plan;
      input = is.0;
      run = runs_as run.plan run.mode command.mode run.calls_shown command.calls_shown is.1 is.2 tells;
    }
    answers_job Serial (Drilled run) is tells = absurd is
    answers_job Serial (Counted count) is tells = absurd is
    answers_job Replay (Replayed run) is tells = record {
      plan = run.plan;
      input = is.0;
      run = runs_as run.plan run.mode command.mode run.calls_shown command.calls_shown is.1 is.2 tells;
    }
    answers_job Replay (Drilled run) is tells = absurd is
    answers_job Replay (Counted count) is tells = absurd is
    answers_job Check (Replayed run) is tells = absurd is
    answers_job Check (Drilled run) is tells = absurd is
    answers_job Check (Counted count) is tells = record {
      plan = is.0;
      input = is.1;
      counted = tells.0 ∙ is.2;
      unopened = tells.1;
      calm = tells.2;
    }
    answers_job Drill (Replayed run) is tells = absurd is
    answers_job Drill (Drilled run) is tells = record { script = run.script; input = is; run = tells }
    answers_job Drill (Counted count) is tells = absurd is
    answers_job Make (Replayed run) is tells = record {
      plan = run.plan;
      input = record { unread = is.0; planned = is.1.0 };
      run = runs_as run.plan run.mode plain run.calls_shown false is.1.1 is.1.2 tells;
    }
    answers_job Make (Drilled run) is tells = absurd is.1
    answers_job Make (Counted count) is tells = absurd is.1

-- ---- what a top call owes where all was written, or a beginning
module _ (call : Call) (texts : List (List ℕ)) (command : Command) (left left' : Option (List ℕ)) (span : Span) (before now : Counts) (live : List mapper.Run)
    (closed : List Closed) (written written' : Option (List ℕ)) (job : Job) (status : Status) where
  abbrev WritesLate : Type 0
  WritesLate = IsLate status → Writes (Tells job span before now live closed) written written' status

  serves_job : IsCommand texts command → IsTrue (serves call command.verb) → IsJob command.verb command left left' job → (text : List ℕ)
      → Tells job span before now live closed text → Serves call texts left left' span before now live closed text
  serves_job words served is text tells = record {
    command = command;
    words = words;
    served = served;
    answer = answers_job span before now live closed text command left left' command.verb job is tells;
  }

  pub writes_answer : IsCommand texts command → IsTrue (serves call command.verb) → IsJob command.verb command left left' job → WritesLate → status ≡ Done
      → WritesAnswer call texts left left' span before now live closed written written'
  writes_answer words served is ends done =
      let told = subst (λ (s : Status). Writes (Tells job span before now live closed) written written' s) done (ends (subst IsLate (sym done) tt)) in
      record { text = told.0; serves = serves_job words served is told.0 told.1; whole = told.2 }

  pub writes_beginning : IsCommand texts command → IsTrue (serves call command.verb) → IsJob command.verb command left left' job → WritesLate → status ≡ WriteFault
      → WritesBeginning call texts left left' span before now live closed written written'
  writes_beginning words served is ends failed =
      let told = subst (λ (s : Status). Writes (Tells job span before now live closed) written written' s) failed (ends (subst IsLate (sym failed) tt)) in
      record { text = told.0; serves = serves_job words served is told.0 told.1; part = told.2 }

-- ---- jobs by their command
-- only `check` counts
pub counted_job : (verb : Verb) (command : Command) (left left' : Option (List ℕ)) (job : Job) → verb ≡ Check → IsJob verb command left left' job → IsCounted job
counted_job verb command left left' job is made = counts job (subst (λ (v : Verb). IsJob v command left left' job) is made)
  where
    counts : (j : Job) → IsJob Check command left left' j → IsCounted j
    counts (Replayed run) made = absurd made
    counts (Drilled run) made = absurd made
    counts (Counted text) made = tt

-- `replay` does that command alone, whose job is a replay
pub beside_job : (verb : Verb) (command : Command) (left left' : Option (List ℕ)) (job : Job) → IsTrue (serves Beside verb) → IsReplay command left left' job
    → IsJob verb command left left' job
beside_job Serial command left left' job served is = absurd (cc)
beside_job Replay command left left' job served is = is
beside_job Check command left left' job served is = absurd (cc)
beside_job Drill command left left' job served is = absurd (cc)
beside_job Make command left left' job served is = absurd (cc)
