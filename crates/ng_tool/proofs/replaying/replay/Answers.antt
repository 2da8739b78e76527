use Rattle.std.proofs.Common.{ap}
use Rattle.std.specs.Prelude.{Err}
use Rattle.ng_words.specs.Words.{texts_of}
use Rattle.ng_words.specs.declared.status.Status.{Status}
use Rattle.ng_tool.proofs.CauseLemmas.{beside_due, beside_reads, due_input, due_words, fault_not_usage, input_served, is_past, past_due, words_served}
use Rattle.ng_tool.proofs.EndLemmas.{named}
use Rattle.ng_tool.proofs.JobLemmas.{beside_job, writes_answer, writes_beginning}
use Rattle.ng_tool.proofs.replaying.replay.Goals as goal
use Rattle.ng_tool.specs.declared.call.Call.TheVariants.{Beside}
use Rattle.ng_tool.specs.declared.job.Job.TheVariants.{Replayed}

pub returns-in-Err-clause-due : goal.returns-in-Err-clause-due
returns-in-Err-clause-due g c =
    due_words Beside (texts_of c.args.words.now) g.I.Source.left g.I.Source.faults g.I.Source.exact c.args.input.now c.in-Err.status c.in-Err.ensures.usage c.in-Err.ensures.host

pub returns-in-Err-clause-complete : goal.returns-in-Err-clause-complete
returns-in-Err-clause-complete g c = λ served reads writes.
    words_served Beside (texts_of c.args.words.now) g.I.Source.left g.I.Source.faults g.I.Source.exact c.args.input.now c.in-Err.status c.in-Err.ensures.usage c.in-Err.ensures.host served

pub returns-in-Err-prepare_logs-clause-due : goal.returns-in-Err-prepare_logs-clause-due
returns-in-Err-prepare_logs-clause-due g c =
    due_input Beside (texts_of c.args.words.now) g.I.Source.left g.I.Source.faults g.I.Source.exact c.args.input.now
    c.in-Ok.command c.in-Ok.ensures.words c.in-Ok.ensures.served c.prepare_logs.new.input c.in-Err-prepare_logs.status
    (fault_not_usage c.in-Err-prepare_logs.status c.in-Err-prepare_logs.ensures.kind) (λ is. c.in-Err-prepare_logs.ensures.read_fault (ap (λ (s : Status). Err s) is))
    (λ exact other. c.in-Err-prepare_logs.ensures.unfailed exact (λ is. other (cc)))
    (λ is. absurd (beside_reads c.in-Ok.command.verb c.in-Ok.ensures.served is))
    (beside_due c.in-Ok.command.verb _ _ c.in-Err-prepare_logs.status c.in-Ok.ensures.served c.in-Err-prepare_logs.ensures.due)

pub returns-in-Err-prepare_logs-clause-complete : goal.returns-in-Err-prepare_logs-clause-complete
returns-in-Err-prepare_logs-clause-complete g c = λ served reads writes.
    input_served Beside (texts_of c.args.words.now) g.I.Source.left g.I.Source.faults g.I.Source.exact c.args.input.now
    c.in-Ok.command c.in-Ok.ensures.words c.prepare_logs.new.input c.in-Err-prepare_logs.status served c.in-Err-prepare_logs.ensures.kind
    (λ is. c.in-Err-prepare_logs.ensures.read_fault (ap (λ (s : Status). Err s) is)) reads
    (beside_due c.in-Ok.command.verb _ _ c.in-Err-prepare_logs.status c.in-Ok.ensures.served c.in-Err-prepare_logs.ensures.due)

pub run_beside-requires-clause-named : goal.run_beside-requires-clause-named
run_beside-requires-clause-named g c = λ names outlived. named _ _ _ _ _ _ c.requires.no_runs c.in-Ok-for_plan.ensures.fits

pub returns-in-Ok-for_plan-clause-done : goal.returns-in-Ok-for_plan-clause-done
returns-in-Ok-for_plan-clause-done g c =
    let run = c.in-Ok-prepare_logs.prepared in
    let told = c.in-Ok-prepare_logs.ensures in
    writes_answer Beside (texts_of c.args.words.now) c.in-Ok.command _ _ _ _ _ _ _ _ _ (Replayed run) c.run_beside.result.0
    c.in-Ok.ensures.words c.in-Ok.ensures.served
    (beside_job c.in-Ok.command.verb c.in-Ok.command _ _ (Replayed run) c.in-Ok.ensures.served (told.input, told.mode, told.calls)) c.run_beside.ensures.ends

pub returns-in-Ok-for_plan-clause-beginning : goal.returns-in-Ok-for_plan-clause-beginning
returns-in-Ok-for_plan-clause-beginning g c =
    let run = c.in-Ok-prepare_logs.prepared in
    let told = c.in-Ok-prepare_logs.ensures in
    writes_beginning Beside (texts_of c.args.words.now) c.in-Ok.command _ _ _ _ _ _ _ _ _ (Replayed run) c.run_beside.result.0
    c.in-Ok.ensures.words c.in-Ok.ensures.served
    (beside_job c.in-Ok.command.verb c.in-Ok.command _ _ (Replayed run) c.in-Ok.ensures.served (told.input, told.mode, told.calls)) c.run_beside.ensures.ends

pub returns-in-Ok-for_plan-clause-due : goal.returns-in-Ok-for_plan-clause-due
returns-in-Ok-for_plan-clause-due g c =
    let past = is_past c.run_beside.result.0 c.run_beside.ensures.late in
    due_input Beside (texts_of c.args.words.now) g.I.Source.left g.I.Source.faults g.I.Source.exact c.args.input.now
    c.in-Ok.command c.in-Ok.ensures.words c.in-Ok.ensures.served c.prepare_logs.new.input c.run_beside.result.0
    past.usage (λ is. absurd (past.read_fault is)) (λ exact other. c.in-Ok-prepare_logs.ensures.unfailed exact (λ is. absurd (cc)))
    (λ is. absurd (beside_reads c.in-Ok.command.verb c.in-Ok.ensures.served is)) (past_due c.in-Ok.command.verb _ _ c.run_beside.result.0 past)
