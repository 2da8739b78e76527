use Rattle.std.proofs.Common.{◌∙◌, ap}
use Rattle.std.specs.Prelude.{Err}
use Rattle.ng_words.proofs.WordLemmas.{one_verb}
use Rattle.ng_words.specs.Words.{texts_of}
use Rattle.ng_words.specs.declared.status.Status.{Status}
use Rattle.ng_tool.proofs.CauseLemmas.{due_input, due_words, fault_not_usage, input_served, is_past, past_due, words_served}
use Rattle.ng_tool.proofs.JobLemmas.{counted_job, writes_answer, writes_beginning}
use Rattle.ng_tool.proofs.commands.tool.Goals as goal
use Rattle.ng_tool.specs.declared.call.Call.TheVariants.{Tool}

pub returns-in-Err-clause-due : goal.returns-in-Err-clause-due
returns-in-Err-clause-due g c =
    due_words Tool (texts_of c.args.words.now) g.I.Source.left g.I.Source.faults g.I.Source.exact c.args.input.now c.in-Err.status c.in-Err.ensures.usage c.in-Err.ensures.host

pub returns-in-Err-clause-complete : goal.returns-in-Err-clause-complete
returns-in-Err-clause-complete g c = λ served reads writes.
    words_served Tool (texts_of c.args.words.now) g.I.Source.left g.I.Source.faults g.I.Source.exact c.args.input.now c.in-Err.status c.in-Err.ensures.usage c.in-Err.ensures.host served

pub returns-in-Err-prepare-clause-due : goal.returns-in-Err-prepare-clause-due
returns-in-Err-prepare-clause-due g c =
    due_input Tool (texts_of c.args.words.now) g.I.Source.left g.I.Source.faults g.I.Source.exact c.args.input.now
    c.in-Ok.command c.in-Ok.ensures.words c.in-Ok.ensures.served c.prepare.new.input c.in-Err-prepare.status
    (fault_not_usage c.in-Err-prepare.status c.in-Err-prepare.ensures.kind) (λ is. c.in-Err-prepare.ensures.read_fault (ap (λ (s : Status). Err s) is))
    (λ exact other. c.in-Err-prepare.ensures.unfailed exact (λ is. other (cc))) c.in-Err-prepare.ensures.unread c.in-Err-prepare.ensures.due

pub returns-in-Err-prepare-clause-complete : goal.returns-in-Err-prepare-clause-complete
returns-in-Err-prepare-clause-complete g c = λ served reads writes.
    input_served Tool (texts_of c.args.words.now) g.I.Source.left g.I.Source.faults g.I.Source.exact c.args.input.now
    c.in-Ok.command c.in-Ok.ensures.words c.prepare.new.input c.in-Err-prepare.status served c.in-Err-prepare.ensures.kind
    (λ is. c.in-Err-prepare.ensures.read_fault (ap (λ (s : Status). Err s) is)) reads c.in-Err-prepare.ensures.due

pub returns-in-Ok-prepare-clause-done : goal.returns-in-Ok-prepare-clause-done
returns-in-Ok-prepare-clause-done g c =
    writes_answer Tool (texts_of c.args.words.now) c.in-Ok.command _ _ _ _ _ _ _ _ _ c.in-Ok-prepare.job c.perform.result.0
    c.in-Ok.ensures.words c.in-Ok.ensures.served c.in-Ok-prepare.ensures.job c.perform.ensures.ends

pub returns-in-Ok-prepare-clause-beginning : goal.returns-in-Ok-prepare-clause-beginning
returns-in-Ok-prepare-clause-beginning g c =
    writes_beginning Tool (texts_of c.args.words.now) c.in-Ok.command _ _ _ _ _ _ _ _ _ c.in-Ok-prepare.job c.perform.result.0
    c.in-Ok.ensures.words c.in-Ok.ensures.served c.in-Ok-prepare.ensures.job c.perform.ensures.ends

pub returns-in-Ok-prepare-clause-due : goal.returns-in-Ok-prepare-clause-due
returns-in-Ok-prepare-clause-due g c =
    let past = is_past c.perform.result.0 c.perform.ensures.late in
    due_input Tool (texts_of c.args.words.now) g.I.Source.left g.I.Source.faults g.I.Source.exact c.args.input.now
    c.in-Ok.command c.in-Ok.ensures.words c.in-Ok.ensures.served c.prepare.new.input c.perform.result.0
    past.usage (λ is. absurd (past.read_fault is)) (λ exact other. c.in-Ok-prepare.ensures.unfailed exact (λ is. absurd (cc)))
    c.in-Ok-prepare.ensures.unread (past_due c.in-Ok.command.verb _ _ c.perform.result.0 past)

pub returns-in-Ok-prepare-clause-heapless : goal.returns-in-Ok-prepare-clause-heapless
returns-in-Ok-prepare-clause-heapless g c = λ words.
    let same = one_verb (texts_of c.args.words.now) c.in-Ok.command words.command c.in-Ok.ensures.words words.asked ∙ words.verb_is in
    c.perform.ensures.heapless (counted_job c.in-Ok.command.verb c.in-Ok.command _ _ c.in-Ok-prepare.job same c.in-Ok-prepare.ensures.job)
