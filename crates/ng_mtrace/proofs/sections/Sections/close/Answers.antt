use Rattle.std.proofs.Common.{◌≡◌, ◌∙◌, ◌++◌, ◌∷◌, [], List, ap}
use Rattle.ng_mtrace.specs.declared.kind.Kind.TheVariants.{Start}
use Rattle.ng_mtrace.specs.declared.log.Line.{Line}
use Rattle.ng_mtrace.proofs.SectionSteps.{full_stop, full_start, idle_stop, idle_same}
use Rattle.ng_mtrace.proofs.sections.Sections.close.Goals as goal
use Rattle.ng_mtrace.proofs.sections.Sections.close.Goals.{then-self, else-self}

pub returns-clause-logs : goal.returns-clause-logs
returns-clause-logs c = λ kinds. elim c.if-self.branch [
  | then-self w ↦
      let s = c.args.self.now in
      let grown : w.push_reserved.new.self.items ≡ s.done.items ++ record { lines = s.entries.items } ∷ [] = w.push_reserved.ensures.items ∙ ap (λ (lines : List Line). s.done.items ++ record { lines = lines } ∷ []) (w.from_vec.ensures ∙ ap (λ v. v.items) w.replace-entries.ensures.value) in
      rw w.self-is (full_stop s.done.items w.push_reserved.new.self.items s.active s.entries.items w.replace-entries.new.dest.items s.pending kinds w.if-self.true grown (ap (λ v. v.items) w.replace-entries.ensures.after ∙ w.new.ensures.items))
  | else-self w ↦ rw w.self-is (idle_stop c.args.self.now.done.items c.args.self.now.active c.args.self.now.entries.items c.args.self.now.pending kinds w.if-self.false)
]

pub returns-clause-start : goal.returns-clause-start
returns-clause-start c = λ kinds. elim c.if-self.branch [
  | then-self w ↦
      let s = c.args.self.now in
      let grown : w.push_reserved.new.self.items ≡ s.done.items ++ record { lines = s.entries.items } ∷ [] = w.push_reserved.ensures.items ∙ ap (λ (lines : List Line). s.done.items ++ record { lines = lines } ∷ []) (w.from_vec.ensures ∙ ap (λ v. v.items) w.replace-entries.ensures.value) in
      rw w.self-is (full_start s.done.items w.push_reserved.new.self.items s.active s.entries.items w.replace-entries.new.dest.items s.pending kinds w.if-self.true grown (ap (λ v. v.items) w.replace-entries.ensures.after ∙ w.new.ensures.items))
  | else-self w ↦ rw w.self-is (idle_same c.args.self.now.done.items c.args.self.now.active c.args.self.now.entries.items c.args.self.now.pending (Start ∷ kinds) w.if-self.false)
]
