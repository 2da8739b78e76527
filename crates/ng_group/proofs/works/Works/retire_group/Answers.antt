use Rattle.std.proofs.Common.{ap, subst, sym, ◌∙◌, ◌≡◌}
use Rattle.ng_view.specs.Groups.{Retires}
use Rattle.ng_view.specs.LockSteps.{groups_but}
use Rattle.ng_view.specs.declared.view.View.{View}
use Rattle.ng_ledger.specs.Usage.{AreUsed}
use Rattle.ng_group.specs.Returning.{HasWhole}
use Rattle.ng_group.specs.States.{State, ledger_of}
use Rattle.ng_group.proofs.EndedLemmas.{all_slots}
use Rattle.ng_group.proofs.UncountLemmas.{idle_meta}
use Rattle.ng_group.proofs.works.Works.retire_group.Goals as goal

pub retire-requires : goal.retire-requires
retire-requires g c = record {
  slots = (
      let seat : c.self.inside.seat ≡ c.args.self.now.seat = ap (λ (s : State g.row.M.Denot g.row.P.Denot). s.seat) c.self.view_is ∙ ap (λ (s : State g.row.M.Denot g.row.P.Denot). s.seat) c.uncount.ensures.only in
      all_slots c.self.inside.seat c.args.meta (subst (λ (v : View). HasWhole v c.args.meta) (sym seat) c.requires.whole));
}

pub clear_meta-requires-clause-idle : goal.clear_meta-requires-clause-idle
clear_meta-requires-clause-idle g c =
    let seat : c.self.inside.seat ≡ c.args.self.now.seat = ap (λ (s : State g.row.M.Denot g.row.P.Denot). s.seat) c.self.view_is ∙ ap (λ (s : State g.row.M.Denot g.row.P.Denot). s.seat) c.uncount.ensures.only in
    let mapper = c.args.self.now.mapper in
    idle_meta g.N.Name.facts.start (g.M.Mapper.span c.args.self.now.mapper) (g.M.Mapper.runs c.args.self.now.mapper) (g.M.Mapper.refused c.args.self.now.mapper) (ledger_of c.args.self.now) c.args.meta c.retire.new.seat c.requires.working c.requires.whole
    (subst (λ (v : View). Retires v c.args.meta c.retire.new.seat) seat c.retire.ensures)

pub returns : goal.returns
returns g c =
    let seat : c.self.inside.seat ≡ c.args.self.now.seat = ap (λ (s : State g.row.M.Denot g.row.P.Denot). s.seat) c.self.view_is ∙ ap (λ (s : State g.row.M.Denot g.row.P.Denot). s.seat) c.uncount.ensures.only in
    let usage : c.self.inside.usage ≡ c.uncount.new.self.usage = ap (λ (s : State g.row.M.Denot g.row.P.Denot). s.usage) c.self.view_is in
    record {
      ends = record {
        state = ap (λ (s : State g.row.M.Denot g.row.P.Denot). record s { seat = c.clear_meta.new.seat }) (c.self.view_is ∙ c.uncount.ensures.only)
            ∙ ap (λ us. record c.args.self.now { seat = c.clear_meta.new.seat; usage = us }) (sym usage);
        gone = c.retire.new.seat;
        retires = subst (λ (v : View). Retires v c.args.meta c.retire.new.seat) seat c.retire.ensures;
        cells = c.clear_meta.ensures.view;
        zero = c.clear_meta.ensures.zero;
        kept = c.clear_meta.ensures.kept;
        reads = c.clear_meta.ensures.reads;
        used = subst (AreUsed (groups_but c.args.meta c.args.self.now.seat.desk.groups)) (sym usage) c.uncount.ensures.used;
      };
    }
