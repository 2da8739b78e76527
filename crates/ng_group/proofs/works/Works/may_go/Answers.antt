use Rattle.std.proofs.Common.{sym, ◌∙◌}
use Rattle.std.proofs.lemmas.Bool.{eq-eqb}
use Rattle.ng_group.specs.States.{ledger_of}
use Rattle.ng_group.proofs.ReturningLemmas.{found_class, found_few, found_paged, found_small}
use Rattle.ng_group.proofs.works.Works.may_go.Goals.{then-group-eq-LONE, else-group-eq-LONE, then-stride-units, else-stride-units}
use Rattle.ng_group.proofs.works.Works.may_go.Goals as goal

pub stride-requires-clause-class : goal.stride-requires-clause-class
stride-requires-clause-class g c = found_class g.N.Name.facts.start _ _ _ (ledger_of c.args.self.now) c.requires.working c.args.meta c.args.group.now c.requires.live c.requires.group c.if-group-eq-LONE.false

pub stride-requires-clause-last : goal.stride-requires-clause-last
stride-requires-clause-last g c = found_few g.N.Name.facts.start _ _ _ (ledger_of c.args.self.now) c.requires.working c.args.meta c.args.group.now c.requires.live c.requires.group

pub stride-requires-clause-maplen : goal.stride-requires-clause-maplen
stride-requires-clause-maplen g c = found_paged g.N.Name.facts.start _ _ _ (ledger_of c.args.self.now) c.requires.working c.args.meta c.args.group.now c.requires.live c.requires.group

pub units-requires : goal.units-requires
units-requires g c = found_small g.N.Name.facts.start _ _ _ (ledger_of c.args.self.now) c.requires.working c.args.meta c.args.group.now c.requires.live c.requires.group c.if-group-eq-LONE.false

pub spare-requires-clause-class : goal.spare-requires-clause-class
spare-requires-clause-class g c =
    elim c.if-stride-units.branch [
      | then-stride-units w ↦ absurd (let q = sym w.if-stride-units.true ∙ (sym w.value-is ∙ c.if-group-eq0.false) in cc)
      | else-stride-units w ↦ elim c.if-group-eq-LONE.branch [
        | then-group-eq-LONE u ↦ absurd (let q = sym (eq-eqb c.args.group.now.class 63 u.if-group-eq-LONE.true) ∙ (sym u.value-is ∙ w.if-stride-units.false) in cc)
        | else-group-eq-LONE u ↦ found_small g.N.Name.facts.start _ _ _ (ledger_of c.args.self.now) c.requires.working c.args.meta c.args.group.now c.requires.live c.requires.group u.if-group-eq-LONE.false
      ]
    ]
