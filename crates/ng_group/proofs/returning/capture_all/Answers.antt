use Rattle.ng_class.specs.Mask.{FillsGroup}
use Rattle.ng_group.proofs.WholeLemmas.{all_captured, avail_captured, back_captured, freed_captured, idle_back, may_captured, searches_back, searches_captured, served_captured, whole_captured}
use Rattle.ng_group.proofs.returning.capture_all.Goals as goal

pub fills-requires-clause-avail : goal.fills-requires-clause-avail
fills-requires-clause-avail g c = avail_captured _ _ c.args.meta c.args.index c.args.last _ _ c.requires.few c.requires.slot c.requires.last c.capture-masks.ensures.captured

pub fills-requires-clause-freed : goal.fills-requires-clause-freed
fills-requires-clause-freed g c = freed_captured _ _ c.args.meta c.args.index c.args.last _ _ c.requires.few c.requires.slot c.requires.last c.capture-masks.ensures.captured

pub returns-then-fills-clause-searches : goal.returns-then-fills-clause-searches
returns-then-fills-clause-searches g c = searches_captured _ _ c.args.meta c.args.index c.args.last _ _ c.requires.few c.requires.slot c.requires.last c.capture-masks.ensures.captured

pub returns-then-fills-clause-whole : goal.returns-then-fills-clause-whole
returns-then-fills-clause-whole g c = λ whole. whole_captured _ _ c.args.meta c.args.index c.args.last _ _ c.requires.few c.requires.slot c.requires.last c.capture-masks.ensures.captured (c.fills.ensures.0 c.if-fills.true)

pub put_captured-requires-clause-served : goal.put_captured-requires-clause-served
put_captured-requires-clause-served g c =
    let rest : ¬ FillsGroup c.capture-masks.result.0 c.capture-masks.result.1 c.args.index c.args.last = λ fills. let is = c.fills.ensures.1 fills in let not = c.if-fills.false in cc in
    served_captured _ _ c.args.meta c.args.index c.args.last _ _ c.requires.few c.requires.slot c.requires.last c.capture-masks.ensures.captured rest c.requires.served

pub put_captured-requires-clause-captured : goal.put_captured-requires-clause-captured
put_captured-requires-clause-captured g c = may_captured _ _ c.args.meta c.args.index c.args.last _ _ c.requires.few c.requires.slot c.requires.last c.capture-masks.ensures.captured

pub returns-clause-searches : goal.returns-clause-searches
returns-clause-searches g c = searches_back _ _ c.args.meta c.args.index c.args.last _ _ c.requires.few c.requires.slot c.requires.last c.capture-masks.ensures.captured c.put_captured.new.seat c.put_captured.ensures

pub returns-clause-idle : goal.returns-clause-idle
returns-clause-idle g c = λ not. idle_back _ _ c.args.meta c.args.index c.args.last _ _ c.requires.few c.requires.slot c.requires.last c.capture-masks.ensures.captured c.put_captured.new.seat c.put_captured.ensures

pub returns-then-fills-clause-captured : goal.returns-then-fills-clause-captured
returns-then-fills-clause-captured g c = all_captured _ _ c.args.meta c.args.index c.args.last _ _ c.requires.few c.requires.slot c.requires.last c.capture-masks.ensures.captured (c.fills.ensures.0 c.if-fills.true)

pub returns-clause-captured : goal.returns-clause-captured
returns-clause-captured g c =
    let rest : ¬ FillsGroup c.capture-masks.result.0 c.capture-masks.result.1 c.args.index c.args.last = λ fills. let is = c.fills.ensures.1 fills in let not = c.if-fills.false in cc in
    back_captured _ _ c.args.meta c.args.index c.args.last _ _ c.requires.few c.requires.slot c.requires.last c.capture-masks.ensures.captured c.put_captured.new.seat c.put_captured.ensures rest c.requires.served
