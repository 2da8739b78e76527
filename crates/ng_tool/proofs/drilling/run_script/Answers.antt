use Rattle.ng_tool.proofs.DrillLemmas.{ends_drill_opened}
use Rattle.ng_tool.proofs.drilling.run_script.Goals as goal

pub returns-clause-ends : goal.returns-clause-ends
returns-clause-ends g c = λ late.
    ends_drill_opened _ g.N.Name.facts _ _ _ _ _ _ _ _ _ c.requires.named.mapper c.requires.named.most c.ended.ensures.ends
