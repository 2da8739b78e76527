use Rattle.std.proofs.Common.{ap, length, ◌∙◌}
use Rattle.std.proofs.lemmas.List.{length-map}
use Rattle.ng_tool.proofs.EndLemmas.{ends_opened}
use Rattle.ng_tool.proofs.OpenLemmas.{all_opened, even_opened}
use Rattle.ng_tool.proofs.run.run.Goals as goal

pub close-image-requires-clause-all : goal.close-image-requires-clause-all
close-image-requires-clause-all g c = all_opened _ c.args.fresh.blank.rooms _ (ap length c.requires.rooms ∙ length-map _ _ ∙ c.requires.hands) c.in-Ok.ensures.hands

pub close-image-requires-clause-parcels : goal.close-image-requires-clause-parcels
close-image-requires-clause-parcels g c = even_opened c.args.fresh.blank.rooms _ c.in-Ok.ensures.hands

pub returns-in-Ok-for_plan-clause-ends : goal.returns-in-Ok-for_plan-clause-ends
returns-in-Ok-for_plan-clause-ends g c = λ late.
    ends_opened _ _ _ g.N.Name.facts _ _ _ _ _ _ _ _ _ c.requires.named.mapper c.requires.named.most c.ended.ensures.ends
