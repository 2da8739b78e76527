use Rattle.std.proofs.Common.{ap, length, ◌∙◌}
use Rattle.std.proofs.lemmas.List.{length-map}
use Rattle.ng_replay.proofs.CrewLemmas.{receivers_within}
use Rattle.ng_tool.proofs.EndLemmas.{ends_opened}
use Rattle.ng_tool.proofs.OpenLemmas.{all_opened, even_opened, length-fresh}
use Rattle.ng_tool.proofs.beside.run_beside.Goals as goal

pub open-requires-clause-receivers : goal.open-requires-clause-receivers
open-requires-clause-receivers g c = receivers_within c.args.prepared.plan c.requires.sound

pub open-requires-3-clause-hands : goal.open-requires-3-clause-hands
open-requires-3-clause-hands g c =
    ap length c.in-Ok-open.ensures.hands ∙ length-fresh 1 c.args.fresh.blank.rooms ∙ ap length c.requires.rooms ∙ length-map _ _

pub close-image-requires-clause-all : goal.close-image-requires-clause-all
close-image-requires-clause-all g c =
    all_opened _ c.args.fresh.blank.rooms _ (ap length c.requires.rooms ∙ length-map _ _ ∙ c.requires.hands)
    (c.in-Err-open-2.ensures.handed_back ∙ c.in-Ok-open.ensures.hands)

pub close-image-requires-clause-parcels : goal.close-image-requires-clause-parcels
close-image-requires-clause-parcels g c =
    even_opened c.args.fresh.blank.rooms _ (c.in-Err-open-2.ensures.handed_back ∙ c.in-Ok-open.ensures.hands)

pub returns-in-Ok-open-2-clause-ends : goal.returns-in-Ok-open-2-clause-ends
returns-in-Ok-open-2-clause-ends g c = λ late.
    ends_opened _ _ _ g.N.Name.facts _ _ _ _ _ _ _ _ _ c.requires.named.mapper c.requires.named.most c.ended.ensures.ends
