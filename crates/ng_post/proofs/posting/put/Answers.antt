use Rattle.std.proofs.Common.{◌∙◌, ap, sym}
use Rattle.ng_post.specs.declared.view.View.{View}
use Rattle.ng_post.proofs.BoxLemmas.{sends}
use Rattle.ng_post.proofs.posting.put.Goals as goal

pub try_push_as-requires-clause-rule : goal.try_push_as-requires-clause-rule
try_push_as-requires-clause-rule g c =
    sends _ _ _ _ (ap (λ (v : View). v.sends) c.loop.invariant.1 ∙ c.requires.sends) (ap (λ x. x.from) c.loop.invariant.2 ∙ c.requires.from ∙ ap (λ (v : View). v.from) (sym c.loop.invariant.1))
