use Rattle.std.proofs.Common.{ℕ, ◌<◌, sym, ap, ◌∙◌, subst, inr, arith}
use Rattle.ng_meta.specs.Place.{IsMetaPlace}
use Rattle.ng_lists.specs.Rings.{RingTable}
use Rattle.ng_ledger.specs.Rings.{IsIn}
use Rattle.ng_ledger.proofs.StepLemmas.{entered_here}
use Rattle.ng_group.specs.States.{State}
use Rattle.ng_group.proofs.works.Works.enter_first.Goals as goal

pub rotate-requires-clause-member : goal.rotate-requires-clause-member
rotate-requires-clause-member g c =
    let known : c.args.class < 48 = c.requires.class in
    subst (λ (t : RingTable). IsIn t c.args.class c.args.meta) (sym c.enqueue.ensures.appended) (entered_here c.self.inside.rings c.args.class c.args.meta (omega (arith, known, c.stand_once.ensures.classes)))

pub enqueue-requires-clause-place : goal.enqueue-requires-clause-place
enqueue-requires-clause-place g c =
    subst (λ (n : ℕ). IsMetaPlace c.args.meta n) (sym (ap (λ (s : State g.row.M.Denot g.row.P.Denot). s.rings.pages) c.self.view_is ∙ c.requires.pages)) c.requires.place

pub set_active-requires-clause-meta : goal.set_active-requires-clause-meta
set_active-requires-clause-meta g c = inr c.requires.place
