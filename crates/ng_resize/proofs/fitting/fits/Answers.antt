use Rattle.std.proofs.Common.{◌≡◌, ◌<◌, refl, ⊎_elim}
use Rattle.ng_space.proofs.LeavingFrames.{leaves_loaded}
use Rattle.ng_resize.proofs.FitLemmas.{located_since, run_exact, run_within, slot_exact}
use Rattle.ng_resize.proofs.fitting.fits.Goals as goal

pub returns-then-location-eq-LONE-clause-leaves : goal.returns-then-location-eq-LONE-clause-leaves
returns-then-location-eq-LONE-clause-leaves g c = leaves_loaded c.args.hand.now.view c.load.new.hand.view 0 c.load.result c.load.ensures.view

pub returns-then-location-eq-LONE-clause-exact : goal.returns-then-location-eq-LONE-clause-exact
returns-then-location-eq-LONE-clause-exact g c = λ h found.
    let leaves = leaves_loaded c.args.hand.now.view c.load.new.hand.view 0 c.load.result c.load.ensures.view in
    run_exact c.args.n c.at-at.result c.from.result _ c.args.location.now c.args.block.now h c.fits_run.result
    (located_since c.args.hand.now c.load.new.hand c.args.block.now c.args.location.now c.requires.block leaves c.requires.located h found)
    c.if-location-eq-LONE.true c.at-at.ensures.at c.from.ensures refl c.fits_run.ensures.exact

pub returns-then-location-eq-LONE-clause-within : goal.returns-then-location-eq-LONE-clause-within
returns-then-location-eq-LONE-clause-within g c = λ true_is.
    run_within g.N.Name.facts.start c.args.hand.now c.args.block.now c.args.location.now c.args.n c.at-at.result c.from.result _
    c.load.ensures.placed c.requires.block c.requires.located c.if-location-eq-LONE.true c.at-at.ensures.at c.at-at.ensures.from c.from.ensures refl
    (c.fits_run.ensures.exact.0 true_is)

pub returns-clause-exact : goal.returns-clause-exact
returns-clause-exact g c = λ h found.
    slot_exact c.args.n c.gap-gap.result c.args.location.now c.args.block.now h c.fits_slot.result (c.requires.located h found)
    (⊎_elim (λ (low : c.args.location.now.class < 48). low) (λ (lone : c.args.location.now.class ≡ 63). absurd (c.if-location-eq-LONE.false lone)) c.requires.kind)
    c.gap-gap.ensures.gap c.fits_slot.ensures.exact
