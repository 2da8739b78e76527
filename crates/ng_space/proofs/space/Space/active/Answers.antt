use Rattle.std.proofs.Common.{◌≡◌, ◌*◌, ◌+◌, ap, ◌∙◌, arith}
use Rattle.ng_view.specs.Steps.{loaded}
use Rattle.ng_space.proofs.LeavingFrames.{leaves_loaded}
use Rattle.ng_space.proofs.space.Space.active.Goals as goal

pub returns-clause-view : goal.returns-clause-view
returns-clause-view g c =
    let same = c.from.ensures in
    let at : 4 + 4 * c.from.result ≡ 4 * (c.args.class + 1) = omega arith in
    c.load.ensures.view ∙ ap (λ a. loaded c.args.hand.now.view a c.load.result) at

pub returns-clause-place : goal.returns-clause-place
returns-clause-place g c = let same = c.from.ensures in c.load.ensures.told.active c.args.class c.requires.class (omega arith)

pub returns-clause-leaves : goal.returns-clause-leaves
returns-clause-leaves g c = leaves_loaded c.args.hand.now.view c.load.new.hand.view _ c.load.result c.load.ensures.view
