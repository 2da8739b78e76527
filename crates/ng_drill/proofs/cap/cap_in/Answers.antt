use Rattle.std.proofs.Common.{ℕ, List, [], ◌∷◌, ◌++◌, slice_index_or, take, sym, subst, arith}
use Rattle.ng_script.specs.declared.command.Command.{Command}
use Rattle.ng_script.specs.declared.command.Command.TheVariants.{Malloc}
use Rattle.ng_drill.specs.Caps.{IsCapOf}
use Rattle.ng_drill.proofs.CapLemmas.{cap_more, cap_none, take_more}
use Rattle.ng_drill.proofs.cap.cap_in.Goals as goal

pub loop-command-init : goal.loop-command-init
loop-command-init c = (cap_none, omega arith)

pub loop-command-preserved : goal.loop-command-preserved
loop-command-preserved c =
    let commands = c.args.commands.now in
    let next = slice_index_or commands c.loop-command.command-index (Malloc 0 0) in (
      subst (λ (xs : List Command). IsCapOf xs c.larger-cap.result) (sym (take_more commands c.loop-command.command-index (Malloc 0 0) (omega (arith, c.loop-command-test.true))))
          (subst (λ (n : ℕ). IsCapOf (take c.loop-command.command-index commands ++ next ∷ []) n) (sym c.larger-cap.ensures)
          (cap_more (take c.loop-command.command-index commands) next c.loop-command.cap c.asked_size.result c.loop-command.invariant.0 c.asked_size.ensures.some c.asked_size.ensures.none)),
      omega (arith, c.loop-command.invariant.1, c.asked_size.ensures.small, c.larger-cap.ensures),
    )
