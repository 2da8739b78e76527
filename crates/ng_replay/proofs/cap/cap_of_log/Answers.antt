use Rattle.std.proofs.Common.{ℕ, List, [], ◌∷◌, ◌++◌, slice_index_or, take, sym, subst, arith}
use Rattle.ng_terms.specs.declared.plan.Op.{Op}
use Rattle.ng_terms.specs.declared.plan.Op.TheVariants.{Make}
use Rattle.std.proofs.Common.{None}
use Rattle.ng_replay.specs.Caps.{IsCapIn}
use Rattle.ng_replay.proofs.CapLemmas.{cap_more, take_more}
use Rattle.ng_replay.proofs.cap.cap_of_log.Goals as goal

pub loop-op-preserved : goal.loop-op-preserved
loop-op-preserved c =
    let ops = c.args.ops.now in
    let mode = c.args.mode in
    let op = slice_index_or ops c.loop-op.op-index (Make 0 0 None) in (
      subst (λ (xs : List Op). IsCapIn mode xs c.larger-cap.result) (sym (take_more ops c.loop-op.op-index (Make 0 0 None) (omega (arith, c.loop-op-test.true))))
          (subst (λ (n : ℕ). IsCapIn mode (take c.loop-op.op-index ops ++ op ∷ []) n) (sym c.larger-cap.ensures)
          (cap_more mode (take c.loop-op.op-index ops) op c.loop-op.cap c.asked_by.result c.loop-op.invariant.0 c.asked_by.ensures.asked c.asked_by.ensures.capped)),
      omega (arith, c.loop-op.invariant.1, c.asked_by.ensures.small, c.larger-cap.ensures),
    )
