use Rattle.std.proofs.Common.{subst}
use Rattle.ng_frame.specs.Inspects.{gap_of}
use Rattle.ng_frame.specs.Judging.{IsJudged, verdict_of}
use Rattle.ng_space.specs.Blocks.{BlockToken, OfSlot}
use Rattle.ng_space.proofs.LeavingFrames.{leaves_all_then}
use Rattle.ng_resize.proofs.JudgedLemmas.{whole_free}
use Rattle.ng_resize.proofs.moving.free_whole.Goals as goal

pub unreachable-requires : goal.unreachable-requires
unreachable-requires g c =
    let block : BlockToken = c.args.block in
    let refused = c.in-Err.ensures in
    let looks = c.nominal_size.ensures in
    let leaves = leaves_all_then c.args.hand.now.view c.free_in.new.hand.view c.nominal_size.new.hand.view refused.kept looks.leaves in
    let judged = subst (λ (b : BlockToken). OfSlot c.nominal_size.new.hand b.slot (λ h. IsJudged h b.at (gap_of b) (verdict_of c.nominal_size.result))) refused.block looks.judged in
    whole_free c.args.hand.now c.nominal_size.new.hand block c.requires.whole.0 (verdict_of c.nominal_size.result) c.free_in.result (c.in-Err.left, c.in-Err.field-0-1)
    c.requires.block c.requires.whole.1 (leaves.all.slots block.slot.meta block.slot.index) judged c.free_in.ensures.known c.in-Err.is
