use Rattle.ng_replay.proofs.ResizeLemmas.{Resizes-given}
use Rattle.ng_replay.proofs.StayLemmas.{kept-told, stays-told, told_where}
use Rattle.ng_replay.proofs.op.move_from.Goals as goal

pub returns-clause-resizes : goal.returns-clause-resizes
returns-clause-resizes g c =
    rw c.resized_outcome.ensures.block
    (Resizes-given c.args.size c.args.hand.now c.realloc_in.new.hand c.args.old c.realloc_in.result c.resized_outcome.result.0 (rw c.at-at.ensures.at at c.resized_outcome.ensures.reply)
    c.requires.framed c.realloc_in.ensures.resized c.realloc_in.ensures.large c.realloc_in.ensures.left c.realloc_in.ensures.entered c.realloc_in.ensures.others c.realloc_in.ensures.frames c.realloc_in.ensures.rest)

pub returns-clause-stays : goal.returns-clause-stays
returns-clause-stays g c =
    stays-told c.args.size c.args.hand.now c.args.old c.realloc_in.result c.resized_outcome.result.0 (rw c.at-at.ensures.at at c.resized_outcome.ensures.reply) c.requires.framed c.realloc_in.ensures.stays
    (told_where _ _ c.args.hand.now c.realloc_in.new.hand c.args.old c.args.size c.realloc_in.result c.realloc_in.ensures.cause)

pub returns-clause-kept : goal.returns-clause-kept
returns-clause-kept g c =
    rw c.resized_outcome.ensures.block
    (kept-told c.args.size c.args.hand.now c.realloc_in.new.hand c.args.old c.realloc_in.result c.resized_outcome.result.0 (rw c.at-at.ensures.at at c.resized_outcome.ensures.reply) c.requires.framed c.realloc_in.ensures.kept)
