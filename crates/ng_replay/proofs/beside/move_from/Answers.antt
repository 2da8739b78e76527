use Rattle.ng_replay.proofs.ResizeLemmas.{Resizes-given}
use Rattle.ng_replay.proofs.StayLemmas.{kept-told, stays-told, told_where}
use Rattle.ng_replay.proofs.beside.move_from.Goals as goal

pub returns-clause-resizes : goal.returns-clause-resizes
returns-clause-resizes g c =
    rw c.resized_outcome.ensures.block
    (Resizes-given c.args.size c.args.hand.now c.realloc.new.hand c.args.old c.realloc.result c.resized_outcome.result.0 (rw c.at-at.ensures.at at c.resized_outcome.ensures.reply)
    c.requires.framed c.realloc.ensures.resized c.realloc.ensures.large c.realloc.ensures.left c.realloc.ensures.entered c.realloc.ensures.others c.realloc.ensures.frames c.realloc.ensures.rest)

pub returns-clause-stays : goal.returns-clause-stays
returns-clause-stays g c =
    stays-told c.args.size c.args.hand.now c.args.old c.realloc.result c.resized_outcome.result.0 (rw c.at-at.ensures.at at c.resized_outcome.ensures.reply) c.requires.framed c.realloc.ensures.stays
    (told_where _ _ c.args.hand.now c.realloc.new.hand c.args.old c.args.size c.realloc.result c.realloc.ensures.cause)

pub returns-clause-kept : goal.returns-clause-kept
returns-clause-kept g c =
    rw c.resized_outcome.ensures.block
    (kept-told c.args.size c.args.hand.now c.realloc.new.hand c.args.old c.realloc.result c.resized_outcome.result.0 (rw c.at-at.ensures.at at c.resized_outcome.ensures.reply) c.requires.framed c.realloc.ensures.kept)
