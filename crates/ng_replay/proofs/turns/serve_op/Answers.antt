use Rattle.std.proofs.Common.{List, [], ◌∷◌, ◌++◌, ap, ◌∙◌}
use Rattle.ng_terms.specs.Calls.{handed_as, origin_of}
use Rattle.ng_replay.specs.Serial.{row_without}
use Rattle.ng_replay.proofs.MoveLemmas.{KeepsFrames-then}
use Rattle.ng_replay.proofs.OpLemmas.{AreHeld-after, IsVacant-left, handed_in-after, places_of-after, written_back}
use Rattle.ng_replay.proofs.turns.serve_op.Goals as goal

pub hand_off-block-requires-clause-vacant : goal.hand_off-block-requires-clause-vacant
hand_off-block-requires-clause-vacant g c = IsVacant-left (handed_as c.args.op.now) (origin_of c.args.op.now) c.args.parcels.now c.take_source-source.new.parcels c.take_source-source.ensures.parcels c.requires.vacant

pub returns-clause-row : goal.returns-clause-row
returns-clause-row g c =
    places_of-after c.args.op.now c.do_op-reply.result.0 c.args.row.now.items c.take_source-source.new.row _ c.do_op-reply.result.1 c.hand_off-block.result
    (c.take_source-source.ensures.row ∙ ap (row_without (origin_of c.args.op.now)) c.as_mut_slice.ensures.value) (c.push_reserved.ensures.items ∙ ap (λ (l : List _). l ++ c.hand_off-block.result ∷ []) (written_back c.take_source-source.new.row c.as_mut_slice.result.now c.args.row.now.items _ c.take_source-source.auto.row c.as_mut_slice.ensures.value c.as_mut_slice.ensures.len)) c.hand_off-block.ensures.stays c.do_op-reply.ensures.stands

pub returns-clause-handed : goal.returns-clause-handed
returns-clause-handed g c =
    handed_in-after c.args.op.now c.do_op-reply.result.0 c.args.parcels.now c.take_source-source.new.parcels c.hand_off-block.new.parcels c.do_op-reply.result.1
    c.take_source-source.ensures.parcels c.do_op-reply.ensures.stands c.hand_off-block.ensures.handed

pub returns-clause-held : goal.returns-clause-held
returns-clause-held g c =
    AreHeld-after c.take_source-source.new.hand c.do_op-reply.new.hand c.hand_off-block.new.hand c.take_source-source.new.row c.push_reserved.new.self.items
    c.take_source-source.result c.do_op-reply.result.1 c.hand_off-block.result (handed_as c.args.op.now) c.take_source-source.ensures.held c.take_source-source.ensures.apart
    c.do_op-reply.ensures.others c.do_op-reply.ensures.apart c.hand_off-block.ensures.held c.hand_off-block.ensures.stays c.hand_off-block.ensures.framed (c.push_reserved.ensures.items ∙ ap (λ (l : List _). l ++ c.hand_off-block.result ∷ []) (written_back c.take_source-source.new.row c.as_mut_slice.result.now c.args.row.now.items _ c.take_source-source.auto.row c.as_mut_slice.ensures.value c.as_mut_slice.ensures.len))

pub returns-clause-frames : goal.returns-clause-frames
returns-clause-frames g c =
    KeepsFrames-then _ _ _ (KeepsFrames-then _ _ _ c.take_source-source.ensures.frames c.do_op-reply.ensures.frames) c.hand_off-block.ensures.frames
