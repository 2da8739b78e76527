use Rattle.std.proofs.Common.{◌≡◌, List, [], ◌∷◌, ◌++◌, ◌+◌, ap, subst, ◌∙◌}
use Rattle.std.specs.Prelude.{count_by}
use Rattle.ng_post.specs.Ends.{is_sent}
use Rattle.ng_terms.specs.Calls.{FitsOp, handed_as, origin_of, standing}
use Rattle.ng_replay.specs.Serial.{places_of, row_without}
use Rattle.ng_replay.specs.Serving.{at_of}
use Rattle.ng_replay.proofs.MoveLemmas.{KeepsFrames-then}
use Rattle.ng_replay.proofs.OpLemmas.{AreHeld-after, places_of-after, written_back}
use Rattle.ng_replay.specs.Works.{posted_for, source_in}
use Rattle.ng_replay.proofs.worker.serve_op.Goals as goal

pub returns-clause-serves : goal.returns-clause-serves
returns-clause-serves g c =
    let taken = c.take_source-source.ensures.collects in
    let op = c.args.op.now in
    let stands : at_of c.do_op-reply.result.1 ≡ standing c.do_op-reply.result.0 = c.do_op-reply.ensures.stands in
    record {
      taken = taken.taken;
      fits = subst (λ s. FitsOp c.args.mode s op c.do_op-reply.result.0) (taken.source_is ∙ ap (λ row. source_in (places_of row) taken.taken (origin_of op)) c.as_mut_slice.ensures.value) c.do_op-reply.ensures.fits;
      got = ap (λ got. got.items) c.hand_off-block.ensures.got ∙ taken.got;
      sent = c.hand_off-block.ensures.posts ∙ ap (λ at. c.take_source-source.new.door.sent.items ++ posted_for (handed_as op) at) stands ∙ ap (λ sent. sent.items ++ posted_for (handed_as op) (standing c.do_op-reply.result.0)) c.take_source-source.ensures.sent;
      counted = c.hand_off-block.ensures.taken ∙ c.do_op-reply.ensures.rest.taken ∙ taken.counted;
      counted_sent = c.hand_off-block.ensures.counted ∙ ap (λ at. c.do_op-reply.new.hand.view.sent + count_by is_sent (posted_for (handed_as op) at)) stands
          ∙ ap (λ n. n + count_by is_sent (posted_for (handed_as op) (standing c.do_op-reply.result.0))) (c.do_op-reply.ensures.rest.sent ∙ taken.unsent);
    }

pub returns-clause-row : goal.returns-clause-row
returns-clause-row g c =
    places_of-after c.args.op.now c.do_op-reply.result.0 c.args.row.now.items c.take_source-source.new.row _ c.do_op-reply.result.1 c.hand_off-block.result
    (c.take_source-source.ensures.row ∙ ap (row_without (origin_of c.args.op.now)) c.as_mut_slice.ensures.value) (c.push_reserved.ensures.items ∙ ap (λ (l : List _). l ++ c.hand_off-block.result ∷ []) (written_back c.take_source-source.new.row c.as_mut_slice.result.now c.args.row.now.items _ c.take_source-source.auto.row c.as_mut_slice.ensures.value c.as_mut_slice.ensures.len)) c.hand_off-block.ensures.stays c.do_op-reply.ensures.stands

pub returns-clause-held : goal.returns-clause-held
returns-clause-held g c =
    AreHeld-after c.take_source-source.new.hand c.do_op-reply.new.hand c.hand_off-block.new.hand c.take_source-source.new.row c.push_reserved.new.self.items
    c.take_source-source.result c.do_op-reply.result.1 c.hand_off-block.result (handed_as c.args.op.now) c.take_source-source.ensures.held c.take_source-source.ensures.apart
    c.do_op-reply.ensures.others c.do_op-reply.ensures.apart c.hand_off-block.ensures.held c.hand_off-block.ensures.stays c.hand_off-block.ensures.framed (c.push_reserved.ensures.items ∙ ap (λ (l : List _). l ++ c.hand_off-block.result ∷ []) (written_back c.take_source-source.new.row c.as_mut_slice.result.now c.args.row.now.items _ c.take_source-source.auto.row c.as_mut_slice.ensures.value c.as_mut_slice.ensures.len))

pub returns-clause-frames : goal.returns-clause-frames
returns-clause-frames g c =
    KeepsFrames-then _ _ _ (KeepsFrames-then _ _ _ c.take_source-source.ensures.frames c.do_op-reply.ensures.frames) c.hand_off-block.ensures.frames
