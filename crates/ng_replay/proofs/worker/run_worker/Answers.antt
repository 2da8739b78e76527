use Rattle.std.proofs.Common.{arith}
use Rattle.ng_replay.proofs.WorkLemmas.{AreDoing-more}
use Rattle.ng_replay.proofs.worker.run_worker.Goals as goal

pub loop-op-preserved : goal.loop-op-preserved
loop-op-preserved g c = record {
  doing =
      rw c.serve_op-reply.ensures.row
      (rw c.push_reserved.ensures.items
      (AreDoing-more c.requires.ready.may c.loop-op-test.true c.loop-op.invariant.doing c.serve_op-reply.ensures.serves
      c.serve_op-reply.ensures.door c.serve_op-reply.ensures.log c.serve_op-reply.ensures.frames c.serve_op-reply.ensures.entries c.serve_op-reply.ensures.spare));
  held = c.serve_op-reply.ensures.held;
  room = omega (arith, c.push_reserved.ensures.capacity, c.loop-op.invariant.room);
  room_for_blocks = omega (arith, c.serve_op-reply.ensures.room, c.loop-op.invariant.room_for_blocks);
  room_to_post = omega (arith, c.serve_op-reply.ensures.room_to_post, c.loop-op.invariant.room_to_post);
  room_to_collect = omega (arith, c.serve_op-reply.ensures.room_to_collect, c.loop-op.invariant.room_to_collect);
}
