use Rattle.std.proofs.Common.{arith}
use Rattle.ng_replay.proofs.HandLemmas.{AreAll-books, IsEven-balanced}
use Rattle.ng_replay.proofs.OpLemmas.{written_back}
use Rattle.ng_replay.proofs.ServedLemmas.{Fits-served}
use Rattle.ng_replay.proofs.StartLemmas.{AreInHand-first, AreServed-first, none-underway}
use Rattle.ng_replay.proofs.turns.serial.Goals as goal

pub loop-turn-init : goal.loop-turn-init
loop-turn-init g c = record {
  room = c.requires.room.rows;
  room_for_blocks = c.requires.room.rows_of_blocks;
  served = AreServed-first c.args.plan.now c.args.mode c.requires.sound c.args.room.rows.items c.args.room.blocks.items c.args.room.parcels.items c.requires.room.logs c.requires.room.empty c.requires.room.blocks c.requires.room.no_blocks c.requires.room.parcels;
  hands = AreInHand-first c.args.plan.now c.args.mode c.args.room.rows.items c.args.room.blocks.items c.args.room.parcels.items c.args.hands.now.items c.requires.room.empty c.requires.room.no_blocks c.requires.room.parcels c.requires.hands;
}

pub loop-turn-preserved : goal.loop-turn-preserved
loop-turn-preserved g c = record {
  room = c.serve.ensures.room;
  room_for_blocks = c.serve.ensures.room_for_blocks;
  served = rw (written_back c.serve.new.parcels c.as_mut_slice.result.now c.loop-turn.parcels.items _ c.serve.auto.parcels c.as_mut_slice.ensures.value c.as_mut_slice.ensures.len) c.serve.ensures.served;
  hands = rw (written_back c.serve.new.parcels c.as_mut_slice.result.now c.loop-turn.parcels.items _ c.serve.auto.parcels c.as_mut_slice.ensures.value c.as_mut_slice.ensures.len) c.serve.ensures.hands;
}

pub end_parcels-requires : goal.end_parcels-requires
end_parcels-requires g c = record {
  none = none-underway c.args.plan.now c.args.mode c.requires.sound c.loop-turn.turn _ _ c.loop-turn.parcels.items (omega (arith, c.loop-turn-test.false, c.len-turn-end.ensures)) c.loop-turn.invariant.served;
}

pub returns-clause-fits : goal.returns-clause-fits
returns-clause-fits g c =
    rw c.items_of.ensures (Fits-served c.args.plan.now c.args.mode c.requires.sound c.loop-turn.turn _ _ _ (omega (arith, c.loop-turn-test.false, c.len-turn-end.ensures)) c.loop-turn.invariant.served)

pub returns-clause-framed : goal.returns-clause-framed
returns-clause-framed g c = rw c.leave_blocks.ensures c.loop-turn.invariant.hands.framed

pub returns-clause-all : goal.returns-clause-all
returns-clause-all g c = rw c.leave_blocks.ensures (AreAll-books _ c.args.plan.now c.args.mode _ _ c.requires.all c.loop-turn.invariant.hands.books)

pub returns-clause-even : goal.returns-clause-even
returns-clause-even g c =
    rw c.leave_blocks.ensures
    (IsEven-balanced c.loop-turn.hands.items c.loop-turn.parcels.items c.loop-turn.invariant.hands.balanced
    (none-underway c.args.plan.now c.args.mode c.requires.sound c.loop-turn.turn _ _ c.loop-turn.parcels.items (omega (arith, c.loop-turn-test.false, c.len-turn-end.ensures)) c.loop-turn.invariant.served))
