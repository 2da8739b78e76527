use Rattle.ng_replay.specs.Room.{HaveRoom}
use Rattle.ng_replay.specs.Serial.{AreInHand, AreServed, blocks_in, handed_in, held_in, replies_in}
use Rattle.ng_replay.proofs.turns.serial.Given as goal

abbrev pub invariant-loop-turn : goal.invariant-loop-turn
invariant-loop-turn g l = record {
  room : HaveRoom l.plan.logs l.rows.items;
  room_for_blocks : HaveRoom l.plan.logs l.blocks.items;
  served : AreServed l.plan l.mode l.turn (replies_in l.rows.items) (held_in (blocks_in l.blocks.items)) (handed_in l.parcels.items);
  hands : AreInHand l.plan l.mode (replies_in l.rows.items) (blocks_in l.blocks.items) l.parcels.items l.hands.items;
}
