use Rattle.std.proofs.Common.{ap, arith, length, ◌∙◌}
use Rattle.ng_replay.proofs.StepLemmas.{IsTurnOf, claim-numbered, handed-numbered, hands-more, mine-held, mine-room, cap-kept, op-left, own-earlier, row-room, served-more, turn-of, turn-ops, two-spare, vacant}
use Rattle.ng_replay.proofs.turns.serve.Goals as goal

pub bounds-as_slice-replies : goal.bounds-as_slice-replies
bounds-as_slice-replies g c =
    let this : IsTurnOf c.args.plan.now c.args.turn c.args.rows.now.items _ c.index_mut-row.result.now _ = turn-of c.as_slice.result.now c.as_slice-2.result.now c.index-as_slice-log.result c.as_slice-3.result.now (length c.as_slice-replies.result.now)
    c.requires.sound c.requires.turn c.as_slice.ensures c.as_slice-2.ensures c.index-as_slice-log.is c.index_mut-row.ensures.value c.as_slice-3.ensures (ap length c.as_slice-replies.ensures.value) in
    omega (
      arith,
      op-left c.args.blocks.now.items c.args.parcels.now c.requires.sound this c.requires.served,
      ap length c.as_slice-replies.ensures.value,
      ap length (c.as_slice-3.ensures ∙ turn-ops c.as_slice.result.now c.as_slice-2.result.now c.index-as_slice-log.result c.requires.sound c.requires.turn c.as_slice.ensures c.as_slice-2.ensures c.index-as_slice-log.is),
    )

pub serve_op-reply-requires-clause-earlier : goal.serve_op-reply-requires-clause-earlier
serve_op-reply-requires-clause-earlier g c =
    let this : IsTurnOf c.args.plan.now c.args.turn c.args.rows.now.items _ c.index_mut-row.result.now _ = turn-of c.as_slice.result.now c.as_slice-2.result.now c.index-as_slice-log.result c.as_slice-3.result.now (length c.as_slice-replies.result.now)
    c.requires.sound c.requires.turn c.as_slice.ensures c.as_slice-2.ensures c.index-as_slice-log.is c.index_mut-row.ensures.value c.as_slice-3.ensures (ap length c.as_slice-replies.ensures.value) in
    own-earlier c.args.blocks.now.items c.args.parcels.now c.requires.sound this c.requires.served c.index_mut-2.ensures.value

pub serve_op-reply-requires-clause-claimed : goal.serve_op-reply-requires-clause-claimed
serve_op-reply-requires-clause-claimed g c =
    let this : IsTurnOf c.args.plan.now c.args.turn c.args.rows.now.items _ c.index_mut-row.result.now _ = turn-of c.as_slice.result.now c.as_slice-2.result.now c.index-as_slice-log.result c.as_slice-3.result.now (length c.as_slice-replies.result.now)
    c.requires.sound c.requires.turn c.as_slice.ensures c.as_slice-2.ensures c.index-as_slice-log.is c.index_mut-row.ensures.value c.as_slice-3.ensures (ap length c.as_slice-replies.ensures.value) in
    claim-numbered c.args.blocks.now.items c.args.parcels.now c.requires.sound this c.requires.served

pub serve_op-reply-requires-clause-given : goal.serve_op-reply-requires-clause-given
serve_op-reply-requires-clause-given g c =
    let this : IsTurnOf c.args.plan.now c.args.turn c.args.rows.now.items _ c.index_mut-row.result.now _ = turn-of c.as_slice.result.now c.as_slice-2.result.now c.index-as_slice-log.result c.as_slice-3.result.now (length c.as_slice-replies.result.now)
    c.requires.sound c.requires.turn c.as_slice.ensures c.as_slice-2.ensures c.index-as_slice-log.is c.index_mut-row.ensures.value c.as_slice-3.ensures (ap length c.as_slice-replies.ensures.value) in
    handed-numbered c.args.blocks.now.items c.args.parcels.now c.requires.sound this c.requires.served

pub serve_op-reply-requires-clause-vacant : goal.serve_op-reply-requires-clause-vacant
serve_op-reply-requires-clause-vacant g c =
    let this : IsTurnOf c.args.plan.now c.args.turn c.args.rows.now.items _ c.index_mut-row.result.now _ = turn-of c.as_slice.result.now c.as_slice-2.result.now c.index-as_slice-log.result c.as_slice-3.result.now (length c.as_slice-replies.result.now)
    c.requires.sound c.requires.turn c.as_slice.ensures c.as_slice-2.ensures c.index-as_slice-log.is c.index_mut-row.ensures.value c.as_slice-3.ensures (ap length c.as_slice-replies.ensures.value) in
    vacant c.args.blocks.now.items c.args.parcels.now c.requires.sound this c.requires.served

pub serve_op-reply-requires-clause-room : goal.serve_op-reply-requires-clause-room
serve_op-reply-requires-clause-room g c =
    let this : IsTurnOf c.args.plan.now c.args.turn c.args.rows.now.items _ c.index_mut-row.result.now _ = turn-of c.as_slice.result.now c.as_slice-2.result.now c.index-as_slice-log.result c.as_slice-3.result.now (length c.as_slice-replies.result.now)
    c.requires.sound c.requires.turn c.as_slice.ensures c.as_slice-2.ensures c.index-as_slice-log.is c.index_mut-row.ensures.value c.as_slice-3.ensures (ap length c.as_slice-replies.ensures.value) in
    mine-room c.args.blocks.now.items c.args.parcels.now c.requires.sound this c.requires.served c.index_mut-2.ensures.value c.requires.room_for_blocks

pub serve_op-reply-requires-clause-spare : goal.serve_op-reply-requires-clause-spare
serve_op-reply-requires-clause-spare g c =
    let this : IsTurnOf c.args.plan.now c.args.turn c.args.rows.now.items _ c.index_mut-row.result.now _ = turn-of c.as_slice.result.now c.as_slice-2.result.now c.index-as_slice-log.result c.as_slice-3.result.now (length c.as_slice-replies.result.now)
    c.requires.sound c.requires.turn c.as_slice.ensures c.as_slice-2.ensures c.index-as_slice-log.is c.index_mut-row.ensures.value c.as_slice-3.ensures (ap length c.as_slice-replies.ensures.value) in
    two-spare c.args.blocks.now.items c.args.parcels.now c.requires.sound this c.requires.served c.index_mut-2.ensures.value c.index_mut.ensures.value c.requires.hands

pub serve_op-reply-requires-clause-held : goal.serve_op-reply-requires-clause-held
serve_op-reply-requires-clause-held g c =
    let this : IsTurnOf c.args.plan.now c.args.turn c.args.rows.now.items _ c.index_mut-row.result.now _ = turn-of c.as_slice.result.now c.as_slice-2.result.now c.index-as_slice-log.result c.as_slice-3.result.now (length c.as_slice-replies.result.now)
    c.requires.sound c.requires.turn c.as_slice.ensures c.as_slice-2.ensures c.index-as_slice-log.is c.index_mut-row.ensures.value c.as_slice-3.ensures (ap length c.as_slice-replies.ensures.value) in
    mine-held c.args.blocks.now.items c.args.parcels.now c.requires.sound this c.requires.served c.index_mut-2.ensures.value c.index_mut.ensures.value c.requires.hands

pub push_reserved-requires : goal.push_reserved-requires
push_reserved-requires g c =
    let this : IsTurnOf c.args.plan.now c.args.turn c.args.rows.now.items _ c.index_mut-row.result.now _ = turn-of c.as_slice.result.now c.as_slice-2.result.now c.index-as_slice-log.result c.as_slice-3.result.now (length c.as_slice-replies.result.now)
    c.requires.sound c.requires.turn c.as_slice.ensures c.as_slice-2.ensures c.index-as_slice-log.is c.index_mut-row.ensures.value c.as_slice-3.ensures (ap length c.as_slice-replies.ensures.value) in
    omega (arith, row-room c.args.blocks.now.items c.args.parcels.now c.requires.sound this c.requires.served c.requires.room)

pub returns-clause-served : goal.returns-clause-served
returns-clause-served g c =
    let this : IsTurnOf c.args.plan.now c.args.turn c.args.rows.now.items _ c.index_mut-row.result.now _ = turn-of c.as_slice.result.now c.as_slice-2.result.now c.index-as_slice-log.result c.as_slice-3.result.now (length c.as_slice-replies.result.now)
    c.requires.sound c.requires.turn c.as_slice.ensures c.as_slice-2.ensures c.index-as_slice-log.is c.index_mut-row.ensures.value c.as_slice-3.ensures (ap length c.as_slice-replies.ensures.value) in
    served-more c.args.blocks.now.items c.args.parcels.now c.requires.sound this c.requires.served c.index_mut-2.ensures.value _ _ _ _ c.push_reserved.ensures.items c.serve_op-reply.ensures.fits c.serve_op-reply.ensures.row c.serve_op-reply.ensures.handed

pub returns-clause-hands : goal.returns-clause-hands
returns-clause-hands g c =
    let this : IsTurnOf c.args.plan.now c.args.turn c.args.rows.now.items _ c.index_mut-row.result.now _ = turn-of c.as_slice.result.now c.as_slice-2.result.now c.index-as_slice-log.result c.as_slice-3.result.now (length c.as_slice-replies.result.now)
    c.requires.sound c.requires.turn c.as_slice.ensures c.as_slice-2.ensures c.index-as_slice-log.is c.index_mut-row.ensures.value c.as_slice-3.ensures (ap length c.as_slice-replies.ensures.value) in
    hands-more c.args.blocks.now.items c.args.parcels.now c.requires.sound this c.requires.served c.index_mut-2.ensures.value c.index_mut.ensures.value c.requires.hands _ _ _ _ _ c.push_reserved.ensures.items c.serve_op-reply.ensures.frames c.serve_op-reply.ensures.entries c.serve_op-reply.ensures.spare c.serve_op-reply.ensures.held c.serve_op-reply.ensures.balance

pub serve_op-reply-requires-clause-cap : goal.serve_op-reply-requires-clause-cap
serve_op-reply-requires-clause-cap g c =
    let this : IsTurnOf c.args.plan.now c.args.turn c.args.rows.now.items _ c.index_mut-row.result.now _ = turn-of c.as_slice.result.now c.as_slice-2.result.now c.index-as_slice-log.result c.as_slice-3.result.now (length c.as_slice-replies.result.now)
    c.requires.sound c.requires.turn c.as_slice.ensures c.as_slice-2.ensures c.index-as_slice-log.is c.index_mut-row.ensures.value c.as_slice-3.ensures (ap length c.as_slice-replies.ensures.value) in
    cap-kept c.args.blocks.now.items c.args.parcels.now c.requires.sound this c.requires.served _ c.requires.cap
