use Rattle.std.proofs.Common.{arith, ap}
use Rattle.ng_replay.proofs.CrewLemmas.{IsCrewFor-made}
use Rattle.ng_replay.proofs.crew.Crew.open.Goals as goal

pub returns-in-Ok-clause-crew : goal.returns-in-Ok-clause-crew
returns-in-Ok-clause-crew g c =
    IsCrewFor-made c.crew_of.result c.in-Ok.places c.args.plan.now c.in-Ok.ensures c.crew_of.ensures.blocks c.crew_of.ensures.rows
    (record {
      no_hands = c.crew_of.ensures.no_hands;
      no_doors = c.crew_of.ensures.no_doors;
      no_replies = search (c.crew_of.ensures.replies, c.in-Ok.ensures.none);
      hands = omega (arith, c.requires.hands, c.crew_of.ensures.room_for_hands);
      doors = omega (arith, c.requires.doors, c.crew_of.ensures.room_for_doors);
      replies = omega (arith, ap (λ r. r.cap) c.crew_of.ensures.replies, c.in-Ok.ensures.replies);
    })
