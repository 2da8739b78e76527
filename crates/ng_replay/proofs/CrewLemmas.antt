-- A crew that was opened, and workers that may begin.
use Rattle.std.proofs.Common.{◌≡◌, ℕ, ◌+◌, ◌*◌, ◌-◌, ◌<◌, ◌≤◌, List, [], length, get_or, map, vec_capacity, arith, ap, sym, subst, ◌∙◌}
use Rattle.std.specs.Global.{Vec}
use Rattle.std.specs.Prelude.{All}
use Rattle.std.proofs.lemmas.List.{get_or-map, length-map}
use Rattle.std.proofs.lemmas.List.Elements.{All-get_or}
use Rattle.ng_plan.specs.declared.step.Place.{Place}
use Rattle.ng_plan.specs.Sound.{IsHandedOff, IsSound, TakesOwnOps}
use Rattle.ng_post.specs.declared.boxes.Boxes.{Boxes}
use Rattle.ng_post.specs.declared.boxes.Door.{Door}
use Rattle.ng_post.specs.Doors.{IsDoorOf}
use Rattle.ng_post.specs.Opened.{AreOpened, IsFresh, received_by}
use Rattle.ng_space.specs.Callers.{Caller, fresh_caller, fresh_callers}
use Rattle.ng_terms.specs.declared.plan.Op.{Op}
use Rattle.ng_terms.specs.declared.plan.Plan.{Plan}
use Rattle.ng_terms.specs.declared.reply.Mode.{Mode}
use Rattle.ng_terms.specs.declared.reply.Reply.{Reply}
use Rattle.ng_replay.specs.Books.{rooms_for}
use Rattle.ng_replay.specs.Crews.{AreReady, HasRoomFor, HavePlaces, IsCrewFor, IsReady, doors_of, hands_of}
use Rattle.ng_replay.specs.Serving.{IsCapOf}
use Rattle.ng_replay.specs.Works.{MayDo}
use Rattle.ng_replay.specs.declared.crew.Crew.{Crew}
use Rattle.ng_replay.specs.declared.crew.Places.{Places}
use Rattle.ng_replay.specs.declared.worker.Worker.{Worker}
use Rattle.ng_replay.proofs.BookLemmas.{cap-op}
use Rattle.ng_replay.proofs.HandLemmas.{get_or-fresh, length-fresh}
use Rattle.ng_replay.proofs.RowLemmas.{get_or-there}

-- the workers in the places, and room for what they leave
pub IsCrewFor-made : {N : Type 0} → (crew : Crew N) (places : Places N) (plan : Plan) → HavePlaces places plan
    → map (λ (w : Worker N). w.row) crew.workers.items ≡ places.blocks.items → map (λ (w : Worker N). w.replies) crew.workers.items ≡ places.rows.items
    → HasRoomFor crew (length plan.logs) → IsCrewFor crew plan
IsCrewFor-made {N} crew places plan have blocks rows ends = record {
  count = count;
  each = λ log w below. record {
    no_blocks = subst (λ (row : Vec _). row.items ≡ []) (row log w below) (All-get_or (λ (r : Vec _). r.items ≡ []) places.blocks.items log _ (omega (arith, have.blocks)) have.no_blocks);
    no_replies = subst (λ (row : Vec _). row.items ≡ []) (replies log w below) (All-get_or (λ (r : Vec _). r.items ≡ []) places.rows.items log _ (omega (arith, have.rows)) have.no_replies);
    blocks = subst (λ (row : Vec _). length (get_or plan.logs log []) ≤ vec_capacity row) (row log w below) (have.rows_of_blocks log _ (omega (arith, have.blocks)));
    replies = subst (λ (row : Vec _). length (get_or plan.logs log []) ≤ vec_capacity row) (replies log w below) (have.rows_of_replies log _ (omega (arith, have.rows)));
  };
  ends = ends;
}
  where
    workers : List (Worker N)
    workers = crew.workers.items

    count : length workers ≡ length plan.logs
    count = sym (length-map workers (λ (w : Worker N). w.row)) ∙ ap length blocks ∙ have.blocks

    row : (log : ℕ) (w : Worker N) → log < length plan.logs → get_or places.blocks.items log (get_or workers log w).row ≡ (get_or workers log w).row
    row log w below =
        ap (λ (l : List (Vec _)). get_or l log (get_or workers log w).row) (sym blocks)
        ∙ get_or-map (λ (x : Worker N). x.row) workers log w (get_or workers log w).row (omega (arith, count))

    replies : (log : ℕ) (w : Worker N) → log < length plan.logs → get_or places.rows.items log (get_or workers log w).replies ≡ (get_or workers log w).replies
    replies log w below =
        ap (λ (l : List (Vec Reply)). get_or l log (get_or workers log w).replies) (sym rows)
        ∙ get_or-map (λ (x : Worker N). x.replies) workers log w (get_or workers log w).replies (omega (arith, count))

-- the ops of a log of a sound plan may be done
pub MayDo-sound : (plan : Plan) (mode : Mode) (cap log : ℕ) → IsSound plan → IsCapOf cap plan mode → log < length plan.logs → MayDo mode cap plan.receivers (get_or plan.logs log [])
MayDo-sound plan mode cap log sound cap_of below = record {
  own = All-get_or TakesOwnOps plan.logs log [] below sound.own;
  kept = λ i op within is. sound.kept (place i) op (record { log = below; op = within }) is;
  once = λ i j number first second is also.
      let off : IsHandedOff plan number = sound.handed number (sound.taken (place i) number (record { log = below; op = first }) is) in
      ap (λ (p : Place). p.op)
      (off.only_taker (place i) (record { log = below; op = first }) is ∙ sym (off.only_taker (place j) (record { log = below; op = second }) also));
  given = λ i number within is.
      let numbered = sound.given (place i) number (record { log = below; op = within }) is in
      record { least = numbered.least; most = numbered.most };
  sizes = λ i within. cap-op plan mode (place i) cap (record { log = below; op = within }) cap_of;
}
  where
    place : ℕ → Place
    place i = record { log = log; op = i }

-- workers of hands that have done nothing, and of doors that were just opened
pub AreReady-opened : {N : Type 0} → (boxes : Boxes N) (plan : Plan) (mode : Mode) (cap : ℕ) (crew : Crew N) → IsSound plan → IsCapOf cap plan mode → IsCrewFor crew plan
    → hands_of crew ≡ fresh_callers 1 (rooms_for plan) → AreOpened plan boxes (doors_of crew) → AreReady mode boxes cap plan crew.workers.items
AreReady-opened {N} boxes plan mode cap crew sound cap_of crew_for hands opened = record {
  count = crew_for.count;
  each = each;
}
  where
    workers : List (Worker N)
    workers = crew.workers.items

    hand : (log : ℕ) (w : Worker N) → log < length plan.logs → (get_or workers log w).hand ≡ fresh_caller (log + 1) (2 * length (get_or plan.logs log []))
    hand log w below =
        let at : 1 + log ≡ log + 1 = omega arith in
        sym (get_or-map (λ (x : Worker N). x.hand) workers log w (fresh_caller 0 0) (omega (arith, crew_for.count)))
        ∙ ap (λ (l : List Caller). get_or l log (fresh_caller 0 0)) hands
        ∙ get_or-fresh 1 (rooms_for plan) log (fresh_caller 0 0) (omega (arith, length-map plan.logs (λ (ops : List Op). 2 * length ops)))
        ∙ ap (fresh_caller (1 + log)) (get_or-map (λ (ops : List Op). 2 * length ops) plan.logs log [] 0 below)
        ∙ ap (λ (n : ℕ). fresh_caller n (2 * length (get_or plan.logs log []))) at

    door : (log : ℕ) (w : Worker N) → log < length plan.logs → get_or (doors_of crew) log (get_or workers log w).door ≡ (get_or workers log w).door
    door log w below = get_or-map (λ (x : Worker N). x.door) workers log w (get_or workers log w).door (omega (arith, crew_for.count))

    each : (log : ℕ) (w : Worker N) → log < length plan.logs → IsReady mode boxes cap (get_or plan.logs log []) log (get_or workers log w)
    each log w below =
        let own : Door N = (get_or workers log w).door in
        let fresh : IsFresh own (length (get_or plan.logs log [])) (received_by plan.receivers log) =
        subst (λ (d : Door N). IsFresh d (length (get_or plan.logs log [])) (received_by plan.receivers log)) (door log w below) (opened.fresh log own below) in
        record {
          may = rw opened.receivers (MayDo-sound plan mode cap log sound cap_of below);
          hand = hand log w below;
          door = subst (IsDoorOf boxes) (door log w below) (opened.opened.each log own (omega (arith, opened.count)));
          log_is = subst (λ (d : Door N). d.log ≡ log) (door log w below) (opened.opened.logs log own (omega (arith, opened.count)));
          none_sent = fresh.sent;
          none_got = fresh.got;
          room_to_post = fresh.room_to_post;
          room_to_collect = fresh.room_to_collect;
          room = crew_for.each log w below;
        }

-- each hand-off goes to one of the logs
pub receivers_within : (plan : Plan) → IsSound plan → All (λ (log : ℕ). log < length plan.logs) plan.receivers
receivers_within plan sound i d below =
    let at : i + 1 - 1 ≡ i = omega arith in
    let off : IsHandedOff plan (i + 1) = sound.handed (i + 1) (record { least = omega arith; most = omega arith }) in
    let to : get_or plan.receivers i 0 ≡ off.taker.log = subst (λ (k : ℕ). get_or plan.receivers k 0 ≡ off.taker.log) at off.receiver in
    subst (λ (log : ℕ). log < length plan.logs) (sym to ∙ get_or-there plan.receivers i 0 d below) off.taker_in.log

-- one hand for each log
pub length-callers : (plan : Plan) (hands : List Caller) → hands ≡ fresh_callers 1 (rooms_for plan) → length hands ≡ length plan.logs
length-callers plan hands is = ap length is ∙ length-fresh 1 (rooms_for plan) ∙ length-map plan.logs (λ (ops : List Op). 2 * length ops)
