-- The turn of a log: what its op may take, and what holds behind it.
use Rattle.std.proofs.Common.{◌≡◌, ℕ, ◌+◌, ◌<◌, ◌≤◌, List, [], ◌∷◌, ◌++◌, Option, Some, None, length, get_or, vec_capacity, arith, ap, sym, subst, ◌∙◌}
use Rattle.std.specs.Global.{Vec}
use Rattle.std.proofs.Math.ListN.{set}
use Rattle.std.proofs.lemmas.List.{get_or-map, length-map, map-set}
use Rattle.std.proofs.lemmas.List.Elements.{All-get_or}
use Rattle.ng_heap.specs.Keeps.{KeepsFrames}
use Rattle.ng_plan.specs.declared.step.Place.{Place}
use Rattle.ng_plan.specs.Sound.{IsIn, IsNumbered, IsSound, TakesOwnOps, op_in, op_of_log}
use Rattle.ng_space.specs.Blocks.{BlockToken}
use Rattle.ng_space.specs.Callers.{Caller, fresh_caller}
use Rattle.ng_space.specs.Parcels.{ParcelToken}
use Rattle.ng_terms.specs.declared.plan.Op.{Op}
use Rattle.ng_terms.specs.declared.plan.Op.TheVariants.{Make}
use Rattle.ng_terms.specs.declared.plan.Origin.TheVariants.{Own, Claim}
use Rattle.ng_terms.specs.declared.plan.Plan.{Plan}
use Rattle.ng_terms.specs.declared.reply.Mode.{Mode}
use Rattle.ng_terms.specs.declared.reply.Reply.{Reply}
use Rattle.ng_terms.specs.Calls.{FitsOp, calls_of, handed_as, origin_of}
use Rattle.ng_replay.specs.Books.{hand_at}
use Rattle.ng_replay.specs.Caps.{IsCapped}
use Rattle.ng_replay.specs.Room.{HaveRoom}
use Rattle.ng_replay.specs.Serial.{AreHeld, AreInHand, AreServed, IsNumberIn, IsVacant, KeepsBalance, at_of_parcel, blocks_in, handed_after, handed_in, handed_without, held_in, places_of, replies_in, row_after, source_at, source_with}
use Rattle.ng_replay.specs.Serving.{IsCapOf, at_of}
use Rattle.ng_replay.proofs.BookLemmas.{cap-op}
use Rattle.ng_replay.proofs.HandLemmas.{AreInHand-more}
use Rattle.ng_replay.proofs.RowLemmas.{get_or-there}
use Rattle.ng_replay.proofs.ServedLemmas.{AreServed-more, next-left, next-vacant, next_place}

-- the row and the next op of the log whose turn it is
pub record IsTurnOf (plan : Plan) (turn : ℕ) (rows : List (Vec Reply)) (log : ℕ) (row : Vec Reply) (op : Op) : Type 0 where
  pub turn_in : turn < length plan.order
  pub log_is : get_or plan.order turn 0 ≡ log
  pub log_in : log < length plan.logs
  pub row_is : row ≡ get_or rows log row
  pub op_is : op ≡ op_of_log (get_or plan.logs log []) (length row.items)

-- the turn as the code reads it: the log is one of the plan's
turn-log : {plan : Plan} {turn : ℕ} (order : List ℕ) → IsSound plan → turn < length plan.order → order ≡ plan.order
    → get_or order turn 0 < length plan.logs
turn-log {plan = plan} {turn = turn} order sound within order_is =
    subst (λ (o : List ℕ). get_or o turn 0 < length plan.logs) (sym order_is)
    (All-get_or (λ (log : ℕ). log < length plan.logs) plan.order turn 0 within sound.order)

-- its ops
pub turn-ops : {plan : Plan} {turn : ℕ} (order : List ℕ) (logs : List (List Op)) (ops : List Op) → IsSound plan → turn < length plan.order
    → order ≡ plan.order → logs ≡ plan.logs → ops ≡ get_or logs (get_or order turn 0) ops → ops ≡ get_or plan.logs (get_or order turn 0) []
turn-ops {plan = plan} {turn = turn} order logs ops sound within order_is logs_is ops_is =
    ops_is ∙ ap (λ (l : List (List Op)). get_or l (get_or order turn 0) ops) logs_is
    ∙ get_or-there plan.logs (get_or order turn 0) ops [] (turn-log order sound within order_is)

-- and its next op
pub turn-of : {plan : Plan} {turn : ℕ} {rows : List (Vec Reply)} {row : Vec Reply} (order : List ℕ) (logs : List (List Op)) (ops read : List Op) (place : ℕ)
    → IsSound plan → turn < length plan.order → order ≡ plan.order → logs ≡ plan.logs
    → ops ≡ get_or logs (get_or order turn 0) ops → row ≡ get_or rows (get_or order turn 0) row → read ≡ ops → place ≡ length row.items
    → IsTurnOf plan turn rows (get_or order turn 0) row (get_or read place (Make 0 0 None))
turn-of {plan = plan} {turn = turn} {row = row} order logs ops read place sound within order_is logs_is ops_is row_is read_is place_is = record {
  turn_in = within;
  log_is = ap (λ (o : List ℕ). get_or o turn 0) (sym order_is);
  log_in = turn-log order sound within order_is;
  row_is = row_is;
  op_is = ap (λ (p : ℕ). op_of_log read p) place_is
      ∙ ap (λ (o : List Op). op_of_log o (length row.items)) (read_is ∙ turn-ops order logs ops sound within order_is logs_is ops_is);
}

module _ {plan : Plan} {mode : Mode} {turn log : ℕ} {rows : List (Vec Reply)} {row : Vec Reply} {op : Op} (blocks : List (Vec (Option BlockToken)))
    (parcels : List (Option ParcelToken)) (sound : IsSound plan) (this : IsTurnOf plan turn rows log row op)
    (served : AreServed plan mode turn (replies_in rows) (held_in (blocks_in blocks)) (handed_in parcels)) where
  abbrev place : Place
  place = next_place (replies_in rows) log

  pub row-in : log < length rows
  row-in = omega (arith, this.log_in, served.logs, length-map rows (λ (r : Vec Reply). r.items))

  pub blocks-in : log < length blocks
  blocks-in = omega (arith, this.log_in, served.rows, length-map (blocks_in blocks) places_of, length-map blocks (λ (r : Vec (Option BlockToken)). r.items))

  row_items : get_or (replies_in rows) log [] ≡ row.items
  row_items = get_or-map (λ (r : Vec Reply). r.items) rows log row [] row-in ∙ sym (ap (λ (r : Vec Reply). r.items) this.row_is)

  place_in : IsIn plan place
  place_in = next-left sound this.turn_in this.log_is this.log_in served

  pub op-left : length row.items < length (get_or plan.logs log [])
  op-left = omega (arith, place_in.op, ap length row_items)

  op_same : op ≡ op_in plan place
  op_same = this.op_is ∙ ap (op_of_log (get_or plan.logs log [])) (ap length (sym row_items))

  is_number : (number : ℕ) → IsNumbered plan number → IsNumberIn parcels number
  is_number number numbered = record { least = numbered.least; most = omega (arith, served.numbers, length-map parcels at_of_parcel, numbered.most) }

  pub claim-numbered : (number : ℕ) → origin_of op ≡ Claim number → IsNumberIn parcels number
  claim-numbered number claim = is_number number (sound.taken place number place_in (ap origin_of (sym op_same) ∙ claim))

  pub handed-numbered : (number : ℕ) → handed_as op ≡ Some number → IsNumberIn parcels number
  handed-numbered number given = is_number number (sound.given place number place_in (ap handed_as (sym op_same) ∙ given))

  pub vacant : IsVacant (handed_as op) (handed_without (origin_of op) (handed_in parcels))
  vacant = subst (λ (o : Op). IsVacant (handed_as o) (handed_without (origin_of o) (handed_in parcels))) (sym op_same) (next-vacant sound this.turn_in this.log_is this.log_in served)

  pub row-room : HaveRoom plan.logs rows → length row.items < vec_capacity row
  row-room room = omega (arith, op-left, room log row row-in, ap vec_capacity this.row_is)

  pub cap-kept : (cap : ℕ) → IsCapOf cap plan mode → IsCapped mode cap op
  cap-kept cap cap_of = subst (IsCapped mode cap) (sym op_same) (cap-op plan mode place cap place_in cap_of)

  replies_same : (more : Vec Reply) (reply : Reply) → more.items ≡ row.items ++ reply ∷ []
      → replies_in (set rows log more) ≡ set (replies_in rows) log (get_or (replies_in rows) log [] ++ reply ∷ [])
  replies_same more reply grown =
      map-set (λ (r : Vec Reply). r.items) rows log more
      ∙ ap (set (replies_in rows) log) (grown ∙ ap (λ (r : List Reply). r ++ reply ∷ []) (sym row_items))

  -- the blocks of the log
  module _ {mine : Vec (Option BlockToken)} (mine_is : mine ≡ get_or blocks log mine) where
    mine_items : get_or (blocks_in blocks) log [] ≡ mine.items
    mine_items = get_or-map (λ (r : Vec (Option BlockToken)). r.items) blocks log mine [] blocks-in ∙ sym (ap (λ (r : Vec (Option BlockToken)). r.items) mine_is)

    mine_places : get_or (held_in (blocks_in blocks)) log [] ≡ places_of mine.items
    mine_places = get_or-map places_of (blocks_in blocks) log [] [] (omega (arith, blocks-in, length-map blocks (λ (r : Vec (Option BlockToken)). r.items))) ∙ ap places_of mine_items

    mine_long : length mine.items ≡ length row.items
    mine_long = sym (length-map mine.items at_of) ∙ ap length (sym mine_places) ∙ served.lined log this.log_in ∙ ap length row_items

    pub own-earlier : (maker : ℕ) → origin_of op ≡ Own maker → maker < length mine.items
    own-earlier maker own =
        let ops : TakesOwnOps (get_or plan.logs log []) = All-get_or TakesOwnOps plan.logs log [] this.log_in sound.own in
        omega (arith, ops.earlier place.op maker place_in.op (ap origin_of (sym op_same) ∙ own), ap length row_items, mine_long)

    pub mine-room : HaveRoom plan.logs blocks → length mine.items < vec_capacity mine
    mine-room room = omega (arith, op-left, mine_long, room log mine blocks-in, ap vec_capacity mine_is)

    blocks_same : (more : Vec (Option BlockToken)) → blocks_in (set blocks log more) ≡ set (blocks_in blocks) log more.items
    blocks_same more = map-set (λ (r : Vec (Option BlockToken)). r.items) blocks log more

    pub served-more : (more : Vec Reply) (reply : Reply) (now : Vec (Option BlockToken)) (parcels_now : List (Option ParcelToken))
        → more.items ≡ row.items ++ reply ∷ []
        → FitsOp mode (source_with (places_of mine.items) (handed_in parcels) (origin_of op)) op reply
        → places_of now.items ≡ row_after op reply (places_of mine.items)
        → handed_in parcels_now ≡ handed_after op reply (handed_in parcels)
        → AreServed plan mode (turn + 1) (replies_in (set rows log more)) (held_in (blocks_in (set blocks log now))) (handed_in parcels_now)
    served-more more reply now parcels_now grown fits placed handed =
        rw (replies_same more reply grown)
        (subst (λ (h : List (List (Option ℕ))). AreServed plan mode (turn + 1) (set (replies_in rows) log (get_or (replies_in rows) log [] ++ reply ∷ [])) h (handed_in parcels_now)) (sym held_same)
        (subst (λ (h : List (Option ℕ)). AreServed plan mode (turn + 1) (set (replies_in rows) log (get_or (replies_in rows) log [] ++ reply ∷ [])) (set (held_in (blocks_in blocks)) log (row_after (op_in plan place) reply (get_or (held_in (blocks_in blocks)) log []))) h) (sym handed_same)
        (AreServed-more sound this.turn_in this.log_is this.log_in served reply fits_here)))
      where
        held_same : held_in (blocks_in (set blocks log now)) ≡ set (held_in (blocks_in blocks)) log (row_after (op_in plan place) reply (get_or (held_in (blocks_in blocks)) log []))
        held_same =
            ap held_in (blocks_same now) ∙ map-set places_of (blocks_in blocks) log now.items
            ∙ ap (set (held_in (blocks_in blocks)) log) (placed ∙ ap (λ (o : Op). row_after o reply (places_of mine.items)) op_same ∙ ap (row_after (op_in plan place) reply) (sym mine_places))

        handed_same : handed_in parcels_now ≡ handed_after (op_in plan place) reply (handed_in parcels)
        handed_same = handed ∙ ap (λ (o : Op). handed_after o reply (handed_in parcels)) op_same

        source_same : source_with (places_of mine.items) (handed_in parcels) (origin_of op) ≡ source_at plan (replies_in rows) place
        source_same =
            ap (λ (r : List (Option ℕ)). source_with r (handed_in parcels) (origin_of op)) (sym mine_places)
            ∙ ap (λ (o : Op). source_with (get_or (held_in (blocks_in blocks)) log []) (handed_in parcels) (origin_of o)) op_same
            ∙ served.ready place place_in (λ done. omega arith)

        fits_here : FitsOp mode (source_at plan (replies_in rows) place) (op_in plan place) reply
        fits_here = subst (λ (o : Op). FitsOp mode (source_at plan (replies_in rows) place) o reply) op_same (rw source_same at fits)

    -- the log's hand
    module _ {hands : List Caller} {hand : Caller} (hand_is : hand ≡ get_or hands log hand)
        (held : AreInHand plan mode (replies_in rows) (blocks_in blocks) parcels hands) where
      hand_same : hand_at hands log ≡ hand
      hand_same = get_or-there hands log (fresh_caller 0 0) hand (omega (arith, held.books.count, this.log_in)) ∙ sym hand_is

      pub two-spare : 2 ≤ hand.spare
      two-spare = omega (arith, held.spare log this.log_in, op-left, ap length row_items, ap (λ (h : Caller). h.spare) hand_same)

      pub mine-held : AreHeld hand mine.items
      mine-held = subst (λ (h : Caller). AreHeld h mine.items) hand_same (subst (λ (r : List (Option BlockToken)). AreHeld (hand_at hands log) r) mine_items (held.held log this.log_in))

      pub hands-more : (more : Vec Reply) (reply : Reply) (now : Vec (Option BlockToken)) (parcels_now : List (Option ParcelToken)) (after : Caller)
          → more.items ≡ row.items ++ reply ∷ []
          → KeepsFrames hand after → after.entries ≡ hand.entries ++ calls_of mode op reply → hand.spare ≤ after.spare + 2 → AreHeld after now.items
          → KeepsBalance hand after parcels parcels_now
          → AreInHand plan mode (replies_in (set rows log more)) (blocks_in (set blocks log now)) parcels_now (set hands log after)
      hands-more more reply now parcels_now after grown frames entered used kept balance =
          rw (replies_same more reply grown)
          (rw (blocks_same now)
          (AreInHand-more plan mode (replies_in rows) (blocks_in blocks) parcels parcels_now hands log after now.items reply served.logs (omega (arith, served.rows, length-map (blocks_in blocks) places_of)) this.log_in place_in.op held
          (rw hand_same frames) (rw hand_same (entered ∙ ap (λ (o : Op). hand.entries ++ calls_of mode o reply) op_same)) (omega (arith, ap (λ (h : Caller). h.spare) hand_same)) kept (rw hand_same balance)))
