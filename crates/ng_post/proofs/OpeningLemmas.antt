-- Doors that have just been opened.
use Rattle.std.proofs.Common.{◌≡◌, ◌≢◌, ◌∙◌, ◌+◌, ◌<◌, [], ℕ, List, true, false, ap, arith, get_or, leb, length, length-set, refl, set, subst, sym, Global, Vec}
use Rattle.std.specs.Prelude.{vec_len}
use Rattle.std.proofs.lemmas.Bool.Decides.{nat_tests}
use Rattle.std.proofs.lemmas.List.Sorted.{IsPermutation-refl}
use Rattle.crossbeam_queue.specs.Passes.{Pass}
use Rattle.ng_post.specs.declared.boxes.Boxes.{Boxes}
use Rattle.ng_post.specs.declared.boxes.Door.{Door}
use Rattle.ng_post.specs.declared.mail.Letter.{Letter}
use Rattle.ng_post.specs.declared.view.View.{View}
use Rattle.ng_post.specs.Box.{leader}
use Rattle.ng_post.specs.Doors.{AreLeads, IsDoorOf}
use Rattle.ng_post.specs.Letters.{Pair}
use Rattle.ng_post.specs.Opened.{AreOpened, IsFresh, received_by}
use Rattle.ng_post.specs.Opening.{AreLeadsAfter, AreNewBoxes, AreNewDoors, IsNewDoor}
use Rattle.ng_post.proofs.Rows.{each-set}
use Rattle.ng_terms.specs.declared.plan.Plan.{Plan}

pub leb-same : (n : ℕ) → leb n n ≡ true
leb-same n = grind (arith, nat_tests)

pub leb-above : (n m : ℕ) → m < n → leb n m ≡ false
leb-above n m lt = grind (arith, nat_tests)

pub leb-next : (n m : ℕ) → m ≢ n → leb (n + 1) m ≡ leb n m
leb-next n m other = grind (arith, nat_tests)

-- all boxes have all senders and readers
pub all_led : {N : Type 0} (boxes : Boxes N) (leads : List (Pass (Letter N) View)) → AreLeadsAfter boxes (vec_len boxes.boxes) (vec_len boxes.boxes) leads → AreLeads boxes leads
all_led boxes leads made = record {
  count = made.count;
  passes = made.passes;
  knows = λ b p lt. made.knows b p lt ∙ ap (λ reads. leader (vec_len boxes.boxes) reads [] []) (leb-above (vec_len boxes.boxes) b lt);
}

-- a new door is one of the boxes
pub is_door : {N : Type 0} (boxes : Boxes N) (log ops letters : ℕ) (door : Door N) → log < vec_len boxes.boxes
    → IsNewDoor boxes log door → IsFresh door ops letters → (door.log ≡ 0 → AreLeads boxes door.leads.items) → IsDoorOf boxes door
is_door boxes log ops letters door lt new fresh leads = record {
  log = omega (arith, new.log_is);
  ways = omega (arith, new.ways.count, door.to.ok.0);
  to = new.ways.passes;
  sends = λ b p within. rw (fresh.sent, new.log_is) (new.ways.knows b p within);
  own = rw new.log_is new.own;
  reads = rw new.reads refl;
  arrives = rw (new.reads, fresh.arrived) refl;
  kept = rw (fresh.arrived, fresh.got, fresh.kept) (IsPermutation-refl {X = Pair} []);
  numbers = rw fresh.sent (λ k d lt. absurd (omega arith));
  leads = leads;
}

-- the passes that lead are put into the first door
pub opened : {N : Type 0} (plan : Plan) (boxes : Boxes N) (doors : List (Door N)) (door : Door N) (leads : Vec (Pass (Letter N) View) Global) (made : List (Pass (Letter N) View))
    → AreNewBoxes plan boxes made → AreNewDoors plan boxes doors → 0 < length doors → door ≡ get_or doors 0 door → AreLeads boxes leads.items
    → AreOpened plan boxes (set doors 0 (record door { leads = leads }))
opened {N} plan boxes doors door leads made new_boxes new some is leading =
    let first : Door N = record door { leads = leads } in
    let was_new : IsNewDoor boxes 0 door = subst (λ x. IsNewDoor boxes 0 x) (sym is) (new.each 0 door (omega (arith, new.count, some))) in
    let was_fresh : IsFresh door (length (get_or plan.logs 0 [])) (received_by boxes.receivers.items 0) =
    subst (λ x. IsFresh x (length (get_or plan.logs 0 [])) (received_by boxes.receivers.items 0)) (sym is) (new.fresh 0 door (omega (arith, new.count, some))) in
    let first_new : IsNewDoor boxes 0 first = record { log_is = was_new.log_is; ways = was_new.ways; own = was_new.own; reads = was_new.reads } in
    let first_fresh : IsFresh first (length (get_or plan.logs 0 [])) (received_by boxes.receivers.items 0) = record {
      sent = was_fresh.sent;
      got = was_fresh.got;
      arrived = was_fresh.arrived;
      kept = was_fresh.kept;
      room_to_post = was_fresh.room_to_post;
      room_to_collect = was_fresh.room_to_collect;
      room_to_keep = was_fresh.room_to_keep;
      room_to_arrive = was_fresh.room_to_arrive;
    } in
    record {
      count = length-set doors 0 first ∙ new.count;
      receivers = new_boxes.receivers;
      opened = record {
        count = length-set doors 0 first ∙ new.count ∙ sym new_boxes.count;
        each = λ k d lt. each-set (λ j (x : Door N). IsDoorOf boxes x) doors 0 first some
            (is_door boxes 0 (length (get_or plan.logs 0 [])) (received_by boxes.receivers.items 0) first (omega (arith, new.count, new_boxes.count, some)) first_new first_fresh (λ _. leading))
            (λ j x in_doors apart. is_door boxes j (length (get_or plan.logs j [])) (received_by boxes.receivers.items j) (get_or doors j x) (omega (arith, new.count, new_boxes.count))
            (new.each j x (omega (arith, new.count))) (new.fresh j x (omega (arith, new.count))) (λ zero_is. absurd (apart (sym (new.each j x (omega (arith, new.count))).log_is ∙ zero_is))))
            k d (omega (arith, length-set doors 0 first, lt));
        logs = λ k d lt. each-set (λ j (x : Door N). x.log ≡ j) doors 0 first some first_new.log_is
            (λ j x in_doors apart. (new.each j x (omega (arith, new.count))).log_is) k d (omega (arith, length-set doors 0 first, lt));
      };
      fresh = λ k d lt. rw (← new_boxes.receivers)
          (each-set (λ j (x : Door N). IsFresh x (length (get_or plan.logs j [])) (received_by boxes.receivers.items j)) doors 0 first some first_fresh
          (λ j x in_doors apart. new.fresh j x (omega (arith, new.count))) k d (omega (arith, new.count)));
      room = new_boxes.room;
    }

-- a plan of no logs has no doors
pub opened_none : {N : Type 0} (plan : Plan) (boxes : Boxes N) (doors : List (Door N)) (leads : List (Pass (Letter N) View))
    → AreNewBoxes plan boxes leads → AreNewDoors plan boxes doors → length doors ≡ 0 → AreOpened plan boxes doors
opened_none plan boxes doors leads new_boxes new none = record {
  count = new.count;
  receivers = new_boxes.receivers;
  opened = record { count = new.count ∙ sym new_boxes.count; each = λ k d lt. absurd (omega (arith, none)); logs = λ k d lt. absurd (omega (arith, none)) };
  fresh = λ k d lt. absurd (omega (arith, none, new.count));
  room = new_boxes.room;
}
