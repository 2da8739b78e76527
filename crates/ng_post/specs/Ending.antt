-- Doors that are being ended. No public clause cites this module.
use Rattle.std.specs.Prelude.{◌≡◌, ℕ, ◌<◌, ◌==◌, ◌++◌, ◌∷◌, [], true, List, if◌then◌else◌, length, map, nat_lt, slice_index_or, take, vec_len}
use Rattle.crossbeam_queue.specs.Passes.{IsPassOf, Pass, view}
use Rattle.ng_post.specs.declared.boxes.Boxes.{Boxes}
use Rattle.ng_post.specs.declared.boxes.Door.{Door}
use Rattle.ng_post.specs.declared.mail.Letter.{Letter}
use Rattle.ng_post.specs.declared.view.View.{View}
use Rattle.ng_post.specs.Box.{AreAllOf, leader}
use Rattle.ng_post.specs.Doors.{sent_to}
use Rattle.ng_post.specs.Letters.{Note, note_of}

-- what the pass that leads at the box knows once so many doors have ended
abbrev pub ended_at : {N : Type 0} → Boxes N → List (Door N) → ℕ → ℕ → List Note → View
ended_at boxes doors ended box got =
    leader (vec_len boxes.boxes) (nat_lt box ended) got (map (λ door. sent_to boxes.receivers.items box door.sent.items) (take ended doors))

-- so many doors have ended: the passes that lead have taken theirs in
pub record HaveEnded {N : Type 0} (boxes : Boxes N) (doors : List (Door N)) (ended : ℕ) (leads : List (Pass (Letter N) View)) : Type 0 where
  pub count : length leads ≡ vec_len boxes.boxes
  pub passes : (b : ℕ) (q : _) (p : _) → b < vec_len boxes.boxes → IsPassOf (slice_index_or boxes.boxes.items b q) (slice_index_or leads b p)
  pub knows : (b : ℕ) (p : _) → b < vec_len boxes.boxes → view (slice_index_or leads b p) ≡ ended_at boxes doors ended b (view (slice_index_or leads b p)).got
  pub got : (b : ℕ) (p : _) (d : Door N) → b < vec_len boxes.boxes → b < ended
      → (view (slice_index_or leads b p)).got ≡ (view (slice_index_or doors b d).own).got

-- the pass that leads at the box may take the log's passes in
pub record LeadsTo (count log box : ℕ) (v : View) : Type 0 where
  pub leads : v ≡ leader count (nat_lt box log) v.got v.known
  pub known : length v.known ≡ log

-- the passes of a log's door may be taken in
pub record MayEnd {N : Type 0} (boxes : Boxes N) (leads : List (Pass (Letter N) View)) (log : ℕ) (own : Pass (Letter N) View)
    (to : List (Pass (Letter N) View)) : Type 0 where
  pub log_in : log < vec_len boxes.boxes
  pub count : length leads ≡ vec_len boxes.boxes
  pub ways : length to ≡ vec_len boxes.boxes
  pub passes : (b : ℕ) (q : _) (p : _) → b < vec_len boxes.boxes → IsPassOf (slice_index_or boxes.boxes.items b q) (slice_index_or leads b p)
  pub leads_each : (b : ℕ) (p : _) → b < vec_len boxes.boxes → LeadsTo (vec_len boxes.boxes) log b (view (slice_index_or leads b p))
  pub own_in : (q : _) → IsPassOf (slice_index_or boxes.boxes.items log q) own
  pub gets : (view own).gets ≡ true
  pub to_passes : (b : ℕ) (q : _) (p : _) → b < vec_len boxes.boxes → IsPassOf (slice_index_or boxes.boxes.items b q) (slice_index_or to b p)
  pub sends : (b : ℕ) (p : _) → b < vec_len boxes.boxes → ((view (slice_index_or to b p)).sends ≡ true) × ((view (slice_index_or to b p)).from ≡ log)

-- what the pass that leads at the box knows once it has taken the log's reader in
abbrev pub with_reader : ℕ → View → ℕ → View → View
with_reader log own box v = if box == log then record v { gets = true; got = own.got } else v

-- and its sender
abbrev pub with_sender : View → View → View
with_sender way v = record v { known = v.known ++ way.put ∷ [] }

-- the passes of a log's door were taken in
pub record TakesIn {N : Type 0} (boxes : Boxes N) (log : ℕ) (own : Pass (Letter N) View) (to before after : List (Pass (Letter N) View)) : Type 0 where
  pub count : length after ≡ length before
  pub passes : (b : ℕ) (q : _) (p : _) → b < vec_len boxes.boxes → IsPassOf (slice_index_or boxes.boxes.items b q) (slice_index_or after b p)
  pub knows : (b : ℕ) (p way was : _) → b < vec_len boxes.boxes
      → view (slice_index_or after b p)
      ≡ with_sender (view (slice_index_or to b way)) (with_reader log (view own) b (view (slice_index_or before b was)))

-- each box has its pass that leads and reads
pub record MayLearn {N : Type 0} (boxes : Boxes N) (leads : List (Pass (Letter N) View)) : Type 0 where
  pub count : length leads ≡ vec_len boxes.boxes
  pub passes : (b : ℕ) (q : _) (p : _) → b < vec_len boxes.boxes → IsPassOf (slice_index_or boxes.boxes.items b q) (slice_index_or leads b p)
  pub knows : (b : ℕ) (p : _) → b < vec_len boxes.boxes
      → ((view (slice_index_or leads b p)).leads ≡ true) × ((view (slice_index_or leads b p)).gets ≡ true)

-- what was taken out of each box, and what it holds, is what its senders had put in
abbrev pub AreLearned : {N : Type 0} → Boxes N → List (Pass (Letter N) View) → Type 0
AreLearned {N} boxes leads = (b : ℕ) (p : Pass (Letter N) View) → b < vec_len boxes.boxes
    → (items : List (Letter N)) × (length (view (slice_index_or leads b p)).known ≡ (view (slice_index_or leads b p)).made
    → AreAllOf (view (slice_index_or leads b p)).known ((view (slice_index_or leads b p)).got ++ map note_of items))
