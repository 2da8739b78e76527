-- What the ops of one log take, post and collect, beside other logs.
use Rattle.std.specs.Prelude.{◌≡◌, ℕ, ◌+◌, ◌<◌, ◌≤◌, ◌*◌, ◌++◌, List, [], ◌∷◌, Option, Some, None, count_by, flat_map, length, map, slice_index_or, take}
use Rattle.std.specs.List.{find, zip}
use Rattle.std.specs.Option.{option_and_then}
use Rattle.ng_plan.specs.Sound.{TakesOwnOps, op_of_log}
use Rattle.ng_post.specs.declared.boxes.Boxes.{Boxes}
use Rattle.ng_post.specs.declared.boxes.Door.{Door}
use Rattle.ng_post.specs.Doors.{IsDoorOf, IsNumber}
use Rattle.ng_post.specs.Ends.{is_of, is_sent}
use Rattle.ng_post.specs.Letters.{Pair}
use Rattle.ng_space.specs.Callers.{Caller}
use Rattle.ng_space.specs.Leaving.{AreFramed}
use Rattle.ng_terms.specs.Calls.{FitsOp, calls_of_log, handed_as, origin_of, standing}
use Rattle.ng_terms.specs.declared.plan.Op.{Op}
use Rattle.ng_terms.specs.declared.plan.Origin.{Origin}
use Rattle.ng_terms.specs.declared.plan.Origin.TheVariants.{Own, Claim, Skip}
use Rattle.ng_terms.specs.declared.reply.Mode.{Mode}
use Rattle.ng_terms.specs.declared.reply.Reply.{Reply}
use Rattle.ng_terms.specs.declared.reply.Reply.TheVariants.{Absent}
use Rattle.ng_replay.specs.Caps.{IsCapped}

-- what an op takes: one of its log's own blocks, or what was collected for it
abbrev pub source_in : List (Option ℕ) → Option ℕ → Origin → Option ℕ
source_in row taken (Own op) = slice_index_or row op None
source_in row taken (Claim number) = taken
source_in row taken Skip = None

-- the pair that is collected for an op
abbrev pub collected_for : Origin → Option ℕ → List Pair
collected_for (Own op) taken = []
collected_for (Claim number) taken = (number, taken) ∷ []
collected_for Skip taken = []

-- and the pair that is posted for it
abbrev pub posted_for : Option ℕ → Option ℕ → List Pair
posted_for None block = []
posted_for (Some number) block = (number, block) ∷ []

-- the number that an op claims
abbrev pub claimed_by : Op → List ℕ
claimed_by op = map (λ (pair : Pair). pair.0) (collected_for (origin_of op) None)

-- how many blocks are among the pairs
abbrev pub blocks_among : List Pair → ℕ
blocks_among pairs = count_by is_sent pairs

-- an op's source was taken: out of the log's own blocks, or in from the box
pub record Collects {N : Type 0} (before after : Door N) (was now : Caller) (row : List (Option ℕ)) (origin : Origin) (source : Option ℕ) : Type 0 where
  pub taken : Option ℕ
  pub source_is : source ≡ source_in row taken origin
  pub got : after.got.items ≡ before.got.items ++ collected_for origin taken
  pub counted : now.view.taken ≡ was.view.taken + blocks_among (collected_for origin taken)
  pub unsent : now.view.sent ≡ was.view.sent

-- an op was served: its reply fits what it took, and what stands for it was posted where the plan hands it off
pub record Serves {N : Type 0} (mode : Mode) (before after : Door N) (was now : Caller) (row : List (Option ℕ)) (op : Op) (reply : Reply) : Type 0 where
  pub taken : Option ℕ
  pub fits : FitsOp mode (source_in row taken (origin_of op)) op reply
  pub got : after.got.items ≡ before.got.items ++ collected_for (origin_of op) taken
  pub sent : after.sent.items ≡ before.sent.items ++ posted_for (handed_as op) (standing reply)
  pub counted : now.view.taken ≡ was.view.taken + blocks_among (collected_for (origin_of op) taken)
  pub counted_sent : now.view.sent ≡ was.view.sent + blocks_among (posted_for (handed_as op) (standing reply))

-- what was posted for the ops of a log
abbrev pub posted_of : List Op → List Reply → List Pair
posted_of ops replies = flat_map (λ done. posted_for (handed_as done.0) (standing done.1)) (zip ops replies)

-- the address that was collected under a number
abbrev pub collected_as : List Pair → ℕ → Option ℕ
collected_as got number = option_and_then (λ pair. pair.1) (find (is_of number) got)

-- the address of the block that an op takes, among the replies of its log and what was collected
abbrev pub source_by : List Reply → List Pair → Origin → Option ℕ
source_by replies got (Own op) = standing (slice_index_or replies op Absent)
source_by replies got (Claim number) = collected_as got number
source_by replies got Skip = None

-- the ops of a log may be done: each own block is made by an earlier op that doesn't hand it off, no number is claimed
-- twice, what is handed off has a number, and none asks for more than the cap
pub record MayDo (mode : Mode) (cap : ℕ) (receivers : List ℕ) (ops : List Op) : Type 0 where
  pub own : TakesOwnOps ops
  pub kept : (i op : ℕ) → i < length ops → origin_of (op_of_log ops i) ≡ Own op → handed_as (op_of_log ops op) ≡ None
  pub once : (i j number : ℕ) → i < length ops → j < length ops → origin_of (op_of_log ops i) ≡ Claim number → origin_of (op_of_log ops j) ≡ Claim number → i ≡ j
  pub given : (i number : ℕ) → i < length ops → handed_as (op_of_log ops i) ≡ Some number → IsNumber receivers number
  pub sizes : (i : ℕ) → i < length ops → IsCapped mode cap (op_of_log ops i)

-- the ops of a log were done: each reply fits, by the log's own replies and what was collected; the book is their calls; what
-- stands for an op that is handed off was posted, and each claim collected
pub record AreDone {N : Type 0} (mode : Mode) (boxes : Boxes N) (ops : List Op) (log : ℕ) (hand : Caller) (door : Door N) (replies : List Reply) : Type 0 where
  pub count : length replies ≡ length ops
  pub fit : (i : ℕ) → i < length ops
      → FitsOp mode (source_by replies door.got.items (origin_of (op_of_log ops i))) (op_of_log ops i) (slice_index_or replies i Absent)
  pub number : hand.number ≡ log + 1
  pub book : hand.entries ≡ calls_of_log mode ops replies
  pub framed : AreFramed hand.view
  pub of_boxes : IsDoorOf boxes door
  pub log_is : door.log ≡ log
  pub sent : door.sent.items ≡ posted_of ops replies
  pub got : map (λ (pair : Pair). pair.0) door.got.items ≡ flat_map claimed_by ops
  pub counted_sent : hand.view.sent ≡ blocks_among door.sent.items
  pub counted : hand.view.taken ≡ blocks_among door.got.items

-- so many ops of a log were done, and what a later op is to take of the log's own stands ready for it
pub record AreDoing {N : Type 0} (mode : Mode) (boxes : Boxes N) (ops : List Op) (done : ℕ) (log : ℕ) (hand : Caller) (door : Door N) (places : List (Option ℕ)) (replies : List Reply) : Type 0 where
  pub count : length replies ≡ done
  pub lined : length places ≡ done
  pub fit : (i : ℕ) → i < done
      → FitsOp mode (source_by replies door.got.items (origin_of (op_of_log ops i))) (op_of_log ops i) (slice_index_or replies i Absent)
  pub ready : (i op : ℕ) → done ≤ i → i < length ops → origin_of (op_of_log ops i) ≡ Own op → op < done
      → slice_index_or places op None ≡ standing (slice_index_or replies op Absent)
  pub number : hand.number ≡ log + 1
  pub book : hand.entries ≡ calls_of_log mode ops replies
  pub framed : AreFramed hand.view
  pub spare : 2 * length ops ≤ hand.spare + 2 * done
  pub of_boxes : IsDoorOf boxes door
  pub log_is : door.log ≡ log
  pub sent : door.sent.items ≡ posted_of ops replies
  pub got : map (λ (pair : Pair). pair.0) door.got.items ≡ flat_map claimed_by (take done ops)
  pub few_sent : length door.sent.items ≤ done
  pub few_got : length door.got.items ≤ done
  pub counted_sent : hand.view.sent ≡ blocks_among door.sent.items
  pub counted : hand.view.taken ≡ blocks_among door.got.items
