-- Which replies fit a plan, and which heap calls they stand for.
use Rattle.std.specs.Prelude.{◌≡◌, ◌⊎◌, ℕ, ◌+◌, ◌<◌, ◌==◌, Bool, true, false, if◌then◌else◌, List, ◌∷◌, [], Option, Some, None, length, slice_index_or, find, flat_map, sum_by, unwrap_or, is_some}
use Rattle.std.specs.List.{AllZip, zip}
use Rattle.std.specs.Option.{option_and_then}
use Rattle.ng_terms.specs.declared.entry.Entry.{Entry}
use Rattle.ng_terms.specs.declared.entry.Entry.TheVariants as entry
use Rattle.ng_terms.specs.declared.plan.Op.{Op}
use Rattle.ng_terms.specs.declared.plan.Op.TheVariants.{Make, Free, Move}
use Rattle.ng_terms.specs.declared.plan.Origin.{Origin}
use Rattle.ng_terms.specs.declared.plan.Origin.TheVariants.{Own, Claim, Skip}
use Rattle.ng_terms.specs.declared.plan.Plan.{Plan}
use Rattle.ng_terms.specs.declared.reply.Made.{Made}
use Rattle.ng_terms.specs.declared.reply.Made.TheVariants as made
use Rattle.ng_terms.specs.declared.reply.Mode.{Mode}
use Rattle.ng_terms.specs.declared.reply.Reply.{Reply}
use Rattle.ng_terms.specs.declared.reply.Reply.TheVariants.{Given, Freed, Moved, NoMemory, TooLarge, BadAlign, Skipped, Absent, Fresh}
use Rattle.ng_terms.specs.Heap.{IsAlignment, IsTooLarge}

-- the ops of all logs
abbrev pub op_count : List (List Op) → ℕ
op_count logs = sum_by (λ ops. length ops) logs

-- the alignment that a make asks for
abbrev pub align_of : Mode → ℕ
align_of mode = unwrap_or mode.align 16

-- the size that an op asks for
abbrev pub size_of : Op → ℕ
size_of (Make name size to) = size
size_of (Free name origin) = 0
size_of (Move old name origin size to) = size

-- the number under which an op hands its block off
abbrev pub handed_as : Op → Option ℕ
handed_as (Make name size to) = to
handed_as (Free name origin) = None
handed_as (Move old name origin size to) = to

-- where an op's block comes from; a make takes none
abbrev pub origin_of : Op → Origin
origin_of (Make name size to) = Skip
origin_of (Free name origin) = origin
origin_of (Move old name origin size to) = origin

abbrev pub is_skip : Origin → Bool
is_skip Skip = true
is_skip (Own op) = false
is_skip (Claim number) = false

-- the address of the block that stands for an op after its reply
abbrev pub standing : Reply → Option ℕ
standing (Given at) = Some at
standing (Freed at) = None
standing (Moved old at) = Some at
standing (NoMemory old excuse) = old
standing (TooLarge old) = old
standing BadAlign = None
standing Skipped = None
standing Absent = None
standing (Fresh skipped (made.Given at)) = Some at
standing (Fresh skipped (made.NoMemory excuse)) = None
standing (Fresh skipped made.TooLarge) = None
standing (Fresh skipped made.BadAlign) = None

-- whether an op hands its block off under the number
abbrev pub is_handed_as : ℕ → Op → Bool
is_handed_as number op = unwrap_or (handed_as op) 0 == number

-- the ops of all logs beside their replies
abbrev pub done_ops : List (List Op) → List (List Reply) → List (Op × Reply)
done_ops logs replies = flat_map (λ log. zip log.0 log.1) (zip logs replies)

-- the standing of the op that hands off under the number
abbrev pub standing_of_number : List (List Op) → List (List Reply) → ℕ → Option ℕ
standing_of_number logs replies number =
    option_and_then (λ done. standing done.1) (find (λ done. is_handed_as number done.0) (done_ops logs replies))

-- the address of the block that an op of the log takes
abbrev pub source_of : List (List Op) → List (List Reply) → ℕ → Origin → Option ℕ
source_of logs replies log (Own op) = standing (slice_index_or (slice_index_or replies log []) op Absent)
source_of logs replies log (Claim number) = standing_of_number logs replies number
source_of logs replies log Skip = None

-- a make's outcome fits the mode and the size: a bad alignment comes first, then a size that is too large
abbrev pub FitsMade : Mode → ℕ → Made → Type 0
FitsMade mode size (made.Given at) = IsAlignment (align_of mode) × ¬ IsTooLarge 1 size (align_of mode)
FitsMade mode size (made.NoMemory excuse) = IsAlignment (align_of mode) × ¬ IsTooLarge 1 size (align_of mode)
FitsMade mode size made.TooLarge = IsAlignment (align_of mode) × IsTooLarge 1 size (align_of mode)
FitsMade mode size made.BadAlign = ¬ IsAlignment (align_of mode)

-- a make's outcome as its reply
abbrev pub reply_of : Made → Reply
reply_of (made.Given at) = Given at
reply_of (made.NoMemory excuse) = NoMemory None excuse
reply_of made.TooLarge = TooLarge None
reply_of made.BadAlign = BadAlign

-- the one reply of a free with this origin and source
abbrev pub reply_of_free : Origin → Option ℕ → Reply
reply_of_free Skip source = Skipped
reply_of_free (Own op) (Some at) = Freed at
reply_of_free (Own op) None = Absent
reply_of_free (Claim number) (Some at) = Freed at
reply_of_free (Claim number) None = Absent

-- a reply of a move whose source is at the old address
abbrev pub FitsMoved : ℕ → ℕ → Reply → Type 0
FitsMoved old size (Moved from at) = (from ≡ old) × ¬ IsTooLarge 1 size 16
FitsMoved old size (NoMemory from excuse) = (from ≡ Some old) × ¬ IsTooLarge 1 size 16
FitsMoved old size (TooLarge from) = (from ≡ Some old) × IsTooLarge 1 size 16
FitsMoved old size (Given at) = ⊥
FitsMoved old size (Freed at) = ⊥
FitsMoved old size BadAlign = ⊥
FitsMoved old size Skipped = ⊥
FitsMoved old size Absent = ⊥
FitsMoved old size (Fresh skipped made) = ⊥

-- a reply of a move, by its source
abbrev pub FitsMove : Mode → Origin → Option ℕ → ℕ → Reply → Type 0
FitsMove mode origin (Some old) size reply = FitsMoved old size reply
FitsMove mode origin None size reply = (made : Made) × (reply ≡ Fresh (is_skip origin) made) × FitsMade mode size made

-- the reply fits the op, whose source is given
abbrev pub FitsOp : Mode → Option ℕ → Op → Reply → Type 0
FitsOp mode source (Make name size to) reply = (made : Made) × (reply ≡ reply_of made) × FitsMade mode size made
FitsOp mode source (Free name origin) reply = reply ≡ reply_of_free origin source
FitsOp mode source (Move old name origin size to) reply = FitsMove mode origin source size reply

-- one fitting reply for each op of each log
pub record Fits (plan : Plan) (mode : Mode) (replies : List (List Reply)) : Type 0 where
  pub logs : length replies ≡ length plan.logs
  pub ops : (log : ℕ) → log < length plan.logs
      → AllZip (λ op reply. FitsOp mode (source_of plan.logs replies log (origin_of op)) op reply)
      (slice_index_or plan.logs log []) (slice_index_or replies log [])

-- the heap call of a make, by its outcome
abbrev pub calls_of_make : Mode → ℕ → Made → List Entry
calls_of_make mode size (made.Given at) = entry.Give size (align_of mode) at ∷ []
calls_of_make mode size (made.NoMemory excuse) = entry.NoMemory size excuse ∷ []
calls_of_make mode size made.TooLarge = entry.TooLarge 1 size (align_of mode) ∷ []
calls_of_make mode size made.BadAlign = entry.BadAlign (align_of mode) ∷ []

-- the entries that a reply stands for, where so many bytes were asked: a move to another address is a give and then a take
abbrev pub calls_for : Mode → ℕ → Reply → List Entry
calls_for mode size (Given at) = calls_of_make mode size (made.Given at)
calls_for mode size (Freed at) = entry.Take at ∷ []
calls_for mode size (Moved old at) = if old == at then entry.Resize at size ∷ [] else entry.Give size 16 at ∷ entry.Take old ∷ []
calls_for mode size (NoMemory old excuse) = entry.NoMemory size excuse ∷ []
calls_for mode size (TooLarge old) = entry.TooLarge 1 size (if is_some old then 16 else align_of mode) ∷ []
calls_for mode size BadAlign = calls_of_make mode size made.BadAlign
calls_for mode size Skipped = []
calls_for mode size Absent = []
calls_for mode size (Fresh skipped made) = calls_of_make mode size made

-- the entries that an op's reply stands for
abbrev pub calls_of : Mode → Op → Reply → List Entry
calls_of mode op reply = calls_for mode (size_of op) reply

-- the entries of a log's ops, in order
abbrev pub calls_of_log : Mode → List Op → List Reply → List Entry
calls_of_log mode ops replies = flat_map (λ done. calls_of mode done.0 done.1) (zip ops replies)
