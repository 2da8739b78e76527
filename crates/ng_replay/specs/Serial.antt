-- What holds between the turns of a plan.
use Rattle.std.specs.Prelude.{◌≡◌, ◌≢◌, ℕ, ◌+◌, ◌*◌, ◌-◌, ◌<◌, ◌≤◌, ◌++◌, ◌∷◌, List, [], Option, Some, None, length, map, take, slice_index_or, slice_set, sum_by}
use Rattle.std.specs.Global.{Vec}
use Rattle.ng_group.specs.Hands.{IsApart}
use Rattle.ng_plan.specs.declared.step.Place.{Place}
use Rattle.ng_plan.specs.Sound.{IsIn, op_in}
use Rattle.ng_plan.specs.SoundTurns.{turns_had}
use Rattle.ng_space.specs.Blocks.{BlockToken, HasFramed}
use Rattle.ng_space.specs.Callers.{Caller}
use Rattle.ng_space.specs.Parcels.{ParcelToken}
use Rattle.ng_terms.specs.declared.plan.Op.{Op}
use Rattle.ng_terms.specs.declared.plan.Origin.{Origin}
use Rattle.ng_terms.specs.declared.plan.Origin.TheVariants.{Own, Claim, Skip}
use Rattle.ng_terms.specs.declared.plan.Plan.{Plan}
use Rattle.ng_terms.specs.declared.reply.Mode.{Mode}
use Rattle.ng_terms.specs.declared.reply.Reply.{Reply}
use Rattle.ng_terms.specs.declared.reply.Reply.TheVariants.{Absent}
use Rattle.ng_terms.specs.Calls.{FitsOp, handed_as, origin_of, source_of, standing}
use Rattle.ng_replay.specs.Books.{AreAllFramed, AreBooks, hand_at}
use Rattle.ng_replay.specs.Serving.{IsApartFrom, at_of}

-- the replies in each row
abbrev pub replies_in : List (Vec Reply) → List (List Reply)
replies_in rows = map (λ row. row.items) rows

-- the blocks in each row
abbrev pub blocks_in : List (Vec (Option BlockToken)) → List (List (Option BlockToken))
blocks_in rows = map (λ row. row.items) rows

-- where the blocks of a row stand
abbrev pub places_of : List (Option BlockToken) → List (Option ℕ)
places_of row = map at_of row

abbrev pub held_in : List (List (Option BlockToken)) → List (List (Option ℕ))
held_in rows = map places_of rows

-- where a block on its way stands
abbrev pub at_of_parcel : Option ParcelToken → Option ℕ
at_of_parcel None = None
at_of_parcel (Some parcel) = Some parcel.block.at

abbrev pub handed_in : List (Option ParcelToken) → List (Option ℕ)
handed_in parcels = map at_of_parcel parcels

-- how many blocks are on their way
abbrev pub one_of : Option ParcelToken → ℕ
one_of None = 0
one_of (Some parcel) = 1

abbrev pub underway : List (Option ParcelToken) → ℕ
underway parcels = sum_by one_of parcels

-- how many ops of the log have their reply
abbrev pub done_in : List (List Reply) → ℕ → ℕ
done_in replies log = length (slice_index_or replies log [])

-- the reply to the op of the place
abbrev pub reply_at : List (List Reply) → Place → Reply
reply_at replies place = slice_index_or (slice_index_or replies place.log []) place.op Absent

-- the address of the block that stands for the op of the place
abbrev pub stands_at : List (List Reply) → Place → Option ℕ
stands_at replies place = standing (reply_at replies place)

-- the address of the block that the op of the place takes
abbrev pub source_at : Plan → List (List Reply) → Place → Option ℕ
source_at plan replies place = source_of plan.logs replies place.log (origin_of (op_in plan place))

-- what there is of this origin, among the log's own and under the numbers
abbrev pub source_with : List (Option ℕ) → List (Option ℕ) → Origin → Option ℕ
source_with row handed (Own op) = slice_index_or row op None
source_with row handed (Claim number) = slice_index_or handed (number - 1) None
source_with row handed Skip = None

-- the log's own without the one of this origin
abbrev pub row_without : {X : Type 0} → Origin → List (Option X) → List (Option X)
row_without (Own op) row = slice_set row op None
row_without (Claim number) row = row
row_without Skip row = row

-- those under the numbers without the one of this origin
abbrev pub handed_without : {X : Type 0} → Origin → List (Option X) → List (Option X)
handed_without (Own op) handed = handed
handed_without (Claim number) handed = slice_set handed (number - 1) None
handed_without Skip handed = handed

-- those under the numbers with one more, if it goes under a number
abbrev pub handed_with : Option ℕ → Option ℕ → List (Option ℕ) → List (Option ℕ)
handed_with None block handed = handed
handed_with (Some number) block handed = slice_set handed (number - 1) block

-- what stays with its log, as it goes under no number
abbrev pub staying : {X : Type 0} → Option ℕ → Option X → Option X
staying None block = block
staying (Some number) block = None

-- where the blocks of the log stand after its next op, and those under the numbers
abbrev pub row_after : Op → Reply → List (Option ℕ) → List (Option ℕ)
row_after op reply row = row_without (origin_of op) row ++ staying (handed_as op) (standing reply) ∷ []

abbrev pub handed_after : Op → Reply → List (Option ℕ) → List (Option ℕ)
handed_after op reply handed = handed_with (handed_as op) (standing reply) (handed_without (origin_of op) handed)

-- the number has a place among those under the numbers
pub record IsNumberIn {X : Type 0} (handed : List X) (number : ℕ) : Type 0 where
  pub least : 1 ≤ number
  pub most : number ≤ length handed

-- nothing is under the number, if there is one
abbrev pub IsVacant : {X : Type 0} → Option ℕ → List (Option X) → Type 0
IsVacant number handed = (n : ℕ) → number ≡ Some n → slice_index_or handed (n - 1) None ≡ None

-- an op of the place takes a block of this origin, which the maker made
abbrev pub TakesFrom : Plan → Place → Origin → Place → Type 0
TakesFrom plan taker (Own op) maker = maker ≡ record { log = taker.log; op = op }
TakesFrom plan taker (Claim number) maker = IsIn plan maker × (handed_as (op_in plan maker) ≡ Some number)
TakesFrom plan taker Skip maker = ⊥

-- the op of one place takes the block that the op of another made
abbrev pub Takes : Plan → Place → Place → Type 0
Takes plan taker maker = TakesFrom plan taker (origin_of (op_in plan taker)) maker

-- the op of the place has its reply
abbrev pub IsServed : List (List Reply) → Place → Type 0
IsServed replies place = place.op < done_in replies place.log

-- so many turns of the plan are done: their replies, and where the blocks of the logs and those under the numbers stand. What
-- an op without a reply is to take lies ready for it, and what an op with a reply took is under no number
pub record AreServed (plan : Plan) (mode : Mode) (turns : ℕ) (replies : List (List Reply)) (held : List (List (Option ℕ))) (handed : List (Option ℕ)) : Type 0 where
  pub logs : length replies ≡ length plan.logs
  pub done : (log : ℕ) → log < length plan.logs → done_in replies log ≡ turns_had log (take turns plan.order)
  pub fit : (place : Place) → IsIn plan place → IsServed replies place → FitsOp mode (source_at plan replies place) (op_in plan place) (reply_at replies place)
  pub rows : length held ≡ length plan.logs
  pub lined : (log : ℕ) → log < length plan.logs → length (slice_index_or held log []) ≡ done_in replies log
  pub numbers : length handed ≡ length plan.receivers
  pub ready : (taker : Place) → IsIn plan taker → ¬ IsServed replies taker
      → source_with (slice_index_or held taker.log []) handed (origin_of (op_in plan taker)) ≡ source_at plan replies taker
  pub gone : (taker : Place) (number : ℕ) → IsIn plan taker → IsServed replies taker → origin_of (op_in plan taker) ≡ Claim number
      → slice_index_or handed (number - 1) None ≡ None

-- the blocks of a row are framed in the hand, each in a slot of its own
pub record AreHeld (hand : Caller) (row : List (Option BlockToken)) : Type 0 where
  pub framed : (op : ℕ) (block : BlockToken) → slice_index_or row op None ≡ Some block → HasFramed hand block
  pub apart : (op other : ℕ) (block another : BlockToken) → op ≢ other → slice_index_or row op None ≡ Some block → slice_index_or row other None ≡ Some another
      → IsApart block.slot another.slot

-- they are in other slots than this block, if there is one
abbrev pub AreApartFrom : Option BlockToken → List (Option BlockToken) → Type 0
AreApartFrom source row = (op : ℕ) (block : BlockToken) → slice_index_or row op None ≡ Some block → IsApartFrom source block

-- what the hands sent is what they took and what is on its way
abbrev pub IsBalanced : List Caller → List (Option ParcelToken) → Type 0
IsBalanced hands parcels = sum_by (λ (hand : Caller). hand.view.sent) hands ≡ sum_by (λ (hand : Caller). hand.view.taken) hands + underway parcels

-- what a hand sent or took is what is on its way now or not any more
abbrev pub KeepsBalance : Caller → Caller → List (Option ParcelToken) → List (Option ParcelToken) → Type 0
KeepsBalance before after was now = (after.view.sent + before.view.taken) + underway was ≡ (before.view.sent + after.view.taken) + underway now

-- each log's hand has the log's calls in its book, with room for two more for each op without a reply, and holds its blocks
pub record AreInHand (plan : Plan) (mode : Mode) (replies : List (List Reply)) (blocks : List (List (Option BlockToken))) (parcels : List (Option ParcelToken))
    (hands : List Caller) : Type 0 where
  pub books : AreBooks plan mode replies hands
  pub spare : (log : ℕ) → log < length plan.logs → 2 * length (slice_index_or plan.logs log []) ≤ (hand_at hands log).spare + 2 * done_in replies log
  pub held : (log : ℕ) → log < length plan.logs → AreHeld (hand_at hands log) (slice_index_or blocks log [])
  pub framed : AreAllFramed hands
  pub balanced : IsBalanced hands parcels
