-- What pops and pushes leave of a hand.
use Rattle.std.proofs.Common.{◌≡◌, ℕ, zero, suc, ◌+◌, refl, subst}
use Rattle.ng_space.specs.Leaving.{Leaves, LeavesAll}
use Rattle.ng_space.specs.Tokens.{Token}
use Rattle.ng_space.proofs.LeavingFrames.{all_leaves, leaves_all_then, leaves_itself, leaves_loaded, leaves_then}
use Rattle.ng_space.proofs.LeavingSlots.{leaves_pushed, leaves_read}
use Rattle.ng_view.specs.Steps.{loaded}
use Rattle.ng_view.specs.declared.view.View.{View}
use Rattle.ng_mask.specs.Pops as pops
use Rattle.ng_mask.specs.Pushes.{Answers, HasPushCause, LastLoads, Loads, Loses, LosesOnce, PushLeaves, Pushed}
use Rattle.ng_mask.specs.declared.outcome.Needs.TheVariants as needs
use Rattle.ng_mask.specs.declared.outcome.Push.{Push}
use Rattle.ng_mask.specs.declared.outcome.Push.TheVariants.{Done, Left}

-- ---- pops
pub pop_loses : (meta class n : ℕ) (v w : View) → pops.Loses meta class n v w → LeavesAll v w
pop_loses meta class zero v w same = subst (λ (u : View). LeavesAll v u) same (leaves_itself v)
pop_loses meta class (suc n) v w (u, before, last) =
    let t : View = loaded u (meta + 24) last.seen in
    leaves_all_then v u w (pop_loses meta class n v u before)
    (leaves_all_then u t w (leaves_loaded u t (meta + 24) last.seen refl) (leaves_read t w (meta + 24) last.found last.view))

-- and then the word was loaded
pub pop_loads : (meta class n seen : ℕ) (v u w : View) → pops.Loses meta class n v u → w ≡ loaded u (meta + 24) seen → LeavesAll v w
pop_loads meta class n seen v u w loses last =
    leaves_all_then v u w (pop_loses meta class n v u loses) (leaves_loaded u w (meta + 24) seen last)

-- ---- pushes
loads_leave : (s : Pushed) (freed avail : ℕ) (v w : View) → Loads s freed avail v w → LeavesAll v w
loads_leave s freed avail v w loads =
    let u : View = loaded v (s.meta + 28) loads.first in
    leaves_all_then v u w (leaves_loaded v u (s.meta + 28) loads.first refl) (leaves_loaded u w (s.meta + 24) loads.second loads.view)

lost_leaves : (s : Pushed) (v w : View) → LosesOnce s v w → LeavesAll v w
lost_leaves s v w lost =
    leaves_all_then v lost.between w (loads_leave s lost.freed lost.avail v lost.between lost.loads)
    (leaves_read lost.between w (s.meta + 28) lost.found lost.view)

loses_leave : (s : Pushed) (n : ℕ) (v w : View) → Loses s n v w → LeavesAll v w
loses_leave s zero v w same = subst (λ (u : View). LeavesAll v u) same (leaves_itself v)
loses_leave s (suc n) v w (u, before, last) = leaves_all_then v u w (loses_leave s n v u before) (lost_leaves s u w last)

last_leaves : (s : Pushed) (freed avail : ℕ) (v w : View) → LastLoads s freed avail v w → LeavesAll v w
last_leaves s freed avail v w last =
    leaves_all_then v last.between w (loses_leave s last.lost v last.between last.loses) (loads_leave s freed avail last.between w last.loads)

answers_leave : {X : Type 0} (slot : Token) (last : ℕ) (v w : View) (answer : Push X)
    → Answers (record { meta = slot.meta; index = slot.index; last = last }) answer v w → PushLeaves slot answer v w
answers_leave slot last v w Done sets =
    let u : View = sets.between in
    leaves_then slot v u w (all_leaves slot v u (last_leaves (record { meta = slot.meta; index = slot.index; last = last }) sets.freed sets.avail v u sets.loads))
    (leaves_pushed slot u w (slot.meta + 28) sets.freed sets.view)
answers_leave slot last v w (Left token needs.First) none =
    last_leaves (record { meta = slot.meta; index = slot.index; last = last }) 0 none.avail v w none.loads
answers_leave slot last v w (Left token (needs.Last freed avail)) full =
    last_leaves (record { meta = slot.meta; index = slot.index; last = last }) freed avail v w full.loads
answers_leave slot last v w (Left token needs.Lost) lost =
    loses_leave (record { meta = slot.meta; index = slot.index; last = last }) 32 v w lost

push_after : {X : Type 0} (slot : Token) (v u w : View) (answer : Push X) → LeavesAll v u → PushLeaves slot answer u w → PushLeaves slot answer v w
push_after slot v u w Done looks leaves = leaves_then slot v u w (all_leaves slot v u looks) leaves
push_after slot v u w (Left token needs) looks leaves = leaves_all_then v u w looks leaves

pub push_leaves : {X : Type 0} (slot : Token) (v w : View) (answer : Push X) → HasPushCause v slot.meta slot.index answer w → PushLeaves slot answer v w
push_leaves slot v w answer cause =
    let u : View = loaded v (slot.meta + 32) cause.flags in
    push_after slot v u w answer (leaves_loaded v u (slot.meta + 32) cause.flags refl) (answers_leave slot cause.last u w answer cause.answers)

-- whatever the answer is, it leaves the others
pub push_others : {X : Type 0} (slot : Token) (v w : View) (answer : Push X) → PushLeaves slot answer v w → Leaves slot v w
push_others slot v w Done leaves = leaves
push_others slot v w (Left token needs) leaves = all_leaves slot v w leaves
