-- Pops and pushes send and take in no parcel.
use Rattle.std.proofs.Common.{◌≡◌, ℕ, zero, suc, refl, ap, ◌∙◌, subst}
use Rattle.ng_view.specs.declared.view.View.{View}
use Rattle.ng_mask.specs.Pops as pops
use Rattle.ng_mask.specs.Pops.{HasPopCause}
use Rattle.ng_mask.specs.Pushes as pushes
use Rattle.ng_mask.specs.Pushes.{HasPushCause, Pushed}
use Rattle.ng_mask.specs.declared.outcome.Pop.{Pop}
use Rattle.ng_mask.specs.declared.outcome.Pop.TheVariants.{Won, Bare, Other, Lost}
use Rattle.ng_mask.specs.declared.outcome.Needs.TheVariants as needs
use Rattle.ng_mask.specs.declared.outcome.Push.{Push}
use Rattle.ng_mask.specs.declared.outcome.Push.TheVariants.{Done, Left}

-- the same numbers of parcels
pub record KeepsParcels (v w : View) : Type 0 where
  pub sent : w.sent ≡ v.sent
  pub taken : w.taken ≡ v.taken

by_view : (v u w : View) → KeepsParcels v u → w.sent ≡ u.sent → w.taken ≡ u.taken → KeepsParcels v w
by_view v u w even s t = record { sent = s ∙ even.sent; taken = t ∙ even.taken }

itself : (v : View) → KeepsParcels v v
itself v = record { sent = refl; taken = refl }

same : (v w : View) → v ≡ w → KeepsParcels v w
same v w e = subst (KeepsParcels v) e (itself v)

-- ---- pops
pop_loses : (meta class n : ℕ) (v w : View) → pops.Loses meta class n v w → KeepsParcels v w
pop_loses meta class zero v w e = same v w e
pop_loses meta class (suc n) v w t =
    let once = t.2 in by_view v t.0 w (pop_loses meta class n v t.0 t.1) (ap (λ (x : View). x.sent) once.view) (ap (λ (x : View). x.taken) once.view)

pop_loads : (meta class seen : ℕ) (v w : View) → pops.LastLoads meta class seen v w → KeepsParcels v w
pop_loads meta class seen v w t = by_view v t.between w (pop_loses meta class t.lost v t.between t.loses) (ap (λ (x : View). x.sent) t.view) (ap (λ (x : View). x.taken) t.view)

pub pop_even : {X : Type 0} (v : View) (meta class : ℕ) (answer : Pop X) (w : View) → HasPopCause v meta class answer w → KeepsParcels v w
pop_even v meta class (Won slot) w t = let view = t.pops.looks.view in by_view v t.between w (pop_loads meta class t.seen v t.between t.loads) (ap (λ (x : View). x.sent) view) (ap (λ (x : View). x.taken) view)
pop_even v meta class Bare w t = pop_loads meta class t.seen v w t.loads
pop_even v meta class (Other tag) w t = pop_loads meta class t.seen v w t.loads
pop_even v meta class Lost w t = pop_loses meta class 32 v w t

-- ---- pushes
push_loads : (slot : Pushed) (freed avail : ℕ) (v u w : View) → KeepsParcels v u → pushes.Loads slot freed avail u w → KeepsParcels v w
push_loads slot freed avail v u w even t = by_view v u w even (ap (λ (x : View). x.sent) t.view) (ap (λ (x : View). x.taken) t.view)

push_loses : (slot : Pushed) (n : ℕ) (v w : View) → pushes.Loses slot n v w → KeepsParcels v w
push_loses slot zero v w e = same v w e
push_loses slot (suc n) v w t =
    let once = t.2 in
    by_view v once.between w (push_loads slot once.freed once.avail v t.0 once.between (push_loses slot n v t.0 t.1) once.loads) (ap (λ (x : View). x.sent) once.view) (ap (λ (x : View). x.taken) once.view)

push_last : (slot : Pushed) (freed avail : ℕ) (v w : View) → pushes.LastLoads slot freed avail v w → KeepsParcels v w
push_last slot freed avail v w t = push_loads slot freed avail v t.between w (push_loses slot t.lost v t.between t.loses) t.loads

push_answers : {X : Type 0} (slot : Pushed) (answer : Push X) (v w : View) → pushes.Answers slot answer v w → KeepsParcels v w
push_answers slot Done v w t = by_view v t.between w (push_last slot t.freed t.avail v t.between t.loads) (ap (λ (x : View). x.sent) t.view) (ap (λ (x : View). x.taken) t.view)
push_answers slot (Left token needs.First) v w t = push_last slot 0 t.avail v w t.loads
push_answers slot (Left token (needs.Last freed avail)) v w t = push_last slot freed avail v w t.loads
push_answers slot (Left token needs.Lost) v w t = push_loses slot 32 v w t

pub push_even : {X : Type 0} (v : View) (meta index : ℕ) (answer : Push X) (w : View) → HasPushCause v meta index answer w → KeepsParcels v w
push_even v meta index answer w t = let e = push_answers (record { meta = meta; index = index; last = t.last }) answer _ w t.answers in record { sent = e.sent; taken = e.taken }
