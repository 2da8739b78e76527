-- What passes between the lock's seat and a hand.
use Rattle.std.specs.Prelude.{◌≡◌, ℕ, List, Option, Some, None}
use Rattle.ng_terms.specs.declared.entry.Entry.{Entry}
use Rattle.ng_terms.specs.declared.entry.Entry.TheVariants.{Give, Take, Resize, NoMemory, TooLarge, BadAlign, Refused}
use Rattle.ng_view.specs.Lists.{Among, find}
use Rattle.ng_view.specs.Steps.{answered, excuse_at, read, with_held, without_one}
use Rattle.ng_view.specs.declared.view.Excuse.{Excuse}
use Rattle.ng_view.specs.declared.view.Held.{Held}
use Rattle.ng_view.specs.declared.view.View.{View}
use Rattle.ng_space.specs.Callers.{Caller}

-- the view with a slot more, if there is one
abbrev pub with_slot : View → Option Held → View
with_slot v None = v
with_slot v (Some h) = with_held v h

-- the view has that slot, and it carries no group
pub record HasInMotion (v : View) (meta index : ℕ) : Type 0 where
  pub slot : Held
  pub found : find meta index v.held ≡ Some slot

-- the view has the excuse of that number
pub record HasNumber (v : View) (number : ℕ) : Type 0 where
  pub excuse : Excuse
  pub found : excuse_at number v.excuses ≡ Some excuse

-- the excuses that an entry leaves of these
abbrev pub left_excuses : Entry → List Excuse → List Excuse
left_excuses (Give n a p) es = es
left_excuses (Take p) es = es
left_excuses (Resize p n) es = es
left_excuses (NoMemory n e) es = without_one e es
left_excuses (TooLarge c s a) es = es
left_excuses (BadAlign a) es = es
left_excuses (Refused p k) es = es

-- an excuse in a hand: its number, and that of the hand
pub record ExcuseToken : Type 0 where
  pub number : ℕ
  pub hand : ℕ

-- the hand has the excuse
pub record HasExcuse (hand : Caller) (token : ExcuseToken) : Type 0 where
  pub own : token.hand ≡ hand.number
  pub excuse : Excuse
  pub there : Among excuse hand.view.excuses
  pub of_number : excuse.number ≡ token.number

-- a request of n bytes was entered as out of memory at a load of word 0, and the excuse went
pub record EntersNoMemory (before : View) (number n excuse : ℕ) (after : View) : Type 0 where
  pub found : ℕ
  pub view : after ≡ read (answered before number (NoMemory n excuse) (without_one excuse before.excuses)) 0 found
