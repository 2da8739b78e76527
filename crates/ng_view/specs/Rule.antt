-- The rule: one fact over all words and all views, which holds between any two atomic steps.
use Rattle.std.specs.Prelude.{ℕ, List}
use Rattle.ng_view.specs.Slots.{Slots}
use Rattle.ng_view.specs.Words.{Words}
use Rattle.ng_view.specs.Listing.{Listing}
use Rattle.ng_view.specs.Excuses.{Excuses}
use Rattle.ng_view.specs.History.{History}
use Rattle.ng_view.specs.Knowledge.{Knowledge}
use Rattle.ng_view.specs.Classes.{Classes}
use Rattle.ng_view.specs.Hands.{Hands}
use Rattle.ng_view.specs.Views.{desk_of}
use Rattle.ng_view.specs.declared.view.View.{View}
use Rattle.ng_view.specs.declared.view.Start.{Start}

pub record Rule (key : Start) (ws : List ℕ) (vs : List View) : Type 0 where
  -- each slot is in one place
  pub slots : Slots ws vs
  -- the words are those of runs, areas, groups and blocks
  pub words : Words key ws vs
  -- groups with free slots are listed
  pub listing : Listing ws (desk_of vs)
  -- each refusal excuses one request
  pub excuses : Excuses key vs
  -- the books are one legal history
  pub history : History key vs
  -- what seats know is so
  pub knowledge : Knowledge ws vs
  -- blocks are in groups of classes that may serve them
  pub classes : Classes vs
  -- no parcel and no number of a hand is lost or made twice
  pub hands : Hands vs
