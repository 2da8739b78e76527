-- What the lock's seat stored in a slot before it passed it on.
use Rattle.std.specs.Prelude.{◌≡◌, ℕ}
use Rattle.ng_build.specs.Nestings.{StoresBefore}
use Rattle.ng_mask.specs.Fetches.{OfGroup}
use Rattle.ng_view.specs.Fetches.{HasGroup}
use Rattle.ng_view.specs.Places.{header}
use Rattle.ng_view.specs.declared.view.View.{View}

-- of a group that was live before nothing was stored in any slot; of one that came since, nothing but 0 in the slot's cells,
-- from the header of its start on
pub record IsUntouched (meta index : ℕ) (before after : View) : Type 0 where
  pub standing : HasGroup before meta → after.stores ≡ before.stores
  pub fresh : OfGroup after meta (λ g. StoresBefore before after (header g index))
