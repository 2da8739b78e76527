-- Slots of one group.
use Rattle.std.proofs.Common.{subst}
use Rattle.ng_class.specs.Slot.{IsOwnCell}
use Rattle.ng_class.specs.Place.{SlotsAreApart, storage_of, slot_stride}
use Rattle.ng_class.proofs.Slots.{own_cells_apart}

-- distinct slots of one group have no cell in common
pub owns_apart : SlotsAreApart
owns_apart place other group apart addr here there =
    own_cells_apart (storage_of place) (slot_stride place) place.index other.index addr apart here (subst (λ p. IsOwnCell (storage_of p) (slot_stride p) other.index addr) group there)
