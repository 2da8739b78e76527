-- A pop that finds no slot leaves the hand each slot that it has.
use Rattle.std.proofs.Common.{◌≡◌, ℕ, zero, suc, ◌+◌, refl, subst}
use Rattle.ng_view.specs.Steps.{loaded}
use Rattle.ng_view.specs.declared.view.View.{View}
use Rattle.ng_space.specs.Callers.{Caller}
use Rattle.ng_space.specs.Tokens.{HasSlot, Token}
use Rattle.ng_space.proofs.Holding.{has_loaded, has_read}
use Rattle.ng_mask.specs.Pops.{FindsBare, Loses}

-- the hand with another view
abbrev later : Caller → View → Caller
later hand view = record hand { view = view }

over_losses : (hand : Caller) (meta class n : ℕ) (w : View) (slot : Token) → Loses meta class n hand.view w → HasSlot hand slot → HasSlot (later hand w) slot
over_losses hand meta class zero w slot same has = subst (λ (v : View). HasSlot (later hand v) slot) same has
over_losses hand meta class (suc n) w slot told has =
    let before = told.0 in let once = told.2 in
    let seen = loaded before (meta + 24) once.seen in
    has_read (later hand seen) (later hand w) (meta + 24) once.found slot once.view refl
    (has_loaded (later hand before) (later hand seen) (meta + 24) once.seen slot refl refl (over_losses hand meta class n before slot told.1 has))

pub bare_keeps : (hand new : Caller) (meta class : ℕ) → FindsBare meta class hand.view new.view → new.number ≡ hand.number
    → (slot : Token) → HasSlot hand slot → HasSlot new slot
bare_keeps hand new meta class told number slot has =
    let loads = told.loads in
    has_loaded (later hand loads.between) new (meta + 24) told.seen slot loads.view number (over_losses hand meta class loads.lost loads.between slot loads.loses has)
