-- What a hand still has after a request that was refused, and after a slot came and went back.
use Rattle.std.proofs.Common.{◌≡◌, ℕ, ap, sym, ◌∙◌}
use Rattle.ng_view.specs.Lists.{find}
use Rattle.ng_view.specs.declared.view.View.{View}
use Rattle.ng_space.specs.Callers.{Caller}
use Rattle.ng_space.specs.Passed.{EntersNoMemory}
use Rattle.ng_space.specs.Tokens.{HasSlot, Token}

-- a refused request is entered, and the hand's slots stay
pub has_entered : (hand new : Caller) (n excuse : ℕ) (token : Token) → new.number ≡ hand.number
    → EntersNoMemory hand.view hand.number n excuse new.view → HasSlot hand token → HasSlot new token
has_entered hand new n excuse token number enters has = record {
  own = has.own ∙ sym number;
  held = has.held;
  found = ap (λ (v : View). find token.meta token.index v.held) enters.view ∙ has.found;
  free = has.free;
  place = has.place;
}
