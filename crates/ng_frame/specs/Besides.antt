-- What single steps in a block's slot leave of the other slots. No public clause cites this module.
use Rattle.ng_view.specs.Lists.{Among, without}
use Rattle.ng_view.specs.declared.view.Held.{Held}
use Rattle.ng_view.specs.declared.view.View.{View}
use Rattle.ng_space.specs.Leaving.{HasFrame, KeepsOthers, KeepsRest}
use Rattle.ng_space.specs.Tokens.{Token}

-- each block but that of the slot is framed
abbrev pub AreFramedBesides : Token → View → Type 0
AreFramedBesides slot v = (h : Held) → Among h (without slot.meta slot.index v.held) → HasFrame h

-- the view changed in one slot at most, and each block in the others is framed where each was
pub record LeavesBesides (slot : Token) (v w : View) : Type 0 where
  pub others : KeepsOthers slot v w
  pub rest : KeepsRest v w
  pub each : AreFramedBesides slot v → AreFramedBesides slot w
