-- Lists in memory. No public clause cites this module.
use Rattle.std.specs.Prelude.{List, map}
use Rattle.std.specs.declared.alloc.Global.{Global}
use Rattle.std.specs.declared.vec.Vec.{Vec}

-- the items of each list
abbrev pub items_in : {A : Type 0} → List (Vec A Global) → List (List A)
items_in lists = map (λ list. list.items) lists
