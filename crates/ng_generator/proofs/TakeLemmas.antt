-- A name is taken out of one of the lists.
use Rattle.std.proofs.Common.{◌≡◌, ◌∙◌, ℕ, ◌<◌, List, [], length, get_or, sym, ap}
use Rattle.std.specs.List.{remove}
use Rattle.std.specs.declared.alloc.Global.{Global}
use Rattle.std.specs.declared.vec.Vec.{Vec}
use Rattle.std.proofs.Math.ListN.{set}
use Rattle.std.proofs.lemmas.List.{get_or-map, map-set}
use Rattle.ng_generator.specs.Lists.{items_in}

pub taken_rest : (lists : List (Vec ℕ Global)) (at place : ℕ) (d now : Vec ℕ Global) → at < length lists → now.items ≡ remove (Vec.items (get_or lists at d)) place → items_in (set lists at now) ≡ set (items_in lists) at (remove (get_or (items_in lists) at []) place)
taken_rest lists at place d now inside rest =
    let old : get_or (items_in lists) at [] ≡ Vec.items (get_or lists at d) = get_or-map (λ list. list.items) lists at d [] inside in
    map-set (λ list. list.items) lists at now ∙ ap (set (items_in lists) at) (rest ∙ ap (λ names. remove names place) (sym old))
