-- What each legal step makes of a state.
use Rattle.std.specs.Prelude.{ℕ, ◌∷◌}
use Rattle.ng_terms.specs.declared.entry.Extent.{Extent}
use Rattle.ng_terms.specs.Heap.{State, resized, without}

abbrev pub given : Extent → State → State
given block state = record { live = block ∷ state.live; used = state.used }

abbrev pub taken : ℕ → State → State
taken at state = record { live = without at state.live; used = state.used }

abbrev pub resized_to : ℕ → ℕ → State → State
resized_to at len state = record { live = resized at len state.live; used = state.used }

abbrev pub excused : ℕ → State → State
excused excuse state = record { live = state.live; used = excuse ∷ state.used }
