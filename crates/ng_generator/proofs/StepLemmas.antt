-- The steps one by one.
use Rattle.std.proofs.Common.{◌≡◌, ℕ, ◌+◌, refl, add-one}
use Rattle.ng_generator.specs.Generated.{State, start, step, after, made}

pub none_after : (seed : ℕ) → start seed ≡ after seed 0
unfolding after
none_after seed = refl

pub next_after : (seed steps : ℕ) → step (after seed steps) steps ≡ after seed (steps + 1)
unfolding after
next_after seed steps = rw (add-one steps)

pub made_after : (seed : ℕ) → State.lines (after seed 8000) ≡ made seed
unfolding made
made_after seed = refl

pub ruleset steps = (none_after, next_after, made_after)
