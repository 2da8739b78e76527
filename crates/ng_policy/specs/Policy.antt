-- What a policy needs of its two closures, by what they require (pre) and may return (post).
use Rattle.std.specs.Prelude.{ℕ}
use Rattle.ng_policy.specs.declared.ask.Ask.{Ask}
use Rattle.ng_policy.specs.declared.ask.Spare.{Spare}
use Rattle.ng_policy.specs.Ask.{AskInRange, SpareInRange, IsCount}

-- the closure may be called on each ask in range, and returns a number of slots that the class may have
pub record Counts {C : Type 0} (pre : C → Ask → Type 0) (post : C → Ask → ℕ → Type 0) (count : C)
    : Type 0 where
  pub may : (ask : Ask) → AskInRange ask → pre count ask
  pub gives : (ask : Ask) (slots : ℕ) → AskInRange ask → post count ask slots → IsCount ask.class slots

-- the closure may be called on each spare in range
pub record Keeps {K : Type 0} (pre : K → Spare → Type 0) (keep : K) : Type 0 where
  pub may : (spare : Spare) → SpareInRange spare → pre keep spare
