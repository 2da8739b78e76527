-- What the tests begin with, and what they know of the slots that a hand has.
use Rattle.std.specs.Prelude.{◌≡◌, ◌&&◌, Bool, List, All, nat_eq}
use Rattle.std.specs.List.{IsDistinct}
use Rattle.ng_mapper.specs.FirstFit.{refused_of, runs_of, span_of}
use Rattle.ng_mapper.specs.declared.first_fit.FirstFit.{FirstFit}
use Rattle.ng_space.specs.Blanks.{BlankHeap}
use Rattle.ng_space.specs.Callers.{Caller}
use Rattle.ng_space.specs.Tokens.{HasSlot, Token}
use Rattle.ng_view.specs.declared.view.Start.{Start}
use Rattle.ng_group.specs.Opening.{AreEmpty, Empty, IsFreshMapper}

-- a space of 4096 pages, all but the first of which may be mapped, and requests up to the largest
abbrev pub test_start : Start
test_start = record { pages = 4096; lower = 4096; upper = 16777216; secret = 81985529216486895; refusals = 0; cap = 9223372036854771710 }

-- the memory of a heap and of a core for that space, and a mapper of it that has given nothing yet
pub record AreParts (blank : BlankHeap) (tables : Empty) (mapper : FirstFit) : Type 0 where
  pub starts : blank.start ≡ test_start
  pub empty : AreEmpty 4096 tables
  pub fresh : IsFreshMapper test_start (span_of mapper) (runs_of mapper) (refused_of mapper)
  pub calm : (refused_of mapper).most ≡ 0

-- the tokens are of one slot
abbrev pub is_same_slot : Token → Token → Bool
is_same_slot token other = nat_eq token.meta other.meta && nat_eq token.index other.index

-- the hand has these slots, and no two of them are one
pub record HasAll (hand : Caller) (tokens : List Token) : Type 0 where
  pub each : All (HasSlot hand) tokens
  pub apart : IsDistinct is_same_slot tokens
