-- What a heap begins with, and what its name says of the mapper that it was opened over.
use Rattle.std.specs.Prelude.{◌≡◌, List}
use Rattle.ng_group.specs.Opening.{AreEmpty, Empty, IsFreshMapper}
use Rattle.ng_mapper.specs.Mapping.{Span}
use Rattle.ng_mapper.specs.Runs as mapper
use Rattle.ng_mapper.specs.declared.refusals.Refusals.{Refusals}
use Rattle.ng_space.specs.Blanks.{BlankHeap}
use Rattle.ng_space.specs.Names.{Facts}
use Rattle.ng_terms.specs.Accounts.{Counts}
use Rattle.ng_view.specs.declared.view.Start.{Start}
use Rattle.ng_tool.specs.Closed.{program_secret}

-- its space
abbrev pub span_at : Start → Span
span_at start = record { lower = start.lower; upper = start.upper; size = start.pages }

-- what it had refused
abbrev pub counts_at : Facts → Counts
counts_at facts = record { refusals = facts.start.refusals; most = facts.most }

-- the start of the program's heap over a mapper, which has this space and refused so many calls
pub record IsStartOver (span : Span) (refused : Refusals) (start : Start) : Type 0 where
  pub span_is : span_at start ≡ span
  pub refusals : start.refusals ≡ refused.count
  pub secret : start.secret ≡ program_secret

-- its memory, which has no name yet
pub record IsFreshOver (span : Span) (refused : Refusals) (blank : BlankHeap) (tables : Empty) : Type 0 where
  pub start : IsStartOver span refused blank.start
  pub empty : AreEmpty blank.start.pages tables

-- the memory is that of the program's heap of this name, and the mapper has no live run yet
pub record IsNamed (facts : Facts) (span : Span) (live : List mapper.Run) (refused : Refusals) (blank : BlankHeap) (tables : Empty) : Type 0 where
  pub table : blank.table ≡ facts.table
  pub start : blank.start ≡ facts.start
  pub secret : facts.start.secret ≡ program_secret
  pub empty : AreEmpty facts.start.pages tables
  pub mapper : IsFreshMapper facts.start span live refused
  pub most : refused.most ≡ facts.most
