-- What a reply counts as.
use Rattle.std.specs.Prelude.{◌==◌, Bool, true, false, if◌then◌else◌}
use Rattle.ng_terms.specs.declared.reply.Made.TheVariants as made
use Rattle.ng_terms.specs.declared.reply.Reply.{Reply}
use Rattle.ng_terms.specs.declared.reply.Reply.TheVariants.{Given, Freed, Moved, NoMemory, TooLarge, BadAlign, Fresh}

-- a block was given at an address of its own
abbrev pub gives : Reply → Bool
gives (Given at) = true
gives (Moved old at) = if old == at then false else true
gives (Fresh skipped (made.Given at)) = true
gives _ = false

-- a block was taken back
abbrev pub takes : Reply → Bool
takes (Freed at) = true
takes (Moved old at) = if old == at then false else true
takes _ = false

-- a block has another size in its place
abbrev pub resizes : Reply → Bool
resizes (Moved old at) = old == at
resizes _ = false

-- the mapper refused
abbrev pub lacks_memory : Reply → Bool
lacks_memory (NoMemory old excuse) = true
lacks_memory (Fresh skipped (made.NoMemory excuse)) = true
lacks_memory _ = false

-- the size was beyond every heap
abbrev pub is_oversized : Reply → Bool
is_oversized (TooLarge old) = true
is_oversized (Fresh skipped made.TooLarge) = true
is_oversized _ = false

-- the alignment was refused
abbrev pub has_bad_align : Reply → Bool
has_bad_align BadAlign = true
has_bad_align (Fresh skipped made.BadAlign) = true
has_bad_align _ = false
