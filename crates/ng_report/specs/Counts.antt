-- What counts of replies say.
use Rattle.std.specs.Prelude.{◌≡◌, ℕ, ◌+◌, ◌≤◌, Bool, List}
use Rattle.ng_terms.specs.declared.reply.Reply.{Reply}
use Rattle.ng_terms.specs.Reports.{is_call, is_skipped, is_absent, replies_with}
use Rattle.ng_report.specs.declared.counts.Counts.{Counts}
use Rattle.ng_report.specs.Kinds.{gives, takes, resizes, lacks_memory, is_oversized, has_bad_align}

-- no count is above the number of replies
pub record IsWithin (counts : Counts) : Type 0 where
  pub calls : counts.calls ≤ counts.replies
  pub given : counts.given ≤ counts.replies
  pub taken : counts.taken ≤ counts.replies
  pub resized : counts.resized ≤ counts.replies
  pub no_memory : counts.no_memory ≤ counts.replies
  pub too_large : counts.too_large ≤ counts.replies
  pub bad_align : counts.bad_align ≤ counts.replies
  pub skipped : counts.skipped ≤ counts.replies
  pub absent : counts.absent ≤ counts.replies

-- each count rises by how many of the replies pass its test
pub record Raises (old new : Counts) (passing : (Reply → Bool) → ℕ) : Type 0 where
  pub calls : new.calls ≡ old.calls + passing is_call
  pub given : new.given ≡ old.given + passing gives
  pub taken : new.taken ≡ old.taken + passing takes
  pub resized : new.resized ≡ old.resized + passing resizes
  pub no_memory : new.no_memory ≡ old.no_memory + passing lacks_memory
  pub too_large : new.too_large ≡ old.too_large + passing is_oversized
  pub bad_align : new.bad_align ≡ old.bad_align + passing has_bad_align
  pub skipped : new.skipped ≡ old.skipped + passing is_skipped
  pub absent : new.absent ≡ old.absent + passing is_absent

-- each count is how many replies of all logs pass its test
pub record IsCount (counts : Counts) (replies : List (List Reply)) : Type 0 where
  pub calls : counts.calls ≡ replies_with is_call replies
  pub given : counts.given ≡ replies_with gives replies
  pub taken : counts.taken ≡ replies_with takes replies
  pub resized : counts.resized ≡ replies_with resizes replies
  pub no_memory : counts.no_memory ≡ replies_with lacks_memory replies
  pub too_large : counts.too_large ≡ replies_with is_oversized replies
  pub bad_align : counts.bad_align ≡ replies_with has_bad_align replies
  pub skipped : counts.skipped ≡ replies_with is_skipped replies
  pub absent : counts.absent ≡ replies_with is_absent replies
