use Rattle.std.proofs.Common.{◌≡◌}
use Rattle.crossbeam_queue.specs.Passes.{IsPassOf, view}
use Rattle.ng_post.proofs.posting.put.Given as goal

abbrev pub invariant-loop : goal.invariant-loop
invariant-loop g l = IsPassOf l.mail_box l.key × (view l.key ≡ view l.initial.key) × (l.letter ≡ l.initial.letter)
