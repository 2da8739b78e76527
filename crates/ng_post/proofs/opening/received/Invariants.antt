use Rattle.std.proofs.Common.{◌≡◌, ◌≤◌, take}
use Rattle.ng_post.specs.Opened.{received_by}
use Rattle.ng_post.proofs.opening.received.Given as goal

abbrev pub invariant-loop-receiver : goal.invariant-loop-receiver
invariant-loop-receiver l = (l.count ≡ received_by (take l.receiver-index l.receivers) l.log) × (l.count ≤ l.receiver-index)
