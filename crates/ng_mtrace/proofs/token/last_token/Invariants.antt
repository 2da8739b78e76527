use Rattle.std.proofs.Common.{◌≡◌, ℕ, ◌<◌, ◌≤◌, length, take, get_or, false}
use Rattle.ng_mtrace.specs.Tokens.{is_blank, tokens_of}
use Rattle.ng_mtrace.proofs.token.last_token.Given as goal

-- what stands behind the end has no token
abbrev pub invariant-loop-end : goal.invariant-loop-end
invariant-loop-end l = record {
  within : l.end ≤ length l.line;
  same : tokens_of (take l.end l.line) ≡ tokens_of l.line;
}

abbrev pub decreases-loop-end : goal.decreases-loop-end
decreases-loop-end l = l.end

-- from the start to the end no byte is blank
abbrev pub invariant-loop-start : goal.invariant-loop-start
invariant-loop-start l = record {
  within : l.start < l.end;
  filled : (k : ℕ) → l.start ≤ k → k < l.end → is_blank (get_or l.line k 0) ≡ false;
}

abbrev pub decreases-loop-start : goal.decreases-loop-start
decreases-loop-start l = l.start
