use Rattle.std.proofs.Common.{◌≡◌, ℕ, ◌+◌, ◌≤◌, List, ◌++◌, length}
use Rattle.ng_script.specs.PartScript.{IsReady, faults_left, script_left, room_left}
use Rattle.ng_script.proofs.part_script.PartScript.feed.Given as goal

-- what is read and what comes are what was read and came before
abbrev pub invariant-loop-part : goal.invariant-loop-part
invariant-loop-part l = record {
  ready : IsReady l.self;
  faults : (more : List ℕ) → faults_left l.self (l.rest ++ more) ≡ faults_left l.fn.self (l.piece ++ more);
  script : (more : List ℕ) → script_left l.self (l.rest ++ more) ≡ script_left l.fn.self (l.piece ++ more);
  progress : room_left l.self + length l.piece ≤ room_left l.fn.self + length l.rest;
}

abbrev pub decreases-loop-part : goal.decreases-loop-part
decreases-loop-part l = length l.rest
