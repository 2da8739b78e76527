use Rattle.std.proofs.Common.{◌≡◌, ℕ, ◌<◌, ◌≤◌, List, vec_len}
use Rattle.ng_mtrace.specs.Streams.{put_back}
use Rattle.ng_script.specs.PartScript.{IsReady, room_left}
use Rattle.ng_script.proofs.ReadLemmas.{Stands}
use Rattle.ng_script.proofs.reading.read_script.Given as goal

-- what was read stands for the bytes taken
abbrev pub invariant-loop-count : goal.invariant-loop-count
invariant-loop-count g l = record {
  ready : IsReady l.part;
  bytes : List ℕ;
  taken : g.I.Source.left l.initial.input ≡ put_back bytes (g.I.Source.left l.input);
  stands : Stands l.part bytes;
  wide : 0 < vec_len l.piece;
  exact : g.I.Source.exact → g.I.Source.faults l.input ≡ g.I.Source.faults l.initial.input;
  later : g.I.Source.faults l.initial.input ≤ g.I.Source.faults l.input;
}

abbrev pub decreases-loop-count : goal.decreases-loop-count
decreases-loop-count g l = room_left l.part
