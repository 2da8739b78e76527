use Rattle.std.proofs.Common.{◌≡◌, ℕ, ◌+◌, ◌-◌, ◌<◌, ◌≤◌, length, take, vec_len}
use Rattle.std.specs.Prelude.{vec_capacity}
use Rattle.ng_drill.specs.Desks.{IsAt, IsDesk}
use Rattle.ng_drill.specs.States.{State, first_state}
use Rattle.ng_drill.specs.Transcripts.{Answers}
use Rattle.ng_drill.proofs.drilling.drill.Given as goal

abbrev pub invariant-loop-command : goal.invariant-loop-command
invariant-loop-command g l = record {
  so_far : (state : State) × Answers g.N.Name.facts.start.pages (first_state l.script.names) (take l.command-index l.command-items) l.answers.items l.hand.entries state × IsAt l.hand l.desk state;
  desk : IsDesk g.N.Name.facts.start.pages l.script.names l.desk;
  spare : length l.command-items ≤ l.hand.spare + l.command-index;
  held : length l.desk.held.items ≤ l.command-index;
  room : vec_capacity l.desk.held ≡ vec_capacity l.initial.desk.held;
  answers : vec_len l.answers ≡ l.command-index;
  answers_room : vec_capacity l.answers ≡ vec_capacity l.initial.answers;
  number : l.hand.number ≡ l.initial.hand.number;
  sent : l.hand.view.sent ≡ l.initial.hand.view.sent;
  taken : l.hand.view.taken ≡ l.initial.hand.view.taken;
}
