-- The commands that were done so far.
use Rattle.std.proofs.Common.{◌≡◌, ◌≢◌, ℕ, ◌+◌, ◌*◌, ◌/◌, ◌%◌, ◌<◌, ◌≤◌, List, [], ◌∷◌, ◌++◌, length, get_or, replicate, refl, sym, ap, ◌∙◌, subst, arith}
use Rattle.std.proofs.lemmas.List.{append-nil, append_assoc, get_or-replicate, length-replicate, get_or_default, get_or_past}
use Rattle.std.specs.Prelude.{Option, Some, None}
use Rattle.ng_script.specs.declared.command.Command.{Command}
use Rattle.ng_script.specs.declared.command.Command.TheVariants as command
use Rattle.ng_space.specs.Blocks.{BlockToken}
use Rattle.ng_space.specs.Callers.{Caller}
use Rattle.ng_terms.specs.Heap.{large}
use Rattle.ng_terms.specs.declared.entry.Entry.{Entry}
use Rattle.ng_drill.specs.Caps.{AskedBy, IsCapOf, size_of}
use Rattle.ng_drill.specs.Desks.{AreStanding, IsAt, IsIndexed}
use Rattle.ng_drill.specs.States.{State, first_state}
use Rattle.ng_drill.specs.Steps.{IsStep, entries_of}
use Rattle.ng_drill.specs.Transcripts.{Answers}
use Rattle.ng_drill.specs.declared.answer.Answer.{Answer}
use Rattle.ng_drill.specs.declared.desk.Desk.{Desk}

-- one command more has its answer
pub answers_more : (pages : ℕ) (before : State) (commands : List Command) (answers : List Answer) (entries : List Entry) (between : State) (last : Command) (reply : Answer) (after : State)
    → Answers pages before commands answers entries between → IsStep pages between last reply after
    → Answers pages before (commands ++ last ∷ []) (answers ++ reply ∷ []) (entries ++ entries_of between.names last reply) after
answers_more pages before [] [] entries between last reply after none step = (
  after,
  [],
  subst (λ s. IsStep pages s last reply after) none.1 step,
  ap (λ es. es ++ entries_of between.names last reply) none.0 ∙ ap (λ (s : State). entries_of s.names last reply) none.1 ∙ sym (append-nil (entries_of before.names last reply)),
  (refl, refl),
)
answers_more pages before (c ∷ commands) (a ∷ answers) entries between last reply after so_far step = (
  so_far.0,
  so_far.1 ++ entries_of between.names last reply,
  so_far.2,
  ap (λ es. es ++ entries_of between.names last reply) so_far.3 ∙ append_assoc (entries_of before.names c a) so_far.1 (entries_of between.names last reply),
  answers_more pages so_far.0 commands answers so_far.1 between last reply after so_far.4 step,
)
answers_more pages before [] (a ∷ answers) entries between last reply after so_far step = absurd so_far
answers_more pages before (c ∷ commands) [] entries between last reply after so_far step = absurd so_far

-- what a command asks for is at most the cap
pub within_cap : (commands : List Command) (cap k : ℕ) (d : Command) → IsCapOf commands cap → k < length commands → size_of (get_or commands k d) < large → size_of (get_or commands k d) ≤ cap
within_cap commands cap k d is lt small = by_command (get_or commands k d) refl small
  where
    by_command : (c : Command) → get_or commands k d ≡ c → size_of c < large → size_of c ≤ cap
    by_command (command.Malloc name size) same small = is.greatest size (record {
      command = command.Malloc name size;
      there = (k, lt, get_or_default commands k (command.Malloc name size) d lt ∙ same);
      asks = (name, refl);
      small = small;
    })
    by_command (command.Free place) same small = omega arith
    by_command (command.Write name offset byte) same small = omega arith
    by_command (command.Usable name) same small = omega arith

-- before the first command
pub starts : {N : Type 0} (names : ℕ) (hand : Caller) (desk : Desk N) → desk.names.items ≡ replicate names None → desk.held.items ≡ [] → IsAt hand desk (first_state names)
starts {N} names hand desk none held = record {
  names = sym none;
  blocks = subst (λ (xs : List BlockToken). AreStanding hand xs []) (sym held) (record {
    each = λ k d lt. absurd (omega arith);
    none = λ at none. refl;
    apart = λ k j d lk lj ne. absurd (omega arith);
  });
}

pub indexed_none : (held : List BlockToken) (places : List (Option ℕ)) (count : ℕ) → held ≡ [] → places ≡ replicate count None → IsIndexed held places
indexed_none held places count no_block no_place = rw (no_block, no_place) (record {
  each = λ k d lt. absurd (omega arith);
  back = λ p k is. absurd (let e : None ≡ Some k = sym (nothing p) ∙ is in cc);
  whole = λ k d lt. absurd (omega arith);
})
  where
    nothing : (p : ℕ) → get_or {A = Option ℕ} (replicate count None) p None ≡ None
    nothing p = grind (arith, get_or-replicate, get_or_past, length-replicate)
