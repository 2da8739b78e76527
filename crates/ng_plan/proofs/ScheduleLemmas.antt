-- A schedule and its turns, where a claim looks for a block.
use Rattle.std.proofs.Common.{◌≡◌, ℕ, List, [], ◌∷◌, ◌++◌, length, Option, Some, None, eqb, get_or, refl, sym, ap, ◌∙◌, subst, ⊎_elim}
use Rattle.std.specs.Option.{option_map}
use Rattle.std.proofs.lemmas.Bool.{cases_Bool, eqb-true}
use Rattle.std.proofs.lemmas.List.{map-append}
use Rattle.std.specs.declared.vec.Vec.{Vec}
use Rattle.std.specs.declared.alloc.Global.{Global}
use Rattle.ng_plan.specs.declared.queues.Queues.{Queues}
use Rattle.ng_plan.specs.declared.schedule.Schedule.{Schedule}
use Rattle.ng_plan.specs.declared.step.Place.{Place}
use Rattle.ng_plan.specs.Blocks.{AreQueues}
use Rattle.ng_plan.specs.Schedules.{AreTurns, handed_over}
use Rattle.ng_plan.specs.Turns.{Posted, HandOff, Turns, earliest, without, next_place}

some_none : (place : Place) → Some place ≡ None → ⊥
some_none place same = cc

some_block : (block : Posted) → Some block ≡ None → ⊥
some_block block same = cc

some_same : (block other : Posted) → Some block ≡ Some other → block ≡ other
some_same block other same = cc

same_place : (place other : Place) → Some place ≡ Some other → place ≡ other
same_place place other same = cc

-- where no block has the name, all are left
pub without_none : (name : ℕ) (blocks : List Posted) → earliest name blocks ≡ None → without name blocks ≡ blocks
without_none name [] none = refl
without_none name (block ∷ blocks) none = ⊎_elim
    (λ yes. absurd (some_block block (rw yes at none)))
    (λ other. rw other (ap (λ (bs : List Posted). block ∷ bs) (without_none name blocks (rw other at none))))
    (cases_Bool (eqb block.name name))

-- the earliest block of a name has the name
pub earliest_named : (name : ℕ) (blocks : List Posted) (block : Posted) → earliest name blocks ≡ Some block → block.name ≡ name
earliest_named name [] block is = absurd (some_block block (sym is))
earliest_named name (first ∷ blocks) block is = ⊎_elim
    (λ yes. let same : first ≡ block = some_same first block (rw yes at is) in ap (λ (b : Posted). b.name) (sym same) ∙ eqb-true first.name name yes)
    (λ other. earliest_named name blocks block (rw other at is))
    (cases_Bool (eqb first.name name))

-- no block was found
pub nothing_found : (names : List ℕ) (schedule : Schedule) (queues : Queues) (turns : Turns) (log name : ℕ) (found : Option Posted) → earliest name turns.posted ≡ found → None ≡ option_map (λ (block : Posted). block.maker) found → AreTurns names schedule turns → length names ≡ length queues.each.items → AreQueues names queues.each.items (without name turns.posted) → AreTurns names (record schedule { queues = queues }) (handed_over turns log found)
nothing_found names schedule queues turns log name (Some block) found_is none are long left = absurd (some_none block.maker (sym none))
nothing_found names schedule queues turns log name None found_is none are long left = record {
  rising = are.rising;
  long = long;
  done = are.done;
  queues = subst (AreQueues names queues.each.items) (without_none name turns.posted found_is) left;
  makers = are.makers;
  takers = are.takers;
  order = are.order;
}

-- a block was found, and is handed over
pub block_found : (names : List ℕ) (schedule : Schedule) (queues : Queues) (makers takers : Vec Place Global) (maker : Place) (turns : Turns) (log name : ℕ) (found : Option Posted) → earliest name turns.posted ≡ found → Some maker ≡ option_map (λ (block : Posted). block.maker) found → AreTurns names schedule turns → length names ≡ length queues.each.items → AreQueues names queues.each.items (without name turns.posted) → makers.items ≡ schedule.makers.items ++ maker ∷ [] → takers.items ≡ schedule.takers.items ++ record { log = log; op = get_or schedule.done.items log 0 } ∷ [] → AreTurns names (record schedule { queues = queues; makers = makers; takers = takers }) (handed_over turns log found)
block_found names schedule queues makers takers maker turns log name None found_is taken are long left made took = absurd (some_none maker taken)
block_found names schedule queues makers takers maker turns log name (Some block) found_is taken are long left made took =
    let handoff : HandOff = record { maker = block.maker; taker = next_place turns log } in
    record {
      rising = are.rising;
      long = long;
      done = are.done;
      queues = subst (λ (n : ℕ). AreQueues names queues.each.items (without n turns.posted)) (sym (earliest_named name turns.posted block found_is)) left;
      makers = made ∙ ap (λ (m : Place). schedule.makers.items ++ m ∷ []) (same_place maker block.maker taken) ∙ ap (λ (ms : List Place). ms ++ block.maker ∷ []) are.makers ∙ sym (map-append (λ (h : HandOff). h.maker) turns.handoffs (handoff ∷ []));
      takers = took ∙ ap (λ (done : List ℕ). schedule.takers.items ++ record { log = log; op = get_or done log 0 } ∷ []) are.done ∙ ap (λ (ts : List Place). ts ++ next_place turns log ∷ []) are.takers ∙ sym (map-append (λ (h : HandOff). h.taker) turns.handoffs (handoff ∷ []));
      order = are.order;
    }
