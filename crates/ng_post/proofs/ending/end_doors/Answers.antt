use Rattle.std.proofs.Common.{◌≡◌, ◌∙◌, ◌+◌, ◌∷◌, ◌++◌, List, [], ap, append-nil, append_assoc, arith, drop, length, length-drop, refl, rules, subst, sym}
use Rattle.std.proofs.lemmas.List.{length_push}
use Rattle.std.specs.Vec.Iter.{into_iter_items}
use Rattle.ng_post.specs.declared.boxes.Door.{Door}
use Rattle.ng_post.specs.Doors.{AreLeads, IsDoorOf}
use Rattle.ng_post.specs.Ending.{HaveEnded}
use Rattle.ng_post.proofs.EndingLemmas.{may_end, none_ended, one_more_ended}
use Rattle.ng_post.proofs.Rows.{next_item}
use Rattle.ng_post.proofs.ending.end_doors.Goals as goal

pub end_passes-requires : goal.end_passes-requires
end_passes-requires g c =
    let boxes = c.args.boxes.now in
    let door : Door g.row.N.Denot = c.remove-log.result in
    let are = c.requires.doors in
    let leads : AreLeads boxes door.leads.items =
    (subst (λ x. IsDoorOf boxes x) (sym c.remove-log.ensures.value) (are.each 0 door c.requires.some)).leads
    (ap (λ (x : Door g.row.N.Denot). x.log) c.remove-log.ensures.value ∙ are.logs 0 door c.requires.some) in
    may_end boxes c.args.doors.items 0 door door.leads.items are (none_ended boxes c.args.doors.items door.leads.items leads) c.requires.some c.remove-log.ensures.value

pub loop-door-init : goal.loop-door-init
loop-door-init g c =
    let boxes = c.args.boxes.now in
    let door : Door g.row.N.Denot = c.remove-log.result in
    let are = c.requires.doors in
    let leads : AreLeads boxes door.leads.items =
    (subst (λ x. IsDoorOf boxes x) (sym c.remove-log.ensures.value) (are.each 0 door c.requires.some)).leads
    (ap (λ (x : Door g.row.N.Denot). x.log) c.remove-log.ensures.value ∙ are.logs 0 door c.requires.some) in
    record {
      all = c.into_iter-door-iterator.ensures.into_iter_gives.0 ∙ c.remove-log.ensures.by_index.2;
      count = search rules;
      ended = one_more_ended boxes c.args.doors.items 0 door door.leads.items c.end_passes.new.leads.items are
          (none_ended boxes c.args.doors.items door.leads.items leads) c.requires.some c.remove-log.ensures.value c.end_passes.ensures;
    }

pub end_passes-requires-in-loop-door : goal.end_passes-requires-in-loop-door
end_passes-requires-in-loop-door g c =
    let was = c.loop-door.invariant in
    let door : Door g.row.N.Denot = c.in-Some.door in
    let next = next_item c.loop-door.yielded door (into_iter_items c.next.new.self) c.args.doors.items
    (ap (λ l. c.loop-door.yielded ++ l) (sym c.in-Some.ensures.steps.0) ∙ was.all) in
    may_end c.args.boxes.now c.args.doors.items (length c.loop-door.yielded + 1) door c.loop-door.leads.items c.requires.doors was.ended next.1 next.0

pub loop-door-preserved : goal.loop-door-preserved
loop-door-preserved g c =
    let was = c.loop-door.invariant in
    let door : Door g.row.N.Denot = c.in-Some.door in
    let yielded = c.loop-door.yielded in
    let whole = ap (λ l. yielded ++ l) (sym c.in-Some.ensures.steps.0) ∙ was.all in
    let next = next_item yielded door (into_iter_items c.next.new.self) c.args.doors.items whole in
    record {
      all = append_assoc yielded (door ∷ []) (into_iter_items c.next.new.self) ∙ whole;
      count = let gone = c.in-Some.ensures.steps.1 in let short = ap length c.in-Some.ensures.steps.0 in omega (arith, was.count, gone, short);
      ended = rw (length_push yielded door)
          (one_more_ended c.args.boxes.now c.args.doors.items (length yielded + 1) door c.loop-door.leads.items c.end_passes-in-loop-door.new.leads.items c.requires.doors was.ended next.1 next.0
          c.end_passes-in-loop-door.ensures);
    }

nothing_left : {X : Type 0} (l : List X) → length l ≡ 0 → l ≡ []
nothing_left [] h = refl
nothing_left (x ∷ xs) h = absurd (omega arith)

pub returns : goal.returns
returns g c =
    let was = c.loop-door.invariant in
    let doors = c.args.doors.items in
    let yielded = c.loop-door.yielded in
    let empty : into_iter_items c.loop-door.door-iterator ≡ [] = nothing_left _ (sym was.count ∙ c.in-None.ensures.steps.0) in
    let whole : yielded ≡ drop 1 doors = sym (append-nil yielded) ∙ rw empty at was.all in
    let long : length yielded + 1 ≡ length doors = omega (arith, ap length whole, length-drop 1 doors, c.requires.some) in
    subst (λ n. HaveEnded c.args.boxes.now doors n c.loop-door.leads.items) long was.ended
