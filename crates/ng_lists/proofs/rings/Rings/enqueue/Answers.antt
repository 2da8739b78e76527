use Rattle.std.proofs.Common.{arith, ◌*◌, ◌<◌, sym, ◌∙◌}
use Rattle.ng_lists.proofs.rings.Rings.enqueue.Goals as goal
use Rattle.ng_lists.proofs.EnqueueLemmas.{as_first, at_end, last_inside, shown_appended}
use Rattle.ng_lists.proofs.SoundLemmas.{still_sound}
use Rattle.ng_lists.proofs.rings.Rings.enqueue.Goals.{then-from-class, else-from-class}

pub join-requires-clause-from : goal.join-requires-clause-from
join-requires-clause-from c =
    let inside : c.index-last.result.now < 101 * c.self.inside.pages =
    last_inside c.self.invariant c.self.view_is c.requires.class c.index-head.ensures c.index.ensures (sym c.from.ensures ∙ c.if-from-class.true) c.index-last.ensures in
    omega (arith, inside, c.self.invariant.nexts)

pub invariant_of-self : goal.invariant_of-self
invariant_of-self c = elim c.if-from-class.branch [
  | then-from-class w ↦
      let changes = at_end c.self.invariant c.self.view_is c.requires.class c.index-head.ensures c.index.ensures c.requires.place c.requires.absent c.index_of-index.ensures (sym c.from.ensures ∙ w.if-from-class.true) w.index-last.ensures in
      rw w.self-inside-is (rw (w.join-then-from-class.ensures.next, w.join-then-from-class.ensures.prev, w.join.ensures.next, w.join.ensures.prev) (still_sound c.self.invariant c.requires.class changes))
  | else-from-class w ↦
      let changes = as_first c.self.invariant c.self.view_is c.requires.class c.index-head.ensures c.index.ensures c.requires.place c.requires.absent c.index_of-index.ensures (λ same. w.if-from-class.false (c.from.ensures ∙ same)) in
      rw w.self-inside-is (rw (w.join-else-from-class.ensures.next, w.join-else-from-class.ensures.prev) (still_sound c.self.invariant c.requires.class changes))
]

pub returns : goal.returns
returns c = elim c.if-from-class.branch [
  | then-from-class w ↦
      let changes = at_end c.self.invariant c.self.view_is c.requires.class c.index-head.ensures c.index.ensures c.requires.place c.requires.absent c.index_of-index.ensures (sym c.from.ensures ∙ w.if-from-class.true) w.index-last.ensures in
      rw w.self-inside-is (rw (w.join-then-from-class.ensures.next, w.join.ensures.next) (record { appended = shown_appended c.self.invariant c.self.view_is c.requires.class c.index-head.ensures c.index.ensures c.requires.place c.requires.absent c.index_of-index.ensures changes }))
  | else-from-class w ↦
      let changes = as_first c.self.invariant c.self.view_is c.requires.class c.index-head.ensures c.index.ensures c.requires.place c.requires.absent c.index_of-index.ensures (λ same. w.if-from-class.false (c.from.ensures ∙ same)) in
      rw w.self-inside-is (rw (w.join-else-from-class.ensures.next) (record { appended = shown_appended c.self.invariant c.self.view_is c.requires.class c.index-head.ensures c.index.ensures c.requires.place c.requires.absent c.index_of-index.ensures changes }))
]
