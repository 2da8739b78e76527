use Rattle.std.proofs.Common.{arith, ◌*◌, ◌<◌}
use Rattle.ng_lists.proofs.rings.Rings.dequeue.Goals as goal
use Rattle.ng_lists.proofs.DequeueLemmas.{first_removed, index_inside, later_removed, next_inside, prev_inside, shown_removed}
use Rattle.ng_lists.proofs.ShownLemmas.{member_of, meta_behind_head, meta_low}
use Rattle.ng_lists.proofs.SoundLemmas.{still_sound}
use Rattle.ng_lists.proofs.rings.Rings.dequeue.Goals.{then-head-index, else-head-index}

pub index_of-index-requires-clause-low : goal.index_of-index-requires-clause-low
index_of-index-requires-clause-low c =
    meta_low c.self.invariant c.self.view_is c.args.class c.args.meta (member_of c.self.invariant c.self.view_is c.args.class c.args.meta c.requires.class c.requires.member)

pub index_of-index-requires-clause-behind_head : goal.index_of-index-requires-clause-behind_head
index_of-index-requires-clause-behind_head c =
    meta_behind_head c.self.invariant c.self.view_is c.args.class c.args.meta (member_of c.self.invariant c.self.view_is c.args.class c.args.meta c.requires.class c.requires.member)

pub index-before-requires : goal.index-before-requires
index-before-requires c =
    let inside : c.index_of-index.result < 101 * c.self.inside.pages =
    index_inside c.self.invariant c.self.view_is c.requires.class c.args.meta c.index_of-index.ensures c.requires.member in
    omega (arith, c.self.invariant.prevs)

pub index-after-requires : goal.index-after-requires
index-after-requires c =
    let inside : c.index_of-index.result < 101 * c.self.inside.pages =
    index_inside c.self.invariant c.self.view_is c.requires.class c.args.meta c.index_of-index.ensures c.requires.member in
    omega (arith, c.self.invariant.nexts)

pub join-requires-clause-from : goal.join-requires-clause-from
join-requires-clause-from c =
    let before : c.index-before.result.now < 101 * c.self.inside.pages =
    prev_inside c.self.invariant c.self.view_is c.requires.class c.args.meta c.index_of-index.ensures c.requires.member c.index-before.ensures in
    let after : c.index-after.result.now < 101 * c.self.inside.pages =
    next_inside c.self.invariant c.self.view_is c.requires.class c.args.meta c.index_of-index.ensures c.requires.member c.index-after.ensures in
    omega (arith, c.self.invariant.nexts)

pub join-requires-clause-to : goal.join-requires-clause-to
join-requires-clause-to c =
    let before : c.index-before.result.now < 101 * c.self.inside.pages =
    prev_inside c.self.invariant c.self.view_is c.requires.class c.args.meta c.index_of-index.ensures c.requires.member c.index-before.ensures in
    let after : c.index-after.result.now < 101 * c.self.inside.pages =
    next_inside c.self.invariant c.self.view_is c.requires.class c.args.meta c.index_of-index.ensures c.requires.member c.index-after.ensures in
    omega (arith, c.self.invariant.prevs)

pub index_mut-requires-2 : goal.index_mut-requires-2
index_mut-requires-2 c =
    let inside : c.index_of-index.result < 101 * c.self.inside.pages =
    index_inside c.self.invariant c.self.view_is c.requires.class c.args.meta c.index_of-index.ensures c.requires.member in
    elim c.if-head-index.branch [
      | then-head-index w ↦ rw w.self-inside-is (omega (arith, c.self.invariant.all_marks))
      | else-head-index w ↦ rw w.self-inside-is (omega (arith, c.self.invariant.all_marks))
    ]

pub invariant_of-self : goal.invariant_of-self
invariant_of-self c = elim c.if-head-index.branch [
  | then-head-index w ↦
      let changes = first_removed c.self.invariant c.self.view_is c.requires.class c.args.meta c.index_of-index.ensures c.requires.member c.index-head.ensures c.index-before.ensures c.index-after.ensures w.if-head-index.true in
      rw w.self-inside-is (rw (c.join.ensures.next, c.join.ensures.prev) (still_sound c.self.invariant c.requires.class changes))
  | else-head-index w ↦
      let changes = later_removed c.self.invariant c.self.view_is c.requires.class c.args.meta c.index_of-index.ensures c.requires.member c.index-head.ensures c.index-before.ensures c.index-after.ensures w.if-head-index.false in
      rw w.self-inside-is (rw (c.join.ensures.next, c.join.ensures.prev) (still_sound c.self.invariant c.requires.class changes))
]

pub returns : goal.returns
returns c = elim c.if-head-index.branch [
  | then-head-index w ↦
      let changes = first_removed c.self.invariant c.self.view_is c.requires.class c.args.meta c.index_of-index.ensures c.requires.member c.index-head.ensures c.index-before.ensures c.index-after.ensures w.if-head-index.true in
      rw w.self-inside-is (rw (c.join.ensures.next) (record { removed = shown_removed c.self.invariant c.self.view_is c.requires.class c.args.meta c.index_of-index.ensures c.requires.member changes }))
  | else-head-index w ↦
      let changes = later_removed c.self.invariant c.self.view_is c.requires.class c.args.meta c.index_of-index.ensures c.requires.member c.index-head.ensures c.index-before.ensures c.index-after.ensures w.if-head-index.false in
      rw w.self-inside-is (rw (c.join.ensures.next) (record { removed = shown_removed c.self.invariant c.self.view_is c.requires.class c.args.meta c.index_of-index.ensures c.requires.member changes }))
]
