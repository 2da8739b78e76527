use Rattle.ng_shelf.proofs.ShownLemmas.{meta_low, put_behind, put_first, shown_appended, still}
use Rattle.ng_shelf.proofs.free_metas.FreeMetas.put.Goals as goal
use Rattle.ng_shelf.proofs.free_metas.FreeMetas.put.Goals.{then-is_empty, else-is_empty}

pub index_of-index-requires-clause-low : goal.index_of-index-requires-clause-low
index_of-index-requires-clause-low c = meta_low c.self.invariant c.self.view_is c.requires.place

pub invariant_of-self : goal.invariant_of-self
invariant_of-self c = elim c.if-is_empty.branch [
  | then-is_empty w ↦
      let step = put_first c.self.invariant c.self.view_is c.requires.place c.requires.absent c.index_of-index.ensures c.index.ensures w.if-is_empty.true in
      rw w.self-inside-is (still c.self.invariant c.self.view_is c.requires.place c.requires.absent c.index_of-index.ensures step)
  | else-is_empty w ↦
      let step = put_behind c.self.invariant c.self.view_is c.requires.place c.requires.absent c.index_of-index.ensures c.index.ensures w.if-is_empty.false in
      rw w.self-inside-is (still c.self.invariant c.self.view_is c.requires.place c.requires.absent c.index_of-index.ensures step)
]

pub returns : goal.returns
returns c = elim c.if-is_empty.branch [
  | then-is_empty w ↦
      let step = put_first c.self.invariant c.self.view_is c.requires.place c.requires.absent c.index_of-index.ensures c.index.ensures w.if-is_empty.true in
      rw w.self-inside-is (record { appended = shown_appended c.self.invariant c.self.view_is c.requires.place c.requires.absent c.index_of-index.ensures step })
  | else-is_empty w ↦
      let step = put_behind c.self.invariant c.self.view_is c.requires.place c.requires.absent c.index_of-index.ensures c.index.ensures w.if-is_empty.false in
      rw w.self-inside-is (record { appended = shown_appended c.self.invariant c.self.view_is c.requires.place c.requires.absent c.index_of-index.ensures step })
]
