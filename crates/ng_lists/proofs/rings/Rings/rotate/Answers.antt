use Rattle.ng_lists.proofs.rings.Rings.rotate.Goals as goal
use Rattle.ng_lists.proofs.DequeueLemmas.{begun_with, shown_rotated}
use Rattle.ng_lists.proofs.ShownLemmas.{member_of, meta_behind_head, meta_low}
use Rattle.ng_lists.proofs.SoundLemmas.{still_sound}

pub index_of-requires-clause-low : goal.index_of-requires-clause-low
index_of-requires-clause-low c =
    meta_low c.self.invariant c.self.view_is c.args.class c.args.meta (member_of c.self.invariant c.self.view_is c.args.class c.args.meta c.requires.class c.requires.member)

pub index_of-requires-clause-behind_head : goal.index_of-requires-clause-behind_head
index_of-requires-clause-behind_head c =
    meta_behind_head c.self.invariant c.self.view_is c.args.class c.args.meta (member_of c.self.invariant c.self.view_is c.args.class c.args.meta c.requires.class c.requires.member)

pub invariant_of-self : goal.invariant_of-self
invariant_of-self c =
    still_sound c.self.invariant c.requires.class (begun_with c.self.invariant c.self.view_is c.requires.class c.args.meta c.index_of.ensures c.requires.member)

pub returns : goal.returns
returns c =
    record { rotated = shown_rotated c.self.invariant c.self.view_is c.requires.class c.args.meta c.index_of.ensures c.requires.member }
