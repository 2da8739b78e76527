use Rattle.std.proofs.Common.{sym, subst, refl}
use Rattle.std.specs.Prelude.{IfNone}
use Rattle.ng_serve.specs.Choices.{FindsBare}
use Rattle.ng_serve.proofs.Fields.{group_index, inside_then}
use Rattle.ng_serve.proofs.Looks.{finds_bare, lives_noted, inside_noted, looks_choice, looks_notes}
use Rattle.ng_serve.proofs.choosing.look.Goals as goal

pub returns-in_err-lowest-clause-none : goal.returns-in_err-lowest-clause-none
returns-in_err-lowest-clause-none g c =
    subst (λ r. IfNone r (FindsBare c.args.seat.now c.args.meta c.freed_mask-freed.new.seat)) (sym c.from_residual.ensures) (finds_bare _ _ c.args.meta _ c.freed_mask-freed.ensures (c.in_err-lowest.ensures.none.0 refl))

pub returns-in_err-lowest-clause-notes : goal.returns-in_err-lowest-clause-notes
returns-in_err-lowest-clause-notes g c = record { words = _; noted = c.freed_mask-freed.ensures.noted }

pub active_index-active-requires-clause-group : goal.active_index-active-requires-clause-group
active_index-active-requires-clause-group g c =
    group_index _ _ c.args.meta _ (lives_noted _ _ c.args.meta _ c.freed_mask-freed.ensures.noted c.requires.live) c.group_of-group.ensures.group c.group_of-group.ensures.reads

pub active_index-active-requires-clause-inside : goal.active_index-active-requires-clause-inside
active_index-active-requires-clause-inside g c =
    inside_then _ _ _ c.group_of-group.ensures.reads (inside_noted _ _ _ _ c.freed_mask-freed.ensures.noted c.requires.inside)

pub returns-clause-notes : goal.returns-clause-notes
returns-clause-notes g c = looks_notes _ _ _ _ c.args.meta _ _ c.freed_mask-freed.ensures c.in_ok-lowest.ensures.lowest c.group_of-group.ensures.reads c.active_index-active.ensures.reads

pub returns-clause-freed : goal.returns-clause-freed
returns-clause-freed g c = looks_choice _ _ _ _ c.args.meta _ _ c.freed_mask-freed.ensures c.in_ok-lowest.ensures.lowest c.group_of-group.ensures.reads c.active_index-active.ensures.reads
