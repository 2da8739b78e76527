use Rattle.std.proofs.Common.{◌∙◌}
use Rattle.ng_plan.proofs.names.mention.Goals as goal

pub returns-clause-known : goal.returns-clause-known
returns-clause-known c = record {
  ends = λ name is. c.add-2.ensures.kept name (c.in_ok-add.ensures.known name (c.ended.ensures ∙ is));
  makes = λ name is. c.in_ok-add-2.ensures.known name (c.made.ensures ∙ is);
}

pub returns-clause-kept : goal.returns-clause-kept
returns-clause-kept c = λ name held. c.add-2.ensures.kept name (c.add.ensures.kept name held)
