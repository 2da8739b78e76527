use Rattle.ng_tool.proofs.asked.asked.Goals as goal

pub returns-in-Err-clause-usage : goal.returns-in-Err-clause-usage
returns-in-Err-clause-usage c = λ is verb served. c.in-Err.ensures.usage is verb
