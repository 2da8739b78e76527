use Rattle.ng_group.proofs.OpeningLemmas.{blanked_at, handed_at, settled_at}
use Rattle.ng_group.proofs.heap_core.Core.close.Goals as goal

pub returns-clause-settled : goal.returns-clause-settled
returns-clause-settled g c = settled_at g.N.Name.facts.start g.M.Mapper.span g.M.Mapper.runs g.M.Mapper.refused c.self.view_is c.self.invariant.0

pub returns-clause-blanked : goal.returns-clause-blanked
returns-clause-blanked g c = blanked_at g.N.Name.facts.start g.M.Mapper.span g.M.Mapper.runs g.M.Mapper.refused c.self.view_is c.self.invariant.0

pub returns-clause-left : goal.returns-clause-left
returns-clause-left g c = handed_at g.N.Name.facts g.M.Mapper.span g.M.Mapper.runs g.M.Mapper.refused g.met.M.Mapper.laid c.self.view_is c.self.invariant.0 c.self.invariant.1
