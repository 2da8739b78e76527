use Rattle.ng_check.proofs.Answering.{book_of, checks_of, leaves_of}
use Rattle.ng_check.proofs.OwnAnswers.{own_err, own_ok}
use Rattle.ng_check.proofs.probing.probe.Goals as goal

pub returns-in-Ok-clause-checks : goal.returns-in-Ok-clause-checks
returns-in-Ok-clause-checks g c = checks_of g.N.Name.facts.start g.N.Name.facts.start.pages c.args.secret c.args.addr 16 c.new-reader.result c.check.new.reader c.args.hand.now c.check.new.hand c.new-reader.ensures.query c.check.ensures.goes _ (c.in-Ok.ensures.ok.passes, c.in-Ok.ensures.ok.is)

pub returns-in-Ok-clause-own : goal.returns-in-Ok-clause-own
returns-in-Ok-clause-own g c = own_ok g.N.Name.facts.start c.args.secret c.args.addr 16 c.new-reader.result c.check.new.reader c.args.hand.now c.check.new.hand c.new-reader.ensures.query c.check.ensures.goes c.new-reader.ensures.range c.check.ensures.cell _ c.in-Ok.ensures.ok.passes c.in-Ok.ensures.ok.is

pub returns-in-Ok-clause-leaves : goal.returns-in-Ok-clause-leaves
returns-in-Ok-clause-leaves g c = leaves_of g.N.Name.facts.start g.N.Name.facts.start.pages c.args.secret c.args.addr 16 c.new-reader.result c.check.new.reader c.args.hand.now c.check.new.hand c.new-reader.ensures.query c.check.ensures.goes

pub returns-in-Ok-clause-book : goal.returns-in-Ok-clause-book
returns-in-Ok-clause-book g c = book_of g.N.Name.facts.start g.N.Name.facts.start.pages c.args.secret c.args.addr 16 c.new-reader.result c.check.new.reader c.args.hand.now c.check.new.hand c.new-reader.ensures.query c.check.ensures.goes

pub returns-in-Err-clause-checks : goal.returns-in-Err-clause-checks
returns-in-Err-clause-checks g c = checks_of g.N.Name.facts.start g.N.Name.facts.start.pages c.args.secret c.args.addr 16 c.new-reader.result c.check.new.reader c.args.hand.now c.check.new.hand c.new-reader.ensures.query c.check.ensures.goes _ (c.in-Err.ensures.err, c.see.ensures)

pub returns-in-Err-clause-own : goal.returns-in-Err-clause-own
returns-in-Err-clause-own g c = own_err g.N.Name.facts.start c.args.secret c.args.addr 16 c.new-reader.result c.check.new.reader c.args.hand.now c.check.new.hand c.new-reader.ensures.query c.check.ensures.goes c.new-reader.ensures.range c.check.ensures.cell _ c.in-Err.ensures.err

pub returns-in-Err-clause-leaves : goal.returns-in-Err-clause-leaves
returns-in-Err-clause-leaves g c = leaves_of g.N.Name.facts.start g.N.Name.facts.start.pages c.args.secret c.args.addr 16 c.new-reader.result c.check.new.reader c.args.hand.now c.check.new.hand c.new-reader.ensures.query c.check.ensures.goes

pub returns-in-Err-clause-book : goal.returns-in-Err-clause-book
returns-in-Err-clause-book g c = book_of g.N.Name.facts.start g.N.Name.facts.start.pages c.args.secret c.args.addr 16 c.new-reader.result c.check.new.reader c.args.hand.now c.check.new.hand c.new-reader.ensures.query c.check.ensures.goes
