use Rattle.ng_mtrace.proofs.Parts.{first_byte-position}
use Rattle.ng_mtrace.proofs.text.place_of.Goals as goal

pub returns : goal.returns
returns c = first_byte-position c.args.wanted c.args.text.now c.memchr.result c.memchr.ensures
