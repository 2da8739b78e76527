use Rattle.ng_resize.proofs.ShareLemmas.{cause_alone}
use Rattle.ng_resize.proofs.sharing.realloc.Goals as goal

pub returns-clause-cause : goal.returns-clause-cause
returns-clause-cause g c =
    cause_alone (g.P.Rules.count_gives c.deref_mut.result.now.rules) (g.P.Rules.keep_gives c.deref_mut.result.now.rules) g.M.Mapper.runs c.deref_mut.result.now c.realloc_in.new.core c.args.hand.now c.args.block c.args.n c.realloc_in.new.hand c.realloc_in.result c.realloc_in.ensures.cause
