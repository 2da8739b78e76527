use Rattle.ng_words.proofs.ClapLemmas.{free_along, simple_for}
use Rattle.ng_words.proofs.reading.matches_of.Goals as goal

pub parsed-requires : goal.parsed-requires
parsed-requires c = free_along _ _ c.in-Ok.ensures (simple_for c.args.verb)
