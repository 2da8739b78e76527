use Rattle.ng_words.proofs.ListLemmas.{listed_none, listed_some}
use Rattle.ng_words.proofs.texts.list.Goals as goal

pub returns-clause-some : goal.returns-clause-some
returns-clause-some c = listed_some _ _ c.listed.ensures

pub returns-clause-none : goal.returns-clause-none
returns-clause-none c = listed_none _ _ c.listed.ensures
