use Rattle.std.proofs.Common.{◌<◌, length, arith}
use Rattle.ng_group.proofs.WordLemmas.{word_place}
use Rattle.ng_group.proofs.words.follow.Goals as goal

pub set_active-requires-clause-meta : goal.set_active-requires-clause-meta
set_active-requires-clause-meta g c =
    let known : c.args.class < length c.args.rings.now.rings = (let k = c.requires.class in let l = c.stand_once.ensures.classes in omega arith) in
    word_place c.args.rings.now c.args.class g.N.Name.facts.start.pages c.first_word-first.result known c.stand_once.ensures.places c.requires.pages c.first_word-first.ensures
