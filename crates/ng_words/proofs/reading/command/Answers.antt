use Rattle.clap.specs.Words.{found_of}
use Rattle.ng_words.proofs.WordLemmas.{is_command, means_too, not_taken}
use Rattle.ng_words.proofs.reading.command.Goals as goal
use Rattle.ng_words.specs.Words.{texts_of}

pub returns-in_default-clause-usage : goal.returns-in_default-clause-usage
returns-in_default-clause-usage c = λ is verb words. c.in_default.ensures.none words.command.verb words.asked.named

pub returns-in-Err-clause-usage : goal.returns-in-Err-clause-usage
returns-in-Err-clause-usage c = λ is verb words. not_taken (texts_of c.args.words.now) c.in-Some.verb c.in-Some.ensures.some (c.in-Err.ensures.usage is) verb words

pub returns-in_default-meaning-clause-usage : goal.returns-in_default-meaning-clause-usage
returns-in_default-meaning-clause-usage c = λ is verb words.
    c.in_default-meaning.ensures.none words.command
    (means_too (texts_of c.args.words.now) c.in-Some.verb (found_of c.in-Ok.matches) c.in-Ok.ensures.rows words.command c.in-Some.ensures.some words.asked)

pub returns-clause-asked : goal.returns-clause-asked
returns-clause-asked c =
    is_command (texts_of c.args.words.now) c.in-Some.verb (found_of c.in-Ok.matches) c.in-Ok.ensures.rows c.in-Some-meaning.command c.in-Some-meaning.ensures.verb
    c.in-Some.ensures.some c.in-Ok.ensures.taken c.in-Some-meaning.ensures.some
