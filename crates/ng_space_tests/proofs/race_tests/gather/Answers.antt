use Rattle.ng_space_tests.proofs.Race.{has_group, serves-captured}
use Rattle.ng_space_tests.proofs.race_tests.gather.Goals as goal

pub capture-avail-requires : goal.capture-avail-requires
capture-avail-requires g c = record { live = (has_group _ c.take_back-held.ensures.serves) }

pub returns-clause-serves : goal.returns-clause-serves
returns-clause-serves g c = serves-captured _ _ _ _ c.take_back-held.ensures.serves c.capture-avail.ensures.captured
