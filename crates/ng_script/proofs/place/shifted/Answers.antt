use Rattle.ng_script.proofs.PlaceLemmas.{shifted-many}
use Rattle.ng_script.proofs.place.shifted.Goals as goal

pub returns-in-Some : goal.returns-in-Some
returns-in-Some c = λ shift. shifted-many shift c.args.sign c.args.token.now _ _ _ _ c.in_ok-name.ensures.some c.in-Some.ensures.some
