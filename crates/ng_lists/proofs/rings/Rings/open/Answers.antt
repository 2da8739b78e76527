use Rattle.std.proofs.Common.{rules, ◌≡◌, ◌*◌, replicate, refl}
use Rattle.ng_lists.proofs.rings.Rings.open.Goals as goal
use Rattle.ng_lists.proofs.OpeningLemmas.{opening_shown, opening_sound}

pub invariant_of-result : goal.invariant_of-result
invariant_of-result c =
    let heads : c.in-Ok.heads.items ≡ replicate 48 0 = search rules in
    rw (heads, c.in_ok-links.ensures.next, c.in_ok-links.ensures.prev, c.in_ok-marks.ensures) (opening_sound (101 * c.args.pages) c.args.pages refl c.requires.least c.requires.greatest)

pub returns-clause-empty : goal.returns-clause-empty
returns-clause-empty c =
    let heads : c.in-Ok.heads.items ≡ replicate 48 0 = search rules in
    rw (heads, c.in_ok-links.ensures.next, c.in_ok-marks.ensures) (opening_shown (101 * c.args.pages) 0 48)
