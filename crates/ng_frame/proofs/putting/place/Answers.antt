use Rattle.ng_frame.proofs.Places.{is_place, place_fits}
use Rattle.ng_frame.proofs.putting.place.Goals as goal

pub next_multiple_of-requires-clause-fits : goal.next_multiple_of-requires-clause-fits
next_multiple_of-requires-clause-fits g c =
    place_fits c.args.slot.now c.args.n c.args.align c.args.offset c.max.result c.start.result c.end-end.result c.start.ensures c.max.ensures c.ranges.align.fits c.requires.alignment c.requires.near
    c.end-end.ensures.end c.end-end.type_inv

pub returns-clause-fits : goal.returns-clause-fits
returns-clause-fits g c =
    let next = c.next_multiple_of.ensures in
    is_place c.args.slot.now c.args.n c.args.align c.args.offset c.max.result c.start.result c.next_multiple_of.result c.start.ensures c.max.ensures c.ranges.align.fits c.requires.alignment c.requires.near
    next.lower_bound next.upper_bound next.multiple
