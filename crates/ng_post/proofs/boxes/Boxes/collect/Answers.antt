use Rattle.ng_post.specs.Letters.{pair_of}
use Rattle.ng_post.proofs.DoorLemmas.{kept-collected}
use Rattle.ng_post.proofs.boxes.Boxes.collect.Goals as goal

pub returns-in-Some-take_kept-clause-door : goal.returns-in-Some-take_kept-clause-door
returns-in-Some-take_kept-clause-door g c =
    let was = c.loop.invariant.door in
    record {
      log = was.log;
      ways = was.ways;
      to = was.to;
      sends = was.sends;
      own = was.own;
      reads = was.reads;
      arrives = was.arrives;
      kept = rw (c.push_reserved.ensures.items, c.address.ensures, ← c.in-Some-take_kept.ensures.number) (kept-collected _ _ _ _ (pair_of c.in-Some-take_kept.letter) was.kept c.in-Some-take_kept.ensures.moved);
      numbers = was.numbers;
      leads = was.leads;
    }
