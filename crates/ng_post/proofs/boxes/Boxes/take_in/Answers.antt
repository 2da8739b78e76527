use Rattle.std.proofs.Common.{◌≡◌, ◌++◌, ◌∷◌, [], ap, rules}
use Rattle.crossbeam_queue.specs.Passes.{view}
use Rattle.ng_post.specs.declared.view.View.{View}
use Rattle.ng_post.specs.Letters.{note_of}
use Rattle.ng_post.proofs.BoxLemmas.{gets}
use Rattle.ng_post.proofs.DoorLemmas.{arrives-on, kept-arrived, reads-on}
use Rattle.ng_post.proofs.boxes.Boxes.take_in.Goals as goal

pub try_pop_as-requires-clause-rule : goal.try_pop_as-requires-clause-rule
try_pop_as-requires-clause-rule g c = gets _ _ (ap (λ (v : View). v.gets) c.requires.door.reads)

pub returns-clause-door : goal.returns-clause-door
returns-clause-door g c =
    let was = c.requires.door in
    let seen : view c.try_pop_as.new.pass ≡ record (view c.args.door.now.own) { got = (view c.args.door.now.own).got ++ note_of c.in-Some.letter ∷ [] } = search (rules, c.in-Some.ensures.rule) in
    record {
      log = was.log;
      ways = was.ways;
      to = was.to;
      sends = was.sends;
      own = search rules;
      reads = reads-on _ _ (note_of c.in-Some.letter) was.reads seen;
      arrives = rw (c.push_reserved.ensures.items, c.address.ensures) (arrives-on _ _ (note_of c.in-Some.letter) _ was.arrives seen);
      kept = rw (c.push_reserved.ensures.items, c.push_reserved-2.ensures.items, c.address.ensures) (kept-arrived _ _ _ c.in-Some.letter was.kept);
      numbers = was.numbers;
      leads = was.leads;
    }
