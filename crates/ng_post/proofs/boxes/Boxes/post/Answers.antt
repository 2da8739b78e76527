use Rattle.std.proofs.Common.{◌≡◌, ◌∙◌, ◌<◌, ◌-◌, ℕ, List, get_or, length, ap, sym, arith}
use Rattle.std.proofs.lemmas.List.{get_or_default}
use Rattle.std.proofs.lemmas.List.Elements.{All-get_or, All-push}
use Rattle.ng_post.specs.Doors.{IsNumber}
use Rattle.ng_post.specs.Letters.{Pair, address_of}
use Rattle.ng_post.proofs.DoorLemmas.{to-posted}
use Rattle.ng_post.proofs.boxes.Boxes.post.Goals as goal

pub returns-clause-door : goal.returns-clause-door
returns-clause-door g c =
    let was = c.requires.door in
    let boxes = c.args.self.now.boxes in
    let door = c.args.door.now in
    let to : ℕ = get_or c.as_slice.result.now (c.args.number - 1) 0 in
    let receivers : List ℕ = c.args.self.now.receivers.items in
    let is : get_or receivers (c.args.number - 1) 0 ≡ to = ap (λ (l : List ℕ). get_or l (c.args.number - 1) 0) (sym c.as_slice.ensures.value) in
    let least = c.requires.number.least in
    let most = c.requires.number.most in
    let below : get_or receivers (c.args.number - 1) 0 < boxes.len = All-get_or (λ (log : ℕ). log < boxes.len) receivers (c.args.number - 1) 0 (omega arith) c.args.self.now.within in
    let within : to < length boxes.items = omega (arith, boxes.ok.0, is, below) in
    let posted = to-posted boxes.items door.to.items c.put.new.key receivers door.sent.items (c.args.number, address_of c.args.mail) door.log to
    (λ b q p lt. (was.to b q p (omega (arith, boxes.ok.0)), was.sends b p (omega (arith, boxes.ok.0)))) (omega (arith, boxes.ok.0, door.to.ok.0, was.ways)) is within
    (λ q. rw (get_or_default boxes.items to q c.index.result.now within ∙ sym c.index.ensures) c.put.ensures.pass)
    (λ p. rw (get_or_default door.to.items to p c.index_mut.result.now (omega (arith, door.to.ok.0, boxes.ok.0, was.ways, within)) ∙ sym c.index_mut.ensures.value) c.put.ensures.put) in
    record {
      log = was.log;
      ways = was.ways;
      to = λ b q p lt. (posted b q p (omega (arith, boxes.ok.0))).0;
      sends = λ b p lt. rw (c.push_reserved.ensures.items, c.address.ensures) (posted b c.index.result.now p (omega (arith, boxes.ok.0))).1;
      own = was.own;
      reads = was.reads;
      arrives = was.arrives;
      kept = was.kept;
      numbers = rw c.push_reserved.ensures.items (All-push (λ (pair : Pair). IsNumber receivers pair.0) door.sent.items _ was.numbers c.requires.number);
      leads = was.leads;
    }
