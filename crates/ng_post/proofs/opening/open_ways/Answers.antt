use Rattle.std.proofs.Common.{◌≡◌, ◌∙◌, ◌+◌, ◌<◌, ◌≤◌, [], ap, arith, length, length-set, rules}
use Rattle.std.proofs.lemmas.List.{length_push}
use Rattle.std.specs.Prelude.{nat_le}
use Rattle.crossbeam_queue.specs.Passes.{Pass, view}
use Rattle.ng_post.specs.declared.mail.Letter.{Letter}
use Rattle.ng_post.specs.declared.view.View.{View}
use Rattle.ng_post.specs.Box.{leader, sender}
use Rattle.ng_post.proofs.BoxLemmas.{forks}
use Rattle.ng_post.proofs.PassLemmas.{passes-pushed, passes-set}
use Rattle.ng_post.proofs.Rows.{each-pushed, each-set}
use Rattle.ng_post.proofs.opening.open_ways.Goals as goal

pub loop-b-init : goal.loop-b-init
loop-b-init g c = record {
  count = c.requires.leads.count;
  long = search rules;
  room = search rules;
  passes = c.requires.leads.passes;
  done = λ b p lt. absurd (omega arith);
  left = λ b p le lt. c.requires.leads.knows b p lt;
  ways = λ b q p lt. absurd (omega arith);
  senders = λ b p lt. absurd (omega arith);
}

pub another-way-requires-clause-rule : goal.another-way-requires-clause-rule
another-way-requires-clause-rule g c =
    let key : Pass (Letter g.row.N.Denot) View = c.index_mut.result.now in
    let within : c.loop-b.b < c.args.boxes.now.boxes.len = omega (arith, c.loop-b-test.true, c.len-b-end.ensures) in
    forks key.id (view key) (ap (λ (p : Pass (Letter g.row.N.Denot) View). (view p).leads) c.index_mut.ensures.value ∙ ap (λ (v : View). v.leads) (c.loop-b.invariant.left c.loop-b.b key (omega arith) within))

pub loop-b-preserved : goal.loop-b-preserved
loop-b-preserved g c =
    let was = c.loop-b.invariant in
    let k = c.loop-b.b in
    let log = c.args.log in
    let leads = c.loop-b.leads.items in
    let ways = c.loop-b.ways.items in
    let key : Pass (Letter g.row.N.Denot) View = c.index_mut.result.now in
    let new : Pass (Letter g.row.N.Denot) View = c.another-way.new.pass in
    let way : Pass (Letter g.row.N.Denot) View = c.another-way.result in
    let boxes = c.args.boxes.now.boxes in
    let within : k < boxes.len = omega (arith, c.loop-b-test.true, c.len-b-end.ensures) in
    let inside : k < length leads = omega (arith, was.count, within) in
    let knew : view key ≡ leader log (nat_le (log + 1) k) [] [] = ap view c.index_mut.ensures.value ∙ was.left k key (omega arith) within in
    let knows : view new ≡ leader (log + 1) (nat_le (log + 1) k) [] [] = c.another-way.ensures.rule.0 ∙ ap (λ (v : View). record v { made = v.made + 1 }) knew in
    let sends : view way ≡ sender log [] = c.another-way.ensures.rule.1 ∙ ap (λ (v : View). sender v.made []) knew in
    record {
      count = length-set leads k new ∙ was.count;
      long = rw c.push_reserved.ensures.items (length_push ways way ∙ ap (λ n. n + 1) was.long);
      room = search rules;
      passes = passes-set boxes.items leads k boxes.len key new within was.count c.index_mut.ensures.value c.another-way.ensures.queue.0 was.passes;
      done = λ b p lt. each-set (λ j (x : Pass (Letter g.row.N.Denot) View). j < k + 1 → view x ≡ leader (log + 1) (nat_le (log + 1) j) [] []) leads k new inside
          (λ _. knows) (λ j x in_leads apart below. was.done j x (omega (arith, apart))) b p (omega (arith, was.count, within)) lt;
      left = λ b p le lt. each-set (λ j (x : Pass (Letter g.row.N.Denot) View). k + 1 ≤ j → view x ≡ leader log (nat_le (log + 1) j) [] []) leads k new inside
          (λ above. absurd (omega arith)) (λ j x in_leads apart above. was.left j x (omega arith) (omega (arith, was.count))) b p (omega (arith, was.count)) le;
      ways = rw c.push_reserved.ensures.items
          (passes-pushed boxes.items ways k c.index.result.now way was.long (omega (arith, boxes.ok.0)) c.index.ensures c.another-way.ensures.queue.1 was.ways);
      senders = λ b p lt. rw c.push_reserved.ensures.items
          (each-pushed (λ j x y. view x ≡ sender log []) ways ways way way k was.long was.long (λ j x y below. was.senders j x below) sends b p p lt);
    }

pub returns-clause-ways : goal.returns-clause-ways
returns-clause-ways g c =
    let was = c.loop-b.invariant in
    let all : c.loop-b.b ≡ c.args.boxes.now.boxes.len = omega (arith, c.loop-b-test.false, c.len-b-end.ensures, c.loop-b.auto.b-end) in
    record {
      count = was.long ∙ all;
      passes = λ b q p lt. was.ways b q p (omega (arith, all));
      knows = λ b p lt. was.senders b p (omega (arith, all));
    }

pub returns-clause-leads : goal.returns-clause-leads
returns-clause-leads g c =
    let was = c.loop-b.invariant in
    let all : c.loop-b.b ≡ c.args.boxes.now.boxes.len = omega (arith, c.loop-b-test.false, c.len-b-end.ensures, c.loop-b.auto.b-end) in
    record { count = was.count; passes = was.passes; knows = λ b p lt. was.done b p (omega (arith, all)) }
