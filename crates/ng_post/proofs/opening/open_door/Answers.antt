use Rattle.std.proofs.Common.{◌≡◌, ◌∙◌, ◌+◌, [], ap, arith, false, length-set}
use Rattle.std.specs.Prelude.{nat_le}
use Rattle.crossbeam_queue.specs.Passes.{Pass, view}
use Rattle.ng_post.specs.declared.mail.Letter.{Letter}
use Rattle.ng_post.specs.declared.view.View.{View}
use Rattle.ng_post.specs.Box.{leader}
use Rattle.ng_post.proofs.BoxLemmas.{forks_reader}
use Rattle.ng_post.proofs.OpeningLemmas.{leb-above, leb-next, leb-same}
use Rattle.ng_post.proofs.PassLemmas.{passes-set}
use Rattle.ng_post.proofs.Rows.{each-set}
use Rattle.ng_post.proofs.opening.open_door.Goals as goal

pub another-own-requires-clause-rule : goal.another-own-requires-clause-rule
another-own-requires-clause-rule g c =
    let key : Pass (Letter g.row.N.Denot) View = c.index_mut.result.now in
    let knew : view key ≡ leader c.args.log (nat_le c.args.log c.args.log) [] [] = ap view c.index_mut.ensures.value ∙ c.requires.leads.knows c.args.log key c.requires.log in
    forks_reader key.id (view key) (ap (λ (v : View). v.gets) knew ∙ leb-same c.args.log)

pub open_ways-requires : goal.open_ways-requires
open_ways-requires g c =
    let log = c.args.log in
    let boxes = c.args.boxes.now.boxes in
    let was = c.requires.leads in
    let leads = c.args.leads.now.items in
    let key : Pass (Letter g.row.N.Denot) View = c.index_mut.result.now in
    let new : Pass (Letter g.row.N.Denot) View = c.another-own.new.pass in
    let knew : view key ≡ leader log (nat_le log log) [] [] = ap view c.index_mut.ensures.value ∙ was.knows log key c.requires.log in
    let knows : view new ≡ leader log (nat_le (log + 1) log) [] [] =
    rw (leb-above (log + 1) log (omega arith)) (c.another-own.ensures.rule.0 ∙ ap (λ (v : View). record v { gets = false; got = [] }) knew) in
    record {
      leads = record {
        count = length-set leads log new ∙ was.count;
        passes = passes-set boxes.items leads log boxes.len key new c.requires.log was.count c.index_mut.ensures.value c.another-own.ensures.queue.0 was.passes;
        knows = λ b p lt. each-set (λ j (x : Pass (Letter g.row.N.Denot) View). view x ≡ leader log (nat_le (log + 1) j) [] []) leads log new (omega (arith, was.count, c.requires.log)) knows
            (λ j x in_leads apart. rw (leb-next log j apart) (was.knows j x (omega (arith, was.count)))) b p (omega (arith, was.count));
      };
    }
