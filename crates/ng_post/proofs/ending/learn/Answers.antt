use Rattle.std.proofs.Common.{◌≡◌, ◌∙◌, ◌<◌, ◌++◌, List, ap, arith, get_or, length, length-set, map, refl, subst, sym, ⊎_elim}
use Rattle.std.proofs.lemmas.List.{get_or_default}
use Rattle.crossbeam_queue.specs.Passes.{Pass, view}
use Rattle.ng_post.specs.declared.mail.Letter.{Letter}
use Rattle.ng_post.specs.declared.view.View.{View}
use Rattle.ng_post.specs.Box.{AreAllOf}
use Rattle.ng_post.specs.Letters.{note_of}
use Rattle.ng_post.proofs.BoxLemmas.{same_or_not, totals}
use Rattle.ng_post.proofs.PassLemmas.{passes-set}
use Rattle.ng_post.proofs.Rows.{each-set}
use Rattle.ng_post.proofs.ending.learn.Goals as goal

pub loop-b-init : goal.loop-b-init
loop-b-init g c = record {
  count = refl;
  passes = c.requires.passes;
  same = λ b p o lt. ap view (get_or_default c.args.leads.now.items b p o (omega (arith, c.requires.count)));
  learned = λ b p lt. absurd (omega arith);
}

pub learn_as-requires-clause-rule : goal.learn_as-requires-clause-rule
learn_as-requires-clause-rule g c =
    let was = c.loop-b.invariant in
    let key : Pass (Letter g.row.N.Denot) View = c.index_mut.result.now in
    let within : c.loop-b.b < c.args.boxes.now.boxes.len = omega (arith, was.count, c.requires.count, c.len-b-end.ensures, c.args.leads.now.ok.0, c.loop-b-test.true) in
    let same : view key ≡ view (get_or c.args.leads.now.items c.loop-b.b key) = ap view c.index_mut.ensures.value ∙ was.same c.loop-b.b key key within in
    let may = c.requires.knows c.loop-b.b key within in
    totals key.id (view key) (ap (λ (v : View). v.leads) same ∙ may.0) (ap (λ (v : View). v.gets) same ∙ may.1)

pub loop-b-preserved : goal.loop-b-preserved
loop-b-preserved g c =
    let was = c.loop-b.invariant in
    let k = c.loop-b.b in
    let key : Pass (Letter g.row.N.Denot) View = c.index_mut.result.now in
    let within : k < length c.loop-b.leads.items = omega (arith, was.count, c.len-b-end.ensures, c.args.leads.now.ok.0, c.loop-b-test.true) in
    let inside : k < c.args.boxes.now.boxes.len = omega (arith, was.count, c.requires.count) in
    let Told : View → Type 0 = λ v. (items : List (Letter g.row.N.Denot)) × (length v.known ≡ v.made → AreAllOf v.known (v.got ++ map note_of items)) in
    let same : (o : Pass (Letter g.row.N.Denot) View) → view key ≡ view (get_or c.args.leads.now.items k o) = λ o. ap view c.index_mut.ensures.value ∙ was.same k key o inside in
    record {
      count = length-set c.loop-b.leads.items k _ ∙ was.count;
      passes = passes-set c.args.boxes.now.boxes.items c.loop-b.leads.items k c.args.boxes.now.boxes.len key c.learn_as.new.pass inside (was.count ∙ c.requires.count)
          c.index_mut.ensures.value c.learn_as.ensures.queue.0 was.passes;
      same = λ i p o lt. each-set (λ j x. (o : Pass (Letter g.row.N.Denot) View) → view x ≡ view (get_or c.args.leads.now.items j o)) c.loop-b.leads.items k c.learn_as.new.pass within
          (λ o. c.learn_as.ensures.queue.1 ∙ same o) (λ j x in_leads apart o. was.same j x o (omega (arith, was.count, c.requires.count))) i p (omega (arith, was.count, c.requires.count)) o;
      learned = λ i p lt. ⊎_elim
          (λ (here : i ≡ k). subst Told (same p ∙ ap (λ j. view (get_or c.args.leads.now.items j p)) (sym here)) c.learn_as.ensures.rule)
          (λ apart. was.learned i p (omega (arith, apart)))
          (same_or_not i k);
    }
