use Rattle.std.proofs.Common.{◌≡◌, ◌∙◌, ◌+◌, ◌<◌, ◌≤◌, List, ap, arith, get_or, length, length-set, refl, subst, sym, true, false}
use Rattle.std.proofs.lemmas.List.{get_or_default, length_push}
use Rattle.crossbeam_queue.specs.Passes.{IsPassOf, Pass, view}
use Rattle.ng_post.specs.declared.mail.Letter.{Letter}
use Rattle.ng_post.specs.declared.view.View.{View}
use Rattle.ng_post.specs.Ending.{with_reader, with_sender}
use Rattle.ng_post.proofs.BoxLemmas.{merges, merges_reader}
use Rattle.ng_post.proofs.EndingLemmas.{ltb-not_below, with_reader-else, with_reader-here, with_reader-rest}
use Rattle.ng_post.proofs.PassLemmas.{passes-set}
use Rattle.ng_post.proofs.Rows.{each-popped, each-set, item_popped}
use Rattle.ng_post.proofs.ending.end_passes.Goals as goal

pub absorb-requires-clause-rule : goal.absorb-requires-clause-rule
absorb-requires-clause-rule g c =
    let log = c.args.log in
    let key : Pass (Letter g.row.N.Denot) View = c.index_mut.result.now in
    let leads = c.requires.leads_each log key c.requires.log_in in
    let idle : (view key).gets ≡ false =
    ap (λ (p : Pass (Letter g.row.N.Denot) View). (view p).gets) c.index_mut.ensures.value ∙ ap (λ (v : View). v.gets) leads.leads ∙ ltb-not_below log log (omega arith) in
    merges_reader key.id (view key) c.args.own.id (view c.args.own) idle c.requires.gets

pub loop-key-init : goal.loop-key-init
loop-key-init g c =
    let log = c.args.log in
    let boxes = c.args.boxes.now.boxes in
    let leads = c.args.leads.now.items in
    let key : Pass (Letter g.row.N.Denot) View = c.index_mut.result.now in
    let new : Pass (Letter g.row.N.Denot) View = c.absorb.new.pass in
    let inside : log < length leads = omega (arith, c.requires.count, c.requires.log_in) in
    let knows : (w : Pass (Letter g.row.N.Denot) View) → view new ≡ with_reader log (view c.args.own) log (view (get_or leads log w)) = λ w.
    c.absorb.ensures.rule
    ∙ ap (λ (p : Pass (Letter g.row.N.Denot) View). record (view p) { gets = true; got = (view c.args.own).got }) (c.index_mut.ensures.value ∙ get_or_default leads log key w inside)
    ∙ sym (with_reader-here log (view c.args.own) log (view (get_or leads log w)) refl) in
    record {
      count = length-set leads log new ∙ c.requires.count;
      few = omega (arith, c.requires.ways);
      rest = λ b t u lt. get_or_default c.args.to.items b t u lt;
      passes = passes-set boxes.items leads log boxes.len key new c.requires.log_in c.requires.count c.index_mut.ensures.value c.absorb.ensures.queue c.requires.passes;
      done = λ b p way w le lt. absurd (omega (arith, c.requires.ways));
      left = λ b p w lt. each-set (λ j (x : Pass (Letter g.row.N.Denot) View). (u : Pass (Letter g.row.N.Denot) View) → view x ≡ with_reader log (view c.args.own) j (view (get_or leads j u)))
          leads log new inside knows
          (λ j x in_leads apart u. ap view (get_or_default leads j x u in_leads) ∙ sym (with_reader-else log (view c.args.own) j (view (get_or leads j u)) apart))
          b p (omega (arith, c.requires.ways, c.requires.count)) w;
    }

pub absorb-requires-in-Some-clause-queue : goal.absorb-requires-in-Some-clause-queue
absorb-requires-in-Some-clause-queue g c =
    let was = c.loop-key.invariant in
    let b = c.len-b.result in
    let b_is : b ≡ length c.pop.new.self.items = omega (arith, c.len-b.ensures, c.pop.new.self.ok.0) in
    let long : length c.loop-key.to.items ≡ length c.pop.new.self.items + 1 = ap length c.in-Some.ensures.items ∙ length_push c.pop.new.self.items c.in-Some.key in
    let inside : b < c.args.boxes.now.boxes.len = omega (arith, b_is, long, c.loop-key.invariant.few) in
    let key_is = item_popped c.loop-key.to.items c.pop.new.self.items c.args.to.items c.in-Some.key b c.in-Some.ensures.items b_is c.loop-key.invariant.rest in
    let key : Pass (Letter g.row.N.Denot) View = c.in-Some.key in
    let lead : Pass (Letter g.row.N.Denot) View = c.index_mut-in-Some.result.now in
    let queue = c.index-in-Some.result.now in (
      subst (λ q. IsPassOf q lead) (sym c.index-in-Some.ensures) (subst (λ p. IsPassOf (get_or c.args.boxes.now.boxes.items b queue) p) (sym c.index_mut-in-Some.ensures.value) (was.passes b queue lead inside)),
      subst (λ q. IsPassOf q key) (sym c.index-in-Some.ensures) (subst (λ p. IsPassOf (get_or c.args.boxes.now.boxes.items b queue) p) (sym (key_is key)) (c.requires.to_passes b queue key inside)),
    )

pub absorb-requires-in-Some-clause-rule : goal.absorb-requires-in-Some-clause-rule
absorb-requires-in-Some-clause-rule g c =
    let b = c.len-b.result in
    let b_is : b ≡ length c.pop.new.self.items = omega (arith, c.len-b.ensures, c.pop.new.self.ok.0) in
    let long : length c.loop-key.to.items ≡ length c.pop.new.self.items + 1 = ap length c.in-Some.ensures.items ∙ length_push c.pop.new.self.items c.in-Some.key in
    let inside : b < c.args.boxes.now.boxes.len = omega (arith, b_is, long, c.loop-key.invariant.few) in
    let key_is = item_popped c.loop-key.to.items c.pop.new.self.items c.args.to.items c.in-Some.key b c.in-Some.ensures.items b_is c.loop-key.invariant.rest in
    let key : Pass (Letter g.row.N.Denot) View = c.in-Some.key in
    let lead : Pass (Letter g.row.N.Denot) View = c.index_mut-in-Some.result.now in
    let own : View = view c.args.own in
    let was : View = view (get_or c.args.leads.now.items b lead) in
    let is : view lead ≡ with_reader c.args.log own b was = ap view c.index_mut-in-Some.ensures.value ∙ c.loop-key.invariant.left b lead lead (omega (arith, b_is, long)) in
    let rest = with_reader-rest c.args.log own b was in
    let led = c.requires.leads_each b lead inside in
    let sends = c.requires.sends b key inside in
    merges lead.id (view lead) key.id (view key)
    (ap (λ (v : View). v.leads) is ∙ rest.0 ∙ ap (λ (v : View). v.leads) led.leads)
    (ap (λ (v : View). v.sends) is ∙ rest.1 ∙ ap (λ (v : View). v.sends) led.leads)
    (ap (λ (p : Pass (Letter g.row.N.Denot) View). (view p).sends) (key_is key) ∙ sends.0)
    (ap (λ (p : Pass (Letter g.row.N.Denot) View). (view p).from) (key_is key) ∙ sends.1 ∙ sym (ap (λ (v : View). length v.known) is ∙ ap length rest.2 ∙ led.known))

pub loop-key-preserved : goal.loop-key-preserved
loop-key-preserved g c =
    let was = c.loop-key.invariant in
    let b = c.len-b.result in
    let b_is : b ≡ length c.pop.new.self.items = omega (arith, c.len-b.ensures, c.pop.new.self.ok.0) in
    let long : length c.loop-key.to.items ≡ length c.pop.new.self.items + 1 = ap length c.in-Some.ensures.items ∙ length_push c.pop.new.self.items c.in-Some.key in
    let inside : b < c.args.boxes.now.boxes.len = omega (arith, b_is, long, c.loop-key.invariant.few) in
    let key_is = item_popped c.loop-key.to.items c.pop.new.self.items c.args.to.items c.in-Some.key b c.in-Some.ensures.items b_is c.loop-key.invariant.rest in
    let boxes = c.args.boxes.now.boxes in
    let leads = c.loop-key.leads.items in
    let left = c.pop.new.self.items in
    let key : Pass (Letter g.row.N.Denot) View = c.in-Some.key in
    let lead : Pass (Letter g.row.N.Denot) View = c.index_mut-in-Some.result.now in
    let new : Pass (Letter g.row.N.Denot) View = c.absorb-in-Some.new.pass in
    let own : View = view c.args.own in
    let in_leads : b < length leads = omega (arith, was.count, inside) in
    let knows : (way w : Pass (Letter g.row.N.Denot) View) → view new ≡ with_sender (view (get_or c.args.to.items b way)) (with_reader c.args.log own b (view (get_or c.args.leads.now.items b w))) = λ way w.
    c.absorb-in-Some.ensures.rule
    ∙ ap (with_sender (view key)) (ap view c.index_mut-in-Some.ensures.value ∙ was.left b lead w (omega (arith, b_is, long)))
    ∙ ap (λ (p : Pass (Letter g.row.N.Denot) View). with_sender (view p) (with_reader c.args.log own b (view (get_or c.args.leads.now.items b w)))) (key_is way) in
    record {
      count = length-set leads b new ∙ was.count;
      few = omega (arith, was.few, long);
      rest = λ i t u lt.
          each-popped left key i t u lt ∙ ap (λ (l : List (Pass (Letter g.row.N.Denot) View)). get_or l i u) (sym c.in-Some.ensures.items) ∙ was.rest i u u (omega (arith, long));
      passes = passes-set boxes.items leads b boxes.len lead new inside was.count c.index_mut-in-Some.ensures.value c.absorb-in-Some.ensures.queue was.passes;
      done = λ i p way w le lt. each-set (λ j (x : Pass (Letter g.row.N.Denot) View). (s u : Pass (Letter g.row.N.Denot) View) → b ≤ j
          → view x ≡ with_sender (view (get_or c.args.to.items j s)) (with_reader c.args.log own j (view (get_or c.args.leads.now.items j u)))) leads b new in_leads
          (λ s u _. knows s u)
          (λ j x within apart s u above. was.done j x s u (omega (arith, long, b_is, apart)) (omega (arith, was.count)))
          i p (omega (arith, was.count)) way w (omega (arith, b_is));
      left = λ i p w lt. each-set (λ j (x : Pass (Letter g.row.N.Denot) View). (u : Pass (Letter g.row.N.Denot) View) → j < b
          → view x ≡ with_reader c.args.log own j (view (get_or c.args.leads.now.items j u))) leads b new in_leads
          (λ u under. absurd (omega arith))
          (λ j x within apart u under. was.left j x u (omega (arith, long, b_is)))
          i p (omega (arith, b_is, in_leads)) w (omega (arith, b_is));
    }
