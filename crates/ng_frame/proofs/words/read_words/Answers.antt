use Rattle.std.proofs.Common.{◌≡◌, ℕ, ◌+◌, ◌-◌, ◌≤◌, ap, sym, ◌∙◌, subst, arith}
use Rattle.std.specs.Prelude.{Some}
use Rattle.ng_view.specs.Blocks.{Knows}
use Rattle.ng_view.specs.Lists.{find}
use Rattle.ng_view.specs.Steps.{learnt, loaded}
use Rattle.ng_view.specs.declared.view.Held.{Held}
use Rattle.ng_view.specs.declared.view.View.{View}
use Rattle.ng_space.proofs.Holding.{find-loaded}
use Rattle.ng_view.specs.Tells.{Tells}
use Rattle.ng_space.proofs.LeavingFrames.{leaves_all_then, leaves_itself, leaves_loaded}
use Rattle.ng_frame.proofs.Lengths.{block_whole, length_told}
use Rattle.ng_frame.proofs.Judged.{owns_fifth, owns_header, owns_last, some_is, sure_keeps, sure_new}
use Rattle.ng_frame.proofs.Verdicts.{known_since, loaded_known}
use Rattle.ng_frame.specs.Judging.{AreSure}
use Rattle.ng_frame.specs.declared.words.Words.{Words}
use Rattle.ng_frame.proofs.words.read_words.Goals as goal

pub load-last-requires-clause-cell : goal.load-last-requires-clause-cell
load-last-requires-clause-cell g c =
    let is = block_whole g.N.Name.facts.start c.args.hand.now c.args.block.now c.requires.block c.load-header.ensures.placed in
    let whole = is.end in let at = c.at-at.ensures.at in let gap = c.gap-gap.ensures.gap in omega (arith, whole, at, gap)

pub load-fifth-requires-clause-cell : goal.load-fifth-requires-clause-cell
load-fifth-requires-clause-cell g c =
    let is = block_whole g.N.Name.facts.start c.args.hand.now c.args.block.now c.requires.block c.load-header.ensures.placed in
    let whole = is.end in let at = c.at-at.ensures.at in let gap = c.gap-gap.ensures.gap in omega (arith, whole, at, gap)

pub returns-clause-whole : goal.returns-clause-whole
returns-clause-whole g c = (block_whole g.N.Name.facts.start c.args.hand.now c.args.block.now c.requires.block c.load-header.ensures.placed).end

pub returns-clause-lies : goal.returns-clause-lies
returns-clause-lies g c = block_whole g.N.Name.facts.start c.args.hand.now c.args.block.now c.requires.block c.load-header.ensures.placed

pub returns-clause-tells : goal.returns-clause-tells
returns-clause-tells g c =
    let block = c.args.block.now in
    let at = c.at-at.ensures.at in
    let end : c.at-at.result + c.gap-gap.result ≡ block.slot.end = ap (λ a. a + c.gap-gap.result) at ∙ c.gap-gap.ensures.gap in
    let one = c.load-header.ensures in let two = c.load-last.ensures in let three = c.load-fifth.ensures in
    length_told g.N.Name.facts.start c.args.hand.now c.load-header.new.hand c.load-last.new.hand block (record { header = c.load-header.result; last = c.load-last.result; fifth = c.load-fifth.result }) c.requires.block one.placed
    (one.view ∙ ap (λ a. loaded c.args.hand.now.view (a - 4) c.load-header.result) at) one.number
    (two.view ∙ ap (λ a. loaded c.load-header.new.hand.view (a - 4) c.load-last.result) end) two.number
    (subst (λ a. Tells g.N.Name.facts.start c.args.hand.now.view (a - 4) c.load-header.result) at one.told)
    (subst (λ a. Tells g.N.Name.facts.start c.load-header.new.hand.view (a - 4) c.load-last.result) end two.told)
    (subst (λ a. Tells g.N.Name.facts.start c.load-last.new.hand.view (a - 8) c.load-fifth.result) end three.told)

pub returns-clause-leaves : goal.returns-clause-leaves
returns-clause-leaves g c =
    let zero = c.args.hand.now.view in let one = c.load-header.new.hand.view in let two = c.load-last.new.hand.view in let three = c.load-fifth.new.hand.view in
    leaves_all_then zero one three (leaves_loaded zero one _ c.load-header.result c.load-header.ensures.view)
    (leaves_all_then one two three (leaves_loaded one two _ c.load-last.result c.load-last.ensures.view)
    (leaves_loaded two three _ c.load-fifth.result c.load-fifth.ensures.view))

pub returns-clause-known : goal.returns-clause-known
returns-clause-known g c = λ h found.
    let key = g.N.Name.facts.start in
    let block = c.args.block.now in
    let m = block.slot.meta in let i = block.slot.index in
    let at = c.at-at.ensures.at in
    let end : c.at-at.result + c.gap-gap.result ≡ block.slot.end = ap (λ a. a + c.gap-gap.result) at ∙ c.gap-gap.ensures.gap in
    let zero = c.args.hand.now.view in let one = c.load-header.new.hand.view in let two = c.load-last.new.hand.view in
    let first = leaves_loaded zero one _ c.load-header.result c.load-header.ensures.view in
    let second = leaves_loaded one two _ c.load-last.result c.load-last.ensures.view in record {
      header = known_since key zero zero m i (block.at - 4) c.load-header.result h (leaves_itself zero) found
          (subst (λ a. Tells key zero (a - 4) c.load-header.result) at c.load-header.ensures.told);
      last = known_since key zero one m i (block.slot.end - 4) c.load-last.result h first found
          (subst (λ a. Tells key one (a - 4) c.load-last.result) end c.load-last.ensures.told);
      fifth = known_since key zero two m i (block.slot.end - 8) c.load-fifth.result h (leaves_all_then zero one two first second) found
          (subst (λ a. Tells key two (a - 8) c.load-fifth.result) end c.load-fifth.ensures.told);
    }

pub returns-clause-sure : goal.returns-clause-sure
returns-clause-sure g c = λ h found.
    let key = g.N.Name.facts.start in
    let block = c.args.block.now in
    let m = block.slot.meta in let i = block.slot.index in
    let has = c.requires.block in
    let is = block_whole key c.args.hand.now block has c.load-header.ensures.placed in
    let at = c.at-at.ensures.at in let gap = c.gap-gap.ensures.gap in
    let end : c.at-at.result + c.gap-gap.result ≡ block.slot.end = ap (λ a. a + c.gap-gap.result) at ∙ gap in
    let from : block.slot.start ≤ block.at = (let low = c.at-at.ensures.from in omega (arith, at, low)) in
    let within : block.at ≤ block.slot.end = omega (arith, gap) in
    let w : Words = record { header = c.load-header.result; last = c.load-last.result; fifth = c.load-fifth.result } in
    let zero = c.args.hand.now.view in let one = c.load-header.new.hand.view in let two = c.load-last.new.hand.view in
    let a1 : ℕ = block.at - 4 in let a2 : ℕ = block.slot.end - 4 in let a3 : ℕ = block.slot.end - 8 in
    let h1 : Held = learnt a1 w.header has.held in
    let h2 : Held = learnt a2 w.last h1 in
    let h3 : Held = learnt a3 w.fifth h2 in
    let v1 : one ≡ loaded zero a1 w.header = c.load-header.ensures.view ∙ ap (λ a. loaded zero (a - 4) w.header) at in
    let v2 : two ≡ loaded one a2 w.last = c.load-last.ensures.view ∙ ap (λ a. loaded one (a - 4) w.last) end in
    let v3 : c.load-fifth.new.hand.view ≡ loaded two a3 w.fifth = c.load-fifth.ensures.view ∙ ap (λ a. loaded two (a - 8) w.fifth) end in
    let f1 : find m i one.held ≡ Some h1 = ap (λ (v : View). find m i v.held) v1 ∙ find-loaded zero a1 w.header m i has.held has.found in
    let f2 : find m i two.held ≡ Some h2 = ap (λ (v : View). find m i v.held) v2 ∙ find-loaded one a2 w.last m i h1 f1 in
    let f3 : find m i c.load-fifth.new.hand.view.held ≡ Some h3 = ap (λ (v : View). find m i v.held) v3 ∙ find-loaded two a3 w.fifth m i h2 f2 in
    let t1 : (y : ℕ) → Knows a1 y has.held → w.header ≡ y = loaded_known key zero m i a1 w.header has.held has.found (subst (λ a. Tells key zero (a - 4) w.header) at c.load-header.ensures.told) in
    let t2 : (y : ℕ) → Knows a2 y h1 → w.last ≡ y = loaded_known key one m i a2 w.last h1 f1 (subst (λ a. Tells key one (a - 4) w.last) end c.load-last.ensures.told) in
    let t3 : (y : ℕ) → Knows a3 y h2 → w.fifth ≡ y = loaded_known key two m i a3 w.fifth h2 f2 (subst (λ a. Tells key two (a - 8) w.fifth) end c.load-fifth.ensures.told) in
    subst (AreSure block w) (some_is h3 h (sym f3 ∙ found)) (record {
      header = sure_keeps a3 w.fifth a1 w.header h2 t3 (sure_keeps a2 w.last a1 w.header h1 t2 (sure_new a1 w.header has.held (owns_header block w is from within has.held.place has.place) t1));
      last = sure_keeps a3 w.fifth a2 w.last h2 t3 (sure_new a2 w.last h1 (owns_last block w is from within has.held.place has.place) t2);
      fifth = sure_new a3 w.fifth h2 (owns_fifth block w is from within has.held.place has.place) t3;
    })
