use Rattle.std.proofs.Common.{◌≡◌, ℕ, ◌+◌, ◌%◌, sym, ap, ◌∙◌, arith}
use Rattle.ng_space.specs.Tokens.{Token}
use Rattle.ng_view.specs.Steps.{pushed, read}
use Rattle.ng_mask.proofs.Pushes.{all_lost, bit_is, fills, fills_not, has_cause, loads_both, loses_more}
use Rattle.ng_mask.proofs.Leaving.{push_leaves}
use Rattle.ng_mask.proofs.pushing.push.Goals as goal

pub returns-then-freed-eq0-clause-cause : goal.returns-then-freed-eq0-clause-cause
returns-then-freed-eq0-clause-cause g c =
    has_cause _ _ _ _ _ _ _ _ _ c.meta-meta.ensures.meta c.load-flags.ensures.told c.load-flags.ensures.view (record {
      avail = c.mask_of-avail.result;
      loads = record {
        lost = c.loop-lost.lost;
        few = c.loop-lost-test.true;
        between = c.loop-lost.hand.view;
        loses = c.loop-lost.invariant.0;
        loads = loads_both _ _ _ _ _ _ _ _ (sym c.if-freed-eq0.true ∙ c.mask_of-freed.ensures) c.mask_of-avail.ensures c.load.ensures.view c.load-in-loop-lost.ensures.view;
      };
    })

pub returns-then-freed-avail-clause-cause : goal.returns-then-freed-avail-clause-cause
returns-then-freed-avail-clause-cause g c =
    let index = c.index-bit.ensures in
    has_cause _ _ _ _ _ _ _ _ _ c.meta-meta.ensures.meta c.load-flags.ensures.told c.load-flags.ensures.view (record {
      loads = record {
        lost = c.loop-lost.lost;
        few = c.loop-lost-test.true;
        between = c.loop-lost.hand.view;
        loses = c.loop-lost.invariant.0;
        loads = loads_both _ _ _ _ _ _ _ _ c.mask_of-freed.ensures c.mask_of-avail.ensures c.load.ensures.view c.load-in-loop-lost.ensures.view;
      };
      some_freed = (let z = c.if-freed-eq0.false in omega (arith, z));
      fills = fills (record { meta = c.meta-meta.result; index = c.args.slot.index; last = c.load-flags.result % 32 }) c.mask_of-freed.result c.mask_of-avail.result _ _ (bit_is _ _ index.index index.few) c.all_bits-all.ensures.value c.if-freed-avail.true;
    })

pub returns-in-Ok-clause-cause : goal.returns-in-Ok-clause-cause
returns-in-Ok-clause-cause g c =
    let index = c.index-bit.ensures in
    let same = c.loop-lost.invariant.1 in
    let at : c.loop-lost.slot.meta ≡ c.meta-meta.result = ap (λ (slot : Token). slot.meta) same ∙ sym c.meta-meta.ensures.meta in
    has_cause _ _ _ _ _ _ _ _ _ c.meta-meta.ensures.meta c.load-flags.ensures.told c.load-flags.ensures.view (record {
      freed = c.mask_of-freed.result;
      avail = c.mask_of-avail.result;
      between = c.load-in-loop-lost.new.hand.view;
      loads = record {
        lost = c.loop-lost.lost;
        few = c.loop-lost-test.true;
        between = c.loop-lost.hand.view;
        loses = c.loop-lost.invariant.0;
        loads = loads_both _ _ _ _ _ _ _ _ c.mask_of-freed.ensures c.mask_of-avail.ensures c.load.ensures.view c.load-in-loop-lost.ensures.view;
      };
      may = record {
        some_freed = (let z = c.if-freed-eq0.false in omega (arith, z));
        others = fills_not (record { meta = c.meta-meta.result; index = c.args.slot.index; last = c.load-flags.result % 32 }) c.mask_of-freed.result c.mask_of-avail.result _ _ (bit_is _ _ index.index index.few) c.all_bits-all.ensures.value c.if-freed-avail.false;
      };
      view = c.in-Ok.ensures.ok ∙ (λ k. read (pushed c.load-in-loop-lost.new.hand.view (at k) (ap (λ (slot : Token). slot.index) same k)) (at k + 28) c.mask_of-freed.result);
    })

pub loop-lost-preserved : goal.loop-lost-preserved
loop-lost-preserved g c =
    let index = c.index-bit.ensures in
    let e = c.in-Err.ensures in let i = c.loop-lost.invariant in
    let one = c.load.ensures in let two = c.load-in-loop-lost.ensures in
    let at : c.loop-lost.slot.meta ≡ c.meta-meta.result = ap (λ (slot : Token). slot.meta) i.1 ∙ sym c.meta-meta.ensures.meta in (
      loses_more _ _ _ _ _ i.0 (record {
        freed = c.mask_of-freed.result;
        avail = c.mask_of-avail.result;
        between = c.load-in-loop-lost.new.hand.view;
        loads = loads_both _ _ _ _ _ _ _ _ c.mask_of-freed.ensures c.mask_of-avail.ensures one.view two.view;
        may = record {
          some_freed = (let z = c.if-freed-eq0.false in omega (arith, z));
          others = fills_not (record { meta = c.meta-meta.result; index = c.args.slot.index; last = c.load-flags.result % 32 }) c.mask_of-freed.result c.mask_of-avail.result _ _ (bit_is _ _ index.index index.few) c.all_bits-all.ensures.value c.if-freed-avail.false;
        };
        found = c.in-Err.field-0-1;
        changed = e.found;
        view = e.err ∙ ap (λ (n : ℕ). read c.load-in-loop-lost.new.hand.view (n + 28) c.in-Err.field-0-1) at;
      }),
      e.slot ∙ i.1,
      e.held,
      e.number ∙ two.number ∙ one.number ∙ i.3,
      e.spare ∙ two.spare ∙ one.spare ∙ i.4,
      e.entries ∙ two.entries ∙ one.entries ∙ i.5,
    )

pub returns-clause-cause : goal.returns-clause-cause
returns-clause-cause g c =
    let least = c.loop-lost-test.false in let most = c.loop-lost.auto.lost-end in
    has_cause _ _ _ _ _ _ _ _ _ c.meta-meta.ensures.meta c.load-flags.ensures.told c.load-flags.ensures.view (all_lost _ _ _ _ most least c.loop-lost.invariant.0)

pub returns-then-freed-eq0-clause-leaves : goal.returns-then-freed-eq0-clause-leaves
returns-then-freed-eq0-clause-leaves g c = push_leaves c.args.slot c.args.hand.now.view _ _ (returns-then-freed-eq0-clause-cause g c)

pub returns-then-freed-avail-clause-leaves : goal.returns-then-freed-avail-clause-leaves
returns-then-freed-avail-clause-leaves g c = push_leaves c.args.slot c.args.hand.now.view _ _ (returns-then-freed-avail-clause-cause g c)

pub returns-in-Ok-clause-leaves : goal.returns-in-Ok-clause-leaves
returns-in-Ok-clause-leaves g c = push_leaves c.args.slot c.args.hand.now.view _ _ (returns-in-Ok-clause-cause g c)

pub returns-clause-leaves : goal.returns-clause-leaves
returns-clause-leaves g c = push_leaves c.args.slot c.args.hand.now.view _ _ (returns-clause-cause g c)
