use Rattle.std.proofs.Common.{sym, subst}
use Rattle.ng_check.specs.Answers.{Checks, Judges}
use Rattle.ng_frame.proofs.Tokens.{block_stays}
use Rattle.ng_space.specs.Blocks.{BlockToken}
use Rattle.ng_space.proofs.LeavingFrames.{all_leaves, leaves_all_then, leaves_then}
use Rattle.ng_heap.proofs.AtLemmas.{own_found, taken_at}
use Rattle.ng_heap.proofs.heap.Heap.free_in_place.Goals as goal

-- ---- a refusal
pub returns-in-Err-clause-kept : goal.returns-in-Err-clause-kept
returns-in-Err-clause-kept g c =
    leaves_all_then c.args.hand.now.view c.look.new.hand.view c.refuse_at.new.hand.view c.look.ensures.leaves c.refuse_at.ensures.leaves

pub returns-in_default-place-clause-kept : goal.returns-in_default-place-clause-kept
returns-in_default-place-clause-kept g c =
    let refuse = c.refuse_at-in_default-place in
    leaves_all_then c.args.hand.now.view c.look.new.hand.view refuse.new.hand.view c.look.ensures.leaves refuse.ensures.leaves

-- ---- the block that is freed
pub free_in-requires-clause-block : goal.free_in-requires-clause-block
free_in-requires-clause-block g c =
    let block : BlockToken = c.swap_remove-block.result in
    let look = c.look.ensures in
    let taken = taken_at c.args.hand.now c.args.held.now.items c.args.addr c.in-Some.place block c.args.place c.requires.held c.requires.place c.in-Some.is c.swap_remove-block.ensures.value in
    block_stays c.args.hand.now c.look.new.hand look.book.number block (look.leaves.all.slots block.slot.meta block.slot.index) taken.has

pub unreachable-requires : goal.unreachable-requires
unreachable-requires g c =
    let block : BlockToken = c.swap_remove-block.result in
    let taken = taken_at c.args.hand.now c.args.held.now.items c.args.addr c.in-Some.place block c.args.place c.requires.held c.requires.place c.in-Some.is c.swap_remove-block.ensures.value in
    own_found block c.in_default.field-0 c.look.new.hand c.free_in.result c.in-Err-free_in.field-0
    (subst (λ r. Judges block r c.look.new.hand) c.in_default.is (c.look.ensures.own block taken.has taken.at))
    c.free_in.ensures.known c.in-Err-free_in.is

pub returns-clause-cause : goal.returns-clause-cause
returns-clause-cause g c =
    let block : BlockToken = c.swap_remove-block.result in
    let look = c.look.ensures in
    let taken = taken_at c.args.hand.now c.args.held.now.items c.args.addr c.in-Some.place block c.args.place c.requires.held c.requires.place c.in-Some.is c.swap_remove-block.ensures.value in record {
      found = c.in_default.field-0;
      probed = c.look.new.hand;
      probes = record {
        checks = subst (λ r. Checks g.N.Name.facts.start.pages g.N.Name.facts.start.secret c.args.addr c.args.hand.now.view r c.look.new.hand.view) c.in_default.is look.checks;
        own = λ other has at. subst (λ r. Judges other r c.look.new.hand) c.in_default.is (look.own other has at);
        leaves = look.leaves;
        book = look.book;
      };
      block = block;
      takes = record {
        place = c.in-Some.place;
        within = taken.within;
        there = sym c.swap_remove-block.ensures.value;
        at = taken.at;
        others = c.swap_remove-block.ensures.items;
      };
      freed = c.in-Ok.ensures.frees;
      leaves = leaves_then block.slot c.args.hand.now.view c.look.new.hand.view c.free_in.new.hand.view
          (all_leaves block.slot c.args.hand.now.view c.look.new.hand.view look.leaves) c.free_in.ensures.leaves;
    }
