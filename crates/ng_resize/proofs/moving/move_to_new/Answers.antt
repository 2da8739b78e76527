use Rattle.std.proofs.Common.{subst}
use Rattle.ng_frame.proofs.Tokens.{block_stays}
use Rattle.ng_group.proofs.WorkingLemmas.{goes_then}
use Rattle.ng_heap.specs.Freeing.{FreesIn}
use Rattle.ng_resize.proofs.JudgedLemmas.{whole_since}
use Rattle.ng_resize.proofs.MoveLemmas.{copied_slots, has_moved, moved_kept}
use Rattle.ng_resize.proofs.moving.move_to_new.Goals as goal

-- ---- the calls
pub copy-requires-clause-from : goal.copy-requires-clause-from
copy-requires-clause-from g c =
    block_stays c.args.hand.now c.malloc_in.new.hand c.malloc_in.ensures.entered.number c.args.block
    (c.malloc_in.ensures.slots c.args.block.slot.meta c.args.block.slot.index) c.requires.block

pub copy-requires-clause-apart : goal.copy-requires-clause-apart
copy-requires-clause-apart g c = c.in-Ok.ensures.made.fresh.blocks c.args.block c.requires.block

pub free_whole-requires-clause-whole : goal.free_whole-requires-clause-whole
free_whole-requires-clause-whole g c =
    let block = c.args.block in
    let made = c.in-Ok.ensures in
    let copy = c.copy.ensures in
    let slots = copied_slots c.args.hand.now c.malloc_in.new.hand c.copy.new.hand block c.in-Ok.new c.args.n c.args.count c.requires.block made.made made.leaves
    (record { bytes = copy.copied; around = copy.around; leaves = copy.leaves; book = copy.book }) in
    (c.requires.whole.0, whole_since c.args.hand.now c.copy.new.hand block c.requires.whole.0 c.requires.block (slots block.slot.meta block.slot.index) c.requires.whole.1)

-- ---- the block moved
pub returns-in-Ok-clause-moved : goal.returns-in-Ok-clause-moved
returns-in-Ok-clause-moved g c =
    let made = c.in-Ok.ensures in
    let copy = c.copy.ensures in
    let free = c.free_whole.ensures in
    has_moved c.args.hand.now c.malloc_in.new.hand c.copy.new.hand c.args.block c.in-Ok.new c.args.n c.args.count c.requires.block made.made made.leaves
    (record { bytes = copy.copied; around = copy.around; leaves = copy.leaves; book = copy.book })
    c.free_whole.new.hand free.leaves made.entered free.entered (copy.framed made.made.framed)

pub returns-in-Ok-clause-moves : goal.returns-in-Ok-clause-moves
returns-in-Ok-clause-moves g c =
    let made = c.in-Ok.ensures in
    let copy = c.copy.ensures in
    let free = c.free_whole.ensures in record {
      made = c.malloc_in.new.hand;
      core = c.malloc_in.new.core;
      makes = record { made = made.made; builds = made.builds; given = made.given };
      copied = c.copy.new.hand;
      copies = record { bytes = copy.copied; around = copy.around; leaves = copy.leaves; book = copy.book };
      frees = subst (λ (r : g.row.P.Denot). FreesIn (g.P.Rules.keep_gives r) g.M.Mapper.runs c.copy.new.hand c.args.block c.malloc_in.new.core c.free_whole.new.core c.free_whole.new.hand.view) c.malloc_in.ensures.rules free.frees;
      kept = moved_kept c.args.hand.now c.malloc_in.new.hand c.copy.new.hand c.args.block c.in-Ok.new c.args.n c.args.count c.requires.block made.made made.leaves
          (record { bytes = copy.copied; around = copy.around; leaves = copy.leaves; book = copy.book })
          c.free_whole.new.hand free.leaves made.entered free.entered (copy.framed made.made.framed);
    }

-- ---- what the hand and the core have besides
pub returns-in-Ok-clause-on : goal.returns-in-Ok-clause-on
returns-in-Ok-clause-on g c = goes_then c.args.core.now.seat c.malloc_in.new.core.seat c.free_whole.new.core.seat c.malloc_in.ensures.on c.free_whole.ensures.on

pub returns-in-Err-NoMemory-clause-still : goal.returns-in-Err-NoMemory-clause-still
returns-in-Err-NoMemory-clause-still g c =
    block_stays c.args.hand.now c.malloc_in.new.hand c.malloc_in.ensures.entered.number c.args.block
    (c.malloc_in.ensures.slots c.args.block.slot.meta c.args.block.slot.index) c.requires.block
