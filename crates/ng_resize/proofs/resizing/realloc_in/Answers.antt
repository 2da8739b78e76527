use Rattle.std.proofs.Common.{◌∙◌, ap, min, inl, inr, refl, subst, arith}
use Rattle.ng_frame.proofs.Tokens.{block_stays}
use Rattle.ng_space.proofs.Leaving.{rest_then}
use Rattle.ng_space.proofs.LeavingFrames.{leaves_all_then, leaves_entered}
use Rattle.ng_heap.specs.Freeing.{FreesIn}
use Rattle.ng_resize.specs.Moving.{KeepsFirst, MakesIn}
use Rattle.ng_resize.proofs.EntryLemmas.{not_large}
use Rattle.ng_resize.proofs.FitLemmas.{stays_serves}
use Rattle.ng_resize.proofs.LookLemmas.{goes_away, rule_goes, rule_stays, stays_here}
use Rattle.ng_resize.proofs.MoveLemmas.{moves_as}
use Rattle.ng_resize.proofs.OutcomeLemmas.{here_apart, here_frames, here_kept, here_others, here_stays, left_apart, left_frames, left_is, left_others, moved_apart, moved_first, moved_frames, moved_others, moved_resized, moved_rest, moved_stays, refused_stays}
use Rattle.ng_resize.proofs.VerdictLemmas.{damage_refuses, named_refuses}
use Rattle.ng_resize.proofs.resizing.realloc_in.Goals as goal

-- ---- the size is too large

pub returns-then-n-ge-LARGE-clause-left : goal.returns-then-n-ge-LARGE-clause-left
returns-then-n-ge-LARGE-clause-left g c =
    let leaves = leaves_entered c.args.hand.now.view c.enter.new.hand.view _ _ c.enter.ensures.view in
    left_is c.args.hand.now c.enter.new.hand c.args.block c.enter.ensures.number leaves c.args.block refl c.requires.block

pub returns-then-n-ge-LARGE-clause-apart : goal.returns-then-n-ge-LARGE-clause-apart
returns-then-n-ge-LARGE-clause-apart g c =
    let leaves = leaves_entered c.args.hand.now.view c.enter.new.hand.view _ _ c.enter.ensures.view in
    left_apart c.args.hand.now c.enter.new.hand c.args.block c.enter.ensures.number leaves

pub returns-then-n-ge-LARGE-clause-others : goal.returns-then-n-ge-LARGE-clause-others
returns-then-n-ge-LARGE-clause-others g c =
    let leaves = leaves_entered c.args.hand.now.view c.enter.new.hand.view _ _ c.enter.ensures.view in
    left_others c.args.hand.now c.enter.new.hand c.args.block c.enter.ensures.number leaves

-- ---- the frame is damaged

pub returns-in-Err-clause-damage : goal.returns-in-Err-clause-damage
returns-in-Err-clause-damage g c =
    λ small known judged. c.refuse_damaged.ensures.names ∙ c.in-Err.ensures.known known judged

pub returns-in-Err-clause-left : goal.returns-in-Err-clause-left
returns-in-Err-clause-left g c =
    let looks = c.look_first.ensures in
    let refuse = c.refuse_damaged.ensures in
    let leaves = leaves_all_then c.args.hand.now.view c.look_first.new.hand.view c.refuse_damaged.new.hand.view looks.leaves refuse.leaves in
    left_is c.args.hand.now c.refuse_damaged.new.hand c.args.block (refuse.entered.number ∙ looks.book.number) leaves c.refuse_damaged.result.0 refuse.block c.requires.block

pub returns-in-Err-clause-cause : goal.returns-in-Err-clause-cause
returns-in-Err-clause-cause g c =
    let refuse = c.refuse_damaged.ensures in
    named_refuses c.args.hand.now c.args.block c.args.n c.in-Err.damage c.refuse_damaged.result.1 c.refuse_damaged.new.hand refuse.names (omega (arith, c.if-n-ge-LARGE.false))
    (damage_refuses c.args.hand.now c.look_first.new.hand c.refuse_damaged.new.hand c.args.block c.in-Err.damage c.in-Err.ensures.damage c.look_first.ensures.book.number refuse.enters)

pub returns-in-Err-clause-others : goal.returns-in-Err-clause-others
returns-in-Err-clause-others g c =
    let looks = c.look_first.ensures in
    let refuse = c.refuse_damaged.ensures in
    let leaves = leaves_all_then c.args.hand.now.view c.look_first.new.hand.view c.refuse_damaged.new.hand.view looks.leaves refuse.leaves in
    left_others c.args.hand.now c.refuse_damaged.new.hand c.args.block (refuse.entered.number ∙ looks.book.number) leaves

pub returns-in-Err-clause-frames : goal.returns-in-Err-clause-frames
returns-in-Err-clause-frames g c =
    let looks = c.look_first.ensures in
    let refuse = c.refuse_damaged.ensures in
    let leaves = leaves_all_then c.args.hand.now.view c.look_first.new.hand.view c.refuse_damaged.new.hand.view looks.leaves refuse.leaves in
    left_frames c.args.hand.now c.refuse_damaged.new.hand c.args.block (refuse.entered.number ∙ looks.book.number) leaves

-- ---- it stays

pub resize-requires-clause-block : goal.resize-requires-clause-block
resize-requires-clause-block g c =
    let seen = c.in-Ok.ensures in
    block_stays c.args.hand.now c.look_first.new.hand seen.book.number c.args.block (seen.leaves.all.slots c.args.block.slot.meta c.args.block.slot.index) c.requires.block

pub resize-requires-clause-marked : goal.resize-requires-clause-marked
resize-requires-clause-marked g c =
    let seen = c.in-Ok.ensures in
    λ h found. (stays_here c.args.hand.now c.look_first.new.hand c.args.block c.args.n c.in-Ok.found.stays seen.book.number seen.leaves seen.exact c.if-found.true h found).marked

pub resize-requires-clause-serves : goal.resize-requires-clause-serves
resize-requires-clause-serves g c =
    let seen = c.in-Ok.ensures in
    λ h found. stays_serves c.args.n c.args.block h (stays_here c.args.hand.now c.look_first.new.hand c.args.block c.args.n c.in-Ok.found.stays seen.book.number seen.leaves seen.exact c.if-found.true h found).rule

pub returns-then-found-clause-rest : goal.returns-then-found-clause-rest
returns-then-found-clause-rest g c =
    rest_then c.args.hand.now.view c.look_first.new.hand.view c.resize.new.hand.view c.look_first.ensures.leaves.rest c.resize.ensures.leaves.rest

pub returns-then-found-clause-stays : goal.returns-then-found-clause-stays
returns-then-found-clause-stays g c =
    let seen = c.in-Ok.ensures in
    λ small f. here_stays c.args.hand.now c.args.block c.resize.result c.args.n c.resize.ensures.block (rule_stays c.args.hand.now c.look_first.new.hand c.args.block c.args.n c.in-Ok.found.stays seen.book.number seen.leaves seen.exact c.if-found.true)

pub returns-then-found-clause-kept : goal.returns-then-found-clause-kept
returns-then-found-clause-kept g c =
    let seen = c.in-Ok.ensures in
    λ f. here_kept c.args.hand.now c.look_first.new.hand c.resize.new.hand c.args.block c.args.n c.requires.block seen.book seen.leaves c.resize.ensures.leaves c.resize.result c.args.block.len c.resize.ensures.block c.resize.ensures.kept

pub returns-then-found-clause-damage : goal.returns-then-found-clause-damage
returns-then-found-clause-damage g c =
    λ small. c.in-Ok.ensures.known

pub returns-then-found-clause-cause : goal.returns-then-found-clause-cause
returns-then-found-clause-cause g c =
    let seen = c.in-Ok.ensures in
    inl (
      c.resize.ensures.block,
      record {
        len = c.in-Ok.found.len;
        looked = c.look_first.new.hand;
        looks = seen.looks;
        stays = stays_here c.args.hand.now c.look_first.new.hand c.args.block c.args.n c.in-Ok.found.stays seen.book.number seen.leaves seen.exact c.if-found.true;
        bytes = c.resize.ensures.kept;
        leaves = c.resize.ensures.leaves;
      },
    )

pub returns-then-found-clause-apart : goal.returns-then-found-clause-apart
returns-then-found-clause-apart g c =
    let seen = c.in-Ok.ensures in
    here_apart c.args.hand.now c.look_first.new.hand c.resize.new.hand c.args.block c.args.n c.requires.block seen.book seen.leaves c.resize.ensures.leaves

pub returns-then-found-clause-others : goal.returns-then-found-clause-others
returns-then-found-clause-others g c =
    let seen = c.in-Ok.ensures in
    here_others c.args.hand.now c.look_first.new.hand c.resize.new.hand c.args.block c.args.n c.requires.block seen.book seen.leaves c.resize.ensures.leaves c.resize.ensures.entered.number

pub returns-then-found-clause-frames : goal.returns-then-found-clause-frames
returns-then-found-clause-frames g c =
    let seen = c.in-Ok.ensures in
    here_frames c.args.hand.now c.look_first.new.hand c.resize.new.hand c.args.block c.args.n c.requires.block seen.book seen.leaves c.resize.ensures.leaves c.resize.ensures.entered.number

-- ---- it moves

pub move_to_new-requires-clause-block : goal.move_to_new-requires-clause-block
move_to_new-requires-clause-block g c =
    let seen = c.in-Ok.ensures in
    block_stays c.args.hand.now c.look_first.new.hand seen.book.number c.args.block (seen.leaves.all.slots c.args.block.slot.meta c.args.block.slot.index) c.requires.block

pub move_to_new-requires-clause-whole : goal.move_to_new-requires-clause-whole
move_to_new-requires-clause-whole g c =
    (c.in-Ok.found.len, c.in-Ok.ensures.whole)

pub move_to_new-requires-clause-some : goal.move_to_new-requires-clause-some
move_to_new-requires-clause-some g c =
    let within = c.in-Ok.ensures.some in omega (arith, within, c.min.ensures)

pub returns-in-Ok-move_to_new-clause-resized : goal.returns-in-Ok-move_to_new-clause-resized
returns-in-Ok-move_to_new-clause-resized g c =
    let seen = c.in-Ok.ensures in
    moved_resized c.args.hand.now c.look_first.new.hand c.move_to_new.new.hand c.args.block c.in-Ok-move_to_new.new c.args.n c.min.result c.requires.block seen.book seen.leaves c.in-Ok-move_to_new.ensures.moved

pub returns-in-Ok-move_to_new-clause-stays : goal.returns-in-Ok-move_to_new-clause-stays
returns-in-Ok-move_to_new-clause-stays g c =
    let seen = c.in-Ok.ensures in
    λ small f. moved_stays c.args.hand.now c.args.block c.in-Ok-move_to_new.new c.args.n c.in-Ok-move_to_new.ensures.moved.elsewhere (rule_goes c.args.hand.now c.look_first.new.hand c.args.block c.args.n c.in-Ok.found.stays seen.book.number seen.leaves seen.exact c.if-found.false f)

pub returns-in-Ok-move_to_new-clause-kept : goal.returns-in-Ok-move_to_new-clause-kept
returns-in-Ok-move_to_new-clause-kept g c =
    let seen = c.in-Ok.ensures in
    λ f.
    let count = c.min.ensures ∙ ap (λ k. min k c.args.n) (seen.looks.finds.framed f) in
    subst (λ k. KeepsFirst k c.args.hand.now c.args.block c.move_to_new.new.hand c.in-Ok-move_to_new.new) count (moved_first c.args.hand.now c.look_first.new.hand c.move_to_new.new.hand c.args.block c.in-Ok-move_to_new.new c.args.n c.min.result c.requires.block seen.book seen.leaves c.in-Ok-move_to_new.ensures.moved)

pub returns-in-Ok-move_to_new-clause-large : goal.returns-in-Ok-move_to_new-clause-large
returns-in-Ok-move_to_new-clause-large g c =
    (λ same. absurd (cc), λ is. absurd (not_large c.args.n (omega (arith, c.if-n-ge-LARGE.false)) is))

pub returns-in-Ok-move_to_new-clause-damage : goal.returns-in-Ok-move_to_new-clause-damage
returns-in-Ok-move_to_new-clause-damage g c =
    λ small. c.in-Ok.ensures.known

pub returns-in-Ok-move_to_new-clause-cause : goal.returns-in-Ok-move_to_new-clause-cause
returns-in-Ok-move_to_new-clause-cause g c =
    let seen = c.in-Ok.ensures in
    inr (
      c.in-Ok-move_to_new.ensures.moved.elsewhere,
      record {
        len = c.in-Ok.found.len;
        looked = c.look_first.new.hand;
        looks = seen.looks;
        goes = goes_away c.args.hand.now c.look_first.new.hand c.args.block c.args.n c.in-Ok.found.stays seen.book.number seen.leaves seen.exact c.if-found.false;
        moves = moves_as (MakesIn (g.P.Rules.count_gives c.args.core.now.rules) c.args.core.now c.args.n)
            (λ mid copied. FreesIn (g.P.Rules.keep_gives c.args.core.now.rules) g.M.Mapper.runs copied c.args.block mid c.move_to_new.new.core)
            c.look_first.new.hand c.args.block c.min.result (min c.in-Ok.found.len c.args.n) c.in-Ok-move_to_new.new c.move_to_new.new.hand c.min.ensures c.in-Ok-move_to_new.ensures.moves;
      },
    )

pub returns-in-Ok-move_to_new-clause-apart : goal.returns-in-Ok-move_to_new-clause-apart
returns-in-Ok-move_to_new-clause-apart g c =
    let seen = c.in-Ok.ensures in
    moved_apart c.args.hand.now c.look_first.new.hand c.move_to_new.new.hand c.args.block c.in-Ok-move_to_new.new c.args.n c.min.result c.requires.block seen.book seen.leaves c.in-Ok-move_to_new.ensures.moved

pub returns-in-Ok-move_to_new-clause-others : goal.returns-in-Ok-move_to_new-clause-others
returns-in-Ok-move_to_new-clause-others g c =
    let seen = c.in-Ok.ensures in
    moved_others c.args.hand.now c.look_first.new.hand c.move_to_new.new.hand c.args.block c.in-Ok-move_to_new.new c.args.n c.min.result c.requires.block seen.book seen.leaves c.in-Ok-move_to_new.ensures.moved

pub returns-in-Ok-move_to_new-clause-frames : goal.returns-in-Ok-move_to_new-clause-frames
returns-in-Ok-move_to_new-clause-frames g c =
    let seen = c.in-Ok.ensures in
    moved_frames c.args.hand.now c.look_first.new.hand c.move_to_new.new.hand c.args.block c.in-Ok-move_to_new.new c.args.n c.min.result c.requires.block seen.book seen.leaves c.in-Ok-move_to_new.ensures.moved

pub returns-in-Ok-move_to_new-clause-rest : goal.returns-in-Ok-move_to_new-clause-rest
returns-in-Ok-move_to_new-clause-rest g c =
    let seen = c.in-Ok.ensures in
    moved_rest c.args.hand.now c.look_first.new.hand c.move_to_new.new.hand c.args.block c.in-Ok-move_to_new.new c.args.n c.min.result c.requires.block seen.book seen.leaves c.in-Ok-move_to_new.ensures.moved

-- ---- there is no memory for it

pub returns-in-Err-move_to_new-clause-stays : goal.returns-in-Err-move_to_new-clause-stays
returns-in-Err-move_to_new-clause-stays g c =
    let seen = c.in-Ok.ensures in
    λ small f. refused_stays c.args.hand.now c.args.block _ c.args.n (rule_goes c.args.hand.now c.look_first.new.hand c.args.block c.args.n c.in-Ok.found.stays seen.book.number seen.leaves seen.exact c.if-found.false f)

pub returns-in-Err-move_to_new-clause-damage : goal.returns-in-Err-move_to_new-clause-damage
returns-in-Err-move_to_new-clause-damage g c =
    λ small. c.in-Ok.ensures.known

pub returns-in-Err-move_to_new-clause-left : goal.returns-in-Err-move_to_new-clause-left
returns-in-Err-move_to_new-clause-left g c =
    let seen = c.in-Ok.ensures in
    let moved = c.in-Err-move_to_new.ensures in
    let leaves = leaves_all_then c.args.hand.now.view c.look_first.new.hand.view c.move_to_new.new.hand.view seen.leaves moved.kept in
    left_is c.args.hand.now c.move_to_new.new.hand c.args.block (moved.refused.number ∙ seen.book.number) leaves c.in-Err-move_to_new.left moved.left c.requires.block

pub returns-in-Err-move_to_new-clause-cause : goal.returns-in-Err-move_to_new-clause-cause
returns-in-Err-move_to_new-clause-cause g c =
    let seen = c.in-Ok.ensures in (
      omega (arith, c.if-n-ge-LARGE.false),
      record {
        len = c.in-Ok.found.len;
        looked = c.look_first.new.hand;
        looks = seen.looks;
        goes = goes_away c.args.hand.now c.look_first.new.hand c.args.block c.args.n c.in-Ok.found.stays seen.book.number seen.leaves seen.exact c.if-found.false;
        spends = c.in-Err-move_to_new.ensures.spends;
      },
    )

pub returns-in-Err-move_to_new-clause-apart : goal.returns-in-Err-move_to_new-clause-apart
returns-in-Err-move_to_new-clause-apart g c =
    let seen = c.in-Ok.ensures in
    let moved = c.in-Err-move_to_new.ensures in
    let leaves = leaves_all_then c.args.hand.now.view c.look_first.new.hand.view c.move_to_new.new.hand.view seen.leaves moved.kept in
    left_apart c.args.hand.now c.move_to_new.new.hand c.args.block (moved.refused.number ∙ seen.book.number) leaves

pub returns-in-Err-move_to_new-clause-others : goal.returns-in-Err-move_to_new-clause-others
returns-in-Err-move_to_new-clause-others g c =
    let seen = c.in-Ok.ensures in
    let moved = c.in-Err-move_to_new.ensures in
    let leaves = leaves_all_then c.args.hand.now.view c.look_first.new.hand.view c.move_to_new.new.hand.view seen.leaves moved.kept in
    left_others c.args.hand.now c.move_to_new.new.hand c.args.block (moved.refused.number ∙ seen.book.number) leaves

pub returns-in-Err-move_to_new-clause-frames : goal.returns-in-Err-move_to_new-clause-frames
returns-in-Err-move_to_new-clause-frames g c =
    let seen = c.in-Ok.ensures in
    let moved = c.in-Err-move_to_new.ensures in
    let leaves = leaves_all_then c.args.hand.now.view c.look_first.new.hand.view c.move_to_new.new.hand.view seen.leaves moved.kept in
    left_frames c.args.hand.now c.move_to_new.new.hand c.args.block (moved.refused.number ∙ seen.book.number) leaves

pub returns-in-Err-move_to_new-clause-rest : goal.returns-in-Err-move_to_new-clause-rest
returns-in-Err-move_to_new-clause-rest g c =
    let seen = c.in-Ok.ensures in
    let moved = c.in-Err-move_to_new.ensures in
    let leaves = leaves_all_then c.args.hand.now.view c.look_first.new.hand.view c.move_to_new.new.hand.view seen.leaves moved.kept in
    leaves.rest
