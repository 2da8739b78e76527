use Rattle.std.proofs.Common.{ℕ, subst}
use Rattle.std.specs.Prelude.{Result}
use Rattle.std.specs.Result.{result_err}
use Rattle.ng_frame.specs.Inspects.{gap_of}
use Rattle.ng_frame.specs.Judging.{IsKnownDamage}
use Rattle.ng_frame.specs.declared.damage.Damage.{Damage}
use Rattle.ng_frame.proofs.Tokens.{block_stays}
use Rattle.ng_space.proofs.LeavingFrames.{leaves_all_then}
use Rattle.ng_resize.proofs.LookLemmas.{book_then, finds_length, looked_whole}
use Rattle.ng_resize.proofs.VerdictLemmas.{judged_within, known_answer}
use Rattle.ng_resize.proofs.looking.look_first.Goals as goal

pub may_stay-stays-requires-clause-block : goal.may_stay-stays-requires-clause-block
may_stay-stays-requires-clause-block g c =
    let read = c.nominal_size.ensures in
    block_stays c.args.hand.now c.nominal_size.new.hand read.book.number c.args.block.now (read.leaves.all.slots c.args.block.now.slot.meta c.args.block.now.slot.index) c.requires.block

pub returns-in-Ok-clause-looks : goal.returns-in-Ok-clause-looks
returns-in-Ok-clause-looks g c =
    let read = c.nominal_size.ensures in
    let finds = finds_length c.args.hand.now c.nominal_size.new.hand c.args.block.now c.in-Ok.len c.nominal_size.result c.in-Ok.is read.cause read.judged read.framed read.leaves read.book in
    record { read = c.nominal_size.new.hand; finds = finds; leaves = c.may_stay-stays.ensures.leaves; book = c.may_stay-stays.ensures.book }

pub returns-in-Ok-clause-whole : goal.returns-in-Ok-clause-whole
returns-in-Ok-clause-whole g c =
    let read = c.nominal_size.ensures in
    let finds = finds_length c.args.hand.now c.nominal_size.new.hand c.args.block.now c.in-Ok.len c.nominal_size.result c.in-Ok.is read.cause read.judged read.framed read.leaves read.book in
    looked_whole c.args.hand.now c.nominal_size.new.hand c.may_stay-stays.new.hand c.args.block.now c.in-Ok.len c.requires.block finds c.may_stay-stays.ensures.leaves

pub returns-in-Ok-clause-some : goal.returns-in-Ok-clause-some
returns-in-Ok-clause-some g c =
    let read = c.nominal_size.ensures in
    let finds = finds_length c.args.hand.now c.nominal_size.new.hand c.args.block.now c.in-Ok.len c.nominal_size.result c.in-Ok.is read.cause read.judged read.framed read.leaves read.book in
    let there = block_stays c.args.hand.now c.nominal_size.new.hand read.book.number c.args.block.now (read.leaves.all.slots c.args.block.now.slot.meta c.args.block.now.slot.index) c.requires.block in
    judged_within c.args.block.now.at (gap_of c.args.block.now) c.in-Ok.len there.held (finds.judged there.held there.found)

pub returns-in-Ok-clause-known : goal.returns-in-Ok-clause-known
returns-in-Ok-clause-known g c =
    subst (λ (r : Result ℕ Damage). IsKnownDamage c.args.hand.now c.args.block.now (result_err r)) c.in-Ok.is (known_answer c.args.hand.now c.args.block.now c.nominal_size.result c.nominal_size.ensures.known)

pub returns-in-Ok-clause-leaves : goal.returns-in-Ok-clause-leaves
returns-in-Ok-clause-leaves g c =
    leaves_all_then c.args.hand.now.view c.nominal_size.new.hand.view c.may_stay-stays.new.hand.view c.nominal_size.ensures.leaves c.may_stay-stays.ensures.leaves

pub returns-in-Ok-clause-book : goal.returns-in-Ok-clause-book
returns-in-Ok-clause-book g c =
    book_then c.args.hand.now c.nominal_size.new.hand c.may_stay-stays.new.hand c.nominal_size.ensures.book c.may_stay-stays.ensures.book

pub returns-in-Err-clause-known : goal.returns-in-Err-clause-known
returns-in-Err-clause-known g c =
    subst (λ (r : Result ℕ Damage). IsKnownDamage c.args.hand.now c.args.block.now (result_err r)) c.in-Err.is (known_answer c.args.hand.now c.args.block.now c.nominal_size.result c.nominal_size.ensures.known)
