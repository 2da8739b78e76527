use Rattle.std.proofs.Common.{◌≡◌, ℕ, ◌+◌, ◌*◌, ◌/◌, ◌%◌, ap, sym, subst, ◌∙◌, arith}
use Rattle.ng_header.specs.Bytes.{byte_of}
use Rattle.ng_view.specs.Steps.{loaded, stored}
use Rattle.ng_view.specs.Tells.{Tells}
use Rattle.ng_bytes.proofs.Bytes.{scribbled, scribbled_kept, scribbled_others}
use Rattle.ng_bytes.proofs.byte.store_byte.Given.{Over}
use Rattle.ng_bytes.proofs.byte.store_byte.Goals as goal

-- the cell of the byte
cell_is : (g : Over) (c : goal.After-store_in g) → c.at.result + c.args.from / 4 * 4 ≡ 4 * ((c.args.block.now.at + c.args.from) / 4)
cell_is g c = let at = c.at.ensures.at in let whole = c.at.ensures.whole in omega (arith, at, whole)

place_is : (g : Over) (c : goal.After-store_in g) → c.args.from % 4 ≡ (c.args.block.now.at + c.args.from) % 4
place_is g c = let at = c.at.ensures.at in let whole = c.at.ensures.whole in omega (arith, at, whole)

pub returns-clause-written : goal.returns-clause-written
returns-clause-written g c =
    let y : ℕ = c.args.block.now.at + c.args.from in
    let v : ℕ = c.put_byte-value.result in
    let block = c.args.block.now in
    scribbled c.args.hand.now c.load-word.new.hand c.store_in.new.hand block c.requires.block y c.load-word.result v
    (c.load-word.ensures.view ∙ ap (λ a. loaded c.args.hand.now.view a c.load-word.result) (cell_is g c))
    (c.store_in.ensures.view ∙ ap (λ a. stored c.load-word.new.hand.view block.slot.meta block.slot.index a v) (cell_is g c))
    c.args.byte (ap (byte_of v) (sym (place_is g c)) ∙ c.put_byte-value.ensures.written)

pub returns-clause-bytes : goal.returns-clause-bytes
returns-clause-bytes g c =
    let y : ℕ = c.args.block.now.at + c.args.from in
    let v : ℕ = c.put_byte-value.result in
    let block = c.args.block.now in
    scribbled_kept c.args.hand.now c.load-word.new.hand c.store_in.new.hand block c.requires.block y c.load-word.result v
    (c.load-word.ensures.view ∙ ap (λ a. loaded c.args.hand.now.view a c.load-word.result) (cell_is g c))
    (c.store_in.ensures.view ∙ ap (λ a. stored c.load-word.new.hand.view block.slot.meta block.slot.index a v) (cell_is g c))
    g.N.Name.facts.start
    (subst (λ a. Tells g.N.Name.facts.start c.args.hand.now.view a c.load-word.result) (cell_is g c) c.load-word.ensures.told)
    (λ j lt ne. c.put_byte-value.ensures.others j lt (λ e. ne (e ∙ place_is g c)))

pub returns-clause-others : goal.returns-clause-others
returns-clause-others g c =
    let y : ℕ = c.args.block.now.at + c.args.from in
    let v : ℕ = c.put_byte-value.result in
    let block = c.args.block.now in
    scribbled_others c.args.hand.now c.load-word.new.hand c.store_in.new.hand block c.requires.block y c.load-word.result v
    (c.load-word.ensures.view ∙ ap (λ a. loaded c.args.hand.now.view a c.load-word.result) (cell_is g c))
    (c.store_in.ensures.view ∙ ap (λ a. stored c.load-word.new.hand.view block.slot.meta block.slot.index a v) (cell_is g c))
