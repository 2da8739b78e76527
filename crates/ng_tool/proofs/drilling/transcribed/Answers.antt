use Rattle.std.proofs.Common.{◌≡◌, ◌++◌, List, length, ap, ◌∙◌, subst, arith}
use Rattle.ng_drill.specs.Lines.{transcript}
use Rattle.ng_drill.specs.declared.answer.Answer.{Answer}
use Rattle.ng_space.specs.Callers.{Caller}
use Rattle.ng_space.specs.Closings.{IsClosed, books_of}
use Rattle.ng_tool.proofs.DrillLemmas.{count_answers, drills_closed}
use Rattle.ng_tool.proofs.drilling.transcribed.Goals as goal

pub render-requires : goal.render-requires
render-requires g c =
    let count : length c.args.answers ≡ length c.args.prepared.script.commands = count_answers _ _ _ _ _ _ c.requires.done.transcript.answered in
    let shown : length c.as_slice.result.now ≡ length c.args.answers = ap (λ (all : List Answer). length all) c.as_slice.ensures in
    let none : length c.args.prepared.text.items ≡ 0 = ap length c.args.prepared.no_text in
    let room = c.args.prepared.text_room in
    omega (arith, count, shown, none, room)

pub returns-clause-runs : goal.returns-clause-runs
returns-clause-runs g c =
    let done = c.requires.done in
    drills_closed g.M.Mapper.runs g.M.Mapper.refused g.M.Mapper.span c.args.prepared.script g.N.Name.facts
    c.args.core.seat done.hand c.args.core.mapper c.close-image.result.2
    (record { image = c.close-image.result.0; books = c.from_vec.result; replies = c.new.result }) c.args.answers
    c.requires.secret c.requires.cap c.close-image.ensures.mapper c.close-image.ensures.pages done.number done.transcript
    (subst (λ (hs : List Caller). IsClosed g.N.Name.facts.start c.close-image.result.0.words c.args.core.seat hs) done.one c.close-image.ensures.closed)
    c.close-image.ensures.left
    (c.from_vec.ensures ∙ c.close-image.ensures.books ∙ ap books_of done.one) c.new.ensures
    c.args.closed.items c.push_reserved.new.self.items c.requires.none c.push_reserved.ensures.items
    c.args.prepared.text.items c.render.new.text.items c.args.prepared.no_text
    (c.render.ensures.items ∙ ap (λ (all : List Answer). c.args.prepared.text.items ++ transcript all) c.as_slice.ensures)
