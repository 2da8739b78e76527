use Rattle.std.proofs.Common.{ap, ◌∙◌}
use Rattle.ng_replay.proofs.HandLemmas.{AreAll-books}
use Rattle.ng_report.proofs.CallerLemmas.{HasReplies-from_Fits}
use Rattle.ng_tool.proofs.EndLemmas.{runs_closed, span_left}
use Rattle.ng_tool.proofs.ending.reported.Goals as goal

pub close-image-requires-clause-all : goal.close-image-requires-clause-all
close-image-requires-clause-all g c = AreAll-books _ c.args.prepared.plan _ _ _ c.requires.all c.requires.books

pub render-requires-clause-answered : goal.render-requires-clause-answered
render-requires-clause-answered g c = rw c.as_slice.ensures.value (HasReplies-from_Fits _ c.args.prepared.mode _ c.requires.fits)

pub returns-clause-runs : goal.returns-clause-runs
returns-clause-runs g c =
    runs_closed g.M.Mapper.span g.M.Mapper.runs g.M.Mapper.refused c.args.prepared.plan c.args.prepared.mode c.args.prepared.calls_shown g.N.Name.facts
    c.args.core.seat c.args.hands.items c.args.core.mapper c.close-image.result.2
    (record { image = c.close-image.result.0; books = c.from_vec.result; replies = c.from_vec-2.result }) c.args.replies.items
    c.requires.secret c.requires.cap c.close-image.ensures.mapper c.close-image.ensures.pages
    c.requires.fits c.requires.books c.requires.framed
    c.close-image.ensures.closed c.close-image.ensures.left (c.from_vec.ensures ∙ c.close-image.ensures.books) c.from_vec-2.ensures
    c.args.closed.items c.push_reserved.new.self.items c.requires.none c.push_reserved.ensures.items
    c.args.prepared.text.items c.render.new.text.items c.as_slice.result.now c.live_pages.result c.args.prepared.no_text c.render.ensures.items
    c.as_slice.ensures.value c.live_pages.ensures

pub returns-clause-span : goal.returns-clause-span
returns-clause-span g c = ap g.M.Mapper.span c.close-image.ensures.mapper ∙ span_left g.N.Name.facts _ _ _ _ c.close-image.ensures.left
