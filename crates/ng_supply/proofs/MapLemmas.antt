-- What a mapper's new run is for the lock's seat.
use Rattle.std.proofs.Common.{◌≡◌, ℕ, ◌≤◌, true, List, sym, ap, subst, ◌∙◌, arith}
use Rattle.ng_mapper.specs.Mapping.{AreLaid, IsFree, IsSpan, NotesNone, Span}
use Rattle.ng_mapper.specs.Runs as mapper
use Rattle.ng_mapper.specs.declared.refusals.Refusals.{Refusals}
use Rattle.ng_view.specs.Conditions.{Sees}
use Rattle.ng_view.specs.declared.view.Start.{Start}
use Rattle.ng_view.specs.declared.view.View.{View}
use Rattle.ng_view.specs.Notes.{IsNewRun, NotesRun}
use Rattle.ng_rule.proofs.lock.Knowing.{sees-run}
use Rattle.ng_ledger.specs.Runs.{AreMapped}
use Rattle.ng_ledger.proofs.RunLemmas.{mapped_new, new_run}
use Rattle.ng_supply.specs.Runs.{IsHeapMapper, IsInSpace, MapsRun}

module _ (start : Start) (v : View) (span : Span) (live : List mapper.Run) (refused : Refusals) (is : IsHeapMapper start v span live refused) (a pages : ℕ) (free : IsFree span live (a, pages)) where
  pub new : IsNewRun start v a pages
  new = new_run start span v live a pages is.lower is.upper is.mapped free

  in_space : IsSpan span → start.pages ≤ 16384 → IsInSpace start a pages
  in_space bounded few =
      let above = free.lies.above in
      let below = free.lies.below in
      record {
        whole = free.lies.aligned;
        above = omega (arith, bounded.above_first);
        below = omega (arith, bounded.inside, is.size);
        few = omega (arith, bounded.inside, is.size);
      }

  module _ (w : View) (note : NotesRun v a pages true w) where
    -- the mapper after the call
    pub mapper_noted : (span' : Span) (live' : List mapper.Run) (refused' : Refusals) → AreLaid span live → span' ≡ span → mapper.AddsRun live live' (a, pages) → NotesNone refused refused' → IsHeapMapper start w span' live' refused'
    mapper_noted span' live' refused' laid same adds calm = record {
      lower = ap (λ (s : Span). s.lower) same ∙ is.lower;
      upper = ap (λ (s : Span). s.upper) same ∙ is.upper;
      size = ap (λ (s : Span). s.size) same ∙ is.size;
      mapped = subst (λ (x : View). AreMapped x.desk.layout.runs live') (sym note.view) (mapped_new span v.desk.layout.runs live laid is.mapped live' a pages free adds);
      counted = subst (λ (x : View). x.desk.refusals ≤ refused'.count) (sym note.view) (omega (arith, is.counted, calm.later));
    }

    pub maps : IsSpan span → start.pages ≤ 16384 → MapsRun start v a pages w
    maps bounded few = record {
      note = note;
      space = in_space bounded few;
      new = new;
      zero = λ b al low high. subst (λ (x : View). Sees x b 0) (sym note.view) (sees-run v a pages b al (omega (arith, free.lies.aligned)) low high);
    }
