use Rattle.std.proofs.Common.{◌≤◌, sym, ap, subst}
use Rattle.ng_lists.specs.Rings.{RingTable}
use Rattle.ng_view.specs.Lists.{Among}
use Rattle.ng_view.specs.declared.view.View.{View}
use Rattle.ng_mask.specs.Fetches.{OfGroup}
use Rattle.ng_serve.specs.Choices.{IsChoice}
use Rattle.ng_serve.specs.Takes.{TakesFreed}
use Rattle.ng_serve.proofs.Fields.{bare_then, group_index, inside_then, lives_then}
use Rattle.ng_serve.proofs.Readings.{reads_then}
use Rattle.ng_ledger.specs.Rings.{IsTable}
use Rattle.ng_group.specs.States.{State}
use Rattle.ng_group.proofs.ServingLemmas.{class_at, inside_at, live_at, member_place}
use Rattle.ng_group.proofs.TakeLemmas.{choice_freed, described_small, described_within, serves, takes_after}
use Rattle.ng_group.proofs.WordLemmas.{word_pages, word_was}
use Rattle.ng_group.proofs.works.Works.serve.Given.{Over}
use Rattle.ng_group.proofs.works.Works.serve.Goals.{After-decay}
use Rattle.ng_group.proofs.works.Works.serve.Goals as goal

pub group_of-group-requires-clause-place : goal.group_of-group-requires-clause-place
group_of-group-requires-clause-place g c =
    member_place g.N.Name.facts.start g.M.Mapper.span g.M.Mapper.runs g.M.Mapper.refused c.args.self.now c.args.class c.args.choice.meta c.requires.working c.requires.class c.requires.member

pub group_of-group-requires-clause-live : goal.group_of-group-requires-clause-live
group_of-group-requires-clause-live g c =
    live_at g.N.Name.facts.start g.M.Mapper.span g.M.Mapper.runs g.M.Mapper.refused _ _ c.args.class c.args.choice.meta c.self.view_is c.requires.working c.requires.class c.requires.member

pub activate-active-requires-clause-group : goal.activate-active-requires-clause-group
activate-active-requires-clause-group g c =
    group_index c.self.inside.seat c.group_of-group.new.seat c.args.choice.meta c.group_of-group.result
    (live_at g.N.Name.facts.start g.M.Mapper.span g.M.Mapper.runs g.M.Mapper.refused _ _ c.args.class c.args.choice.meta c.self.view_is c.requires.working c.requires.class c.requires.member)
    c.group_of-group.ensures.group
    c.group_of-group.ensures.reads

pub activate-active-requires-clause-inside : goal.activate-active-requires-clause-inside
activate-active-requires-clause-inside g c =
    inside_then c.self.inside.seat c.group_of-group.new.seat g.N.Name.facts.start.pages c.group_of-group.ensures.reads
    (inside_at g.N.Name.facts.start g.M.Mapper.span g.M.Mapper.runs g.M.Mapper.refused _ _ c.self.view_is c.requires.working)

pub activate-active-requires-clause-class : goal.activate-active-requires-clause-class
activate-active-requires-clause-class g c =
    described_small c.self.inside.seat c.args.class c.args.choice.meta c.group_of-group.result
    (class_at g.N.Name.facts.start g.M.Mapper.span g.M.Mapper.runs g.M.Mapper.refused _ _ c.args.class c.args.choice.meta c.self.view_is c.requires.working c.requires.class c.requires.member)
    c.requires.class
    c.group_of-group.ensures.group

pub activate-active-requires-clause-lowest : goal.activate-active-requires-clause-lowest
activate-active-requires-clause-lowest g c =
    described_within c.self.inside.seat c.args.class c.args.choice.lowest c.args.choice.meta c.group_of-group.result
    (class_at g.N.Name.facts.start g.M.Mapper.span g.M.Mapper.runs g.M.Mapper.refused _ _ c.args.class c.args.choice.meta c.self.view_is c.requires.working c.requires.class c.requires.member)
    (subst (λ (s : State g.row.M.Denot g.row.P.Denot). OfGroup s.seat c.args.choice.meta (λ h. c.args.choice.lowest ≤ h.last)) (sym c.self.view_is) c.requires.choice.within)
    c.group_of-group.ensures.group

pub take_freed-index-requires-clause-place : goal.take_freed-index-requires-clause-place
take_freed-index-requires-clause-place g c =
    member_place g.N.Name.facts.start g.M.Mapper.span g.M.Mapper.runs g.M.Mapper.refused c.args.self.now c.args.class c.args.choice.meta c.requires.working c.requires.class c.requires.member

pub take_freed-index-requires-clause-live : goal.take_freed-index-requires-clause-live
take_freed-index-requires-clause-live g c =
    lives_then c.self.inside.seat c.activate-active.new.seat c.args.choice.meta
    (reads_then c.self.inside.seat c.group_of-group.new.seat c.activate-active.new.seat c.group_of-group.ensures.reads c.activate-active.ensures.reads)
    (live_at g.N.Name.facts.start g.M.Mapper.span g.M.Mapper.runs g.M.Mapper.refused _ _ c.args.class c.args.choice.meta c.self.view_is c.requires.working c.requires.class c.requires.member)

pub take_freed-index-requires-clause-bare : goal.take_freed-index-requires-clause-bare
take_freed-index-requires-clause-bare g c =
    bare_then c.self.inside.seat c.activate-active.new.seat c.args.choice.meta
    (reads_then c.self.inside.seat c.group_of-group.new.seat c.activate-active.new.seat c.group_of-group.ensures.reads c.activate-active.ensures.reads)
    (subst (λ (s : State g.row.M.Denot g.row.P.Denot). Among c.args.choice.meta s.seat.desk.zero_avail) (sym c.self.view_is) (c.requires.bare c.args.choice.meta c.requires.member))

pub take_freed-index-requires-clause-freed : goal.take_freed-index-requires-clause-freed
take_freed-index-requires-clause-freed g c =
    choice_freed c.self.inside.seat c.activate-active.new.seat c.args.choice c.activate-active.result
    (subst (λ (s : State g.row.M.Denot g.row.P.Denot). IsChoice s.seat c.args.choice) (sym c.self.view_is) c.requires.choice)
    (reads_then c.self.inside.seat c.group_of-group.new.seat c.activate-active.new.seat c.group_of-group.ensures.reads c.activate-active.ensures.reads)
    c.activate-active.ensures.reached

table : (g : Over) (c : After-decay g) → IsTable c.rotate.new.self
table g c = record {
  classes = c.stand_once.ensures.classes;
  places = c.stand_once.ensures.places;
  once = c.stand_once.ensures.once;
  apart = c.stand_once.ensures.apart;
}

takes : (g : Over) (c : After-decay g) → TakesFreed c.self.inside.seat c.args.choice.meta c.take_freed-index.result c.take_freed-index.new.seat
takes g c = takes_after c.self.inside.seat c.group_of-group.new.seat c.activate-active.new.seat c.take_freed-index.new.seat c.args.choice.meta c.take_freed-index.result c.group_of-group.ensures.reads c.activate-active.ensures.reads c.take_freed-index.ensures

pub returns-clause-working : goal.returns-clause-working
returns-clause-working g c =
    (serves g.N.Name.facts.start g.M.Mapper.span g.M.Mapper.runs g.M.Mapper.refused _ _ c.args.class c.args.bytes c.args.choice.meta c.take_freed-index.result c.take_freed-index.new.seat c.follow.new.seat c.rotate.new.self c.decay.new.self c.self.view_is c.requires.class c.requires.bytes c.requires.member c.requires.bare c.requires.idle c.rotate.ensures.rotated (table g c) (takes g c) c.follow.ensures c.requires.working).working

pub returns-clause-only : goal.returns-clause-only
returns-clause-only g c =
    (serves g.N.Name.facts.start g.M.Mapper.span g.M.Mapper.runs g.M.Mapper.refused _ _ c.args.class c.args.bytes c.args.choice.meta c.take_freed-index.result c.take_freed-index.new.seat c.follow.new.seat c.rotate.new.self c.decay.new.self c.self.view_is c.requires.class c.requires.bytes c.requires.member c.requires.bare c.requires.idle c.rotate.ensures.rotated (table g c) (takes g c) c.follow.ensures c.requires.working).only

pub returns-clause-served : goal.returns-clause-served
returns-clause-served g c =
    (serves g.N.Name.facts.start g.M.Mapper.span g.M.Mapper.runs g.M.Mapper.refused _ _ c.args.class c.args.bytes c.args.choice.meta c.take_freed-index.result c.take_freed-index.new.seat c.follow.new.seat c.rotate.new.self c.decay.new.self c.self.view_is c.requires.class c.requires.bytes c.requires.member c.requires.bare c.requires.idle c.rotate.ensures.rotated (table g c) (takes g c) c.follow.ensures c.requires.working).served

pub follow-requires-clause-pages : goal.follow-requires-clause-pages
follow-requires-clause-pages g c =
    word_pages g.N.Name.facts.start g.M.Mapper.span g.M.Mapper.runs g.M.Mapper.refused c.self.view_is c.requires.working c.rotate.new.self (ap (λ (t : RingTable). t.pages) c.rotate.ensures.rotated)

pub follow-requires-clause-was : goal.follow-requires-clause-was
follow-requires-clause-was g c =
    let takes = takes_after c.self.inside.seat c.group_of-group.new.seat c.activate-active.new.seat c.take_freed-index.new.seat c.args.choice.meta c.take_freed-index.result c.group_of-group.ensures.reads c.activate-active.ensures.reads c.take_freed-index.ensures in
    word_was g.N.Name.facts.start g.M.Mapper.span g.M.Mapper.runs g.M.Mapper.refused c.self.view_is c.requires.working c.take_freed-index.new.seat c.args.class c.first_word-was.result c.first_word-was.ensures (ap (λ (v : View). v.desk.active) takes.changes.view)
