use Rattle.std.proofs.Common.{◌≡◌, ◌∙◌, ℕ, List, [], ◌++◌, take, drop, length, vec_len, refl, arith}
use Rattle.ng_mtrace.specs.Streams.{put_back}
use Rattle.ng_script.specs.declared.script_fault.ScriptFault.TheVariants.{BadLine, Limit}
use Rattle.ng_mtrace.proofs.StreamLemmas.{put_back-nil, taken-more}
use Rattle.ng_mtrace.proofs.ReadSteps.{read-copied}
use Rattle.ng_script.proofs.ReadLemmas.{fed_more, reads_script, takes_faultless, meets_fault, bad_line_is_not_host, limit_is_not_host, same_fault}
use Rattle.ng_script.proofs.reading.read_script.Goals as goal

pub loop-count-init : goal.loop-count-init
loop-count-init g c = record {
  ready = c.in-Ok-new.ensures.ready;
  bytes = [];
  taken = put_back-nil (g.I.Source.left c.args.input.now);
  stands = record { faults = c.in-Ok-new.ensures.faults; script = c.in-Ok-new.ensures.script };
  wide = omega (arith, c.in-Ok.ensures.len);
  exact = λ _. refl;
  later = omega arith;
}

pub loop-count-preserved : goal.loop-count-preserved
loop-count-preserved g c =
    let whole = c.loop-count.invariant in
    let fed : List ℕ = take c.in-Ok-read.count c.deref.result.now in
    let long : length c.read.new.buf ≡ vec_len c.loop-count.piece = omega (arith, c.read.auto.buf, c.as_mut_slice.ensures.len) in
    let read : g.I.Source.left c.loop-count.input ≡ put_back fed (g.I.Source.left c.read.new.self) =
    read-copied (g.I.Source.left c.loop-count.input) (g.I.Source.left c.read.new.self) c.read.new.buf (drop (length c.read.new.buf) c.loop-count.piece.items) c.deref.result.now c.in-Ok-read.count (vec_len c.loop-count.piece) c.in-Ok-read.ensures.bytes c.in-Ok-read.ensures.within long c.deref.ensures.value in
    record {
      ready = c.in_default-feed.ensures.ready;
      bytes = whole.bytes ++ fed;
      taken = taken-more (g.I.Source.left c.args.input.now) (g.I.Source.left c.loop-count.input) (g.I.Source.left c.read.new.self) whole.bytes fed whole.taken read;
      stands = fed_more c.loop-count.part c.feed.new.self whole.bytes fed whole.stands c.in_default-feed.ensures.faults c.in_default-feed.ensures.script;
      wide = whole.wide;
      exact = λ exact. c.in-Ok-read.ensures.faultless exact ∙ whole.exact exact;
      later = omega (arith, whole.later, c.in-Ok-read.ensures.cause.later);
    }

pub returns-then-count-eq0-clause-ok : goal.returns-then-count-eq0-clause-ok
returns-then-count-eq0-clause-ok g c =
    let whole = c.loop-count.invariant in
    let last : g.I.Source.left c.loop-count.input ≡ put_back [] (g.I.Source.left c.read.new.self) = rw c.if-count-eq0.true at c.in-Ok-read.ensures.bytes in
    reads_script (g.I.Source.left c.args.input.now) (g.I.Source.left c.loop-count.input) (g.I.Source.left c.read.new.self) c.loop-count.part whole.bytes c.finish.result whole.taken last
    (c.in-Ok-read.ensures.end c.if-count-eq0.true) whole.stands c.finish.ensures.faultless c.finish.ensures.script

pub returns-in-Err-clause-bad_line : goal.returns-in-Err-clause-bad_line
returns-in-Err-clause-bad_line g c = λ line same.
    let whole = c.loop-count.invariant in
    let fed : List ℕ = take c.in-Ok-read.count c.deref.result.now in
    let long : length c.read.new.buf ≡ vec_len c.loop-count.piece = omega (arith, c.read.auto.buf, c.as_mut_slice.ensures.len) in
    let read : g.I.Source.left c.loop-count.input ≡ put_back fed (g.I.Source.left c.read.new.self) =
    read-copied (g.I.Source.left c.loop-count.input) (g.I.Source.left c.read.new.self) c.read.new.buf (drop (length c.read.new.buf) c.loop-count.piece.items) c.deref.result.now c.in-Ok-read.count (vec_len c.loop-count.piece) c.in-Ok-read.ensures.bytes c.in-Ok-read.ensures.within long c.deref.ensures.value in
    meets_fault (g.I.Source.left c.args.input.now) (g.I.Source.left c.loop-count.input) (g.I.Source.left c.read.new.self) c.loop-count.part whole.bytes fed c.in-Err.fault (BadLine line) whole.taken read whole.stands (same_fault c.in-Err.fault (BadLine line) same) (bad_line_is_not_host line) c.in-Err.ensures.err

pub returns-in-Err-clause-limit : goal.returns-in-Err-clause-limit
returns-in-Err-clause-limit g c = λ line same.
    let whole = c.loop-count.invariant in
    let fed : List ℕ = take c.in-Ok-read.count c.deref.result.now in
    let long : length c.read.new.buf ≡ vec_len c.loop-count.piece = omega (arith, c.read.auto.buf, c.as_mut_slice.ensures.len) in
    let read : g.I.Source.left c.loop-count.input ≡ put_back fed (g.I.Source.left c.read.new.self) =
    read-copied (g.I.Source.left c.loop-count.input) (g.I.Source.left c.read.new.self) c.read.new.buf (drop (length c.read.new.buf) c.loop-count.piece.items) c.deref.result.now c.in-Ok-read.count (vec_len c.loop-count.piece) c.in-Ok-read.ensures.bytes c.in-Ok-read.ensures.within long c.deref.ensures.value in
    meets_fault (g.I.Source.left c.args.input.now) (g.I.Source.left c.loop-count.input) (g.I.Source.left c.read.new.self) c.loop-count.part whole.bytes fed c.in-Err.fault (Limit line) whole.taken read whole.stands (same_fault c.in-Err.fault (Limit line) same) (limit_is_not_host line) c.in-Err.ensures.err

pub returns-in_default-read-clause-undecided : goal.returns-in_default-read-clause-undecided
returns-in_default-read-clause-undecided g c = λ _.
    let whole = c.loop-count.invariant in
    takes_faultless (g.I.Source.left c.args.input.now) (g.I.Source.left c.loop-count.input) (g.I.Source.left c.read.new.self) c.loop-count.part whole.bytes whole.taken (c.in_default-read.ensures.err) whole.stands whole.ready

pub returns-in_default-read-clause-unfailed : goal.returns-in_default-read-clause-unfailed
returns-in_default-read-clause-unfailed g c = λ exact other. absurd (other refl)
