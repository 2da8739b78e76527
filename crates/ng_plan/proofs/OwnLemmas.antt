-- In each log an own block comes from an earlier op that made it under its name, and no other own op takes it.
use Rattle.std.proofs.Common.{◌≡◌, ℕ, ◌<◌, List, [], length, take, Option, Some, None, refl, sym, ap, ◌∙◌, arith, zero-add}
use Rattle.std.specs.Option.{option_and_then}
use Rattle.ng_mtrace.specs.declared.log.Line.{Line}
use Rattle.ng_mtrace.specs.declared.log.Line.TheVariants as line
use Rattle.ng_terms.specs.declared.plan.Op.TheVariants.{Make}
use Rattle.ng_terms.specs.declared.plan.Origin.TheVariants.{Own, Claim, Skip}
use Rattle.ng_terms.specs.Calls.{origin_of}
use Rattle.ng_plan.specs.declared.step.Place.{Place}
use Rattle.ng_plan.specs.Mentions.{ended, made, maker, own}
use Rattle.ng_plan.specs.Plans.{number_of, op_of, ops_of, origin}
use Rattle.ng_plan.specs.Sound.{ended_name, made_name, op_of_log, TakesOwnOps}
use Rattle.ng_plan.specs.Turns.{Turns, makers_of, takers_of}
use Rattle.ng_plan.proofs.MakerLemmas.{line_at, IsMaker, maker_is, maker_once}
use Rattle.ng_plan.proofs.OpLemmas.{length-ops, op_at, op_with}

skip_own : (op : ℕ) → Skip ≡ Own op → ⊥
skip_own op same = cc

claim_own : (number op : ℕ) → Claim number ≡ Own op → ⊥
claim_own number op same = cc

own_same : (at op : ℕ) → Own at ≡ Own op → Some at ≡ Some op
own_same at op same = cc

origin_own : (own taken : Option ℕ) (op : ℕ) → origin own taken ≡ Own op → own ≡ Some op
origin_own (Some at) taken op is = own_same at op is
origin_own None (Some number) op is = absurd (claim_own number op is)
origin_own None None op is = absurd (skip_own op is)

-- an op with an own block is that of a line with this own op
own_line : (line : Line) (own taken given : Option ℕ) (op : ℕ) → origin_of (op_of line own taken given) ≡ Own op → own ≡ Some op
own_line (line.Make name size) own taken given op is = absurd (skip_own op is)
own_line (line.End name) own taken given op is = origin_own own taken op is
own_line (line.Move old name size) own taken given op is = origin_own own taken op is

pub ended_line : (line : Line) (own taken given : Option ℕ) → ended_name (op_of line own taken given) ≡ ended line
ended_line (line.Make name size) own taken given = refl
ended_line (line.End name) own taken given = refl
ended_line (line.Move old name size) own taken given = refl

pub made_line : (line : Line) (own taken given : Option ℕ) → made_name (op_of line own taken given) ≡ made line
made_line (line.Make name size) own taken given = refl
made_line (line.End name) own taken given = refl
made_line (line.Move old name size) own taken given = refl

-- the name of an own block, and its maker
pub record Owned (lines : List Line) (i op : ℕ) : Type 0 where
  pub name : ℕ
  pub ends : ended (line_at lines i) ≡ Some name
  pub maker_is : maker name (take i lines) ≡ Some op

none_some : (op : ℕ) → None ≡ Some op → ⊥
none_some op same = cc

owned : (lines : List Line) (i op : ℕ) (name : Option ℕ) → ended (line_at lines i) ≡ name → option_and_then (λ n. maker n (take i lines)) name ≡ Some op → Owned lines i op
owned lines i op None is found = absurd (none_some op found)
owned lines i op (Some name) is found = record { name = name; ends = is; maker_is = found }

-- the op of a log at a place, from its line
pub at_line : (turns : Turns) (log : ℕ) (lines : List Line) (i : ℕ) → i < length lines → op_of_log (ops_of turns log lines) i ≡ op_with turns (take i lines) (line_at lines i) (record { log = log; op = i })
at_line turns log lines i within = op_at turns log [] lines i (Make 0 0 None) within ∙ ap (λ (n : ℕ). op_with turns (take i lines) (line_at lines i) (record { log = log; op = n })) (zero-add i)

pub owned_at : (turns : Turns) (log : ℕ) (lines : List Line) (i op : ℕ) → i < length lines → origin_of (op_of_log (ops_of turns log lines) i) ≡ Own op → Owned lines i op
owned_at turns log lines i op within is =
    let place : Place = record { log = log; op = i } in
    let here : origin_of (op_with turns (take i lines) (line_at lines i) place) ≡ Own op = sym (ap origin_of (at_line turns log lines i within)) ∙ is in
    owned lines i op (ended (line_at lines i)) refl (own_line (line_at lines i) (own (take i lines) (line_at lines i)) (number_of (takers_of turns) place) (number_of (makers_of turns) place) op here)

-- each own block of a log comes from an earlier op of the log that made it, which no other op has as own
pub takes_own_ops : (turns : Turns) (log : ℕ) (lines : List Line) → TakesOwnOps (ops_of turns log lines)
takes_own_ops turns log lines =
    let long : length (ops_of turns log lines) ≡ length lines = length-ops turns log [] lines in
    record {
      earlier = λ i op within is.
          let o : Owned lines i op = owned_at turns log lines i op (omega arith) is in
          (maker_is lines o.name op i (omega arith) o.maker_is).before;
      makes = λ i op within is.
          let inside : i < length lines = omega arith in
          let o : Owned lines i op = owned_at turns log lines i op inside is in
          let m : IsMaker lines o.name op i = maker_is lines o.name op i (omega arith) o.maker_is in
          let earlier : op < i = m.before in
          ap made_name (at_line turns log lines op (omega arith)) ∙ made_line (line_at lines op) _ _ _ ∙ m.makes ∙ sym (ap ended_name (at_line turns log lines i inside) ∙ ended_line (line_at lines i) _ _ _ ∙ o.ends);
      once = λ i other op within inside is again.
          let o : Owned lines i op = owned_at turns log lines i op (omega arith) is in
          let p : Owned lines other op = owned_at turns log lines other op (omega arith) again in
          maker_once lines o.name p.name op i other (omega arith) (omega arith) o.maker_is p.maker_is o.ends p.ends;
    }
