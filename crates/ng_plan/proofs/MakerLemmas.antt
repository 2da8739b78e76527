-- The maker of a name: an earlier line that makes it, and no line behind that mentions it.
use Rattle.std.proofs.Common.{◌≡◌, ℕ, zero, suc, ◌+◌, ◌<◌, ◌≤◌, Bool, true, false, List, [], ◌∷◌, ◌++◌, length, take, get_or, length-take, Option, Some, None, cond, refl, sym, ap, ◌∙◌, arith, ⊎_elim, subst}
use Rattle.std.proofs.lemmas.Bool.{cases_eq, cases_lt, eqb-true, false≢true}
use Rattle.std.proofs.lemmas.List.{take_more}
use Rattle.ng_mtrace.specs.declared.log.Line.{Line}
use Rattle.ng_mtrace.specs.declared.log.Line.TheVariants.{Make}
use Rattle.ng_plan.specs.Mentions.{ended, made, is_name, maker_then, maker}
use Rattle.ng_plan.proofs.TableLemmas.{maker_push, eqb-same}

-- the line at a place; a make of nothing past the last
abbrev pub line_at : List Line → ℕ → Line
line_at lines i = get_or lines i (Make 0 0)

-- the line at this place makes the name, and none of the lines behind it, up to here, mentions the name
pub record IsMaker (lines : List Line) (name op upto : ℕ) : Type 0 where
  pub before : op < upto
  pub makes : made (line_at lines op) ≡ Some name
  pub unmade : (i : ℕ) → op < i → i < upto → is_name name (made (line_at lines i)) ≡ false
  pub unended : (i : ℕ) → op < i → i < upto → is_name name (ended (line_at lines i)) ≡ false

-- a test of a name that holds is of that name
pub name_is : (name : ℕ) (mention : Option ℕ) → is_name name mention ≡ true → mention ≡ Some name
name_is name None is = absurd (false≢true is)
name_is name (Some other) is = ap Some (eqb-true other name is)

some_none : (op : ℕ) → Some op ≡ None → ⊥
some_none op same = cc

some_same : (a b : ℕ) → Some a ≡ Some b → a ≡ b
some_same a b same = cc

-- a mention of a name passes the test of the name
still_made : (name : ℕ) (mention : Option ℕ) → mention ≡ Some name → is_name name mention ≡ false → ⊥
still_made name mention is other =
    let passes : is_name name mention ≡ true = rw is (eqb-same name name refl) in
    false≢true (sym other ∙ passes)

-- one more line
more : (lines : List Line) (name op upto : ℕ) (ends makes : Bool) (before : Option ℕ) → is_name name (ended (line_at lines upto)) ≡ ends → is_name name (made (line_at lines upto)) ≡ makes → (before ≡ Some op → IsMaker lines name op upto) → cond makes (Some upto) (cond ends None before) ≡ Some op → IsMaker lines name op (upto + 1)
more lines name op upto ends true before ended_is made_is so_far is =
    let here : op ≡ upto = cc in
    record {
      before = omega arith;
      makes = subst (λ (i : ℕ). made (line_at lines i) ≡ Some name) (sym here) (name_is name (made (line_at lines upto)) made_is);
      unmade = λ i above below. absurd (omega arith);
      unended = λ i above below. absurd (omega arith);
    }
more lines name op upto true false before ended_is made_is so_far is = absurd (some_none op (sym is))
more lines name op upto false false before ended_is made_is so_far is =
    let was : IsMaker lines name op upto = so_far is in
    let earlier : op < upto = was.before in
    record {
      before = omega arith;
      makes = was.makes;
      unmade = λ i above below. ⊎_elim
          (λ same. subst (λ (k : ℕ). is_name name (made (line_at lines k)) ≡ false) (sym same) made_is)
          (λ other. was.unmade i above (omega arith))
          (cases_eq i upto);
      unended = λ i above below. ⊎_elim
          (λ same. subst (λ (k : ℕ). is_name name (ended (line_at lines k)) ≡ false) (sym same) ended_is)
          (λ other. was.unended i above (omega arith))
          (cases_eq i upto);
    }

-- the maker among the first lines
pub maker_is : (lines : List Line) (name op upto : ℕ) → upto ≤ length lines → maker name (take upto lines) ≡ Some op → IsMaker lines name op upto
maker_is lines name op zero within is = absurd (some_none op (sym is))
maker_is lines name op (suc n) within is =
    let last : n < length lines = omega arith in
    let count : length (take n lines) ≡ n = omega (arith, length-take {A = Line}) in
    let pushed : take (n + 1) lines ≡ take n lines ++ line_at lines n ∷ [] = take_more lines n (Make 0 0) last in
    let step : maker name (take (n + 1) lines) ≡ maker_then name n (line_at lines n) (maker name (take n lines)) =
    ap (maker name) pushed ∙ maker_push name (take n lines) (line_at lines n) ∙ ap (λ (k : ℕ). maker_then name k (line_at lines n) (maker name (take n lines))) count in
    let next : suc n ≡ n + 1 = omega arith in
    let told : maker name (take (n + 1) lines) ≡ Some op = ap (λ (k : ℕ). maker name (take k lines)) (sym next) ∙ is in
    subst (IsMaker lines name op) (sym next) (more lines name op n (is_name name (ended (line_at lines n))) (is_name name (made (line_at lines n))) (maker name (take n lines)) refl refl (λ so_far. maker_is lines name op n (omega arith) so_far) (sym step ∙ told))

-- two ends that take one op are one
pub maker_once : (lines : List Line) (name other op i k : ℕ) → i ≤ length lines → k ≤ length lines → maker name (take i lines) ≡ Some op → maker other (take k lines) ≡ Some op → ended (line_at lines i) ≡ Some name → ended (line_at lines k) ≡ Some other → i ≡ k
maker_once lines name other op i k within inside is again ends also =
    let here : IsMaker lines name op i = maker_is lines name op i within is in
    let there : IsMaker lines other op k = maker_is lines other op k inside again in
    let one : name ≡ other = some_same name other (sym here.makes ∙ there.makes) in
    ⊎_elim
    (λ below. absurd (still_made name (ended (line_at lines i)) ends (subst (λ (n : ℕ). is_name n (ended (line_at lines i)) ≡ false) (sym one) (there.unended i here.before below))))
    (λ above. ⊎_elim
    (λ same. same)
    (λ apart. absurd (still_made other (ended (line_at lines k)) also (subst (λ (n : ℕ). is_name n (ended (line_at lines k)) ≡ false) one (here.unended k there.before (omega arith)))))
    (cases_eq i k))
    (cases_lt i k)
