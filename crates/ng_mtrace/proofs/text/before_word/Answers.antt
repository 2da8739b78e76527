use Rattle.std.proofs.Common.{Option, Some, None}
use Rattle.std.specs.Option.{IfSome, MatchOption}
use Rattle.ng_mtrace.proofs.Parts.{suffix_cut}
use Rattle.ng_mtrace.proofs.text.before_word.Goals as goal

some_of : {X : Type 0} (N : Type 0) {P Q : X → Type 0} (r : Option X) → MatchOption r N P → ((x : X) → P x → Q x) → IfSome r Q
some_of N None found then = tt
some_of N (Some x) found then = then x found

pub returns : goal.returns
returns c = some_of _ c.strip_suffix.result c.strip_suffix.ensures.cases (λ before found. suffix_cut c.args.text.now c.args.word.now before.now found.0 found.1)
