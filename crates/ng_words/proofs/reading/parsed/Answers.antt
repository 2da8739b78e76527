use Rattle.std.proofs.Common.{◌∙◌, inl, refl}
use Rattle.clap.specs.Words.{app_of}
use Rattle.ng_words.proofs.ClapLemmas.{memory-from, rows-from, simple-from_free, taken-from}
use Rattle.ng_words.proofs.reading.parsed.Goals as goal

pub returns-in-Ok-clause-taken : goal.returns-in-Ok-clause-taken
returns-in-Ok-clause-taken c = taken-from _ _ (c.in-Ok.ensures.kinds c.requires)

pub returns-in-Ok-clause-rows : goal.returns-in-Ok-clause-rows
returns-in-Ok-clause-rows c =
    let rows = c.in-Ok.ensures.matches (simple-from_free (app_of c.args.command) c.requires) in
    rows-from _ _ _ rows.0

pub returns : goal.returns
returns c = record {
  taken = tt;
  rows = tt;
  usage = λ is taken. c.in_default.not-OutOfMemory (c.kind.ensures ∙ memory-from _ _ c.in-Err.error (c.in-Err.ensures.kinds c.requires) taken);
  host = inl refl;
}
