use Rattle.std.proofs.Common.{◌≡◌, ℕ, zero, suc, List, [], ◌∷◌, ◌/◌, ap, sym, ◌∙◌}
use Rattle.std.specs.Prelude.{slice_index}
use Rattle.std.specs.Mem.Slots.{slots_items}
use mathlib.Core.Option.{some, some-ne-none, some-injective}
use lib.ListN.{get_elem?}
use Rattle.ng_view.specs.Cells.{cell}
use Rattle.ng_space.proofs.image.Image.word.Goals as goal

index_at : (ws : List ℕ) (k x : ℕ) → get_elem? ws k ≡ some x → x ≡ slice_index ws k
index_at [] k x e = absurd (some-ne-none x (sym e))
index_at (w ∷ ws) zero x e = sym (some-injective w x e)
index_at (w ∷ ws) (suc k) x e = index_at ws k x e

pub returns : goal.returns
returns c = index_at (slots_items c.self.inside.closed.words) (c.args.addr / 4) _ c.word.ensures ∙ ap (λ image. cell image.words c.args.addr) c.self.view_is
