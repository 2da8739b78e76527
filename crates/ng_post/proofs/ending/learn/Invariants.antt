use Rattle.std.proofs.Common.{◌≡◌, ◌<◌, ◌++◌, ℕ, List, get_or, length, map}
use Rattle.std.specs.Prelude.{vec_len}
use Rattle.crossbeam_queue.specs.Passes.{IsPassOf, view}
use Rattle.ng_post.specs.Box.{AreAllOf}
use Rattle.ng_post.specs.Letters.{note_of}
use Rattle.ng_post.specs.declared.mail.Letter.{Letter}
use Rattle.ng_post.proofs.ending.learn.Given as goal

-- no pass knows anything else, and so many boxes were learned of
abbrev pub invariant-loop-b : goal.invariant-loop-b
invariant-loop-b g l = record {
  count : length l.leads.items ≡ length l.initial.leads.items;
  passes : (b : ℕ) (q : _) (p : _) → b < vec_len l.boxes.boxes → IsPassOf (get_or l.boxes.boxes.items b q) (get_or l.leads.items b p);
  same : (b : ℕ) (p o : _) → b < vec_len l.boxes.boxes → view (get_or l.leads.items b p) ≡ view (get_or l.initial.leads.items b o);
  learned : (b : ℕ) (p : _) → b < l.b
      → (items : List (Letter g.row.N.Denot)) × (length (view (get_or l.initial.leads.items b p)).known ≡ (view (get_or l.initial.leads.items b p)).made
      → AreAllOf (view (get_or l.initial.leads.items b p)).known ((view (get_or l.initial.leads.items b p)).got ++ map note_of items));
}
