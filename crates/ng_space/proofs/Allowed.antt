-- From what a step may do by the rule to what the table asks of it.
use Rattle.std.proofs.Common.{◌≡◌, ℕ, List, set, refl, sym, subst}
use Rattle.std.specs.Prelude.{slice_index}
use Rattle.atomic_table.specs.Table.{State, Allows, Splits, Joins, keeps}
use Rattle.ng_view.specs.declared.view.View.{View}
use Rattle.ng_view.specs.declared.view.Start.{Start}
use Rattle.ng_view.specs.Rule.{Rule}
use Rattle.ng_view.specs.May.{May}
use Rattle.ng_view.specs.Cuts.{Merge}
use Rattle.ng_rule.proofs.hand.Joins.{joins}
use Rattle.ng_space.specs.Splits.{MaySplit}

-- the rule of a table whose key is that start
abbrev pub Holds : Start → State (Unit {0}) View → Type 0
Holds key s = Rule key s.words s.views

pub may_allows : (key key' : Start) (slots id : ℕ) (me : View × List (ℕ × Unit {0})) (k : ℕ) (f : ℕ → ℕ) (told : View → ℕ → View → Type 0) → key ≡ key' → May key id me.0 k f told
    → Allows (Holds key') slots id me k f (λ n after. told me.0 n after.0 × (after.1 ≡ me.1))
may_allows key key' slots id me k f told is may s h size at fits =
    let p = may s.words s.views (subst (λ q. Rule q s.words s.views) (sym is) h) at fits in
    (p.0, keeps, tt, subst (λ q. Rule q (set s.words k (f (slice_index s.words k))) (set s.views id p.0)) is p.1, (p.2, refl))

pub may_split : (key key' : Start) (id : ℕ) (v l r : View) → key ≡ key' → MaySplit key id v l r → Splits (Holds key') id v l r
may_split key key' id v l r is may = subst (λ q. Splits (Holds q) id v l r) is (λ s h at. may s.words s.views h at)

pub may_merge : (key : Start) (id : ℕ) (v : View) (other : ℕ) (w b s : View) → Merge v w b s → Joins (Holds key) id v other w b s
may_merge key id v other w b s merge t h at apart there = joins key t.words t.views id other v w b s h at apart there merge
