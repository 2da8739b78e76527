-- The stores of the lock's seat, by its view alone.
use Rattle.std.proofs.Common.{◌≡◌, ℕ, ◌<◌, ◌/◌, true, sym, ap, ◌∙◌, subst, inl, inr}
use Rattle.std.specs.Prelude.{None}
use Rattle.ng_view.specs.Conditions.{Builds}
use Rattle.ng_view.specs.Lists.{Among}
use Rattle.ng_view.specs.May.{May}
use Rattle.ng_view.specs.Steps.{stored}
use Rattle.ng_view.specs.declared.view.Held.{Held}
use Rattle.ng_view.specs.declared.view.Place.{Place}
use Rattle.ng_view.specs.declared.view.View.{View}
use Rattle.ng_view.specs.declared.view.Start.{Start}
use Rattle.ng_rule.proofs.geometry.Lists.{find_among}
use Rattle.ng_rule.proofs.hand.Moves.{stores_own_may}
use Rattle.ng_rule.proofs.lock.LockSteps.{builds_may, index_may}
use Rattle.ng_view.specs.Stores.{FitsMotion, IsActiveIndex, MayStore, Stores}
use Rattle.ng_rule.proofs.lock.Apart.{built_no_index, built_no_slot, index_no_slot, same_slot}

module _ (key : Start) (id : ℕ) (v : View) (leads : v.leads ≡ true) (moving : (h : Held) → Among h v.held → h.block ≡ None) (a x : ℕ) (fits : x < 4294967296) where
  in_page : Builds v a → May key id v (a / 4) (λ n. x) (λ before n after. Stores before a x after)
  in_page b ws vs kept at wide =
      let p = builds_may key id v leads a x b fits ws vs kept at wide in (
        p.0,
        p.1,
        record {
          page = λ c. p.2;
          index = λ i. absurd (built_no_index key id v leads ws vs kept at a b i);
          slot = λ c. absurd (built_no_slot key id v leads ws vs kept at a b c);
        },
      )

  at_index : IsActiveIndex v a → May key id v (a / 4) (λ n. x) (λ before n after. Stores before a x after)
  at_index i ws vs kept at wide =
      let p = subst (λ k. May key id v (k / 4) (λ n. x) (λ before n after. after ≡ before)) (sym i.place) (index_may key id v leads i.group x i.there fits) ws vs kept at wide in (
        p.0,
        p.1,
        record {
          page = λ b. absurd (built_no_index key id v leads ws vs kept at a b i);
          index = λ j. p.2;
          slot = λ c. absurd (index_no_slot key id v leads ws vs kept at a i c);
        },
      )

  in_slot : FitsMotion v a x → May key id v (a / 4) (λ n. x) (λ before n after. Stores before a x after)
  in_slot f ws vs kept at wide =
      let c = f.cell in
      let p = stores_own_may key id v c.slot.place.group.meta c.slot.place.index a x c.slot c.found (moving c.slot (find_among _ _ v.held c.slot c.found).0) c.own c.whole fits f.low ws vs kept at wide in (
        p.0,
        p.1,
        record {
          page = λ b. absurd (built_no_slot key id v leads ws vs kept at a b c);
          index = λ i. absurd (index_no_slot key id v leads ws vs kept at a i c);
          slot = λ e. p.2 ∙ ap (λ (y : Place). stored v y.group.meta y.index a x) (same_slot key id v leads ws vs kept at a c e);
        },
      )

  pub stores : MayStore v a x → May key id v (a / 4) (λ n. x) (λ before n after. Stores before a x after)
  stores (inl b) = in_page b
  stores (inr (inl i)) = at_index i
  stores (inr (inr f)) = in_slot f
