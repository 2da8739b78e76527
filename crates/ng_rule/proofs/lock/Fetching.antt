-- The fetches of the lock's seat on masks, by its view alone, with what they tell.
use Rattle.std.proofs.Common.{◌≡◌, ℕ, ◌+◌, ◌/◌, ◌<◌, true, List, sym, ap, ◌∙◌, subst}
use Rattle.std.specs.Int.{bit_not, w64}
use Rattle.std.specs.Prelude.{bit_and, bit_or}
use mathlib.Core.Option.{some}
use lib.ListN.{get_elem?}
use Rattle.ng_view.specs.Cells.{avail, freed}
use Rattle.ng_view.specs.Lists.{Among}
use Rattle.ng_view.specs.LockSteps.{AreOut, avail_emptied, bits_of, bits_pushed, bits_stocked, freed_taken}
use Rattle.ng_view.specs.May.{May}
use Rattle.ng_view.specs.Rule.{Rule}
use Rattle.ng_view.specs.Steps.{read}
use Rattle.ng_view.specs.declared.view.Group.{Group}
use Rattle.ng_view.specs.declared.view.View.{View}
use Rattle.ng_view.specs.declared.view.Start.{Start}
use Rattle.ng_rule.proofs.lock.LockBits.{push_parent_may, stock_may}
use Rattle.ng_rule.proofs.lock.LockSteps.{clear_may, empty_may}
use Rattle.ng_view.specs.Fetches.{HasGroup, EmptiesAvail, ClearsFreed, MayPutBack, StocksAvail, PushesFreed}
use Rattle.ng_view.specs.Masks.{TellsAvail, TellsFreed}
use Rattle.ng_rule.proofs.lock.Facts.{same_group, tells_avail, tells_freed}

module _ (key : Start) (id : ℕ) (v : View) (leads : v.leads ≡ true) where
  tells_avail_at : (ws : List ℕ) (vs : List View) → Rule key ws vs → get_elem? vs id ≡ some v → (m : ℕ) (g : Group) → Among g v.desk.groups → g.meta ≡ m → TellsAvail v g (avail ws m)
  tells_avail_at ws vs kept at m g there e = subst (λ n. TellsAvail v g (avail ws n)) e (tells_avail key id v leads ws vs kept at g there)

  tells_freed_at : (ws : List ℕ) (vs : List View) → Rule key ws vs → get_elem? vs id ≡ some v → (m : ℕ) (g : Group) → Among g v.desk.groups → g.meta ≡ m → TellsFreed v g (freed ws m)
  tells_freed_at ws vs kept at m g there e = subst (λ n. TellsFreed v g (freed ws n)) e (tells_freed key id v leads ws vs kept at g there)

  -- the mask goes, and the tag stays
  pub empties : (meta : ℕ) → HasGroup v meta → May key id v ((meta + 24) / 4) (λ n. bit_and n 18446744069414584320) (λ before n after. EmptiesAvail before meta n after)
  empties meta has = subst (λ m. May key id v ((m + 24) / 4) (λ n. bit_and n 18446744069414584320) (λ before n after. EmptiesAvail before m n after)) has.of_meta (λ ws vs kept at fits.
      let h = has.group in
      let p = empty_may key id v leads h has.there ws vs kept at fits in (
        p.0,
        p.1,
        record {
          view = λ g there e. p.2.0 ∙ ap (λ (y : Group). read (avail_emptied v y (avail ws h.meta)) (h.meta + 24) (avail ws h.meta)) (same_group key id v leads ws vs kept at h g has.there there (sym e));
          tells = tells_avail_at ws vs kept at h.meta;
        },
      ))

  pub clears : (meta bits : ℕ) → HasGroup v meta → bits < 4294967296 → May key id v ((meta + 28) / 4) (λ n. bit_and n (bit_not w64 bits)) (λ before n after. ClearsFreed before meta bits n after)
  clears meta bits has small = subst (λ m. May key id v ((m + 28) / 4) (λ n. bit_and n (bit_not w64 bits)) (λ before n after. ClearsFreed before m bits n after)) has.of_meta (λ ws vs kept at fits.
      let h = has.group in
      let p = clear_may key id v leads h bits has.there small ws vs kept at fits in (
        p.0,
        p.1,
        record {
          view = λ g there e. p.2.0 ∙ ap (λ (y : Group). read (freed_taken v y bits (freed ws h.meta)) (h.meta + 28) (freed ws h.meta)) (same_group key id v leads ws vs kept at h g has.there there (sym e));
          tells = tells_freed_at ws vs kept at h.meta;
        },
      ))

  pub stocks : (meta bits : ℕ) → MayPutBack v meta bits → Among meta v.desk.zero_avail → bits < 4294967296 → May key id v ((meta + 24) / 4) (λ n. bit_or n bits) (λ before n after. StocksAvail before meta bits n after)
  stocks meta bits may zero small ws vs kept at fits =
      let h = may.group in let e = may.of_meta in
      let p = subst (λ m. May key id v ((m + 24) / 4) (λ n. bit_or n bits) (λ before n after. after ≡ read (bits_stocked before m bits) (m + 24) n)) e
      (stock_may key id v leads h bits may.there may.plain (subst (λ m. Among m v.desk.listed) (sym e) may.listed) (subst (λ m. AreOut m (bits_of bits) v.held) (sym e) may.held) small) ws vs kept at fits in
      (p.0, p.1, record { view = p.2; was_zero = (tells_avail_at ws vs kept at meta h may.there e).zero (subst (λ m. Among m v.desk.zero_avail) (sym e) zero) })

  pub pushes_back : (meta bits : ℕ) → MayPutBack v meta bits → bits < 4294967296 → May key id v ((meta + 28) / 4) (λ n. bit_or n bits) (λ before n after. PushesFreed before meta bits n after)
  pushes_back meta bits may small ws vs kept at fits =
      let h = may.group in let e = may.of_meta in
      let p = subst (λ m. May key id v ((m + 28) / 4) (λ n. bit_or n bits) (λ before n after. after ≡ read (bits_pushed before m bits) (m + 28) n)) e
      (push_parent_may key id v leads h bits may.there may.plain (subst (λ m. Among m v.desk.listed) (sym e) may.listed) (subst (λ m. AreOut m (bits_of bits) v.held) (sym e) may.held) small) ws vs kept at fits in
      (p.0, p.1, record { view = p.2; tells = tells_freed_at ws vs kept at meta })
