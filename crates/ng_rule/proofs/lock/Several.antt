-- The lock's seat sets several bits of a mask at once.
use Rattle.std.proofs.Common.{◌≡◌, ◌≢◌, ◌⊎◌, ℕ, ◌+◌, ◌*◌, ◌/◌, ◌%◌, ◌<◌, true, List, [], ◌∷◌, set, sym, ap, ◌∙◌, subst, ⊎_elim, inl, inr, arith}
use mathlib.Core.Option.{some}
use lib.ListN.{get_elem?}
use Rattle.std.specs.Prelude.{Some, None}
use Rattle.std.specs.Int.{bit_at}
use Rattle.ng_view.specs.declared.view.Group.{Group}
use Rattle.ng_view.specs.declared.view.Held.{Held}
use Rattle.ng_view.specs.declared.view.View.{View}
use Rattle.ng_view.specs.declared.view.Start.{Start}
use Rattle.ng_view.specs.Lists.{Among, find, without}
use Rattle.ng_view.specs.Cells.{cell, tag, avail, freed, group_at}
use Rattle.ng_view.specs.Views.{desk_of}
use Rattle.ng_view.specs.Rule.{Rule}
use Rattle.ng_view.specs.Slots.{IsPlain}
use Rattle.ng_view.specs.Listing.{Listing}
use Rattle.ng_view.specs.LockSteps.{put_out, let_go, AreOut}
use Rattle.ng_rule.proofs.geometry.Lists.{index_same, desk_lead}
use Rattle.ng_rule.proofs.geometry.Facts.{nested}
use Rattle.std.specs.Prelude.{◌^◌}
use Rattle.std.proofs.lemmas.Nat.{shr-shr, or_lt}
use Rattle.std.specs.Int.{w64}
use Rattle.std.proofs.lemmas.Nat.Bits.{bit_at_set_other, same_from_bits}
use Rattle.ng_rule.proofs.geometry.Lists.{set_self, set_twice, at_now}
use Rattle.atomic_table.proofs.Lists.{set_again}
use Rattle.ng_rule.proofs.geometry.Bits.{raised, raised_bit, raised_small}
use Rattle.ng_rule.proofs.geometry.Frames.{meta_below}
use Rattle.ng_rule.proofs.hand.Push.{small_freed}
use Rattle.ng_rule.proofs.lock.Raise.{raises}

pub raised_tag : (n i : ℕ) → n < 2 ^ 64 → i < 32 → raised n i / 4294967296 ≡ n / 4294967296
raised_tag n i fits h = same_from_bits (raised n i / 2 ^ 32) (n / 2 ^ 32) (λ j.
    ap (λ (x : ℕ). x % 2) (shr-shr (raised n i) 32 j) ∙ bit_at_set_other w64 n i (omega arith) (32 + j) (λ e. omega arith)
    ∙ sym (ap (λ (x : ℕ). x % 2) (shr-shr n 32 j)))

pub raised_fits : (n i : ℕ) → n < 2 ^ 64 → i < 32 → raised n i < 2 ^ 64
raised_fits n i fits h = or_lt 64 n (1 * 2 ^ i % 2 ^ 64) fits (omega arith)

-- n with these bits
abbrev pub raise_by : ℕ → List ℕ → ℕ
raise_by n [] = n
raise_by n (i ∷ is) = raise_by (raised n i) is

abbrev IsMask : ℕ → Type 0
IsMask c = (c ≡ 24) ⊎ (c ≡ 28)

small_mask : (c : ℕ) → IsMask c → (c < 40) × (c % 4 ≡ 0)
small_mask c (inl e) = (omega arith, omega arith)
small_mask c (inr e) = (omega arith, omega arith)

module _ (key : Start) (id m c : ℕ) (mask : IsMask c) where
  -- one bit
  raise_one : (ws : List ℕ) (vs : List View) (v : View) → Rule key ws vs → get_elem? vs id ≡ some v → v.leads ≡ true → (i : ℕ) (h : Held) → find m i v.held ≡ Some h → h.block ≡ None → Among m v.desk.listed
      → (g : Group) → Among g v.desk.groups → g.meta ≡ m → IsPlain g → cell ws (m + c) < 2 ^ 64 → (ba bf : List ℕ)
      → ((n : ℕ) → Among n ba → Among n v.desk.zero_avail × (c ≡ 24 → n ≢ m)) → ((n : ℕ) → Among n bf → Among n v.desk.zero_freed × (c ≡ 28 → n ≢ m))
      → Rule key (set ws ((m + c) / 4) (raised (cell ws (m + c)) i)) (set vs id (put_out v m i ba bf))
  raise_one ws vs v kept e leads i h found none listed g there is plain fits ba bf na nf =
      let lt = Rattle.ng_rule.proofs.hand.Push.low key ws vs id v kept e m i h found in
      let z = Rattle.ng_rule.proofs.hand.Push.empty key ws vs id v kept e m i h found in
      let l = (subst (Listing ws) (desk_lead vs id v v e leads kept.hands.leaders leads).0 kept.listing).live g there in
      raises key ws vs id v kept e leads m i c (raised (cell ws (m + c)) i) h found none listed (subst (λ k. IsPlain (group_at ws k)) is (subst IsPlain l.group plain))
      (⊎_elim (λ (q : c ≡ 24). inl (q, ap (λ k. raised (cell ws (m + k)) i / 4294967296) q ∙ raised_tag (avail ws m) i (subst (λ k. cell ws (m + k) < 2 ^ 64) q fits) lt))
      (λ (q : c ≡ 28). inr (q, subst (λ k. raised (cell ws (m + k)) i < 4294967296) (sym q) (raised_small (freed ws m) i (small_freed key ws vs id v kept e m i h found) lt))) mask)
      (λ j lj. raised_bit (cell ws (m + c)) i j (omega arith) (⊎_elim (λ (q : c ≡ 24). ap (λ k. bit_at (cell ws (m + k)) i) q ∙ z.0) (λ (q : c ≡ 28). ap (λ k. bit_at (cell ws (m + k)) i) q ∙ z.1) mask))
      ba bf na nf

  now_is : (ws : List ℕ) (vs : List View) (v : View) → Rule key ws vs → get_elem? vs id ≡ some v → v.leads ≡ true → (g : Group) → Among g v.desk.groups → g.meta ≡ m → (x : ℕ) → cell (set ws ((m + c) / 4) x) (m + c) ≡ x
  now_is ws vs v kept e leads g there is x =
      let l = (subst (Listing ws) (desk_lead vs id v v e leads kept.hands.leaders leads).0 kept.listing).live g there in
      let al : m % 4 ≡ 0 = subst (λ k. k % 4 ≡ 0) is l.whole in
      let live : 0 < tag ws m = subst (λ k. 0 < tag ws k) is (subst (λ (y : Group). 0 < y.tag) l.group l.live) in
      index_same ws ((m + c) / 4) x (meta_below key ws (desk_of vs).layout kept.words.lawful (nested ws vs kept.slots) m c (kept.words.lawful.groups m al live).in_area (small_mask c mask).0)

  raise_more : (is : List ℕ) (ws : List ℕ) (vs : List View) (v : View) → Rule key ws vs → get_elem? vs id ≡ some v → v.leads ≡ true → AreOut m is v.held → Among m v.desk.listed
      → (g : Group) → Among g v.desk.groups → g.meta ≡ m → IsPlain g → cell ws (m + c) < 2 ^ 64
      → ((n : ℕ) → Among n v.desk.zero_avail → c ≡ 24 → n ≢ m) → ((n : ℕ) → Among n v.desk.zero_freed → c ≡ 28 → n ≢ m)
      → Rule key (set ws ((m + c) / 4) (raise_by (cell ws (m + c)) is)) (set vs id (record v { held = let_go m is v.held }))
  raise_more [] ws vs v kept e leads out listed g there is plain fits na nf = subst (λ (p : List ℕ × List View). Rule key p.0 p.1) (λ i. (sym (set_self ws ((m + c) / 4)) i, sym (set_again vs id v e) i)) kept
  raise_more (i ∷ is) ws vs v kept e leads out listed g there at_m plain fits na nf =
      let h = out.0 in
      let v1 = record v { held = without m i v.held } in
      let lt = Rattle.ng_rule.proofs.hand.Push.low key ws vs id v kept e m i h.0 h.1 in
      let x = raised (cell ws (m + c)) i in
      let kept1 : Rule key (set ws ((m + c) / 4) x) (set vs id v1) = raise_one ws vs v kept e leads i h.0 h.1 h.2 listed g there at_m plain fits v.desk.zero_avail v.desk.zero_freed (λ n q. (q, na n q)) (λ n q. (q, nf n q)) in
      let now = now_is ws vs v kept e leads g there at_m x in
      let rest = raise_more is (set ws ((m + c) / 4) x) (set vs id v1) v1 kept1 (at_now vs id v v1 e) leads out.1 listed g there at_m plain (subst (λ y. y < 2 ^ 64) (sym now) (raised_fits (cell ws (m + c)) i fits lt)) na nf in
      subst (λ (p : List ℕ × List View). Rule key p.0 p.1)
      (λ j. ((ap (λ y. set (set ws ((m + c) / 4) x) ((m + c) / 4) (raise_by y is)) now ∙ set_twice ws ((m + c) / 4) x (raise_by x is)) j, set_twice vs id v1 (record v { held = let_go m is (without m i v.held) }) j)) rest

  -- the notes that the mask is 0 go with the first bit
  pub raises_all : (i : ℕ) (is : List ℕ) (ws : List ℕ) (vs : List View) (v : View) → Rule key ws vs → get_elem? vs id ≡ some v → v.leads ≡ true → AreOut m (i ∷ is) v.held → Among m v.desk.listed
      → (g : Group) → Among g v.desk.groups → g.meta ≡ m → IsPlain g → cell ws (m + c) < 2 ^ 64 → (ba bf : List ℕ)
      → ((n : ℕ) → Among n ba → Among n v.desk.zero_avail × (c ≡ 24 → n ≢ m)) → ((n : ℕ) → Among n bf → Among n v.desk.zero_freed × (c ≡ 28 → n ≢ m))
      → Rule key (set ws ((m + c) / 4) (raise_by (cell ws (m + c)) (i ∷ is))) (set vs id (record v { held = let_go m (i ∷ is) v.held; desk = record v.desk { zero_avail = ba; zero_freed = bf } }))
  raises_all i is ws vs v kept e leads out listed g there at_m plain fits ba bf na nf =
      let h = out.0 in
      let v1 = put_out v m i ba bf in
      let lt = Rattle.ng_rule.proofs.hand.Push.low key ws vs id v kept e m i h.0 h.1 in
      let x = raised (cell ws (m + c)) i in
      let kept1 = raise_one ws vs v kept e leads i h.0 h.1 h.2 listed g there at_m plain fits ba bf na nf in
      let now = now_is ws vs v kept e leads g there at_m x in
      let rest = raise_more is (set ws ((m + c) / 4) x) (set vs id v1) v1 kept1 (at_now vs id v v1 e) leads out.1 listed g there at_m plain (subst (λ y. y < 2 ^ 64) (sym now) (raised_fits (cell ws (m + c)) i fits lt)) (λ n q. (na n q).1) (λ n q. (nf n q).1) in
      subst (λ (p : List ℕ × List View). Rule key p.0 p.1)
      (λ j. ((ap (λ y. set (set ws ((m + c) / 4) x) ((m + c) / 4) (raise_by y is)) now ∙ set_twice ws ((m + c) / 4) x (raise_by x is)) j, set_twice vs id v1 (record v1 { held = let_go m is (without m i v.held) }) j)) rest
