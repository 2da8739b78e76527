-- What contracts see of a meta taken out of a ring, and of a ring that begins elsewhere.
use Rattle.std.proofs.Common.{◌≡◌, ◌≢◌, ℕ, ◌*◌, ◌<◌, List, ◌∷◌, ◌++◌, get_or, set, map, Contains, refl, ap, sym, subst, ◌∙◌, arith, length-set}
use Rattle.std.proofs.lemmas.List.{get_or_read, get_or-set_same, get_or-set_other}
use Rattle.ng_lists.specs.Arrays.{IsRing, IsSound, ring_at, table_of}
use Rattle.ng_lists.specs.Place.{address_at, index_at}
use Rattle.ng_lists.specs.Rings.{RingTable, ring_of, rotated, with_ring, without}
use Rattle.ng_lists.proofs.AddressLemmas.{rotated-addresses, without-addresses}
use Rattle.ng_lists.proofs.DistinctLemmas.{IsDistinct}
use Rattle.ng_lists.proofs.NeighbourLemmas.{next_member, prev_member}
use Rattle.ng_lists.proofs.RemoveLemmas.{removed, turned}
use Rattle.ng_lists.proofs.ShownLemmas.{IsMember, changed, member_of, ring_is}
use Rattle.ng_lists.proofs.SoundLemmas.{Changes, member_inside}
use Rattle.ng_lists.proofs.TableLemmas.{Split, first_split}

module _ {heads next prev marks : List ℕ} {pages : ℕ} (sound : IsSound heads next prev marks pages) {table : RingTable} (shown : table_of heads next marks pages ≡ table) {class : ℕ} (below : class < 48) (meta : ℕ) {i : ℕ} (index : i ≡ index_at meta) (listed : Contains (ring_of table class) meta) where
  pub is_member : IsMember heads next marks class meta
  is_member = member_of sound shown class meta below listed

  address : address_at i ≡ meta
  address = ap address_at index ∙ is_member.address

  pub member : Contains (ring_at next marks class (get_or heads class 0)) i
  member = subst (Contains (ring_at next marks class (get_or heads class 0))) (sym index) is_member.member

  is_ring : IsRing next prev marks (get_or heads class 0) class (ring_at next marks class (get_or heads class 0))
  is_ring = sound.rings class below

  -- the ring split at the meta
  abbrev pub parts : Split (ring_at next marks class (get_or heads class 0)) i
  parts = first_split (ring_at next marks class (get_or heads class 0)) i member

  distinct : IsDistinct (parts.front ++ i ∷ parts.back)
  distinct = subst IsDistinct parts.whole is_ring.distinct

  -- the ring as contracts see it, split
  ring_split : ring_of table class ≡ map address_at (parts.front ++ i ∷ parts.back)
  ring_split = ring_is sound shown class below ∙ ap (map address_at) parts.whole

  pub index_inside : i < 101 * pages
  index_inside = member_inside sound class i below member

  -- what the reads of its links found
  prev_is : (last : ℕ) → last ≡ get_or prev i last → last ≡ get_or prev i 0
  prev_is last read = get_or_read prev i last (omega (arith, index_inside, sound.prevs)) read 0

  next_is : (after : ℕ) → after ≡ get_or next i after → after ≡ get_or next i 0
  next_is after read = get_or_read next i after (omega (arith, index_inside, sound.nexts)) read 0

  pub prev_inside : {last : ℕ} → last ≡ get_or prev i last → last < 101 * pages
  prev_inside {last} read = subst
      (λ j. j < 101 * pages)
      (sym (prev_is last read))
      (member_inside sound class (get_or prev i 0) below (prev_member i is_ring member))

  pub next_inside : {after : ℕ} → after ≡ get_or next i after → after < 101 * pages
  next_inside {after} read = subst
      (λ j. j < 101 * pages)
      (sym (next_is after read))
      (member_inside sound class (get_or next i 0) below (next_member i is_ring member))

  head_is : (head : ℕ) → head ≡ get_or heads class head → head ≡ get_or heads class 0
  head_is head read = get_or_read heads class head (omega (arith, sound.classes)) read 0

  -- the first of a ring is taken out
  pub first_removed : {head last after : ℕ} → head ≡ get_or heads class head → last ≡ get_or prev i last → after ≡ get_or next i after → head ≡ i → Changes heads next marks (set heads class after) (set next last after) (set prev after last) (set marks i 0) pages class (parts.front ++ parts.back)
  first_removed {head} {last} {after} head_read last_read after_read same = removed sound below
      i
      member
      (set heads class after)
      last
      after
      (sym (prev_is last last_read))
      (sym (next_is after after_read))
      (length-set heads class after)
      (λ first. get_or-set_same heads class after 0 (omega (arith, sound.classes)))
      (λ later. absurd (later (sym (head_is head head_read) ∙ same)))
      (λ c apart. get_or-set_other heads class c after 0 apart)

  -- another of a ring is taken out
  pub later_removed : {head last after : ℕ} → head ≡ get_or heads class head → last ≡ get_or prev i last → after ≡ get_or next i after → head ≢ i → Changes heads next marks heads (set next last after) (set prev after last) (set marks i 0) pages class (parts.front ++ parts.back)
  later_removed {head} {last} {after} head_read last_read after_read apart =
      removed sound below i member heads last after (sym (prev_is last last_read)) (sym (next_is after after_read)) refl (λ first. absurd (apart (head_is head head_read ∙ first))) (λ later. refl) (λ c other. refl)

  pub shown_removed : {heads' next' prev' marks' : List ℕ} → Changes heads next marks heads' next' prev' marks' pages class (parts.front ++ parts.back) → table_of heads' next' marks' pages ≡ with_ring table class (without meta (ring_of table class))
  shown_removed changes =
      let ring : without meta (ring_of table class) ≡ map address_at (parts.front ++ parts.back) =
      ap (λ m. without m (ring_of table class)) (sym address) ∙ ap (without (address_at i)) ring_split ∙ without-addresses parts.front i parts.back distinct in
      changed sound shown below changes ∙ ap (with_ring table class) (sym ring)

  -- a ring begins with another of its metas
  pub begun_with : Changes heads next marks (set heads class i) next prev marks pages class (i ∷ parts.back ++ parts.front)
  begun_with = turned sound below i member

  pub shown_rotated : table_of (set heads class i) next marks pages ≡ with_ring table class (rotated meta (ring_of table class))
  shown_rotated =
      let ring : rotated meta (ring_of table class) ≡ map address_at (i ∷ parts.back ++ parts.front) =
      ap (λ m. rotated m (ring_of table class)) (sym address) ∙ ap (rotated (address_at i)) ring_split ∙ rotated-addresses parts.front i parts.back distinct in
      changed sound shown below begun_with ∙ ap (with_ring table class) (sym ring)
