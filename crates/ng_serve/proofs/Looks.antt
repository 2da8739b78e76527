-- What a look at one candidate finds.
use Rattle.std.proofs.Common.{◌≡◌, ◌≢◌, ℕ, zero, suc, ◌+◌, ◌%◌, ◌^◌, ◌<◌, eqb, cond, Bool, true, false, List, [], ◌∷◌, ◌++◌, map, refl, sym, ap, ◌∙◌, subst, ⊎_elim, inl, inr, arith}
use Rattle.std.specs.Int.{bit_at}
use Rattle.std.proofs.lemmas.Bool.{cases_eq, eq-eqb}
use Rattle.std.proofs.lemmas.Nat.Bits.{bit_at-zero}
use Rattle.ng_class.specs.Mask.{IsLowestBit}
use Rattle.ng_view.specs.Lists.{Among, select}
use Rattle.ng_view.specs.LockSteps.{read_bits}
use Rattle.ng_view.specs.Steps.{read}
use Rattle.ng_view.specs.declared.view.Group.{Group}
use Rattle.ng_view.specs.declared.view.View.{View}
use Rattle.ng_view.specs.Fetches.{HasGroup}
use Rattle.ng_view.specs.Loads.{Loads, TellsGroups, freed_read}
use Rattle.ng_serve.specs.Choices.{FindsBare, IsChoice, ReadsMasks}
use Rattle.ng_serve.specs.Groups.{AreInSpace}
use Rattle.ng_serve.specs.Reads.{AllBare, Notes, NotesBy, Reads}
use Rattle.ng_serve.proofs.Readings.{among_left, notes_avail, notes_freed, notes_groups, notes_reads, notes_then}

-- ---- a bit of a mask is among those that are noted
selects : (t : ℕ → Bool) (k i : ℕ) → i < k → t i ≡ true → Among i (select t k)
selects t zero i lt is = absurd (omega arith)
selects t (suc k) i lt is = ⊎_elim
    (λ (e : i ≡ k). subst (λ b. Among i (cond b (k ∷ select t k) (select t k))) (sym (ap t (sym e) ∙ is)) (inl e))
    (λ (ne : i ≢ k). by_test (t k) (selects t k i (omega arith) is))
    (cases_eq i k)
  where
    by_test : (b : Bool) → Among i (select t k) → Among i (cond b (k ∷ select t k) (select t k))
    by_test true s = inr s
    by_test false s = s

with_meta : (m i : ℕ) (is : List ℕ) → Among i is → Among {A = ℕ × ℕ} (m, i) (map (λ j. (m, j)) is)
with_meta m i [] s = elim s [ ]
with_meta m i (j ∷ js) (inl e) = inl (ap (λ k. (m, k)) e)
with_meta m i (j ∷ js) (inr s) = inr (with_meta m i js s)

pub is_read : (m n i : ℕ) → i < 32 → bit_at n i ≡ 1 → Among {A = ℕ × ℕ} (m, i) (read_bits m n)
is_read m n i lt set = with_meta m i (select (λ j. eqb (bit_at n j) 1) 32) (selects (λ j. eqb (bit_at n j) 1) 32 i lt (eq-eqb (bit_at n i) 1 set))

-- ---- both masks were read
module _ (v u w : View) (meta word freed : ℕ) (has : HasGroup v meta) (first : Loads v (meta + 24) word u) (tells : TellsGroups v (meta + 24) word)
    (second : Loads u (meta + 28) freed w) (tells_freed : TellsGroups u (meta + 28) freed) where
  here : meta ≡ has.group.meta
  here = sym has.of_meta

  noted_avail : NotesBy v ((meta + 24, word) ∷ []) u
  noted_avail = notes_avail v u has.group.meta (meta + 24) word (first.avail has.group has.there (ap (λ m. m + 24) here))

  among_then : (g : Group) → Among g v.desk.groups → Among g u.desk.groups
  among_then g there = subst (Among g) (sym (notes_groups v u ((meta + 24, word) ∷ []) noted_avail)) there

  freed_view : w ≡ read (freed_read u has.group.meta freed) (meta + 28) freed
  freed_view = second.freed has.group (among_then has.group has.there) (ap (λ m. m + 28) here)

  pub freed_fits : freed < 2 ^ 32
  freed_fits = ((tells_freed has.group (among_then has.group has.there)).freed (ap (λ m. m + 28) here)).fits

  pub reads_masks : Among meta v.desk.zero_avail → ReadsMasks v meta freed w
  reads_masks bare = record {
    word = word;
    no_avail = ((tells has.group has.there).avail (ap (λ m. m + 24) here)).zero (subst (λ m. Among m v.desk.zero_avail) here bare);
    noted = notes_then v u w ((meta + 24, word) ∷ []) ((meta + 28, freed) ∷ []) noted_avail (notes_freed u w has.group.meta (meta + 28) freed freed_view);
    bits = λ i lt set. subst (λ (x : View). Among {A = ℕ × ℕ} (meta, i) x.desk.set_freed) (sym freed_view)
        (among_left (read_bits has.group.meta freed) u.desk.set_freed (meta, i) (subst (λ m. Among {A = ℕ × ℕ} (meta, i) (read_bits m freed)) here (is_read meta freed i lt set)));
    within = λ i lt set g there e. ((tells_freed g (among_then g there)).freed (ap (λ m. m + 28) (sym e))).within i lt set;
    set = λ i marked. ((tells_freed has.group (among_then has.group has.there)).freed (ap (λ m. m + 28) here)).set i
        (noted_avail.set_freed (has.group.meta, i) (subst (λ m. Among {A = ℕ × ℕ} (m, i) v.desk.set_freed) here marked));
  }

-- ---- no slot is freed
pub finds_bare : (v w : View) (meta freed : ℕ) → ReadsMasks v meta freed w → freed ≡ 0 → FindsBare v meta w
finds_bare v w meta freed reads none = record {
  words = (meta + 24, reads.word) ∷ (meta + 28, freed) ∷ [];
  noted = reads.noted;
  bare = record {
    avail = reads.word;
    no_avail = reads.no_avail;
    avail_read = inl refl;
    freed_read = inr (inl (ap (λ n. (meta + 28, n)) (sym none)));
  };
  all = all;
  unmarked = λ i marked.
      let set : bit_at freed i ≡ 1 = reads.set i marked in
      let clear : bit_at freed i ≡ bit_at 0 i = ap (λ n. bit_at n i) none in
      omega (arith, set, clear, bit_at-zero i);
}
  where
    all : AllBare ((meta + 24, reads.word) ∷ (meta + 28, freed) ∷ [])
    all word (inl first) = inr (ap (λ (x : ℕ × ℕ). x.1 % 2 ^ 32) first ∙ reads.no_avail)
    all word (inr (inl second)) = inr (ap (λ (x : ℕ × ℕ). x.1 % 2 ^ 32) second ∙ ap (λ n. n % 2 ^ 32) none)
    all word (inr (inr none)) = absurd none

-- ---- or one is, and two fields were read behind
module _ (v u r w : View) (meta freed lowest : ℕ) (reads : ReadsMasks v meta freed u) (low : IsLowestBit freed lowest) (first : Reads u r) (second : Reads r w) where
  abbrev came : List (ℕ × ℕ)
  came = (meta + 24, reads.word) ∷ (meta + 28, freed) ∷ []

  all_noted : NotesBy v ((came ++ first.words) ++ second.words) w
  all_noted = notes_then v r w (came ++ first.words) second.words (notes_then v u r came first.words reads.noted (notes_reads u r first)) (notes_reads r w second)

  pub looks_notes : Notes v w
  looks_notes = record { words = (came ++ first.words) ++ second.words; noted = all_noted }

  pub looks_choice : IsChoice w (record { meta = meta; lowest = lowest })
  looks_choice = record {
    noted = (notes_reads r w second).set_freed (meta, lowest) ((notes_reads u r first).set_freed (meta, lowest) (reads.bits lowest low.known low.set));
    small = low.known;
    within = λ g there e. reads.within lowest low.known low.set g (subst (Among g) (notes_groups v w ((came ++ first.words) ++ second.words) all_noted) there) e;
  }

-- ---- what holds of the groups still does
pub lives_noted : (v w : View) (meta : ℕ) (words : List (ℕ × ℕ)) → NotesBy v words w → HasGroup v meta → HasGroup w meta
lives_noted v w meta words noted has = record { group = has.group; there = subst (Among has.group) (sym (notes_groups v w words noted)) has.there; of_meta = has.of_meta }

pub inside_noted : (v w : View) (pages : ℕ) (words : List (ℕ × ℕ)) → NotesBy v words w → AreInSpace pages v.desk.groups → AreInSpace pages w.desk.groups
inside_noted v w pages words noted inside = subst (AreInSpace pages) (sym (notes_groups v w words noted)) inside
