-- What loads of the lock's seat leave, one after the other.
use Rattle.std.proofs.Common.{◌≡◌, ℕ, ◌+◌, ◌%◌, eqb, cond, Bool, true, false, List, [], ◌∷◌, ◌++◌, refl, sym, ap, ◌∙◌, subst, inl, inr}
use Rattle.std.proofs.lemmas.List.{append_assoc, append-nil}
use Rattle.ng_view.specs.Lists.{Among}
use Rattle.ng_view.specs.LockSteps.{avail_read, read_bits}
use Rattle.ng_view.specs.Steps.{read}
use Rattle.ng_view.specs.declared.view.View.{View}
use Rattle.ng_view.specs.Loads.{freed_read}
use Rattle.ng_serve.specs.Reads.{AllBare, IsBareIn, NotesBy, Reads, with_notes}

-- ---- what is among the elements of one list is among those of two
pub among_left : {A : Type 0} (xs ys : List A) (x : A) → Among x xs → Among x (xs ++ ys)
among_left [] ys x s = elim s [ ]
among_left (y ∷ xs) ys x (inl e) = inl e
among_left (y ∷ xs) ys x (inr s) = inr (among_left xs ys x s)

pub among_right : {A : Type 0} (xs ys : List A) (x : A) → Among x ys → Among x (xs ++ ys)
among_right [] ys x s = s
among_right (y ∷ xs) ys x s = inr (among_right xs ys x s)

pub among_if : (b : Bool) (m n : ℕ) (ns : List ℕ) → Among n ns → Among n (cond b (m ∷ ns) ns)
among_if true m n ns s = inr s
among_if false m n ns s = s

-- ---- readings alone
pub reads_one : (v w : View) (a n : ℕ) → w ≡ read v a n → Reads v w
reads_one v w a n is = record { words = (a, n) ∷ []; view = is }

pub reads_none : (v w : View) → w ≡ v → Reads v w
reads_none v w is = record { words = []; view = is ∙ ap (λ (l : List (ℕ × ℕ)). record v { readings = l }) (sym (append-nil v.readings)) }

pub reads_then : (v u w : View) → Reads v u → Reads u w → Reads v w
reads_then v u w first second = record {
  words = first.words ++ second.words;
  view = second.view
      ∙ ap (λ (x : View). record x { readings = x.readings ++ second.words }) first.view
      ∙ ap (λ (l : List (ℕ × ℕ)). record v { readings = l }) (append_assoc v.readings first.words second.words);
}

pub reads_groups : (v w : View) → Reads v w → w.desk.groups ≡ v.desk.groups
reads_groups v w reads = ap (λ (x : View). x.desk.groups) reads.view

-- ---- and notes of masks
pub notes_reads : (v w : View) (reads : Reads v w) → NotesBy v reads.words w
notes_reads v w reads = subst (NotesBy v reads.words) (sym reads.view) (record {
  view = refl;
  zero_avail = λ m s. s;
  zero_freed = λ m s. s;
  set_freed = λ b s. s;
})

pub notes_then : (v u w : View) (ws xs : List (ℕ × ℕ)) → NotesBy v ws u → NotesBy u xs w → NotesBy v (ws ++ xs) w
notes_then v u w ws xs first second = record {
  view = second.view
      ∙ ap (λ (x : View). with_notes x w xs) first.view
      ∙ ap (λ (l : List (ℕ × ℕ)). record (with_notes v w []) { readings = l }) (append_assoc v.readings ws xs);
  zero_avail = λ m s. second.zero_avail m (first.zero_avail m s);
  zero_freed = λ m s. second.zero_freed m (first.zero_freed m s);
  set_freed = λ b s. second.set_freed b (first.set_freed b s);
}

pub notes_groups : (v w : View) (words : List (ℕ × ℕ)) → NotesBy v words w → w.desk.groups ≡ v.desk.groups
notes_groups v w words notes = ap (λ (x : View). x.desk.groups) notes.view

pub notes_avail : (v w : View) (m a n : ℕ) → w ≡ read (avail_read v m n) a n → NotesBy v ((a, n) ∷ []) w
notes_avail v w m a n is = subst (NotesBy v ((a, n) ∷ [])) (sym is) (record {
  view = refl;
  zero_avail = λ k s. among_if (eqb (n % 4294967296) 0) m k v.desk.zero_avail s;
  zero_freed = λ k s. s;
  set_freed = λ b s. s;
})

pub notes_freed : (v w : View) (m a n : ℕ) → w ≡ read (freed_read v m n) a n → NotesBy v ((a, n) ∷ []) w
notes_freed v w m a n is = subst (NotesBy v ((a, n) ∷ [])) (sym is) (record {
  view = refl;
  zero_avail = λ k s. s;
  zero_freed = λ k s. among_if (eqb n 0) m k v.desk.zero_freed s;
  set_freed = λ b s. among_right (read_bits m n) v.desk.set_freed b s;
})

-- what was read to be bare still was, among more words
pub bare_left : (ws xs : List (ℕ × ℕ)) (m : ℕ) → IsBareIn ws m → IsBareIn (ws ++ xs) m
bare_left ws xs m bare = record {
  avail = bare.avail;
  no_avail = bare.no_avail;
  avail_read = among_left ws xs (m + 24, bare.avail) bare.avail_read;
  freed_read = among_left ws xs (m + 28, 0) bare.freed_read;
}

pub bare_right : (ws xs : List (ℕ × ℕ)) (m : ℕ) → IsBareIn xs m → IsBareIn (ws ++ xs) m
bare_right ws xs m bare = record {
  avail = bare.avail;
  no_avail = bare.no_avail;
  avail_read = among_right ws xs (m + 24, bare.avail) bare.avail_read;
  freed_read = among_right ws xs (m + 28, 0) bare.freed_read;
}

-- and so was each of more words
pub all_then : (ws xs : List (ℕ × ℕ)) → AllBare ws → AllBare xs → AllBare (ws ++ xs)
all_then [] xs first second = second
all_then (w ∷ ws) xs first second = both (all_then ws xs (λ x there. first x (inr there)) second)
  where
    both : AllBare (ws ++ xs) → AllBare (w ∷ (ws ++ xs))
    both rest word (inl same) = first word (inl same)
    both rest word (inr among) = rest word among
