-- Each move keeps the rule of a box.
use Rattle.std.proofs.Common.{◌≡◌, ◌≢◌, ℕ, zero, suc, ◌+◌, ◌<◌, ◌≤◌, ◌==◌, eqb, ◌⊎◌, inl, inr, Bool, true, false, true≢false, if◌then◌else◌, List, [], ◌∷◌, ◌++◌, length, map, filter, get_or, set, sym, refl, ap, ◌∙◌, subst, ⊎_elim, arith, append_assoc, append-nil, length-append}
use Rattle.std.specs.Prelude.{slice_index_or}
use Rattle.std.proofs.lemmas.Bool.Decides.{eqb_tells, nat_tests}
use Rattle.std.proofs.lemmas.Bool.{cases_lt}
use Rattle.std.proofs.lemmas.List.{map_push, map-append, get_or_append_left}
use Rattle.std.proofs.lemmas.List.Elements.{filter-append}
use mathlib.Core.Option.{some, some-ne-none}
use lib.ListN.{get_elem?}
use Rattle.crossbeam_queue.specs.Fifo.{Pushes, Pops, Forks, Merges, Learns}
use Rattle.crossbeam_queue.proofs.Lists.{at_set, at_snoc}
use Rattle.ng_post.specs.declared.mail.Letter.{Letter}
use Rattle.ng_post.specs.declared.view.View.{View}
use Rattle.ng_post.specs.Letters.{Note, Pair, note_of, pair_of}
use Rattle.ng_post.specs.Box.{AreAllOf, Delivers, FitsIn, leader, pairs_of, reader, sender, spent}

at_end : (l : List View) (a b : View) (j : ℕ) → get_elem? l j ≢ some b → get_elem? (l ++ a ∷ []) j ≡ some b → j ≡ length l
at_end [] a b zero n e = refl
at_end [] a b (suc j) n e = absurd (some-ne-none b (sym e))
at_end (x ∷ xs) a b zero n e = absurd (n e)
at_end (x ∷ xs) a b (suc j) n e = ap suc (at_end xs a b j n e)

abbrev Each : (ℕ → View → Type 0) → List View → Type 0
Each F views = (port : ℕ) (v : View) → get_elem? views port ≡ some v → F port v

each_set : (F : ℕ → View → Type 0) (views : List View) (port : ℕ) (w : View) → F port w → ((j : ℕ) (u : View) → j ≢ port → get_elem? views j ≡ some u → F j u) → Each F (set views port w)
each_set F views port w mine others j u e = ⊎_elim (λ (x : (j ≡ port) × (w ≡ u)). subst (λ (y : ℕ × View). F y.0 y.1) (λ i. (sym x.0 i, x.1 i)) mine)
    (λ (x : (j ≢ port) × (get_elem? views j ≡ some u)). others j u x.0 x.1) (at_set views port j w u e)

-- one value at one number, another elsewhere
abbrev at_one : {A : Type 0} → ℕ → A → (ℕ → A) → ℕ → A
at_one k a f p = if p == k then a else f p

at_one-here : {A : Type 0} (k : ℕ) (a : A) (f : ℕ → A) → at_one k a f k ≡ a
at_one-here k a f = grind (arith, nat_tests)

at_one-else : {A : Type 0} (k : ℕ) (a : A) (f : ℕ → A) (p : ℕ) → p ≢ k → at_one k a f p ≡ f p
at_one-else k a f p other = grind (arith, nat_tests)

pub pairs_of-append : (p : ℕ) (xs ys : List Note) → pairs_of p (xs ++ ys) ≡ pairs_of p xs ++ pairs_of p ys
pairs_of-append p xs ys =
    ap (map (λ (n : Note). n.1)) (filter-append (λ (n : Note). n.0 == p) xs ys)
    ∙ map-append (λ (n : Note). n.1) (filter (λ (n : Note). n.0 == p) xs) (filter (λ (n : Note). n.0 == p) ys)

pub pairs_of-one : (p : ℕ) (n : Note) → p ≡ n.0 → pairs_of p (n ∷ []) ≡ n.1 ∷ []
pairs_of-one p n is = grind (arith, nat_tests)

pub pairs_of-none : (p : ℕ) (n : Note) → p ≢ n.0 → pairs_of p (n ∷ []) ≡ []
pairs_of-none p n other = grind (arith, nat_tests)

pub same_or_not : (a b : ℕ) → (a ≡ b) ⊎ (a ≢ b)
same_or_not a b = ⊎_elim (λ (x : (eqb a b ≡ true) × (a ≡ b)). inl x.1) (λ (x : (eqb a b ≡ false) × (a ≢ b)). inr x.1) (eqb_tells a b)

below_or_not : (a b : ℕ) → (a < b) ⊎ (b ≤ a)
below_or_not a b = cases_lt a b

pub past : {A : Type 0} (xs : List A) (k : ℕ) (d : A) → length xs ≤ k → get_or xs k d ≡ d
past [] k d le = refl
past (x ∷ xs) zero d le = absurd (omega arith)
past (x ∷ xs) (suc k) d le = past xs k d (omega arith)

pub last_of : {A : Type 0} (xs : List A) (a d : A) → get_or (xs ++ a ∷ []) (length xs) d ≡ a
last_of [] a d = refl
last_of (x ∷ xs) a d = last_of xs a d

no : {A : Type 0} {b : Bool} → b ≡ false → b ≡ true → A
no is not = absurd (true≢false (sym not ∙ is))

pub begins : {N : Type 0} → Delivers {N = N} [] (leader 0 true [] [] ∷ [])
begins = record {
  head = 0;
  reads = 0;
  low = 0;
  high = 0;
  seat = λ p. 0;
  sent = λ p. [];
  got = [];
  order = omega arith;
  whole = λ p. refl;
  unsent = λ p le. refl;
  each = each_set (FitsIn 0 0 0 0 (λ p. 0) (λ p. []) []) (leader 0 true [] [] ∷ []) 0 (leader 0 true [] [])
      (record { sends = no refl; gets = λ s. (refl, refl); leads = λ s. (refl, refl, refl, λ k lt. absurd (omega arith)) })
      (λ j u other e. absurd (other (at_end [] _ u j (λ x. some-ne-none u (sym x)) e)));
}

pub sends : {N : Type 0} (n port : ℕ) (v : View) (x : Letter N) → v.sends ≡ true → x.from ≡ v.from
    → Pushes Delivers n port v x (λ w. w ≡ record v { put = v.put ++ pair_of x ∷ [] })
sends {N} n port v x may from items views short h at =
    let w : View = record v { put = v.put ++ pair_of x ∷ [] } in
    let mine = (h.each port v at).sends may in
    let sent : ℕ → List Pair = at_one v.from (h.sent v.from ++ pair_of x ∷ []) h.sent in
    let low_same : (k : ℕ) → k < h.low → h.sent k ≡ sent k = λ k lt. sym (at_one-else v.from _ h.sent k (λ is. omega (arith, mine.0))) in
    let whole : (p : ℕ) → pairs_of p (h.got ++ map note_of (items ++ x ∷ [])) ≡ sent p = λ p.
    ap (λ l. pairs_of p (h.got ++ l)) (map_push note_of items x)
    ∙ ap (pairs_of p) (sym (append_assoc h.got (map note_of items) (note_of x ∷ [])))
    ∙ pairs_of-append p (h.got ++ map note_of items) (note_of x ∷ [])
    ∙ one_more p v.from (pairs_of p (h.got ++ map note_of items)) h.sent (note_of x) from (h.whole p) in (
      w,
      record {
        head = h.head;
        reads = h.reads;
        low = h.low;
        high = h.high;
        seat = h.seat;
        sent = sent;
        got = h.got;
        order = h.order;
        whole = whole;
        unsent = λ p le. at_one-else v.from _ h.sent p (λ is. omega (arith, mine.1)) ∙ h.unsent p le;
        each = each_set (FitsIn h.head h.reads h.low h.high h.seat sent h.got) views port w
            (record {
              sends = λ s. (mine.0, mine.1, mine.2, ap (λ l. l ++ pair_of x ∷ []) mine.3 ∙ sym (at_one-here v.from _ h.sent));
              gets = (h.each port v at).gets;
              leads = λ s. let its = (h.each port v at).leads s in (its.0, its.1, its.2, λ k lt. its.3 k lt ∙ low_same k lt);
            })
            (λ j u other e. record {
              sends = λ s. let theirs = (h.each j u e).sends s in
                  (theirs.0, theirs.1, theirs.2, theirs.3 ∙ sym (at_one-else v.from _ h.sent u.from (λ is. other (sym theirs.2 ∙ ap h.seat is ∙ mine.2))));
              gets = (h.each j u e).gets;
              leads = λ s. let its = (h.each j u e).leads s in (its.0, its.1, its.2, λ k lt. its.3 k lt ∙ low_same k lt);
            });
      },
      refl,
    )
  where
    one_more : (p from : ℕ) (before : List Pair) (sent : ℕ → List Pair) (n : Note) → n.0 ≡ from → before ≡ sent p
        → before ++ pairs_of p (n ∷ []) ≡ at_one from (sent from ++ n.1 ∷ []) sent p
    one_more p from before sent n is same = ⊎_elim
        (λ (here : p ≡ from). ap (λ l. before ++ l) (pairs_of-one p n (here ∙ sym is)) ∙ ap (λ l. l ++ n.1 ∷ []) (same ∙ ap sent here) ∙ sym (at_one-here from _ sent) ∙ ap (at_one from (sent from ++ n.1 ∷ []) sent) (sym here))
        (λ (other : p ≢ from). ap (λ l. before ++ l) (pairs_of-none p n (λ h. other (h ∙ is))) ∙ append-nil before ∙ same ∙ sym (at_one-else from _ sent p other))
        (same_or_not p from)

pub gets : {N : Type 0} (port : ℕ) (v : View) → v.gets ≡ true → Pops (Delivers {N = N}) port v (λ x w. w ≡ record v { got = v.got ++ note_of x ∷ [] })
gets {N} port v may x items views h at =
    let w : View = record v { got = v.got ++ note_of x ∷ [] } in
    let mine = (h.each port v at).gets may in
    let got : List Note = h.got ++ note_of x ∷ [] in (
      w,
      record {
        head = h.head;
        reads = h.reads;
        low = h.low;
        high = h.high;
        seat = h.seat;
        sent = h.sent;
        got = got;
        order = h.order;
        whole = λ p. ap (pairs_of p) (append_assoc h.got (note_of x ∷ []) (map note_of items)) ∙ h.whole p;
        unsent = h.unsent;
        each = each_set (FitsIn h.head h.reads h.low h.high h.seat h.sent got) views port w
            (record { sends = (h.each port v at).sends; gets = λ s. (mine.0, ap (λ l. l ++ note_of x ∷ []) mine.1); leads = (h.each port v at).leads })
            (λ j u other e. record { sends = (h.each j u e).sends; gets = λ s. absurd (other (((h.each j u e).gets s).0 ∙ sym mine.0)); leads = (h.each j u e).leads });
      },
      refl,
    )

pub forks : {N : Type 0} (port : ℕ) (v : View) → v.leads ≡ true → Forks (Delivers {N = N}) port v (record v { made = v.made + 1 }) (sender v.made [])
forks {N} port v may items views h at =
    let l : View = record v { made = v.made + 1 } in
    let r : View = sender v.made [] in
    let mine = (h.each port v at).leads may in
    let vs : List View = set views port l in
    let seat : ℕ → ℕ = at_one h.high (length vs) h.seat in
    let Old : ℕ → View → Type 0 = λ j u.
    (u.sends ≡ true → (h.low ≤ u.from) × (u.from < h.high) × (h.seat u.from ≡ j) × (u.put ≡ h.sent u.from))
    × (u.gets ≡ true → (j ≡ h.reads) × (u.got ≡ h.got))
    × (u.leads ≡ true → (j ≡ h.head) × (length u.known ≡ h.low) × (u.made ≡ h.high + 1) × ((k : ℕ) → k < h.low → slice_index_or u.known k [] ≡ h.sent k)) in
    let old : Each Old vs = each_set Old views port l ((h.each port v at).sends, (h.each port v at).gets, λ s. (mine.0, mine.1, omega (arith, mine.2), mine.3))
    (λ j u other e. ((h.each j u e).sends, (h.each j u e).gets, λ s. absurd (other (((h.each j u e).leads s).0 ∙ sym mine.0)))) in
    record {
      head = h.head;
      reads = h.reads;
      low = h.low;
      high = h.high + 1;
      seat = seat;
      sent = h.sent;
      got = h.got;
      order = omega (arith, h.order);
      whole = h.whole;
      unsent = λ p le. h.unsent p (omega arith);
      each = λ j u e. ⊎_elim
          (λ x. record {
            sends = λ s. let theirs = (old j u x).0 s in
                (theirs.0, omega (arith, theirs.1), at_one-else h.high _ h.seat u.from (λ is. omega (arith, theirs.1)) ∙ theirs.2, theirs.3);
            gets = (old j u x).1;
            leads = (old j u x).2;
          })
          (λ (is : r ≡ u).
          let number : u.from ≡ h.high = sym (ap (λ (y : View). y.from) is) ∙ mine.2 in
          record {
            sends = λ s.
                let place : j ≡ length vs = at_end vs r u j (λ x. let theirs = (old j u x).0 s in omega (arith, theirs.1, number)) e in (
                  omega (arith, h.order, number),
                  omega (arith, number),
                  ap seat number ∙ at_one-here h.high _ h.seat ∙ sym place,
                  sym (ap (λ (y : View). y.put) is) ∙ sym (h.unsent u.from (omega (arith, number))),
                );
            gets = no (sym (ap (λ (y : View). y.gets) is));
            leads = no (sym (ap (λ (y : View). y.leads) is));
          })
          (at_snoc vs r u j e);
    }

pub forks_reader : {N : Type 0} (port : ℕ) (v : View) → v.gets ≡ true → Forks (Delivers {N = N}) port v (record v { gets = false; got = [] }) (reader v.got)
forks_reader {N} port v may items views h at =
    let l : View = record v { gets = false; got = [] } in
    let r : View = reader v.got in
    let mine = (h.each port v at).gets may in
    let vs : List View = set views port l in
    let Old : ℕ → View → Type 0 = λ j u. FitsIn h.head h.reads h.low h.high h.seat h.sent h.got j u × (u.gets ≡ false) in
    let old : Each Old vs = each_set Old views port l (record { sends = (h.each port v at).sends; gets = no refl; leads = (h.each port v at).leads }, refl)
    (λ j u other e. (h.each j u e, not_true u.gets (λ s. other (((h.each j u e).gets s).0 ∙ sym mine.0)))) in
    record {
      head = h.head;
      reads = length vs;
      low = h.low;
      high = h.high;
      seat = h.seat;
      sent = h.sent;
      got = h.got;
      order = h.order;
      whole = h.whole;
      unsent = h.unsent;
      each = λ j u e. ⊎_elim
          (λ x. record { sends = (old j u x).0.sends; gets = no (old j u x).1; leads = (old j u x).0.leads })
          (λ (is : r ≡ u). record {
            sends = no (sym (ap (λ (y : View). y.sends) is));
            gets = λ s. (at_end vs r u j (λ x. no (old j u x).1 s) e, sym (ap (λ (y : View). y.got) is) ∙ mine.1);
            leads = no (sym (ap (λ (y : View). y.leads) is));
          })
          (at_snoc vs r u j e);
    }
  where
    not_true : (b : Bool) → (b ≡ true → ⊥) → b ≡ false
    not_true true wrong = absurd (wrong refl)
    not_true false wrong = refl

pub merges : {N : Type 0} (port : ℕ) (v : View) (other : ℕ) (u : View) → v.leads ≡ true → v.sends ≡ false → u.sends ≡ true → u.from ≡ length v.known
    → Merges (Delivers {N = N}) port v other u (record v { known = v.known ++ u.put ∷ [] }) spent
merges {N} port v other u may quiet puts next items views h at two at' =
    let both : View = record v { known = v.known ++ u.put ∷ [] } in
    let mine = (h.each port v at).leads may in
    let vs : List View = set views port both in
    let was : get_elem? views other ≡ some u = ⊎_elim (λ x. absurd (two x.0)) (λ x. x.1) (at_set views port other both u at') in
    let theirs = (h.each other u was).sends puts in
    let low_is : u.from ≡ h.low = next ∙ mine.1 in
    let Fits : ℕ → View → Type 0 = FitsIn h.head h.reads (h.low + 1) h.high h.seat h.sent h.got in
    let Now : ℕ → View → Type 0 = λ j y. j ≢ other → Fits j y in
    let now : Each Now vs = each_set Now views port both
    (λ apart. record {
      sends = no quiet;
      gets = (h.each port v at).gets;
      leads = λ s. (mine.0, length-append v.known (u.put ∷ []) ∙ omega (arith, mine.1), mine.2, λ k lt. known_more v.known u.put h.sent k h.low mine.1 mine.3 (theirs.3 ∙ ap h.sent low_is) lt);
    })
    (λ j y elsewhere e apart. record {
      sends = λ s.
          let its = (h.each j y e).sends s in
          let higher : h.low ≢ y.from = λ is. apart (sym its.2 ∙ ap h.seat (sym is ∙ sym low_is) ∙ theirs.2) in
          (omega (arith, its.0, higher), its.1, its.2, its.3);
      gets = (h.each j y e).gets;
      leads = λ s. absurd (elsewhere (((h.each j y e).leads s).0 ∙ sym mine.0));
    }) in
    record {
      head = h.head;
      reads = h.reads;
      low = h.low + 1;
      high = h.high;
      seat = h.seat;
      sent = h.sent;
      got = h.got;
      order = omega (arith, theirs.1, low_is);
      whole = h.whole;
      unsent = h.unsent;
      each = each_set Fits vs other spent (record { sends = no refl; gets = no refl; leads = no refl }) (λ j y apart e. now j y e apart);
    }
  where
    known_more : (known : List (List Pair)) (put : List Pair) (sent : ℕ → List Pair) (k low : ℕ) → length known ≡ low
        → ((i : ℕ) → i < low → slice_index_or known i [] ≡ sent i) → put ≡ sent low → k < low + 1 → slice_index_or (known ++ put ∷ []) k [] ≡ sent k
    known_more known put sent k low long before last lt = ⊎_elim
        (λ (here : k ≡ low). ap (λ i. slice_index_or (known ++ put ∷ []) i []) (here ∙ sym long) ∙ last_of known put [] ∙ last ∙ ap sent (sym here))
        (λ (apart : k ≢ low). get_or_append_left known (put ∷ []) [] k (omega (arith, apart)) ∙ before k (omega (arith, apart)))
        (same_or_not k low)

pub merges_reader : {N : Type 0} (port : ℕ) (v : View) (other : ℕ) (u : View) → v.gets ≡ false → u.gets ≡ true
    → Merges (Delivers {N = N}) port v other u (record v { gets = true; got = u.got }) spent
merges_reader {N} port v other u idle reads items views h at two at' =
    let both : View = record v { gets = true; got = u.got } in
    let vs : List View = set views port both in
    let was : get_elem? views other ≡ some u = ⊎_elim (λ x. absurd (two x.0)) (λ x. x.1) (at_set views port other both u at') in
    let theirs = (h.each other u was).gets reads in
    let Fits : ℕ → View → Type 0 = FitsIn h.head port h.low h.high h.seat h.sent h.got in
    let Now : ℕ → View → Type 0 = λ j y. j ≢ other → Fits j y in
    let now : Each Now vs = each_set Now views port both
    (λ apart. record { sends = (h.each port v at).sends; gets = λ s. (refl, theirs.1); leads = (h.each port v at).leads })
    (λ j y elsewhere e apart. record { sends = (h.each j y e).sends; gets = λ s. absurd (apart (((h.each j y e).gets s).0 ∙ sym theirs.0)); leads = (h.each j y e).leads }) in
    record {
      head = h.head;
      reads = port;
      low = h.low;
      high = h.high;
      seat = h.seat;
      sent = h.sent;
      got = h.got;
      order = h.order;
      whole = h.whole;
      unsent = h.unsent;
      each = each_set Fits vs other spent (record { sends = no refl; gets = no refl; leads = no refl }) (λ j y apart e. now j y e apart);
    }

pub totals : {N : Type 0} (port : ℕ) (v : View) → v.leads ≡ true → v.gets ≡ true
    → Learns (Delivers {N = N}) port v (λ items. length v.known ≡ v.made → AreAllOf v.known (v.got ++ map note_of items))
totals port v may reads items views h at all p =
    let mine = (h.each port v at).leads may in
    ap (λ got. pairs_of p (got ++ map note_of items)) ((h.each port v at).gets reads).1 ∙ h.whole p
    ∙ ⊎_elim (λ (lt : p < h.low). sym (mine.3 p lt)) (λ (ge : h.low ≤ p). h.unsent p (omega (arith, mine.1, mine.2)) ∙ sym (past v.known p [] (omega (arith, mine.1)))) (below_or_not p h.low)
