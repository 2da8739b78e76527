-- A slot goes from the lock's seat to a hand: the hand comes whole into the lock's seat, and goes out again with the slot.
use Rattle.std.proofs.Common.{◌≡◌, ◌⊎◌, ℕ, eqb, true, false, true≢false, List, [], ◌∷◌, ◌++◌, refl, sym, ap, ◌∙◌, subst, ⊎_elim, inl, inr, arith, cond, Bool, length, ◌+◌, ◌≤◌}
use Rattle.std.specs.Prelude.{Some, None}
use Rattle.ng_view.specs.declared.view.Excuse.{Excuse}
use Rattle.ng_view.specs.declared.view.Held.{Held}
use Rattle.ng_view.specs.declared.view.Nest.{Nest}
use Rattle.ng_view.specs.declared.view.Book.{Book}
use Rattle.ng_view.specs.declared.view.Desk.{Desk}
use Rattle.ng_view.specs.declared.view.View.{View}
use Rattle.ng_view.specs.Lists.{Among, total_by, count_of, find, without, excused}
use Rattle.ng_view.specs.Views.{here, no_desk, lives, excuse_of}
use Rattle.ng_view.specs.Steps.{hosting, with_held, pushed, spent, excuse_at, unexcused, with_excuse, without_one}
use Rattle.ng_view.specs.Cuts.{Cut, Merge}
use Rattle.ng_rule.proofs.geometry.Lists.{total_by-append, total_by-without, among_append, among_without, find_among}

both_empty : {A : Type 0} (xs ys : List A) → xs ++ ys ≡ [] → (xs ≡ []) × (ys ≡ [])
both_empty [] ys e = (refl, e)
both_empty (x ∷ xs) ys e = absurd (cc)

-- what is among one list or the other
among_either : {A : Type 0} (xs ys : List A) (x : A) → Among x xs ⊎ Among x ys → Among x (xs ++ ys)
among_either [] ys x (inl s) = elim s [ ]
among_either [] ys x (inr s) = s
among_either (y ∷ xs) ys x (inl s) = ⊎_elim (λ (e : x ≡ y). inl e) (λ (t : Among x xs). inr (among_either xs ys x (inl t))) s
among_either (y ∷ xs) ys x (inr s) = inr (among_either xs ys x (inr s))

-- a whole hand comes into the lock's seat
pub merge_hand : (v w : View) → v.leads ≡ true → w.leads ≡ false → w.parcel ≡ false → w.desk ≡ no_desk → Merge v w (hosting v w) spent
merge_hand v w leads follows whole desk = record {
  left = refl;
  leads = (refl, follows);
  desk = refl;
  has = λ n j. let a = total_by-append (λ (y : Held). here n j y.place) w.held v.held in let z : total_by (λ (x : Nest). here n j x.place) w.desk.layout.nests ≡ 0 = ap (λ (d : Desk). total_by (λ (x : Nest). here n j x.place) d.layout.nests) desk in omega arith;
  blocks = λ b. let a = total_by-append (λ (y : Held). lives b y.block) w.held v.held in omega arith;
  numbers = λ k. let a = total_by-append (λ (b : Book). count_of (eqb b.number k)) w.books v.books in omega arith;
  excuses = λ e. let a = total_by-append (λ (x : Excuse). count_of (eqb x.number e)) w.excuses v.excuses in omega arith;
  booked = λ e. let a = total_by-append (λ (b : Book). total_by (excuse_of e) b.entries) w.books v.books in omega arith;
  held = λ h s. ⊎_elim (λ (t : Among h w.held). inr t) (λ (t : Among h v.held). inl t) (among_append w.held v.held h s);
  books = λ b s. ⊎_elim (λ (t : Among b w.books). inr t) (λ (t : Among b v.books). inl t) (among_append w.books v.books b s);
  excuse = λ x s. ⊎_elim (λ (t : Among x w.excuses). inr t) (λ (t : Among x v.excuses). inl t) (among_append w.excuses v.excuses x s);
  readings = refl;
  stores = refl;
  idle = λ f f' b.
      let q = both_empty w.books v.books b in let r = f q.1 in let t = f' q.0 in
      let r0 = r.0 in let r1 = r.1 in let t0 = t.0 in let t1 = t.1 in (omega arith, omega arith, λ l. absurd (true≢false (sym leads ∙ l)));
  whole = λ f f' p. absurd (true≢false (sym leads ∙ (f p).follows));
  single = λ f l. absurd (true≢false (sym leads ∙ l));
  moving = λ f i l b h s.
      let q = both_empty w.books v.books b in
      ⊎_elim (λ (t : Among h w.held). absurd (subst (Among h) ((i q.0).2 follows whole).0 t)) (f l q.1 h) (among_append w.held v.held h s);
  parcels = (let a : count_of w.parcel ≡ 0 = ap count_of whole in omega arith);
}

-- and goes out without a slot, which stays
pub cut_seat : (v w : View) (m i : ℕ) (h : Held) → ((y : Held) → Among y v.held → y.block ≡ None) → v.leads ≡ true → w.leads ≡ false → w.parcel ≡ false → w.desk ≡ no_desk → (w.books ≡ [] → ⊥) → find m i w.held ≡ Some h → h.block ≡ None → v.sent ≡ 0 → v.taken ≡ 0 → length w.books ≤ 1
    → Cut (hosting v w) (with_held v h) (pushed w m i)
cut_seat v w m i h still leads follows whole desk caller found none none_sent none_taken one_book = record {
  leads = (refl, follows);
  desk = (refl, desk);
  has = λ n j. let a = total_by-append (λ (y : Held). here n j y.place) w.held v.held in let b = total_by-without (λ (y : Held). here n j y.place) m i w.held h found in
      let z : total_by (λ (x : Nest). here n j x.place) w.desk.layout.nests ≡ 0 = ap (λ (d : Desk). total_by (λ (x : Nest). here n j x.place) d.layout.nests) desk in omega arith;
  blocks = λ b. let a = total_by-append (λ (y : Held). lives b y.block) w.held v.held in let c = total_by-without (λ (y : Held). lives b y.block) m i w.held h found in omega arith;
  numbers = λ k. let a = total_by-append (λ (b : Book). count_of (eqb b.number k)) w.books v.books in omega arith;
  excuses = λ e. let a = total_by-append (λ (x : Excuse). count_of (eqb x.number e)) w.excuses v.excuses in omega arith;
  booked = λ e. let a = total_by-append (λ (b : Book). total_by (excuse_of e) b.entries) w.books v.books in omega arith;
  held = λ x s. ⊎_elim
      (λ (t : Among x (h ∷ v.held)). ⊎_elim (λ (q : x ≡ h). among_either w.held v.held x (inl (subst (λ y. Among y w.held) (sym q) (find_among m i w.held h found).0))) (λ (q : Among x v.held). among_either w.held v.held x (inr q)) t)
      (λ (t : Among x (without m i w.held)). among_either w.held v.held x (inl (among_without m i w.held x t))) s;
  books = λ b s. ⊎_elim (λ (t : Among b v.books). among_either w.books v.books b (inr t)) (λ (t : Among b w.books). among_either w.books v.books b (inl t)) s;
  excuse = λ x s. ⊎_elim (λ (t : Among x v.excuses). among_either w.excuses v.excuses x (inr t)) (λ (t : Among x w.excuses). among_either w.excuses v.excuses x (inl t)) s;
  readings = refl;
  stores = refl;
  idle = ((λ f b. (none_sent, none_taken, λ l. absurd (true≢false (sym leads ∙ l)))), (λ b. absurd (caller b)));
  whole = ((λ f p. absurd (true≢false (sym leads ∙ (f p).follows))), (λ p. absurd (true≢false (sym p ∙ whole))));
  single = ((λ f l. absurd (true≢false (sym leads ∙ l))), (λ l. one_book));
  moving = λ f l b y s. ⊎_elim (λ (q : y ≡ h). subst (λ (z : Held). z.block ≡ None) (sym q) none) (still y) s;
  parcels = (let a : count_of w.parcel ≡ 0 = ap count_of whole in omega arith);
}

-- and goes out with a slot of the lock's seat
pub cut_slot : (v w : View) (m i : ℕ) (h : Held) → ((y : Held) → Among y v.held → y.block ≡ None) → v.leads ≡ true → w.leads ≡ false → w.parcel ≡ false → w.desk ≡ no_desk → (w.books ≡ [] → ⊥) → find m i v.held ≡ Some h → v.sent ≡ 0 → v.taken ≡ 0 → length w.books ≤ 1
    → Cut (hosting v w) (pushed v m i) (with_held w h)
cut_slot v w m i h still leads follows whole desk caller found none_sent none_taken one_book = record {
  leads = (refl, follows);
  desk = (refl, desk);
  has = λ n j. let a = total_by-append (λ (y : Held). here n j y.place) w.held v.held in let b = total_by-without (λ (y : Held). here n j y.place) m i v.held h found in
      let z : total_by (λ (x : Nest). here n j x.place) w.desk.layout.nests ≡ 0 = ap (λ (d : Desk). total_by (λ (x : Nest). here n j x.place) d.layout.nests) desk in omega arith;
  blocks = λ b. let a = total_by-append (λ (y : Held). lives b y.block) w.held v.held in let c = total_by-without (λ (y : Held). lives b y.block) m i v.held h found in omega arith;
  numbers = λ k. let a = total_by-append (λ (b : Book). count_of (eqb b.number k)) w.books v.books in omega arith;
  excuses = λ e. let a = total_by-append (λ (x : Excuse). count_of (eqb x.number e)) w.excuses v.excuses in omega arith;
  booked = λ e. let a = total_by-append (λ (b : Book). total_by (excuse_of e) b.entries) w.books v.books in omega arith;
  held = λ x s. ⊎_elim
      (λ (t : Among x (without m i v.held)). among_either w.held v.held x (inr (among_without m i v.held x t)))
      (λ (t : Among x (h ∷ w.held)). ⊎_elim (λ (q : x ≡ h). among_either w.held v.held x (inr (subst (λ y. Among y v.held) (sym q) (find_among m i v.held h found).0))) (λ (q : Among x w.held). among_either w.held v.held x (inl q)) t) s;
  books = λ b s. ⊎_elim (λ (t : Among b v.books). among_either w.books v.books b (inr t)) (λ (t : Among b w.books). among_either w.books v.books b (inl t)) s;
  excuse = λ x s. ⊎_elim (λ (t : Among x v.excuses). among_either w.excuses v.excuses x (inr t)) (λ (t : Among x w.excuses). among_either w.excuses v.excuses x (inl t)) s;
  readings = refl;
  stores = refl;
  idle = ((λ f b. (none_sent, none_taken, λ l. absurd (true≢false (sym leads ∙ l)))), (λ b. absurd (caller b)));
  whole = ((λ f p. absurd (true≢false (sym leads ∙ (f p).follows))), (λ p. absurd (true≢false (sym p ∙ whole))));
  single = ((λ f l. absurd (true≢false (sym leads ∙ l))), (λ l. one_book));
  moving = λ f l b y s. still y (among_without m i v.held y s);
  parcels = (let a : count_of w.parcel ≡ 0 = ap count_of whole in omega arith);
}

excuse-total : (n e : ℕ) (xs : List Excuse) (x : Excuse) → excuse_at e xs ≡ Some x → excused n (without_one e xs) + count_of (eqb x.number n) ≡ excused n xs
excuse-total n e [] x q = absurd (cc)
excuse-total n e (y ∷ ys) x q = by_test (excuse-total n e ys x) (eqb y.number e) q
  where
    by_test : (excuse_at e ys ≡ Some x → excused n (without_one e ys) + count_of (eqb x.number n) ≡ excused n ys) → (b : Bool) → cond b (Some y) (excuse_at e ys) ≡ Some x
        → excused n (cond b ys (y ∷ without_one e ys)) + count_of (eqb x.number n) ≡ count_of (eqb y.number n) + excused n ys
    by_test ih true q = let r : y ≡ x = cc in let p : count_of (eqb y.number n) ≡ count_of (eqb x.number n) = ap (λ (z : Excuse). count_of (eqb z.number n)) r in omega arith
    by_test ih false q = let r = ih q in omega arith

excuse-among : (e : ℕ) (xs : List Excuse) (x : Excuse) → excuse_at e xs ≡ Some x → Among x xs
excuse-among e [] x q = absurd (cc)
excuse-among e (y ∷ ys) x q = by_test (excuse-among e ys x) (eqb y.number e) q
  where
    by_test : (excuse_at e ys ≡ Some x → Among x ys) → (b : Bool) → cond b (Some y) (excuse_at e ys) ≡ Some x → Among x (y ∷ ys)
    by_test ih true q = let r : x ≡ y = cc in inl r
    by_test ih false q = inr (ih q)

excuse-without : (e : ℕ) (xs : List Excuse) (x : Excuse) → Among x (without_one e xs) → Among x xs
excuse-without e [] x s = elim s [ ]
excuse-without e (y ∷ ys) x s = by_test (excuse-without e ys x) (eqb y.number e) s
  where
    by_test : (Among x (without_one e ys) → Among x ys) → (b : Bool) → Among x (cond b ys (y ∷ without_one e ys)) → Among x (y ∷ ys)
    by_test ih true s = inr s
    by_test ih false (inl q) = inl q
    by_test ih false (inr s) = inr (ih s)

-- a whole hand goes out of the lock's seat with an excuse of it
pub cut_excuse : (v w : View) (e : ℕ) (x : Excuse) → ((y : Held) → Among y v.held → y.block ≡ None) → v.leads ≡ true → w.leads ≡ false → w.parcel ≡ false → w.desk ≡ no_desk → (w.books ≡ [] → ⊥) → excuse_at e v.excuses ≡ Some x → v.sent ≡ 0 → v.taken ≡ 0 → length w.books ≤ 1
    → Cut (hosting v w) (unexcused v e) (with_excuse w (excuse_at e v.excuses))
cut_excuse v w e x still leads follows whole desk caller found none_sent none_taken one_book = subst (λ o. Cut (hosting v w) (unexcused v e) (with_excuse w o)) (sym found) (record {
  leads = (refl, follows);
  desk = (refl, desk);
  has = λ n j. let a = total_by-append (λ (y : Held). here n j y.place) w.held v.held in let z : total_by (λ (y : Nest). here n j y.place) w.desk.layout.nests ≡ 0 = ap (λ (d : Desk). total_by (λ (y : Nest). here n j y.place) d.layout.nests) desk in omega arith;
  blocks = λ b. let a = total_by-append (λ (y : Held). lives b y.block) w.held v.held in omega arith;
  numbers = λ k. let a = total_by-append (λ (b : Book). count_of (eqb b.number k)) w.books v.books in omega arith;
  excuses = λ n. let a = total_by-append (λ (y : Excuse). count_of (eqb y.number n)) w.excuses v.excuses in let b = excuse-total n e v.excuses x found in omega arith;
  booked = λ n. let a = total_by-append (λ (b : Book). total_by (excuse_of n) b.entries) w.books v.books in omega arith;
  held = λ y s. among_either w.held v.held y (⊎_elim (λ (t : Among y v.held). inr t) (λ (t : Among y w.held). inl t) s);
  books = λ b s. among_either w.books v.books b (⊎_elim (λ (t : Among b v.books). inr t) (λ (t : Among b w.books). inl t) s);
  excuse = λ y s. among_either w.excuses v.excuses y (⊎_elim
      (λ (t : Among y (without_one e v.excuses)). inr (excuse-without e v.excuses y t))
      (λ (t : Among y (x ∷ w.excuses)). ⊎_elim (λ (q : y ≡ x). inr (subst (λ z. Among z v.excuses) (sym q) (excuse-among e v.excuses x found))) (λ (t : Among y w.excuses). inl t) t) s);
  readings = refl;
  stores = refl;
  idle = ((λ f b. (none_sent, none_taken, λ l. absurd (true≢false (sym leads ∙ l)))), (λ b. absurd (caller b)));
  whole = ((λ f p. absurd (true≢false (sym leads ∙ (f p).follows))), (λ p. absurd (true≢false (sym p ∙ whole))));
  single = ((λ f l. absurd (true≢false (sym leads ∙ l))), (λ l. one_book));
  moving = λ f l b y s. still y s;
  parcels = (let a : count_of w.parcel ≡ 0 = ap count_of whole in omega arith);
})
