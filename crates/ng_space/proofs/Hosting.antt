-- Hands come into the lock's seat one by one: what stands in its view then is what stood in all of theirs.
use Rattle.std.proofs.Common.{◌≡◌, ℕ, ◌+◌, List, [], ◌∷◌, ◌++◌, refl, ap, subst, ⊎_elim, inl, inr, arith, eqb}
use Rattle.ng_terms.specs.declared.entry.Extent.{Extent}
use Rattle.ng_view.specs.Lists.{Among, total_by, count_of}
use Rattle.ng_view.specs.Views.{has, here, no_desk, numbered, blocks, booked, excuse_of, lives}
use Rattle.ng_view.specs.Excuses.{stands}
use Rattle.ng_view.specs.Steps.{hosting}
use Rattle.ng_view.specs.declared.view.Book.{Book}
use Rattle.ng_view.specs.declared.view.Desk.{Desk}
use Rattle.ng_view.specs.declared.view.Excuse.{Excuse}
use Rattle.ng_view.specs.declared.view.Held.{Held}
use Rattle.ng_view.specs.declared.view.Nest.{Nest}
use Rattle.ng_view.specs.declared.view.View.{View}
use Rattle.ng_rule.proofs.geometry.Lists.{total_by-append}

-- the lock's seat with these hands in it, the first taken in first
abbrev pub hosted : View → List View → View
hosted v [] = v
hosted v (w ∷ ws) = hosted (hosting v w) ws

-- none of these has a desk
abbrev pub AreDeskless : List View → Type 0
AreDeskless [] = Unit {0}
AreDeskless (w ∷ ws) = (w.desk ≡ no_desk) × AreDeskless ws

pub hosted-snoc : (v : View) (ws : List View) (w : View) → hosted v (ws ++ w ∷ []) ≡ hosting (hosted v ws) w
hosted-snoc v [] w = refl
hosted-snoc v (x ∷ ws) w = hosted-snoc (hosting v x) ws w

pub deskless-snoc : (ws : List View) (w : View) → AreDeskless ws → w.desk ≡ no_desk → AreDeskless (ws ++ w ∷ [])
deskless-snoc [] w d e = (e, tt)
deskless-snoc (x ∷ ws) w d e = (d.0, deskless-snoc ws w d.1 e)

-- what the lock's seat has by itself stays
pub hosted-leads : (v : View) (ws : List View) → (hosted v ws).leads ≡ v.leads
hosted-leads v [] = refl
hosted-leads v (w ∷ ws) = hosted-leads (hosting v w) ws

pub hosted-parcel : (v : View) (ws : List View) → (hosted v ws).parcel ≡ v.parcel
hosted-parcel v [] = refl
hosted-parcel v (w ∷ ws) = hosted-parcel (hosting v w) ws

pub hosted-desk : (v : View) (ws : List View) → (hosted v ws).desk ≡ v.desk
hosted-desk v [] = refl
hosted-desk v (w ∷ ws) = hosted-desk (hosting v w) ws

-- ---- counts add up
abbrev pub Adds : (View → ℕ) → Type 0
Adds f = (v w : View) → w.desk ≡ no_desk → f (hosting v w) ≡ f v + f w

pub hosted-total : (f : View → ℕ) → Adds f → (v : View) (ws : List View) → AreDeskless ws → f (hosted v ws) ≡ total_by f (v ∷ ws)
hosted-total f adds v [] d = omega arith
hosted-total f adds v (w ∷ ws) d = let a = hosted-total f adds (hosting v w) ws d.1 in let b = adds v w d.0 in omega arith

pub has-adds : (m i : ℕ) → Adds (has m i)
has-adds m i v w deskless =
    let a = total_by-append (λ (y : Held). here m i y.place) w.held v.held in
    let z : total_by (λ (x : Nest). here m i x.place) w.desk.layout.nests ≡ 0 = ap (λ (d : Desk). total_by (λ (x : Nest). here m i x.place) d.layout.nests) deskless in omega arith

pub blocks-adds : (b : Extent) → Adds (blocks b)
blocks-adds b v w deskless = let a = total_by-append (λ (y : Held). lives b y.block) w.held v.held in omega arith

pub numbered-adds : (k : ℕ) → Adds (numbered k)
numbered-adds k v w deskless = let a = total_by-append (λ (b : Book). count_of (eqb b.number k)) w.books v.books in omega arith

pub booked-adds : (e : ℕ) → Adds (booked e)
booked-adds e v w deskless = let a = total_by-append (λ (b : Book). total_by (excuse_of e) b.entries) w.books v.books in omega arith

pub stands-adds : (e : ℕ) → Adds (stands e)
stands-adds e v w deskless =
    let a = total_by-append (λ (x : Excuse). count_of (eqb x.number e)) w.excuses v.excuses in
    let b = booked-adds e v w deskless in omega arith

pub sent-adds : Adds (λ v. v.sent)
sent-adds v w deskless = refl

pub taken-adds : Adds (λ v. v.taken)
taken-adds v w deskless = refl

-- ---- each slot and book is there
in_front : {A : Type 0} (xs ys : List A) (x : A) → Among x xs → Among x (xs ++ ys)
in_front [] ys x s = absurd s
in_front (y ∷ xs) ys x s = ⊎_elim (λ (e : x ≡ y). inl e) (λ (t : Among x xs). inr (in_front xs ys x t)) s

behind : {A : Type 0} (xs ys : List A) (x : A) → Among x ys → Among x (xs ++ ys)
behind [] ys x s = s
behind (y ∷ xs) ys x s = inr (behind xs ys x s)

held_stays : (v : View) (ws : List View) (h : Held) → Among h v.held → Among h (hosted v ws).held
held_stays v [] h s = s
held_stays v (w ∷ ws) h s = held_stays (hosting v w) ws h (behind w.held v.held h s)

books_stay : (v : View) (ws : List View) (b : Book) → Among b v.books → Among b (hosted v ws).books
books_stay v [] b s = s
books_stay v (w ∷ ws) b s = books_stay (hosting v w) ws b (behind w.books v.books b s)

pub hosted-held : (v : View) (ws : List View) (u : View) (h : Held) → Among u (v ∷ ws) → Among h u.held → Among h (hosted v ws).held
hosted-held v ws u h (inl e) s = held_stays v ws h (subst (λ (x : View). Among h x.held) e s)
hosted-held v [] u h (inr t) s = elim t [ ]
hosted-held v (w ∷ ws) u h (inr (inl e)) s = held_stays (hosting v w) ws h (in_front w.held v.held h (subst (λ (x : View). Among h x.held) e s))
hosted-held v (w ∷ ws) u h (inr (inr t)) s = hosted-held (hosting v w) ws u h (inr t) s

pub hosted-books : (v : View) (ws : List View) (u : View) (b : Book) → Among u (v ∷ ws) → Among b u.books → Among b (hosted v ws).books
hosted-books v ws u b (inl e) s = books_stay v ws b (subst (λ (x : View). Among b x.books) e s)
hosted-books v [] u b (inr t) s = elim t [ ]
hosted-books v (w ∷ ws) u b (inr (inl e)) s = books_stay (hosting v w) ws b (in_front w.books v.books b (subst (λ (x : View). Among b x.books) e s))
hosted-books v (w ∷ ws) u b (inr (inr t)) s = hosted-books (hosting v w) ws u b (inr t) s
