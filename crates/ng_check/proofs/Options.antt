-- Values that may be there, and that stay.
use Rattle.std.proofs.Common.{◌≡◌, ap, ◌∙◌, refl, Bool, true, false, cond}
use Rattle.std.specs.Prelude.{Option, Some, None}
use Rattle.std.specs.Option.{option_and_then, option_map}
use Rattle.std.proofs.lemmas.Option.{option_and_then_some}
use Rattle.ng_check.specs.Queries.{both}

-- what the one has, the other has too
abbrev pub More : {A : Type 0} → Option A → Option A → Type 0
More {A} o p = (x : A) → o ≡ Some x → p ≡ Some x

pub then_more : {A B : Type 0} (f g : A → Option B) (o p : Option A) → More o p → ((x : A) → More (f x) (g x))
    → More (option_and_then f o) (option_and_then g p)
then_more f g o p m n y e = option_and_then_some f o y e (λ x is fx. ap (option_and_then g) (m x is) ∙ n x y fx)

pub map_more : {A B : Type 0} (f : A → B) (o p : Option A) → More o p → More (option_map f o) (option_map f p)
map_more f None p m y e = absurd (cc)
map_more f (Some x) p m y e = ap (option_map f) (m x refl) ∙ e

pub both_more : {A B C : Type 0} (f : A → B → C) (o p : Option A) (a b : Option B) → More o p → More a b → More (both f o a) (both f p b)
both_more f o p a b m n = then_more (λ x. option_map (f x) a) (λ x. option_map (f x) b) o p m (λ x. map_more (f x) a b n)

pub if_more : {A : Type 0} (t : Bool) (o p a b : Option A) → More o p → More a b → More (cond t o a) (cond t p b)
if_more true o p a b m n = m
if_more false o p a b m n = n

pub same_more : {A : Type 0} (o : Option A) → More o o
same_more o x e = e

pub some_is : {A : Type 0} (x y : A) → ◌≡◌ {A = Option A} (Some x) (Some y) → x ≡ y
some_is x y e = cc

-- what a value comes from
pub then_some : {A B : Type 0} (f : A → Option B) (o : Option A) (y : B) → option_and_then f o ≡ Some y → (x : A) × (o ≡ Some x) × (f x ≡ Some y)
then_some f None y e = absurd (cc)
then_some f (Some x) y e = (x, refl, e)

pub map_some : {A B : Type 0} (f : A → B) (o : Option A) (y : B) → option_map f o ≡ Some y → (x : A) × (o ≡ Some x) × (f x ≡ y)
map_some f None y e = absurd (cc)
map_some f (Some x) y e = (x, refl, some_is (f x) y e)

pub both_some : {A B C : Type 0} (f : A → B → C) (o : Option A) (p : Option B) (z : C) → both f o p ≡ Some z → (x : A) × (y : B) × (o ≡ Some x) × (p ≡ Some y) × (f x y ≡ z)
both_some f o p z e =
    let first = then_some (λ x. option_map (f x) p) o z e in
    let second = map_some (f first.0) p z first.2 in
    (first.0, second.0, first.1, second.1, second.2)

-- both are there
pub both_is : {A B C : Type 0} (f : A → B → C) (o : Option A) (p : Option B) (x : A) (y : B) → o ≡ Some x → p ≡ Some y → both f o p ≡ Some (f x y)
both_is f o p x y a b = (λ k. both f (a k) (b k))
