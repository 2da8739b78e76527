-- The numbers that the parts of a list write.
use Rattle.std.proofs.Common.{◌≡◌, ℕ, ◌+◌, ◌<◌, ◌≤◌, Bool, true, false, List, [], ◌∷◌, ◌++◌, length, drop, get_or, map, Option, Some, None, All, refl, sym, ap, subst, ◌∙◌, arith, ◌&&◌, ltb, leb, cond, append_assoc, append-nil, length-append, ◌==◌}
use Rattle.std.specs.Prelude.{IfNone, IfSome}
use Rattle.std.specs.Option.{option_and_then}
use Rattle.std.specs.List.{slice_split}
use Rattle.std.proofs.lemmas.Bool.{and_parts}
use Rattle.std.proofs.lemmas.List.{at_drop_more, at_drop_all}
use Rattle.std.proofs.lemmas.List.Elements.{All-nil, All-cons, All-head, All-tail}
use Rattle.ng_script.specs.Numbers.{number_of}
use Rattle.ng_words.specs.Lists.{number_added, numbers_added, list_of}
use Rattle.ng_words.specs.Texts.{IsCallNumber, IsList}
use borrow.Author.Tests.{ltb-true, leb-true, le-leb, lt-ltb}

-- one part more
pub numbers_added-more : (numbers : List ℕ) (parts : List (List ℕ)) (n : ℕ) (part : List ℕ) → (n < length parts) × (part ≡ get_or parts n part)
    → numbers_added numbers (drop n parts) ≡ option_and_then (λ more. numbers_added more (drop (n + 1) parts)) (number_added numbers part)
unfolding numbers_added
numbers_added-more numbers parts n part at =
    at_drop_more (λ (ps : List (List ℕ)). numbers_added numbers ps) parts n part at.0
    ∙ ap (λ (p : List ℕ). option_and_then (λ more. numbers_added more (drop (n + 1) parts)) (number_added numbers p)) (sym at.1)

-- one step through the parts
pub numbers_added-step : (numbers all : List ℕ) (parts : List (List ℕ)) (n : ℕ) (part : List ℕ) (next : Option (List ℕ)) → (n < length parts) × (part ≡ get_or parts n part)
    → numbers_added numbers (drop n parts) ≡ numbers_added all parts → next ≡ number_added numbers part
    → option_and_then (λ more. numbers_added more (drop (n + 1) parts)) next ≡ numbers_added all parts
numbers_added-step numbers all parts n part next at kept read =
    ap (λ (o : Option (List ℕ)). option_and_then (λ more. numbers_added more (drop (n + 1) parts)) o) read ∙ sym (numbers_added-more numbers parts n part at) ∙ kept

-- and their end
pub numbers_added-end : (numbers all : List ℕ) (parts : List (List ℕ)) (n : ℕ) → n ≡ length parts → numbers_added numbers (drop n parts) ≡ numbers_added all parts → Some numbers ≡ numbers_added all parts
unfolding numbers_added
numbers_added-end numbers all parts n whole kept = sym (at_drop_all (λ (ps : List (List ℕ)). numbers_added numbers ps) parts n (omega arith)) ∙ kept

-- what a number is that was taken
pub record IsAdded (numbers : List ℕ) (text : List ℕ) (more : List ℕ) : Type 0 where
  pub number : ℕ
  pub written : number_of text ≡ Some number
  pub known : IsCallNumber number
  pub room : length numbers < 64
  pub more_is : more ≡ numbers ++ number ∷ []

added-with : (numbers more : List ℕ) (text : List ℕ) (number : Option ℕ) → number_of text ≡ number
    → option_and_then (λ n. cond (leb 1 n && leb n 1000000 && ltb (length numbers) 64) (Some (numbers ++ n ∷ [])) None) number ≡ Some more
    → IsAdded numbers text more
added-with numbers more text None written is = absurd (cc)
added-with numbers more text (Some n) written is = taken (leb 1 n && leb n 1000000 && ltb (length numbers) 64) refl is
  where
    taken : (b : Bool) → (leb 1 n && leb n 1000000 && ltb (length numbers) 64) ≡ b → cond b (Some (numbers ++ n ∷ [])) None ≡ Some more → IsAdded numbers text more
    taken false test is = absurd (cc)
    taken true test is =
        let last = and_parts (leb 1 n && leb n 1000000) (ltb (length numbers) 64) test in
        let first = and_parts (leb 1 n) (leb n 1000000) last.0 in
        record {
          number = n;
          written = written;
          known = record { least = leb-true 1 n first.0; most = leb-true n 1000000 first.1 };
          room = ltb-true (length numbers) 64 last.1;
          more_is = cc;
        }

added-from_Some : (numbers text more : List ℕ) → number_added numbers text ≡ Some more → IsAdded numbers text more
unfolding number_added
added-from_Some numbers text more is = added-with numbers more text (number_of text) refl is

number_added-is : (numbers text : List ℕ) (n : ℕ) → number_of text ≡ Some n → IsCallNumber n → length numbers < 64 → number_added numbers text ≡ Some (numbers ++ n ∷ [])
unfolding number_added
number_added-is numbers text n written known room =
    let least : leb 1 n ≡ true = le-leb 1 n known.least in
    let most : leb n 1000000 ≡ true = le-leb n 1000000 known.most in
    let few : ltb (length numbers) 64 ≡ true = lt-ltb (length numbers) 64 room in
    rw written (rw (least, most, few) refl)

-- what numbers are that were taken
pub record AreAdded (numbers : List ℕ) (parts : List (List ℕ)) (all : List ℕ) : Type 0 where
  pub more : List ℕ
  pub written : map number_of parts ≡ map Some more
  pub known : All IsCallNumber more
  pub few : length numbers ≤ 64 → length all ≤ 64
  pub all_is : all ≡ numbers ++ more

still-added : (numbers all text : List ℕ) (parts : List (List ℕ)) (next : List ℕ) → IsAdded numbers text next → AreAdded next parts all → AreAdded numbers (text ∷ parts) all
still-added numbers all text parts next first rest =
    let length_is : length next ≡ length numbers + 1 = ap length first.more_is ∙ length-append numbers (first.number ∷ []) in
    let room : length numbers < 64 = first.room in
    let first_written : number_of text ≡ Some first.number = first.written in
    let rest_written : map number_of parts ≡ map Some rest.more = rest.written in
    record {
      more = first.number ∷ rest.more;
      written = cc;
      known = All-cons IsCallNumber first.number rest.more first.known rest.known;
      few = λ few. rest.few (omega arith);
      all_is = rest.all_is ∙ ap (λ (l : List ℕ). l ++ rest.more) first.more_is ∙ append_assoc numbers (first.number ∷ []) rest.more;
    }

all-added : (numbers all : List ℕ) (parts : List (List ℕ)) → numbers_added numbers parts ≡ Some all → AreAdded numbers parts all
unfolding numbers_added
all-added numbers all [] is =
    let same : numbers ≡ all = cc in
    record { more = []; written = refl; known = All-nil IsCallNumber; few = λ few. subst (λ (l : List ℕ). length l ≤ 64) same few; all_is = sym same ∙ sym (append-nil numbers) }
all-added numbers all (text ∷ parts) is = added (λ next. all-added next all parts) (number_added numbers text) refl is
  where
    added : ((next : List ℕ) → numbers_added next parts ≡ Some all → AreAdded next parts all) → (next : Option (List ℕ)) → number_added numbers text ≡ next → option_and_then (λ more. numbers_added more parts) next ≡ Some all → AreAdded numbers (text ∷ parts) all
    added behind None first rest = absurd (cc)
    added behind (Some next) first rest = still-added numbers all text parts next (added-from_Some numbers text next first) (behind next rest)

numbers_added-are : (numbers more : List ℕ) (parts : List (List ℕ)) → map number_of parts ≡ map Some more → All IsCallNumber more → length numbers + length more ≤ 64
    → numbers_added numbers parts ≡ Some (numbers ++ more)
unfolding numbers_added
numbers_added-are numbers [] [] written known few = ap Some (sym (append-nil numbers))
numbers_added-are numbers (n ∷ more) [] written known few = absurd (cc)
numbers_added-are numbers [] (text ∷ parts) written known few = absurd (cc)
numbers_added-are numbers (n ∷ more) (text ∷ parts) written known few =
    let first : number_of text ≡ Some n = cc in
    let others : map number_of parts ≡ map Some more = cc in
    let length_is : length (numbers ++ n ∷ []) ≡ length numbers + 1 = length-append numbers (n ∷ []) in
    let taken : number_added numbers text ≡ Some (numbers ++ n ∷ []) = number_added-is numbers text n first (All-head IsCallNumber n more known) (omega arith) in
    ap (λ (next : Option (List ℕ)). option_and_then (λ m. numbers_added m parts) next) taken
    ∙ numbers_added-are (numbers ++ n ∷ []) more parts others (All-tail IsCallNumber n more known) (omega arith)
    ∙ ap Some (append_assoc numbers (n ∷ []) more)

-- the numbers of a list, and back
pub IsList-from_Some : (text numbers : List ℕ) → list_of text ≡ Some numbers → IsList text numbers
unfolding list_of
IsList-from_Some text numbers is =
    let added : AreAdded [] (slice_split (λ byte. byte == 44) text) numbers = all-added [] numbers (slice_split (λ byte. byte == 44) text) is in
    let same : added.more ≡ numbers = sym added.all_is in
    record {
      written = subst (λ (l : List ℕ). map number_of (slice_split (λ byte. byte == 44) text) ≡ map Some l) same added.written;
      few = added.few (omega arith);
      each = subst (λ (l : List ℕ). All IsCallNumber l) same added.known;
    }

pub list_of-is : (text numbers : List ℕ) → IsList text numbers → list_of text ≡ Some numbers
unfolding list_of
list_of-is text numbers list = numbers_added-are [] numbers (slice_split (λ byte. byte == 44) text) list.written list.each (omega (arith, list.few))

-- what a list that was read has, and that one which wasn't read has nothing
pub listed_some : (text : List ℕ) (read : Option (List ℕ)) → read ≡ list_of text → IfSome read (IsList text)
listed_some text None is = tt
listed_some text (Some numbers) is = IsList-from_Some text numbers (sym is)

pub listed_none : (text : List ℕ) (read : Option (List ℕ)) → read ≡ list_of text → IfNone read ((numbers : List ℕ) → ¬ IsList text numbers)
listed_none text None is = λ numbers list. let clash : None ≡ Some numbers = is ∙ list_of-is text numbers list in absurd (cc)
listed_none text (Some numbers) is = tt
