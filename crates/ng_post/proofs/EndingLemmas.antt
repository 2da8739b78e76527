-- What the passes that lead know as doors end.
use Rattle.std.proofs.Common.{◌≡◌, ◌≢◌, ◌∙◌, ◌+◌, ◌<◌, ◌≤◌, ◌∷◌, ◌++◌, [], ℕ, List, Bool, true, false, ap, arith, get_or, length, ltb, map, subst, sym, take, ⊎_elim}
use Rattle.std.specs.Prelude.{vec_len}
use Rattle.std.proofs.lemmas.Bool.Decides.{nat_tests}
use Rattle.std.proofs.lemmas.List.{get_or_default, length-map, length-take-le, map_push, take_all, take_more}
use Rattle.crossbeam_queue.specs.Passes.{Pass, view}
use Rattle.ng_post.specs.declared.boxes.Boxes.{Boxes}
use Rattle.ng_post.specs.declared.boxes.Door.{Door}
use Rattle.ng_post.specs.declared.mail.Letter.{Letter}
use Rattle.ng_post.specs.declared.view.View.{View}
use Rattle.ng_post.specs.Box.{AreAllOf, leader}
use Rattle.ng_post.specs.Doors.{AreDoorsOf, AreLeads, IsDoorOf, sent_to}
use Rattle.ng_post.specs.Ending.{AreLearned, HaveEnded, MayEnd, MayLearn, TakesIn, with_reader, with_sender}
use Rattle.ng_post.specs.Letters.{Note, Pair, note_of}
use Rattle.ng_post.proofs.BoxLemmas.{same_or_not}
use Rattle.ng_post.proofs.HandedLemmas.{posted_to}

pub with_reader-here : (log : ℕ) (own : View) (box : ℕ) (v : View) → box ≡ log → with_reader log own box v ≡ record v { gets = true; got = own.got }
with_reader-here log own box v is = grind (arith, nat_tests)

pub with_reader-else : (log : ℕ) (own : View) (box : ℕ) (v : View) → box ≢ log → with_reader log own box v ≡ v
with_reader-else log own box v other = grind (arith, nat_tests)

-- a reader changes nothing else
pub with_reader-rest : (log : ℕ) (own : View) (box : ℕ) (v : View)
    → ((with_reader log own box v).leads ≡ v.leads) × ((with_reader log own box v).sends ≡ v.sends) × ((with_reader log own box v).known ≡ v.known)
with_reader-rest log own box v = ⊎_elim
    (λ (is : box ≡ log). let same = with_reader-here log own box v is in (ap (λ (w : View). w.leads) same, ap (λ (w : View). w.sends) same, ap (λ (w : View). w.known) same))
    (λ (other : box ≢ log). let same = with_reader-else log own box v other in (ap (λ (w : View). w.leads) same, ap (λ (w : View). w.sends) same, ap (λ (w : View). w.known) same))
    (same_or_not box log)

pub ltb-below : (a b : ℕ) → a < b → ltb a b ≡ true
ltb-below a b lt = grind (arith, nat_tests)

pub ltb-not_below : (a b : ℕ) → b ≤ a → ltb a b ≡ false
ltb-not_below a b le = grind (arith, nat_tests)

ltb-next : (a b : ℕ) → a ≢ b → ltb a (b + 1) ≡ ltb a b
ltb-next a b other = grind (arith, nat_tests)

-- a leading pass with what it got
as_led : (count : ℕ) (reads reads' : Bool) (got : List Note) (known : List (List Pair)) (v : View) → v ≡ leader count reads got known → reads ≡ reads' → v ≡ leader count reads' v.got known
as_led count reads reads' got known v is same =
    is ∙ ap (λ b. leader count b got known) same ∙ ap (λ l. leader count reads' l known) (sym (ap (λ (w : View). w.got) is))

-- no door has ended yet
pub none_ended : {N : Type 0} (boxes : Boxes N) (doors : List (Door N)) (leads : List (Pass (Letter N) View)) → AreLeads boxes leads → HaveEnded boxes doors 0 leads
none_ended boxes doors leads new = record {
  count = new.count;
  passes = new.passes;
  knows = λ b p lt. as_led (vec_len boxes.boxes) false (ltb b 0) [] [] (view (get_or leads b p)) (new.knows b p lt) (sym (ltb-not_below b 0 (omega arith)));
  got = λ b p d lt none. absurd (omega arith);
}

-- the next door may end
pub may_end : {N : Type 0} (boxes : Boxes N) (doors : List (Door N)) (k : ℕ) (door : Door N) (leads : List (Pass (Letter N) View))
    → AreDoorsOf boxes doors → HaveEnded boxes doors k leads → k < length doors → door ≡ get_or doors k door → MayEnd boxes leads door.log door.own door.to.items
may_end {N} boxes doors k door leads are ended lt is =
    let here : IsDoorOf boxes door = subst (λ x. IsDoorOf boxes x) (sym is) (are.each k door lt) in
    let log : door.log ≡ k = ap (λ (x : Door N). x.log) is ∙ are.logs k door lt in
    record {
      log_in = here.log;
      count = ended.count;
      ways = omega (arith, here.ways, door.to.ok.0);
      passes = ended.passes;
      leads_each = λ b p within.
          let knows = ended.knows b p within in
          record {
            leads = knows ∙ ap (leader (vec_len boxes.boxes) (ltb b k) (view (get_or leads b p)).got) (sym (ap (λ (v : View). v.known) knows))
                ∙ ap (λ n. leader (vec_len boxes.boxes) (ltb b n) (view (get_or leads b p)).got (view (get_or leads b p)).known) (sym log);
            known = ap (λ (v : View). length v.known) knows ∙ length-map (take k doors) (λ (x : Door N). sent_to boxes.receivers.items b x.sent.items)
                ∙ length-take-le k doors (omega arith) ∙ sym log;
          };
      own_in = here.own;
      gets = ap (λ (v : View). v.gets) here.reads;
      to_passes = here.to;
      sends = λ b p within. (ap (λ (v : View). v.sends) (here.sends b p within), ap (λ (v : View). v.from) (here.sends b p within));
    }

-- one more door has ended
pub one_more_ended : {N : Type 0} (boxes : Boxes N) (doors : List (Door N)) (k : ℕ) (door : Door N) (before after : List (Pass (Letter N) View))
    → AreDoorsOf boxes doors → HaveEnded boxes doors k before → k < length doors → door ≡ get_or doors k door
    → TakesIn boxes door.log door.own door.to.items before after → HaveEnded boxes doors (k + 1) after
one_more_ended {N} boxes doors k door before after are ended lt is taken =
    let here : IsDoorOf boxes door = subst (λ x. IsDoorOf boxes x) (sym is) (are.each k door lt) in
    let log : door.log ≡ k = ap (λ (x : Door N). x.log) is ∙ are.logs k door lt in
    let n : ℕ = vec_len boxes.boxes in
    let own : View = view door.own in
    let put : ℕ → Door N → List Pair = λ b x. sent_to boxes.receivers.items b x.sent.items in
    let known : ℕ → List (List Pair) = λ b. map (put b) (take (k + 1) doors) in
    let more : (b : ℕ) (p : Pass (Letter N) View) → b < n → map (put b) (take k doors) ++ (view (get_or door.to.items b p)).put ∷ [] ≡ known b = λ b p within.
    ap (λ l. map (put b) (take k doors) ++ l ∷ []) (ap (λ (v : View). v.put) (here.sends b p within) ∙ ap (put b) is)
    ∙ sym (map_push (put b) (take k doors) (get_or doors k door)) ∙ ap (map (put b)) (sym (take_more doors k door lt)) in
    let this : (b : ℕ) (p : Pass (Letter N) View) → b < n → b ≡ k → view (get_or after b p) ≡ leader n true own.got (known b) = λ b p within same.
    taken.knows b p p p within
    ∙ ap (with_sender (view (get_or door.to.items b p))) (with_reader-here door.log own b (view (get_or before b p)) (same ∙ sym log)
    ∙ ap (λ (v : View). record v { gets = true; got = own.got }) (ended.knows b p within))
    ∙ ap (leader n true own.got) (more b p within) in
    let else_where : (b : ℕ) (p : Pass (Letter N) View) → b < n → b ≢ k → view (get_or after b p) ≡ leader n (ltb b k) (view (get_or before b p)).got (known b) = λ b p within other.
    taken.knows b p p p within
    ∙ ap (with_sender (view (get_or door.to.items b p))) (with_reader-else door.log own b (view (get_or before b p)) (λ e. other (e ∙ log)) ∙ ended.knows b p within)
    ∙ ap (leader n (ltb b k) (view (get_or before b p)).got) (more b p within) in
    record {
      count = taken.count ∙ ended.count;
      passes = taken.passes;
      knows = λ b p within. ⊎_elim
          (λ (same : b ≡ k). as_led n true (ltb b (k + 1)) own.got (known b) (view (get_or after b p)) (this b p within same) (sym (ltb-below b (k + 1) (omega (arith, same)))))
          (λ (other : b ≢ k). as_led n (ltb b k) (ltb b (k + 1)) (view (get_or before b p)).got (known b) (view (get_or after b p)) (else_where b p within other) (sym (ltb-next b k other)))
          (same_or_not b k);
      got = λ b p d within below. ⊎_elim
          (λ (same : b ≡ k). ap (λ (v : View). v.got) (this b p within same)
          ∙ ap (λ (x : Door N). (view x.own).got) (is ∙ get_or_default doors k door d lt ∙ ap (λ j. get_or doors j d) (sym same)))
          (λ (other : b ≢ k). ap (λ (v : View). v.got) (else_where b p within other) ∙ ended.got b p d within (omega (arith, other)))
          (same_or_not b k);
    }

-- all doors have ended, so each box may be learned of
pub may_learn : {N : Type 0} (boxes : Boxes N) (doors : List (Door N)) (leads : List (Pass (Letter N) View)) → AreDoorsOf boxes doors → HaveEnded boxes doors (length doors) leads → MayLearn boxes leads
may_learn boxes doors leads are ended = record {
  count = ended.count;
  passes = ended.passes;
  knows = λ b p lt. (ap (λ (v : View). v.leads) (ended.knows b p lt), ap (λ (v : View). v.gets) (ended.knows b p lt) ∙ ltb-below b (length doors) (omega (arith, are.count)));
}

-- all that a box was given is known
pub all_known : {N : Type 0} (boxes : Boxes N) (doors : List (Door N)) (leads : List (Pass (Letter N) View)) (box : ℕ) (p : Pass (Letter N) View) (d : Door N)
    → AreDoorsOf boxes doors → HaveEnded boxes doors (length doors) leads → AreLearned boxes leads → box < length doors
    → (items : List (Letter N)) × AreAllOf (posted_to boxes.receivers.items doors box) ((view (get_or doors box d).own).got ++ map note_of items)
all_known {N} boxes doors leads box p d are ended learned lt =
    let within : box < vec_len boxes.boxes = omega (arith, are.count) in
    let v : View = view (get_or leads box p) in
    let told = learned box p within in
    let knows = ended.knows box p within in
    let known : v.known ≡ posted_to boxes.receivers.items doors box =
    ap (λ (w : View). w.known) knows ∙ ap (map (λ (x : Door N). sent_to boxes.receivers.items box x.sent.items)) (take_all (length doors) doors (omega arith)) in
    let all : length v.known ≡ v.made = ap length known ∙ length-map doors (λ (x : Door N). sent_to boxes.receivers.items box x.sent.items) ∙ are.count ∙ sym (ap (λ (w : View). w.made) knows) in (
      told.0,
      subst (λ l. AreAllOf l ((view (get_or doors box d).own).got ++ map note_of told.0)) known
          (subst (λ l. AreAllOf v.known (l ++ map note_of told.0)) (ended.got box p d within lt) (told.1 all)),
    )
