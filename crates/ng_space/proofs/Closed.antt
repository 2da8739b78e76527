-- A close, from what the table tells of the last state.
use Rattle.std.proofs.Common.{◌≡◌, ℕ, ◌+◌, List, true, false, cond, ap, ◌∙◌, subst}
use mathlib.Core.Option.{some}
use lib.ListN.{get_elem?}
use Rattle.ng_history.specs.Book.{Shown}
use Rattle.ng_view.specs.Conditions.{IsSettled, IsBlanked}
use Rattle.ng_view.specs.Listing.{Listing}
use Rattle.ng_view.specs.Views.{desk_of}
use Rattle.ng_view.specs.declared.view.View.{View}
use Rattle.ng_view.specs.declared.view.Start.{Start}
use Rattle.ng_space.specs.Callers.{Caller}
use Rattle.ng_space.specs.Closings.{AreAll, EndsWith, IsClosed, IsEven, views_of}
use Rattle.ng_space.proofs.Apart.{owned_once}
use Rattle.ng_space.proofs.Ended.{ends, ends_settled, ends_blank}
use Rattle.ng_space.proofs.Gathering.{Gathered, all_numbers, all_even, own_books, views, whole_views}
use Rattle.ng_space.proofs.Hosting.{hosted, hosted-parcel}

-- the lock's seat, when hands come into it
pub record IsLock (lock : View) : Type 0 where
  pub leads : lock.leads ≡ true
  pub whole : lock.parcel ≡ false
  pub none_sent : lock.sent ≡ 0
  pub none_taken : lock.taken ≡ 0

pub closes : (key : Start) (ws : List ℕ) (lock : View) (hands : List Caller) (v : View) (books : List Shown) → EndsWith key ws v → Gathered lock hands v books → IsLock lock → (count : ℕ) → lock.desk.next ≡ 1 + count → AreAll count hands → IsEven hands → IsSettled lock → IsBlanked lock → IsClosed key ws lock hands
closes key ws lock hands v books last in_all is count next all even settled blanked =
    let at : get_elem? last.views last.seat ≡ some (hosted lock (views hands)) = last.there ∙ ap some in_all.view in
    let numbers = all_numbers lock count hands next all in_all.own in
    let evens = all_even lock hands even in_all.deskless is.none_sent is.none_taken in
    let whole = hosted-parcel lock (views hands) ∙ is.whole in
    let parts = ends key ws last.views last.seat lock (views hands) last.ruled at is.leads in_all.deskless numbers evens whole in record {
      slots = parts.slots;
      words = parts.words;
      listing = subst (Listing ws) (ap (λ b. cond b lock.desk (desk_of (views hands))) is.leads) parts.listing;
      excuses = parts.excuses;
      history = parts.history;
      knowledge = parts.knowledge;
      classes = parts.classes;
      runs = ends_settled key ws last.views last.seat lock (views hands) last.ruled at is.leads in_all.deskless numbers evens whole settled;
      free = ends_blank key ws last.views last.seat lock (views hands) last.ruled at is.leads in_all.deskless numbers evens whole blanked;
      apart = owned_once key ws (views_of lock hands) parts.slots parts.words;
      own = own_books hands in_all.own;
      whole = whole_views lock hands is.whole in_all.own;
    }
