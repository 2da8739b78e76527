-- The notes of the lock's seat, by its view alone.
use Rattle.std.proofs.Common.{◌≡◌, ℕ, ◌+◌, ◌/◌, ◌≤◌, Bool, true, false, true≢false, refl, sym}
use Rattle.ng_view.specs.Conditions.{AreaBuilt}
use Rattle.ng_view.specs.May.{May}
use Rattle.ng_view.specs.declared.view.View.{View}
use Rattle.ng_view.specs.declared.view.Start.{Start}
use Rattle.ng_rule.proofs.lock.LockNotes.{refusal_may, run_left_may, run_may}
use Rattle.ng_rule.proofs.lock.LockSteps.{area_may}
use Rattle.ng_view.specs.Fetches.{HasGroup}
use Rattle.ng_view.specs.Notes.{IsNewRefusal, MayNoteRun, NotesArea, NotesRefusal, NotesRing, NotesRun, excuse_of_call, plain_run}
use Rattle.ng_rule.proofs.lock.Loading.{notes}
use Rattle.ng_rule.proofs.lock.Lying.{new_empty}

module _ (key : Start) (id : ℕ) (v : View) (leads : v.leads ≡ true) where
  pub notes_ring : (meta : ℕ) (listed : Bool) → HasGroup v meta → May key id v ((meta + 28) / 4) (λ n. n) (λ before n after. NotesRing before meta listed n after)
  notes_ring meta listed has ws vs kept at wide = let p = notes key id v leads meta listed has ws vs kept at wide in (p.0, p.1, record { view = p.2.0; tells = p.2.1 })

  pub notes_run : (a pages : ℕ) (live : Bool) → MayNoteRun key v a pages live → May key id v (0 / 4) (λ n. n) (λ before n after. NotesRun before a pages live after)
  notes_run a pages true new ws vs kept at wide =
      let p = run_may key id v leads a pages new.whole new.some new.above new.below new.apart ws vs kept at wide in (p.0, p.1, record { found = _; view = p.2; empty = λ e. new_empty key id v leads ws vs kept at a pages new })
  notes_run a pages false clear ws vs kept at wide =
      let p = run_left_may key id v leads (plain_run a pages) clear.noted refl clear.empty clear.clear ws vs kept at wide in (p.0, p.1, record { found = _; view = p.2; empty = λ e. absurd (true≢false (sym e)) })

  pub notes_area : (a : ℕ) → AreaBuilt key v (plain_run a 1) → May key id v (0 / 4) (λ n. n) (λ before n after. NotesArea before a after)
  notes_area a built ws vs kept at wide = let p = area_may key id v leads (plain_run a 1) built ws vs kept at wide in (p.0, p.1, record { found = _; view = p.2 })

  pub notes_refusal : (number : ℕ) → IsNewRefusal v number → number ≤ 18446744073709551615 → May key id v (0 / 4) (λ n. n) (λ before n after. NotesRefusal before number after)
  notes_refusal number new top ws vs kept at wide = let p = refusal_may key id v leads (excuse_of_call number) new top ws vs kept at wide in (p.0, p.1, record { found = _; view = p.2 })
