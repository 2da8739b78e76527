-- What a call that finds a meta leaves, once a group has the meta, or once the meta went to the stock.
use Rattle.std.proofs.Common.{◌≡◌, ℕ, List, sym, subst}
use Rattle.ng_mapper.specs.Mapping.{Span}
use Rattle.ng_mapper.specs.Runs as mapper
use Rattle.ng_mapper.specs.declared.refusals.Refusals.{Refusals}
use Rattle.ng_shelf.specs.Stock.{Stock}
use Rattle.ng_supply.specs.Metas.{FindsMeta, IsHeapStock}
use Rattle.ng_supply.specs.Runs.{IsHeapMapper}
use Rattle.ng_view.specs.declared.view.Start.{Start}
use Rattle.ng_view.specs.declared.view.View.{View}
use Rattle.ng_ledger.specs.Standing.{KeepsHand, Ledger}
use Rattle.ng_group.specs.States.{IsWorking, State, Working, ledger_of}
use Rattle.ng_group.specs.Steps.{GoesOn, HandsOver}
use Rattle.ng_group.proofs.RecursionLemmas.{Brings, brings_over, brings_put, brings_then, put_works, stocked}
use Rattle.ng_group.proofs.SupplyLemmas.{found_brings, found_goes, found_runs, found_view, heap_stock, supplied}
use Rattle.ng_group.proofs.WorkingLemmas.{goes_then}

module _ {M P : Type 0} (start : Start) (span : M → Span) (runs : M → List mapper.Run) (refused : M → Refusals) where
  working_there : {s s' : State M P} → s ≡ s' → Working start span runs refused s' → Working start span runs refused s
  working_there same works = subst (λ (x : State M P). Working start span runs refused x) (sym same) works

  -- the stock as a search for a meta is given it
  pub stock_at : {s s' : State M P} → s ≡ s' → Working start span runs refused s' → IsHeapStock start s.seat s.stock
  stock_at {s} {s'} same works = heap_stock start (span s.mapper) (runs s.mapper) (refused s.mapper) (ledger_of s) (working_there same works)

-- ---- a meta was found
module _ {M P : Type 0} (start : Start) (span : M → Span) (runs : M → List mapper.Run) (refused : M → Refusals) {s s' : State M P} {meta : ℕ} {w : View} {stock : Stock} (now : M)
    (same : s ≡ s') (finds : FindsMeta start s.seat (runs s.mapper) s.stock meta w (runs now) stock) where
  abbrev mid : Ledger
  mid = record (ledger_of s) { seat = w; stock = stock }

  brings : Brings start meta (ledger_of s) mid
  brings = found_brings start (runs s.mapper) (runs now) (ledger_of s) meta w stock finds

  pub found_working : Working start span runs refused s' → IsHeapMapper start w (span now) (runs now) (refused now) → IsHeapStock start w stock
      → IsWorking start (span now) (runs now) (refused now) mid
  found_working works maps stocks =
      supplied start (span s.mapper) (span now) (runs s.mapper) (runs now) (refused s.mapper) (refused now) (ledger_of s) w stock
      (working_there start span runs refused same works)
      (found_view start s.seat (runs s.mapper) s.stock meta w (runs now) stock finds)
      (found_runs start s.seat (runs s.mapper) s.stock meta w (runs now) stock finds)
      maps
      stocks

  -- a group has it
  pub found_over : (after : Ledger) → HandsOver meta mid after → KeepsHand (ledger_of s') after
  found_over after over = subst (λ (x : State M P). KeepsHand (ledger_of x) after) same (brings_over start meta (ledger_of s) mid brings after over)

  -- it went to the stock, since no group came
  module _ {e e' : State M P} {put : Stock} (same_then : e ≡ e') (keeps : KeepsHand mid (ledger_of e')) (puts : put ≡ stocked e.stock meta) where
    brings_still : Brings start meta (ledger_of s) (ledger_of e)
    brings_still = subst (λ (x : State M P). Brings start meta (ledger_of s) (ledger_of x)) (sym same_then) (brings_then start meta (ledger_of s) mid brings (ledger_of e') keeps)

    pub failed_working : Working start span runs refused e' → IsWorking start (span e.mapper) (runs e.mapper) (refused e.mapper) (record (ledger_of e) { stock = put })
    failed_working works =
        subst (λ (x : Stock). IsWorking start (span e.mapper) (runs e.mapper) (refused e.mapper) (record (ledger_of e) { stock = x })) (sym puts)
        (put_works start (span e.mapper) (runs e.mapper) (refused e.mapper) (ledger_of e) meta (working_there start span runs refused same_then works) brings_still.has)

    pub failed_on : GoesOn w e'.seat → GoesOn s'.seat e.seat
    failed_on on =
        let first : GoesOn s.seat w = found_goes start s.seat (runs s.mapper) s.stock meta w (runs now) stock finds in
        let last : GoesOn w e.seat = subst (λ (x : State M P). GoesOn w x.seat) (sym same_then) on in
        subst (λ (x : State M P). GoesOn x.seat e.seat) same (goes_then s.seat w e.seat first last)

    pub failed_hand : KeepsHand (ledger_of s') (record (ledger_of e) { stock = put })
    failed_hand =
        subst (λ (x : State M P). KeepsHand (ledger_of x) (record (ledger_of e) { stock = put })) same
        (subst (λ (x : Stock). KeepsHand (ledger_of s) (record (ledger_of e) { stock = x })) (sym puts)
        (brings_put start meta (ledger_of s) (ledger_of e) brings_still))
