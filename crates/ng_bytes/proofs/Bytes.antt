-- One byte of a block that is written: its cell is loaded, and stored with it.
use Rattle.std.proofs.Common.{◌≡◌, ◌≢◌, ◌⊎◌, ℕ, zero, suc, ◌+◌, ◌-◌, ◌*◌, ◌/◌, ◌%◌, ◌^◌, ◌<◌, ◌≤◌, refl, ap, ◌∙◌, subst, ⊎_elim, inl, inr, arith}
use Rattle.std.proofs.lemmas.Bool.{cases_lt}
use Rattle.ng_frame.specs.Contents.{KeepsAround}
use Rattle.ng_rule.proofs.hand.Load.{still_knows}
use Rattle.std.specs.Prelude.{Some}
use Rattle.ng_header.specs.Bytes.{byte_of}
use Rattle.ng_rule.proofs.geometry.Lists.{find_among, find_edit}
use Rattle.ng_view.specs.Frame.{KnowsByte}
use Rattle.ng_view.specs.Lists.{find}
use Rattle.ng_view.specs.Steps.{learnt, loaded, stored, wrote}
use Rattle.ng_view.specs.Tells.{Tells}
use Rattle.ng_view.specs.declared.view.Start.{Start}
use Rattle.ng_view.specs.declared.view.View.{View}
use Rattle.ng_space.specs.Blocks.{BlockToken, HasBlock, OfSlot}
use Rattle.ng_space.specs.Callers.{Caller}
use Rattle.ng_space.specs.Leaving.{KeepsOthers, KeepsRest}
use Rattle.ng_space.proofs.Holding.{find-loaded}
use Rattle.ng_space.proofs.Leaving.{learns_cell, loaded_others, loaded_rest, others_then, rest_then, stored_others, stored_rest}
use Rattle.ng_frame.proofs.Bytes.{byte_kept, byte_made}
use Rattle.ng_frame.proofs.Frames.{of_found}
use Rattle.ng_bytes.specs.Scribbles.{with_byte}

-- ---- the cell
-- as the code has it
abbrev pub put_in : ℕ → ℕ → ℕ → ℕ
put_in x k b = (x - x / (1 * 2 ^ (8 * k) % 4294967296) % 256 * (1 * 2 ^ (8 * k) % 4294967296)) + b * (1 * 2 ^ (8 * k) % 4294967296)

pub put_is : (x k b : ℕ) → k < 4 → put_in x k b ≡ with_byte x k b
put_is x zero b lt = omega arith
put_is x (suc zero) b lt = omega arith
put_is x (suc (suc zero)) b lt = omega arith
put_is x (suc (suc (suc zero))) b lt = omega arith
put_is x (suc (suc (suc (suc k)))) b lt = absurd (omega arith)

pub put_least : (k b : ℕ) → k < 4 → b < 256 → b * (1 * 2 ^ (8 * k) % 4294967296) < 4294967296
put_least zero b lt lb = omega arith
put_least (suc zero) b lt lb = omega arith
put_least (suc (suc zero)) b lt lb = omega arith
put_least (suc (suc (suc zero))) b lt lb = omega arith
put_least (suc (suc (suc (suc k)))) b lt lb = absurd (omega arith)

pub put_small : (x k b : ℕ) → k < 4 → x < 4294967296 → b < 256 → put_in x k b < 4294967296
put_small x zero b lt lx lb = omega arith
put_small x (suc zero) b lt lx lb = omega arith
put_small x (suc (suc zero)) b lt lx lb = omega arith
put_small x (suc (suc (suc zero))) b lt lx lb = omega arith
put_small x (suc (suc (suc (suc k)))) b lt lx lb = absurd (omega arith)

pub put_written : (x k b : ℕ) → k < 4 → b < 256 → byte_of (put_in x k b) k ≡ b
put_written x zero b lt lb = omega arith
put_written x (suc zero) b lt lb = omega arith
put_written x (suc (suc zero)) b lt lb = omega arith
put_written x (suc (suc (suc zero))) b lt lb = omega arith
put_written x (suc (suc (suc (suc k)))) b lt lb = absurd (omega arith)

pub put_others : (x k b j : ℕ) → k < 4 → b < 256 → j < 4 → j ≢ k → byte_of (put_in x k b) j ≡ byte_of x j
put_others x zero b zero lk lb lj ne = absurd (ne refl)
put_others x zero b (suc zero) lk lb lj ne = omega arith
put_others x zero b (suc (suc zero)) lk lb lj ne = omega arith
put_others x zero b (suc (suc (suc zero))) lk lb lj ne = omega arith
put_others x (suc zero) b zero lk lb lj ne = omega arith
put_others x (suc zero) b (suc zero) lk lb lj ne = absurd (ne refl)
put_others x (suc zero) b (suc (suc zero)) lk lb lj ne = omega arith
put_others x (suc zero) b (suc (suc (suc zero))) lk lb lj ne = omega arith
put_others x (suc (suc zero)) b zero lk lb lj ne = omega arith
put_others x (suc (suc zero)) b (suc zero) lk lb lj ne = omega arith
put_others x (suc (suc zero)) b (suc (suc zero)) lk lb lj ne = absurd (ne refl)
put_others x (suc (suc zero)) b (suc (suc (suc zero))) lk lb lj ne = omega arith
put_others x (suc (suc (suc zero))) b zero lk lb lj ne = omega arith
put_others x (suc (suc (suc zero))) b (suc zero) lk lb lj ne = omega arith
put_others x (suc (suc (suc zero))) b (suc (suc zero)) lk lb lj ne = omega arith
put_others x (suc (suc (suc zero))) b (suc (suc (suc zero))) lk lb lj ne = absurd (ne refl)
put_others x k b (suc (suc (suc (suc j)))) lk lb lj ne = absurd (omega arith)
put_others x (suc (suc (suc (suc k)))) b j lk lb lj ne = absurd (omega arith)

-- ---- the lowest bytes of a cell
-- as the code has it
abbrev pub low_in : ℕ → ℕ → ℕ → ℕ
low_in x b k = x / (1 * 2 ^ (8 * k) % 18446744073709551616) * (1 * 2 ^ (8 * k) % 18446744073709551616) + b % (1 * 2 ^ (8 * k) % 18446744073709551616)

pub low_small : (x b k : ℕ) → 1 ≤ k → k ≤ 4 → x < 4294967296 → low_in x b k < 4294967296
low_small x b zero low high small = absurd (omega arith)
low_small x b (suc zero) low high small = omega arith
low_small x b (suc (suc zero)) low high small = omega arith
low_small x b (suc (suc (suc zero))) low high small = omega arith
low_small x b (suc (suc (suc (suc zero)))) low high small = omega arith
low_small x b (suc (suc (suc (suc (suc k))))) low high small = absurd (omega arith)

pub low_below : (x b k j : ℕ) → 1 ≤ k → k ≤ 4 → j < k → byte_of (low_in x b k) j ≡ byte_of b j
low_below x b zero j low high lt = absurd (omega arith)
low_below x b (suc zero) zero low high lt = omega arith
low_below x b (suc zero) (suc j) low high lt = absurd (omega arith)
low_below x b (suc (suc zero)) zero low high lt = omega arith
low_below x b (suc (suc zero)) (suc zero) low high lt = omega arith
low_below x b (suc (suc zero)) (suc (suc j)) low high lt = absurd (omega arith)
low_below x b (suc (suc (suc zero))) zero low high lt = omega arith
low_below x b (suc (suc (suc zero))) (suc zero) low high lt = omega arith
low_below x b (suc (suc (suc zero))) (suc (suc zero)) low high lt = omega arith
low_below x b (suc (suc (suc zero))) (suc (suc (suc j))) low high lt = absurd (omega arith)
low_below x b (suc (suc (suc (suc zero)))) zero low high lt = omega arith
low_below x b (suc (suc (suc (suc zero)))) (suc zero) low high lt = omega arith
low_below x b (suc (suc (suc (suc zero)))) (suc (suc zero)) low high lt = omega arith
low_below x b (suc (suc (suc (suc zero)))) (suc (suc (suc zero))) low high lt = omega arith
low_below x b (suc (suc (suc (suc zero)))) (suc (suc (suc (suc j)))) low high lt = absurd (omega arith)
low_below x b (suc (suc (suc (suc (suc k))))) j low high lt = absurd (omega arith)

pub low_above : (x b k j : ℕ) → 1 ≤ k → k ≤ 4 → k ≤ j → j < 4 → byte_of (low_in x b k) j ≡ byte_of x j
low_above x b zero j low high le lt = absurd (omega arith)
low_above x b (suc zero) zero low high le lt = absurd (omega arith)
low_above x b (suc zero) (suc zero) low high le lt = omega arith
low_above x b (suc zero) (suc (suc zero)) low high le lt = omega arith
low_above x b (suc zero) (suc (suc (suc zero))) low high le lt = omega arith
low_above x b (suc zero) (suc (suc (suc (suc j)))) low high le lt = absurd (omega arith)
low_above x b (suc (suc zero)) zero low high le lt = absurd (omega arith)
low_above x b (suc (suc zero)) (suc zero) low high le lt = absurd (omega arith)
low_above x b (suc (suc zero)) (suc (suc zero)) low high le lt = omega arith
low_above x b (suc (suc zero)) (suc (suc (suc zero))) low high le lt = omega arith
low_above x b (suc (suc zero)) (suc (suc (suc (suc j)))) low high le lt = absurd (omega arith)
low_above x b (suc (suc (suc zero))) zero low high le lt = absurd (omega arith)
low_above x b (suc (suc (suc zero))) (suc zero) low high le lt = absurd (omega arith)
low_above x b (suc (suc (suc zero))) (suc (suc zero)) low high le lt = absurd (omega arith)
low_above x b (suc (suc (suc zero))) (suc (suc (suc zero))) low high le lt = omega arith
low_above x b (suc (suc (suc zero))) (suc (suc (suc (suc j)))) low high le lt = absurd (omega arith)
low_above x b (suc (suc (suc (suc zero)))) zero low high le lt = absurd (omega arith)
low_above x b (suc (suc (suc (suc zero)))) (suc zero) low high le lt = absurd (omega arith)
low_above x b (suc (suc (suc (suc zero)))) (suc (suc zero)) low high le lt = absurd (omega arith)
low_above x b (suc (suc (suc (suc zero)))) (suc (suc (suc zero))) low high le lt = absurd (omega arith)
low_above x b (suc (suc (suc (suc zero)))) (suc (suc (suc (suc j)))) low high le lt = absurd (omega arith)
low_above x b (suc (suc (suc (suc (suc k))))) j low high le lt = absurd (omega arith)

-- no byte of 0 is another
pub zero_byte : (j : ℕ) → j < 4 → byte_of 0 j ≡ 0
zero_byte zero lt = refl
zero_byte (suc zero) lt = refl
zero_byte (suc (suc zero)) lt = refl
zero_byte (suc (suc (suc zero))) lt = refl
zero_byte (suc (suc (suc (suc j)))) lt = absurd (omega arith)

-- what holds below n, and of so many from there on
pub below_part : (P : ℕ → Type 0) (n k : ℕ) → ((i : ℕ) → i < n → P i) → ((j : ℕ) → j < k → P (n + j)) → (i : ℕ) → i < n + k → P i
below_part P n k low high i lt = ⊎_elim
    (λ (below : i < n). low i below)
    (λ (above : n ≤ i). let here : n + (i - n) ≡ i = omega (arith, above) in subst P here (high (i - n) (omega (arith, above, lt))))
    (cases_lt i n)

-- ---- the block's slot
module _ (old mid new : Caller) (block : BlockToken) (has : HasBlock old block) (at word value : ℕ)
    (loads : mid.view ≡ loaded old.view (4 * (at / 4)) word)
    (stores : new.view ≡ stored mid.view block.slot.meta block.slot.index (4 * (at / 4)) value) where
  abbrev a : ℕ
  a = 4 * (at / 4)

  found : find block.slot.meta block.slot.index new.view.held ≡ Some (wrote a value (learnt a word has.held))
  found =
      ap (λ (u : View). find block.slot.meta block.slot.index u.held) stores
      ∙ find_edit block.slot.meta block.slot.index (wrote a value) mid.view.held (learnt a word has.held) (λ y. refl)
      (ap (λ (u : View). find block.slot.meta block.slot.index u.held) loads
      ∙ find-loaded old.view a word block.slot.meta block.slot.index has.held has.found)

  -- what is known around the byte, where each other one is kept
  pub scribbled_around : ((y b : ℕ) → y ≢ at → OfSlot old block.slot (KnowsByte y b) → OfSlot new block.slot (KnowsByte y b))
      → KeepsAround at (at + 1) has.held (wrote a value (learnt a word has.held))
  scribbled_around kept = record {
    place = refl;
    block = refl;
    cells = λ b x out k. still_knows a value b x (learnt a word has.held) (cell_apart b out) ((learns_cell a word has.held).cells b x tt k);
    bytes = λ y b out k. kept y b (byte_apart y out) (of_found old block.slot has.held (KnowsByte y b) has.found k) (wrote a value (learnt a word has.held)) found;
  }
    where
      cell_apart : (b : ℕ) → (b + 4 ≤ at) ⊎ (at + 1 ≤ b) → b ≢ a
      cell_apart b (inl before) e = absurd (omega (arith, before, e))
      cell_apart b (inr after) e = absurd (omega (arith, after, e))

      byte_apart : (y : ℕ) → (y < at) ⊎ (at + 1 ≤ y) → y ≢ at
      byte_apart y (inl before) e = absurd (omega (arith, before, e))
      byte_apart y (inr after) e = absurd (omega (arith, after, e))

  pub scribbled : (b : ℕ) → byte_of value (at % 4) ≡ b → OfSlot new block.slot (KnowsByte at b)
  scribbled b here = of_found new block.slot (wrote a value (learnt a word has.held)) (KnowsByte at b) found (byte_made (learnt a word has.held) at value b here)

  pub scribbled_kept : (key : Start) → Tells key old.view a word
      → ((j : ℕ) → j < 4 → j ≢ at % 4 → byte_of value j ≡ byte_of (word % 4294967296) j)
      → (y b : ℕ) → y ≢ at → OfSlot old block.slot (KnowsByte y b) → OfSlot new block.slot (KnowsByte y b)
  scribbled_kept key told others y b ne known =
      let t = told.slots has.held (find_among block.slot.meta block.slot.index old.view.held has.held has.found).0 in
      of_found new block.slot (wrote a value (learnt a word has.held)) (KnowsByte y b) found
      (byte_kept has.held at word value y b t.known others ne (known has.held has.found))

  pub scribbled_others : KeepsOthers block.slot old.view new.view
  scribbled_others =
      others_then block.slot old.view mid.view new.view (loaded_others block.slot old.view mid.view a word loads)
      (stored_others block.slot mid.view new.view a value stores)

  pub scribbled_rest : KeepsRest old.view new.view
  scribbled_rest =
      rest_then old.view mid.view new.view (loaded_rest old.view mid.view a word loads)
      (stored_rest mid.view new.view block.slot.meta block.slot.index a value stores)
