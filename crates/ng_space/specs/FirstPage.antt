-- The words of page 0, as a hand reads them.
use Rattle.std.specs.Prelude.{◌≡◌, ℕ, ◌%◌, ◌^◌}
use Rattle.ng_view.specs.Steps.{loaded}
use Rattle.ng_view.specs.declared.view.View.{View}

-- the word of the mapping counter was loaded, whose low half is the number
pub record ReadsCounter (v : View) (counter : ℕ) (w : View) : Type 0 where
  pub word : ℕ
  pub view : w ≡ loaded v 196 word
  pub counter_is : counter ≡ word % 2 ^ 32
