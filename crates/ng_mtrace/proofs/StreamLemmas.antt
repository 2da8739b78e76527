-- Bytes taken and added piece by piece.
use Rattle.std.specs.Prelude.{Option, Some, None}
use Rattle.std.proofs.Common.{◌≡◌, ℕ, ◌+◌, ◌-◌, List, [], ◌++◌, length, take, drop, refl, ap, sym, ◌∙◌, append_assoc, arith}
use Rattle.std.proofs.lemmas.List.{take_all, take_at, take-append-drop, drop-drop, length-drop}
use Rattle.std.proofs.Math.Seq.{take-add}
use Rattle.ng_mtrace.specs.Streams.{added, put_back}

pub added-added : (written : Option (List ℕ)) (a b : List ℕ) → added (added written a) b ≡ added written (a ++ b)
added-added (Some written) a b = ap Some (append_assoc written a b)
added-added None a b = refl

-- a write of the next bytes behind those up to a place
pub added-next : (before during after : Option (List ℕ)) (bytes : List ℕ) (at count : ℕ) → during ≡ added before (take at bytes)
    → after ≡ added during (take count (take (length bytes - at) (drop at bytes))) → after ≡ added before (take (at + count) bytes)
added-next before during after bytes at count so_far now =
    rw (take-add, ← added-added, ← so_far) (rw (take_all (length bytes - at) (drop at bytes) (simp length-drop (omega arith))) at now)

-- what is left before a read: what was copied to the front of a buffer, and what is left behind it
pub drop-copied : (bytes copied tail : List ℕ) (at count : ℕ) → copied ≡ take ((at + count) - at) (drop at bytes) → length copied ≡ count
    → drop at bytes ≡ take count (copied ++ tail) ++ drop (at + count) bytes
drop-copied bytes copied tail at count is len =
    let width : (at + count) - at ≡ count = omega arith in
    rw (take_at copied tail count len, rw width at is) (sym (rw (← drop-drop count at bytes) (take-append-drop count (drop at bytes))))

pub put_back-nil : (left : Option (List ℕ)) → left ≡ put_back [] left
put_back-nil (Some left) = refl
put_back-nil None = refl

pub put_back-put_back : (left : Option (List ℕ)) (a b : List ℕ) → put_back a (put_back b left) ≡ put_back (a ++ b) left
put_back-put_back (Some left) a b = ap Some (sym (append_assoc a b left))
put_back-put_back None a b = refl

-- bytes taken behind those taken before
pub taken-more : (before during after : Option (List ℕ)) (a b : List ℕ) → before ≡ put_back a during → during ≡ put_back b after
    → before ≡ put_back (a ++ b) after
taken-more before during after a b first second = first ∙ ap (put_back a) second ∙ put_back-put_back after a b
