-- The first check that fails, step by step.
use Rattle.std.proofs.Common.{◌≡◌, ◌∙◌, Bool, true, false, List, [], ◌∷◌, ap, cond, refl}
use Rattle.std.specs.Prelude.{Option, Some, None}
use Rattle.std.specs.Option.{option_and_then}
use Rattle.ng_check.specs.Checks as checks
use Rattle.ng_check.specs.Checks.{check, first_of}
use Rattle.ng_check.specs.Queries.{Query}
use Rattle.ng_check.specs.Readings.{HasGroup, HasHeader, HasSlot, IsListed, IsPlaced}
use Rattle.ng_meta.specs.declared.flags.Fields.{Fields}
use Rattle.ng_check.specs.declared.group.Group.{Group}
use Rattle.ng_check.specs.declared.header.Header.{Header}
use Rattle.ng_check.specs.declared.fault.PointerFault.{PointerFault}
use Rattle.ng_check.specs.declared.fault.PointerFault.TheVariants.{Misaligned, Outside, BadWide, NotGroup, BadIndex, Available, Freed, BadSecret, BadOffset, BadClass, BadMaplen, BadReserved, Overrun, EndByte}

abbrev pub Tests : Type 0
Tests = List (PointerFault × (Query → Option Bool))

pub passes : (f : PointerFault) (t : Query → Option Bool) (ts : Tests) (q : Query) → t q ≡ Some false → first_of ((f, t) ∷ ts) q ≡ first_of ts q
unfolding first_of
passes f t ts q e = ap (option_and_then (λ fails. cond fails (Some (Some f)) (first_of ts q))) e

pub fails : (f : PointerFault) (t : Query → Option Bool) (ts : Tests) (q : Query) → t q ≡ Some true → first_of ((f, t) ∷ ts) q ≡ Some (Some f)
unfolding first_of
fails f t ts q e = ap (option_and_then (λ fails. cond fails (Some (Some f)) (first_of ts q))) e

pub none_left : (q : Query) → first_of [] q ≡ Some None
unfolding first_of
none_left q = refl

-- the checks from each on
abbrev pub from_14 : Tests
from_14 = (EndByte, checks.end_byte) ∷ []

abbrev pub from_13 : Tests
from_13 = (Overrun, checks.overrun) ∷ from_14

abbrev pub from_12 : Tests
from_12 = (BadReserved, checks.bad_reserved) ∷ from_13

abbrev pub from_11 : Tests
from_11 = (BadMaplen, checks.bad_maplen) ∷ from_12

abbrev pub from_10 : Tests
from_10 = (BadClass, checks.bad_class) ∷ from_11

abbrev pub from_9 : Tests
from_9 = (BadOffset, checks.bad_offset) ∷ from_10

abbrev pub from_8 : Tests
from_8 = (BadSecret, checks.bad_secret) ∷ from_9

abbrev pub from_7 : Tests
from_7 = (Freed, checks.is_freed) ∷ from_8

abbrev pub from_6 : Tests
from_6 = (Available, checks.available) ∷ from_7

abbrev pub from_5 : Tests
from_5 = (BadIndex, checks.bad_index) ∷ from_6

abbrev pub from_4 : Tests
from_4 = (NotGroup, checks.not_group) ∷ from_5

abbrev pub from_3 : Tests
from_3 = (BadWide, checks.bad_wide) ∷ from_4

abbrev pub from_2 : Tests
from_2 = (Outside, checks.outside) ∷ from_3

-- ---- what is left where so many have passed
pub after_placed : (q : Query) → IsPlaced q → check q ≡ first_of from_3 q
after_placed q p = passes Misaligned checks.misaligned from_2 q p.misaligned ∙ passes Outside checks.outside from_3 q p.outside

pub after_header : (q : Query) (h : Header) → HasHeader q h → check q ≡ first_of from_4 q
after_header q h p = after_placed q p.placed ∙ passes BadWide checks.bad_wide from_4 q p.bad_wide

pub after_group : (q : Query) (h : Header) (g : Group) → HasGroup q h g → check q ≡ first_of from_5 q
after_group q h g p = after_header q h p.has ∙ passes NotGroup checks.not_group from_5 q p.not_group

pub after_listed : (q : Query) (h : Header) (g : Group) (f : Fields) → IsListed q h g f → check q ≡ first_of from_8 q
after_listed q h g f p =
    after_group q h g p.has ∙ passes BadIndex checks.bad_index from_6 q p.bad_index
    ∙ passes Available checks.available from_7 q p.available ∙ passes Freed checks.is_freed from_8 q p.freed

pub after_slot : (q : Query) (h : Header) (g : Group) (f : Fields) → HasSlot q h g f → check q ≡ first_of from_12 q
after_slot q h g f p =
    after_listed q h g f p.listed ∙ passes BadSecret checks.bad_secret from_9 q p.bad_secret
    ∙ passes BadOffset checks.bad_offset from_10 q p.bad_offset ∙ passes BadClass checks.bad_class from_11 q p.bad_class
    ∙ passes BadMaplen checks.bad_maplen from_12 q p.bad_maplen
