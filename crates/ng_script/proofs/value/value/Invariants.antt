use Rattle.std.proofs.Common.{◌≡◌, ◌<◌, ◌^◌, take, true}
use Rattle.std.specs.List.{list_all}
use Rattle.std.specs.Char.{is_digit}
use Rattle.std.specs.Str.Parse.{digits_value}
use Rattle.ng_script.proofs.value.value.Given as goal

abbrev pub invariant-loop-byte : goal.invariant-loop-byte
invariant-loop-byte l = record {
  digits : list_all (λ byte. is_digit byte l.base) (take l.byte-index l.digits) ≡ true;
  value : l.value ≡ digits_value l.base (take l.byte-index l.digits);
  small : l.value < 2 ^ 64;
}
