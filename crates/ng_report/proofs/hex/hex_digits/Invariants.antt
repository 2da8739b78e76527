use Rattle.std.proofs.Common.{◌≡◌, ◌-◌, ◌*◌, ◌^◌, ◌<◌, drop, false}
use Rattle.std.specs.Fmt.{digits}
use Rattle.ng_report.specs.Digits.{from_digit}
use Rattle.ng_report.proofs.hex.hex_digits.Given as goal

abbrev pub invariant-loop-step : goal.invariant-loop-step
invariant-loop-step l = record {
  so_far : digits 16 false l.n ≡ from_digit (64 - l.step) l.rest (drop (16 - l.step) l.buffer);
  some : 0 < l.step → 0 < l.rest;
  small : l.rest < 2 ^ (4 * (16 - l.step));
}
