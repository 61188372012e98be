use Rattle.std.proofs.Common.{◌≡◌, ◌≤◌, take}
use Rattle.std.specs.Str.Parse.{digits_value}
use Rattle.whole_numbers.proofs.digits.value_up_to.Given as goal

abbrev pub invariant-loop-place : goal.invariant-loop-place
invariant-loop-place l = record {
  value : l.number ≡ digits_value 10 (take l.place l.text);
  most : l.number ≤ l.most;
}
