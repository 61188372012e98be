-- How the fault of a number is written.
use Rattle.std.specs.Prelude.{ℕ, List, codes}
use Rattle.whole_numbers.specs.declared.digits.NumberFault.{NumberFault}
use Rattle.whole_numbers.specs.declared.digits.NumberFault.TheVariants as fault

abbrev pub number_fault_text : NumberFault → List ℕ
number_fault_text fault.NotDigits = codes "not digits"
number_fault_text fault.LeadingZero = codes "a leading zero"
number_fault_text fault.TooLarge = codes "too large"
