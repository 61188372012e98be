-- How the refusal of a rest is written.
use Rattle.std.specs.Prelude.{ℕ, List, ◌++◌, codes, decimal}
use Rattle.lot_draft.specs.Faults.{fault_text}
use Rattle.replan.specs.declared.fault.RestFault.{RestFault}
use Rattle.replan.specs.declared.fault.RestFault.TheVariants.{First, Lead, Draft, Memory}

abbrev pub rest_fault_text : RestFault → List ℕ
rest_fault_text First = codes "first"
rest_fault_text (Lead i) = codes "lead item " ++ decimal i
rest_fault_text (Draft fault) = fault_text fault
rest_fault_text Memory = codes "out of memory"
