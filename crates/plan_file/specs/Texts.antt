-- How the fault of a plan file is written.
use Rattle.std.specs.Prelude.{ℕ, List, ◌++◌, codes, decimal}
use Rattle.plan_file.specs.Records.{field_number}
use Rattle.plan_file.specs.declared.fault.PlanFault.{PlanFault}
use Rattle.plan_file.specs.declared.fault.PlanFault.TheVariants as fault

abbrev pub plan_fault_text : PlanFault → List ℕ
plan_fault_text fault.Header = codes "plan header"
plan_fault_text fault.RowCount = codes "plan count"
plan_fault_text (fault.Row n) = codes "plan row " ++ decimal n
plan_fault_text (fault.Number n at) = codes "plan number " ++ (decimal n ++ (codes " " ++ decimal (field_number at)))
plan_fault_text fault.Memory = codes "out of memory"
