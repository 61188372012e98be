-- What a table means is one thing.
use Rattle.std.specs.Prelude.{◌≡◌, ◌≢◌, ◌⊎◌, List}
use Rattle.lot_sizing.specs.Problem.{Problem}
use Rattle.lot_sizing.specs.Plan.{EachCell, Table}
use Rattle.csv_records.specs.Records.{Record}
use Rattle.lot_quantities.specs.Tables.{IsTableOf}
use Rattle.lot_quantities.specs.Faults.{IsQuantityFault}
use Rattle.lot_quantities.specs.declared.fault.QuantityFault.{QuantityFault}
use Rattle.lot_quantities.specs.declared.fault.QuantityFault.TheVariants.{Memory}

-- one choice of quantities and setups, or one fault where memory isn't the cause
pub record MeanOneThing (m : Problem) (rs : List Record) : Type 0 where
  pub one_make : (make setup make2 setup2 : Table) → IsTableOf m rs make setup → IsTableOf m rs make2 setup2 → EachCell m (λ i t. make i t ≡ make2 i t)
  pub one_setup : (make setup make2 setup2 : Table) → IsTableOf m rs make setup → IsTableOf m rs make2 setup2 → EachCell m (λ i t. setup i t ≡ setup2 i t)
  pub table_or_fault : (make setup : Table) (f : QuantityFault) → IsTableOf m rs make setup → IsQuantityFault m rs f → f ≡ Memory
  pub one_fault : (f g : QuantityFault) → f ≢ Memory → g ≢ Memory → IsQuantityFault m rs f → IsQuantityFault m rs g → f ≡ g

abbrev pub TablesMeanOneThing : Type 0
TablesMeanOneThing = (m : Problem) (rs : List Record) → MeanOneThing m rs

-- records mean quantities and setups, or a fault that isn't out of memory
abbrev pub TablesMeanSomething : Type 0
TablesMeanSomething = (m : Problem) (rs : List Record) → ((make setup : Table) × IsTableOf m rs make setup) ⊎ ((f : QuantityFault) × (f ≢ Memory) × IsQuantityFault m rs f)
