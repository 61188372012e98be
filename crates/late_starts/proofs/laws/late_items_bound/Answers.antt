use Rattle.late_starts.proofs.Choosing.{floors_agree, items_bound, plan_chooses, some_choice}
use Rattle.late_starts.proofs.laws.late_items_bound.Goals as goal

pub returns-clause-plans : goal.returns-clause-plans
returns-clause-plans c = λ m rank start setup unit share short ranks is p f are i low high. plan_chooses m rank start setup unit share short ranks is p f are i low high

pub returns-clause-exist : goal.returns-clause-exist
returns-clause-exist c = λ a. some_choice a

pub returns-clause-bound : goal.returns-clause-bound
returns-clause-bound c = λ m rank floor start setup unit share charge price ranks is charges within floors p f. items_bound m rank floor start setup unit share charge price ranks is charges within floors p f

pub returns-clause-same : goal.returns-clause-same
returns-clause-same c = λ a b floor same is. floors_agree a b floor same is
