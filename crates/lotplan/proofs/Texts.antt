-- The three lines of a plan, as they are put together.
use Rattle.std.proofs.Common.{◌≡◌, ℕ, List, ◌++◌, codes, decimal, sym, ap, subst, append_assoc}
use Rattle.lot_sizing.specs.Texts.{optimal_line}
use Rattle.search_result.specs.declared.found.RootSays.{RootSays}
use Rattle.lotplan.specs.Planning.{PlanAnswer, above, above_line, between, between_line, infeasible, optimal, infeasible_line, plan_line, root_line}

-- the text that is put together has these parts
abbrev pub optimal_parts : List ℕ → ℕ → ℕ → List ℕ
optimal_parts root nodes amount = root ++ (codes "nodes " ++ (decimal nodes ++ (codes "\noptimal " ++ (decimal amount ++ codes "\n"))))

abbrev pub infeasible_parts : List ℕ → ℕ → List ℕ
infeasible_parts root nodes = root ++ (codes "nodes " ++ (decimal nodes ++ codes "\ninfeasible\n"))

abbrev pub between_parts : List ℕ → ℕ → ℕ → ℕ → List ℕ
between_parts root nodes bound amount =
    root ++ (codes "nodes " ++ (decimal nodes ++ (codes "\nundecided " ++ (decimal bound ++ (codes " plan " ++ (decimal amount ++ codes "\n"))))))

abbrev pub above_parts : List ℕ → ℕ → ℕ → List ℕ
above_parts root nodes bound = root ++ (codes "nodes " ++ (decimal nodes ++ (codes "\nundecided " ++ (decimal bound ++ codes "\n"))))

joined : (root line number rest : List ℕ) → root ≡ line → root ++ (codes "nodes " ++ (number ++ (codes "\n" ++ rest))) ≡ line ++ ((codes "nodes " ++ (number ++ codes "\n")) ++ rest)
joined root line number rest is = simp append_assoc (ap (λ r. r ++ (codes "nodes " ++ (number ++ (codes "\n" ++ rest)))) is)

module _ (says : RootSays) (root : List ℕ) (nodes : ℕ) (answer : PlanAnswer) (line : root ≡ root_line says) where
  pub optimal_lines : (amount : ℕ) → answer ≡ optimal says nodes amount → optimal_parts root nodes amount ≡ plan_line answer
  optimal_lines amount is = subst (λ a. optimal_parts root nodes amount ≡ plan_line a) (sym is) (joined root (root_line says) (decimal nodes) (optimal_line amount) line)

  pub infeasible_lines : answer ≡ infeasible says nodes → infeasible_parts root nodes ≡ plan_line answer
  infeasible_lines is = subst (λ a. infeasible_parts root nodes ≡ plan_line a) (sym is) (joined root (root_line says) (decimal nodes) infeasible_line line)

  pub between_lines : (bound amount : ℕ) → answer ≡ between says nodes bound amount → between_parts root nodes bound amount ≡ plan_line answer
  between_lines bound amount is = subst (λ a. between_parts root nodes bound amount ≡ plan_line a) (sym is) (joined root (root_line says) (decimal nodes) (between_line bound amount) line)

  pub above_lines : (bound : ℕ) → answer ≡ above says nodes bound → above_parts root nodes bound ≡ plan_line answer
  above_lines bound is = subst (λ a. above_parts root nodes bound ≡ plan_line a) (sym is) (joined root (root_line says) (decimal nodes) (above_line bound) line)
