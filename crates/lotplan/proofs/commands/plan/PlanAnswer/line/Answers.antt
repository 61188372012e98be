use Rattle.std.proofs.Common.{◌≡◌, ◌∙◌, string_bytes, ap}
use Rattle.std.proofs.lemmas.Result.{IfOk-weaker}
use Rattle.lotplan.specs.Planning.{plan_line, plan_meant}
use Rattle.lotplan.proofs.Texts.{above_lines, above_parts, between_lines, between_parts, infeasible_lines, infeasible_parts, optimal_lines, optimal_parts}
use Rattle.lotplan.proofs.commands.plan.PlanAnswer.line.Goals as goal

pub returns-in_ok-root-in-Optimal : goal.returns-in_ok-root-in-Optimal
returns-in_ok-root-in-Optimal c =
    let root = string_bytes c.in_ok-root-in-Optimal.root in
    let o = c.in-Optimal in
    let answer = plan_meant c.args.self.now in
    let lines = optimal_lines o.root root o.nodes answer c.in_ok-root-in-Optimal.ensures o.cost (ap plan_meant o.is) in
    IfOk-weaker c.format.result (λ s. string_bytes s ≡ optimal_parts root o.nodes o.cost) (λ s. string_bytes s ≡ plan_line answer) (λ s is. is ∙ lines) c.format.ensures.ok

pub returns-in_ok-root-in-Infeasible : goal.returns-in_ok-root-in-Infeasible
returns-in_ok-root-in-Infeasible c =
    let root = string_bytes c.in_ok-root-in-Infeasible.root in
    let o = c.in-Infeasible in
    let answer = plan_meant c.args.self.now in
    let lines = infeasible_lines o.root root o.nodes answer c.in_ok-root-in-Infeasible.ensures (ap plan_meant o.is) in
    IfOk-weaker c.format-in-Infeasible.result (λ s. string_bytes s ≡ infeasible_parts root o.nodes) (λ s. string_bytes s ≡ plan_line answer) (λ s is. is ∙ lines) c.format-in-Infeasible.ensures.ok

pub returns-in_ok-root-in-Between : goal.returns-in_ok-root-in-Between
returns-in_ok-root-in-Between c =
    let root = string_bytes c.in_ok-root-in-Between.root in
    let o = c.in-Between in
    let answer = plan_meant c.args.self.now in
    let lines = between_lines o.root root o.nodes answer c.in_ok-root-in-Between.ensures o.bound o.cost (ap plan_meant o.is) in
    IfOk-weaker c.format-in-Between.result (λ s. string_bytes s ≡ between_parts root o.nodes o.bound o.cost) (λ s. string_bytes s ≡ plan_line answer) (λ s is. is ∙ lines) c.format-in-Between.ensures.ok

pub returns-in_ok-root-in-Above : goal.returns-in_ok-root-in-Above
returns-in_ok-root-in-Above c =
    let root = string_bytes c.in_ok-root-in-Above.root in
    let o = c.in-Above in
    let answer = plan_meant c.args.self.now in
    let lines = above_lines o.root root o.nodes answer c.in_ok-root-in-Above.ensures o.bound (ap plan_meant o.is) in
    IfOk-weaker c.format-in-Above.result (λ s. string_bytes s ≡ above_parts root o.nodes o.bound) (λ s. string_bytes s ≡ plan_line answer) (λ s is. is ∙ lines) c.format-in-Above.ensures.ok
