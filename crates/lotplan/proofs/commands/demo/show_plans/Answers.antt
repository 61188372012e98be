use Rattle.std.proofs.Common.{◌∙◌, ◌++◌, codes, string_bytes, ap, refl}
use Rattle.lotplan.specs.Planning.{plan_line, plan_meant}
use Rattle.lotplan.proofs.Drawn.{coupled_short, free_alone}
use Rattle.lotplan.proofs.commands.demo.show_plans.Goals as goal

pub returns : goal.returns
returns ghosts c =
    let seed = c.args.seed in
    let free = plan_meant c.in_ok-free.free in
    let coupled = plan_meant c.in_ok-coupled.coupled in
    let second = string_bytes c.in_ok-second.second in
    let lines =
    c.in_ok-text.ensures.ok
    ∙ ap (λ a. codes "free\n" ++ (a ++ (codes "coupled\n" ++ second))) c.in_ok-first.ensures
    ∙ ap (λ b. codes "free\n" ++ (plan_line free ++ (codes "coupled\n" ++ b))) c.in_ok-second.ensures in
    λ files. record {
      same = refl;
      shows = record {
        free = free;
        free_shown = c.in_ok-free.ensures;
        alone = c.in_ok-free.ensures.alone (free_alone seed);
        coupled = coupled;
        coupled_shown = c.in_ok-coupled.ensures;
        spent = c.in_ok-coupled.ensures.spent (coupled_short seed);
        lines = c.of.ensures.line ∙ lines;
      };
      ends = c.of.ensures.status;
    }
