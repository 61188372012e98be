use Rattle.std.proofs.Common.{◌≤◌, arith}
use Rattle.quantity_dp.proofs.laws.plans_are_choices.Goals as goal

pub returns : goal.returns
returns c = λ m rank total start i a some ranks totals are low high of p f. record {
  setup = λ t t_low t_high. f.setup i t low high t_low (omega (arith, t_high, of.periods));
  lots = λ t t_low t_high.
      let within : t ≤ m.periods = omega (arith, t_high, of.periods) in
      c.lots_hold.ensures.holds m rank total some ranks totals p f i t low high t_low within (a.largest t) (of.largest t t_low within);
  started = λ t t_low t_high.
      let within : t ≤ m.periods = omega (arith, t_high, of.periods) in
      omega (arith, of.need t t_low within, c.must_start_holds.ensures.holds m rank start ranks are p f i t low high within);
}
