use Rattle.std.proofs.Common.{◌≡◌, ◌≢◌, ◌≤◌, ◌∙◌, ℕ, decimal, arith, sym, rules}
use Rattle.std.proofs.lemmas.Fmt.{decimal_injective}
use Rattle.lot_schedule.proofs.rows.period_of.Goals as goal
use Rattle.lot_schedule.proofs.rows.period_of.Goals.{then-found-lt1-via-then-found-lt1, then-found-lt1-via-else-found-lt1+then-found-last}

pub returns-then-found-lt1-clause-none : goal.returns-then-found-lt1-clause-none
returns-then-found-lt1-clause-none c = λ t low high same.
    let number = c.in_ok-found.ensures.some in
    let e : c.in_ok-found.found ≡ t = decimal_injective c.in_ok-found.found t (omega (arith, number.0.fits, number.1)) (omega (arith, high, c.periods-last.ensures.value, c.periods-last.type_inv)) (sym c.in_ok-found.ensures.written ∙ same) in
    elim c.then-found-lt1.branch [
      | then-found-lt1-via-then-found-lt1 w ↦ omega (arith, e, low, w.if-found-lt1.true)
      | then-found-lt1-via-else-found-lt1+then-found-last w ↦ omega (arith, e, high, c.periods-last.ensures.value, w.if-found-last.true)
    ]

pub returns-in_err-found-clause-none : goal.returns-in_err-found-clause-none
returns-in_err-found-clause-none c =
    let none : (t : ℕ) → 1 ≤ t → t ≤ c.args.instance.now.periods → c.args.text.now ≢ decimal t = λ t low high. c.in_err-found.ensures.unwritten t (omega (arith, high, c.periods-last.ensures.value, c.periods-last.type_inv)) in
    search (rules, none)
