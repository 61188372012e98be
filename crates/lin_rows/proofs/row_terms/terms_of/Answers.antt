use Rattle.std.proofs.Common.{◌≡◌, sym, subst, Vec, Global}
use Rattle.std.specs.Prelude.{Result, IfOk}
use Rattle.std.specs.declared.alloc.AllocError.{AllocError}
use Rattle.lot_sizing.specs.Problem.{Problem}
use Rattle.lot_model.specs.Views.{IsInstance}
use Rattle.lot_model.proofs.Bills.{map_ok}
use Rattle.lin_rows.specs.declared.row.Term.{Term}
use Rattle.lin_rows.specs.declared.base.RowName.{RowName}
use Rattle.lin_rows.specs.Base.{all_terms, some_terms}
use Rattle.lin_rows.specs.Made.{AreTermsOf, HasTermsOf}
use Rattle.lin_rows.proofs.row_terms.terms_of.Goals as goal

-- the terms of a row that has no largest total in it
of_name : (m : Problem) (name other : RowName) (r : Result (Vec Term Global) AllocError) → IsInstance m → name ≡ other → IfOk r (λ terms. AreTermsOf m other terms.items) → IfOk r (λ terms. HasTermsOf m name terms.items)
of_name m name other r is same h =
    let (total, totals, small) = is.totals in
    map_ok r (λ terms. AreTermsOf m other terms.items) (λ terms. HasTermsOf m name terms.items) (λ terms all. (total, totals, subst (λ n. terms.items ≡ some_terms (all_terms m total n)) (sym same) (all total))) h

pub returns-in-Balance-clause-terms : goal.returns-in-Balance-clause-terms
returns-in-Balance-clause-terms c = of_name c.args.instance.now c.args.name _ c.balance_terms.result c.periods-last.ensures.instance c.in-Balance.is c.balance_terms.ensures

pub returns-in-Link-clause-terms : goal.returns-in-Link-clause-terms
returns-in-Link-clause-terms c = subst (λ n. IfOk c.link_terms.result (λ terms. HasTermsOf c.args.instance.now n terms.items)) (sym c.in-Link.is) c.link_terms.ensures

pub returns-in-Capacity-clause-terms : goal.returns-in-Capacity-clause-terms
returns-in-Capacity-clause-terms c = of_name c.args.instance.now c.args.name _ c.capacity_terms.result c.periods-last.ensures.instance c.in-Capacity.is c.capacity_terms.ensures

pub returns-in-Least-clause-terms : goal.returns-in-Least-clause-terms
returns-in-Least-clause-terms c = of_name c.args.instance.now c.args.name _ c.least_terms.result c.periods-last.ensures.instance c.in-Least.is c.least_terms.ensures
