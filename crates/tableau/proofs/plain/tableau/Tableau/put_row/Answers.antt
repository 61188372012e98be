use Rattle.std.proofs.Common.{◌≡◌, ◌<◌, ◌-◌, ◌∙◌, FitsSigned, ap, arith, subst, length}
use Rattle.std.specs.Int.{w128}
use Rattle.std.proofs.lemmas.Int.{ints, to_z-of_z}
use Rattle.rational.specs.Rational.{neg_ℚ, whole}
use Rattle.rational.proofs.Rationals as Q
use Rattle.tableau.specs.Held.{inequality_of}
use Rattle.tableau.specs.Dictionary.{width}
use Rattle.tableau.specs.Steps.{IsSet}
use Rattle.tableau.proofs.Starts.{term_fits, terms_next, terms_start}
use Rattle.tableau.proofs.plain.tableau.Tableau.put_row.Goals as goal

pub loop-place-init : goal.loop-place-init
loop-place-init c =
    let right = c.args.source.now.right in
    let f : FitsSigned w128 right = omega (arith, ints, c.requires.terms.right) in
    let value : c.whole.result ≡ whole right = simp to_z-of_z at c.whole.ensures in
    let is : c.opposite.result ≡ neg_ℚ (whole right) = c.opposite.ensures ∙ Q.zero_add (neg_ℚ c.whole.result) ∙ ap neg_ℚ value in
    terms_start (inequality_of c.args.source.now) c.args.row c.args.self.now c.set.new.self c.requires.row (subst (λ x. IsSet c.args.self.now c.args.row 0 x c.set.new.self) is c.set.ensures) c.requires.zero

pub whole-requires-in-loop-place : goal.whole-requires-in-loop-place
whole-requires-in-loop-place c =
    let row = inequality_of c.args.source.now in
    let term = c.index-term.result.now in
    let fits = term_fits row (width c.args.self.now - 1) c.loop-place.place term term c.requires.terms (omega (arith, c.loop-place-test.true, c.len-place-end.ensures, c.args.source.now.terms.ok.0)) c.index-term.ensures in
    let f : FitsSigned w128 term.times = omega (arith, ints, fits.2) in
    simp to_z-of_z (record { small = fits.2 })

pub set-requires-in-loop-place-clause-column : goal.set-requires-in-loop-place-clause-column
set-requires-in-loop-place-clause-column c =
    let row = inequality_of c.args.source.now in
    let term = c.index-term.result.now in
    let fits = term_fits row (width c.args.self.now - 1) c.loop-place.place term term c.requires.terms (omega (arith, c.loop-place-test.true, c.len-place-end.ensures, c.args.source.now.terms.ok.0)) c.index-term.ensures in
    omega (arith, fits.1, c.requires.columns, ap length c.loop-place.invariant.names.nonbasics)

pub loop-place-preserved : goal.loop-place-preserved
loop-place-preserved c =
    let row = inequality_of c.args.source.now in
    let term = c.index-term.result.now in
    let less : c.loop-place.place < length row.terms = omega (arith, c.loop-place-test.true, c.len-place-end.ensures, c.args.source.now.terms.ok.0) in
    let fits = term_fits row (width c.args.self.now - 1) c.loop-place.place term term c.requires.terms less c.index-term.ensures in
    let f : FitsSigned w128 term.times = omega (arith, ints, fits.2) in
    let value : c.whole-in-loop-place.result ≡ whole term.times = simp to_z-of_z at c.whole-in-loop-place.ensures in
    terms_next row c.args.row c.loop-place.place c.args.self.now c.loop-place.self c.set-in-loop-place.new.self term term c.requires.row c.requires.terms less c.index-term.ensures c.loop-place.invariant (subst (λ x. IsSet c.loop-place.self c.args.row term.column x c.set-in-loop-place.new.self) value c.set-in-loop-place.ensures)
