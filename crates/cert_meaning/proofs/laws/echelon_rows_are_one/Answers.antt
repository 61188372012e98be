use Rattle.std.proofs.Common.{arith}
use Rattle.echelon_rows.specs.Rows.{echelon_in}
use Rattle.cert_meaning.specs.CutRows.{echelon_at}
use Rattle.cert_meaning.proofs.Agreeing.{block_row_same, echelon_alike, ls_row_same, price_row_same, priced_same}
use Rattle.cert_meaning.proofs.laws.echelon_rows_are_one.Goals as goal

pub returns : goal.returns
returns c = λ m weight i e is.
    let E = echelon_in e in
    let F = echelon_at m weight i in
    let alike = echelon_alike m weight i e is in (
      λ l chosen high. ls_row_same E F alike l chosen (omega (arith, high, is.demand.size)),
      λ price unit hold back. price_row_same E F alike price unit hold back,
      λ setup unit hold back steps. block_row_same E F alike setup unit hold back steps,
      λ setup unit hold back. priced_same E F alike setup unit hold back,
    )
