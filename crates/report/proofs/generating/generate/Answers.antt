use Rattle.std.proofs.Common.{◌≡◌, Some, true, rules}
use Rattle.std.proofs.lemmas.Str.{is_utf8-from_IsUtf8, IsUtf8-had}
use Rattle.instance_reader.specs.Document.{document_of}
use Rattle.report.specs.Draws.{drawn}
use Rattle.report.specs.Generated.{IsModelSize, generated, generated_table}
use Rattle.report.proofs.GeneratedDepth.{model_depth}
use Rattle.report.proofs.GeneratedModel.{generated_is, text_means}
use Rattle.report.proofs.GeneratedOwn.{own_period}
use Rattle.report.proofs.generating.generate.Goals as goal

pub returns-in-Ok-clause-table : goal.returns-in-Ok-clause-table
returns-in-Ok-clause-table c =
    let read = rw c.in_ok-table.ensures at c.in-Ok.ensures.reads_back (model_depth c.args.coupled c.args.items c.args.periods (drawn c.args.seed c.args.items c.args.periods c.args.coupled)) in
    rw (c.into_bytes.ensures.value, is_utf8-from_IsUtf8 _ (IsUtf8-had _ c.in-Ok.text.ok)) read

pub returns-in-Ok-clause-model : goal.returns-in-Ok-clause-model
returns-in-Ok-clause-model c =
    let read = rw c.in_ok-table.ensures at c.in-Ok.ensures.reads_back (model_depth c.args.coupled c.args.items c.args.periods (drawn c.args.seed c.args.items c.args.periods c.args.coupled)) in
    let text : document_of c.into_bytes.result.items ≡ Some (generated_table c.args.seed c.args.items c.args.periods c.args.coupled) = rw (c.into_bytes.ensures.value, is_utf8-from_IsUtf8 _ (IsUtf8-had _ c.in-Ok.text.ok)) read in
    let yes : c.is_model_size.result ≡ true = search (rules, c.if-not-is_model_size.false) in
    let size : IsModelSize c.args.items c.args.periods = c.is_model_size.ensures.0 yes in
    text_means c.args.seed c.args.items c.args.periods c.args.coupled c.into_bytes.result.items c.written_out_means_itself.ensures size text

pub returns-in-Ok-clause-feasible : goal.returns-in-Ok-clause-feasible
returns-in-Ok-clause-feasible c =
    let yes : c.is_model_size.result ≡ true = search (rules, c.if-not-is_model_size.false) in
    let size : IsModelSize c.args.items c.args.periods = c.is_model_size.ensures.0 yes in
    own_period c.args.coupled c.args.items c.args.periods (generated c.args.seed c.args.items c.args.periods c.args.coupled) (generated_is c.args.seed c.args.items c.args.periods c.args.coupled size)
