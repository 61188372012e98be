-- The text of a generated table means the generated problem.
use Rattle.std.proofs.Common.{◌≡◌, ℕ, List, Bool, Some, inr}
use Rattle.std.specs.Prelude.{Ok}
use Rattle.lot_model.specs.Laws.{WrittenOutMeansItself}
use Rattle.instance_reader.specs.Document.{document_of}
use Rattle.instance_reader.specs.Model.{BytesMean}
use Rattle.report.specs.Draws.{drawn, generator_of}
use Rattle.report.specs.Generated.{IsModelSize, generated, generated_table}
use Rattle.report.proofs.GeneratedDrawn.{all_drawn}
use Rattle.report.proofs.GeneratedMeans.{model_means}
use Rattle.report.proofs.GeneratedPlaces.{IsGenerated, is_generated}
use Rattle.report.proofs.GeneratedRead.{model_back, raw_model_with}
use Rattle.report.proofs.GeneratedValid.{is_instance}

pub generated_is : (seed items periods : ℕ) (coupled : Bool) → IsModelSize items periods → IsGenerated coupled items periods (generated seed items periods coupled)
generated_is seed items periods coupled size = is_generated coupled items periods (drawn seed items periods coupled) size.few_items (all_drawn coupled periods items (generator_of seed))

pub text_means : (seed items periods : ℕ) (coupled : Bool) (bytes : List ℕ) → WrittenOutMeansItself → IsModelSize items periods → document_of bytes ≡ Some (generated_table seed items periods coupled) → BytesMean bytes (Ok (generated seed items periods coupled))
text_means seed items periods coupled bytes law size text =
    let ds = drawn seed items periods coupled in
    let g = generated_is seed items periods coupled size in
    inr (
      generated_table seed items periods coupled,
      text,
      record {
        model = raw_model_with coupled items periods ds;
        is_read = model_back coupled items periods ds size;
        means = model_means coupled items periods ds law g (is_instance coupled items periods (generated seed items periods coupled) size g);
      },
    )
