use Rattle.std.proofs.Common.{◌≡◌, ◌≢◌, ◌∙◌, ◌++◌, Bor, ℕ, List, map, sym, ap}
use Rattle.csv.specs.Writing.{row_text, writer_setup}
use Rattle.csv.specs.declared.writer.QuoteStyle.TheVariants as style
use Rattle.csv_records.specs.Written.{records_text}
use Rattle.csv_records.proofs.ReadBack.{text_next}
use Rattle.csv_records.proofs.writing.add_record.Goals as goal

pub returns : goal.returns
returns c = λ rs has.
    let r = map (λ (field : Bor (List ℕ)). field.now) c.args.fields.now in
    let usual : (writer_setup c.args.writer.now).style ≢ style.NonNumeric = λ e. let same : style.Necessary ≡ style.NonNumeric = sym (ap (λ w. w.style) has.setup) ∙ e in cc same in
    let wrote = c.in-Ok.ensures.bytes has.fields has.clean usual in
    record {
      setup = c.in-Ok.ensures.setup ∙ has.setup;
      fields = c.in-Ok.ensures.ended;
      clean = c.in-Ok.ensures.clean;
      text = wrote ∙ ap (λ t. t ++ row_text (writer_setup c.args.writer.now) r) has.text ∙ ap (λ w. records_text rs ++ row_text w r) has.setup ∙ sym (text_next rs r);
    }
