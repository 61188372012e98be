-- Lines that are taken one after the other, and the certificate that they are.
use Rattle.std.proofs.Common.{◌≡◌, ◌∙◌, ℕ, refl, sym, ap, subst, arith, List, [], ◌∷◌, ◌++◌, append_assoc, append-nil, length}
use Rattle.std.proofs.lemmas.List.{length-append}
use Rattle.cert_lines.specs.declared.line.CertLine.{CertLine}
use Rattle.cert_lines.specs.Shapes.{line_shape}
use Rattle.certificate.specs.Shapes.{Shape}
use Rattle.certificate.specs.Text.{head_values, heads_text}
use Rattle.certificate.specs.Values.{AreLines, value_text, values_text}
use Rattle.certificate.specs.Dues.{Due, TakesAll}
use Rattle.certificate.specs.Faults.{AreHeads, body_dues}
use Rattle.certificate.proofs.Joins.{values_append}
use Rattle.certificate.proofs.Needed.{taken_join}
use Rattle.certificate.proofs.Shorts.{lines_join}
use Rattle.cert_stream.specs.declared.heads.Heads.{Heads}
use Rattle.cert_stream.specs.declared.lines.LineReader.{LineReader}
use Rattle.cert_stream.specs.declared.values.Value.{Value}
use Rattle.cert_stream.specs.declared.values.Value.TheVariants as value
use Rattle.cert_stream.specs.Claims.{AreAll, AreTaken, IsTextOfClaim}
use Rattle.cert_stream.specs.Heads.{heads_of}
use Rattle.cert_stream.specs.Values.{IsGiven, IsValue}
use Rattle.cert_stream.proofs.Bodies.{body_of}

-- one line
pub one_taken : (version : ℕ) (v : Value) (line : CertLine) (a b : LineReader) (dues left : List Due) (text rest : List ℕ) → v ≡ value.Line line → IsValue version v text rest → IsGiven version v a b → TakesAll dues (line_shape line ∷ []) left → AreTaken version dues text a.number left rest b.number
one_taken version v line a b dues left text rest is value given taken =
    let here = subst (λ x. IsValue version x text rest) is value in
    let (form, further) = subst (λ x. IsGiven version x a b) is given in
    record {
      read = line_shape line ∷ [];
      lines = (form, tt);
      is = here ∙ ap (λ t. t ++ rest) (sym (append-nil (value_text (line_shape line))));
      taken = taken;
      number = further.number;
    }

-- and more of them
pub taken_on : {version : ℕ} {dues mid left : List Due} {text rest more : List ℕ} {n k m : ℕ} → AreTaken version dues text n mid rest k → AreTaken version mid rest k left more m → AreTaken version dues text n left more m
taken_on {version = version} {dues = dues} {mid = mid} {left = left} {more = more} first later = record {
  read = first.read ++ later.read;
  lines = lines_join version first.read later.read first.lines later.lines;
  is = first.is ∙ ap (λ t. values_text first.read ++ t) later.is ∙ sym (append_assoc (values_text first.read) (values_text later.read) more) ∙ ap (λ t. t ++ more) (sym (values_append first.read later.read));
  taken = taken_join dues mid left first.read later.read first.taken later.taken;
  number = omega (arith, first.number, later.number, length-append first.read later.read);
}

-- the certificate of the lines
pub claimed : (h : Heads) (text rest : List ℕ) → AreHeads 1 (head_values h.version h.claim h.count) → text ≡ heads_of h ++ rest → AreAll h.version (body_dues h.count) rest → IsTextOfClaim text h.claim
claimed h text rest heads is all =
    let body = body_of h.version h.count all.read all.lines all.taken in
    let s : Shape = record { version = h.version; claim = h.claim; cuts = body.cuts; tree = body.tree } in
    record {
      certificate = s;
      text = record {
        text = is ∙ ap (λ n. heads_text (head_values h.version h.claim n) ++ rest) (sym body.count_is) ∙ ap (λ t. heads_text (head_values h.version h.claim (length body.cuts)) ++ t) (all.is ∙ ap values_text body.values);
        writable = record {
          version = heads.0.small;
          amount = heads.1.0.small;
          few = omega (arith, body.count_is, heads.1.1.0.small);
          paths = body.paths;
          lines = subst (AreLines h.version) body.values all.lines;
        };
      };
      claim_is = refl;
    }
