use Rattle.std.proofs.Common.{◌≡◌, ◌∙◌, ◌<◌, ℕ, List, [], ap, arith, get_or, rules, sym, length}
use Rattle.std.specs.Prelude.{◌↔◌, IsTrue}
use Rattle.cert_lines.proofs.Splits.{no_slice, no_word, word_read}
use Rattle.cert_lines.proofs.words.is_word.Goals as goal

pub returns : goal.returns
returns c =
    let same : IsTrue c.eq.result ↔ ((get_or c.args.words.now c.args.place no_slice).now ≡ c.args.text.now) = search rules in
    let read = word_read c.args.words.now c.args.place c.if-place-words.false in
    (λ yes. read ∙ same.0 yes, λ e. same.1 (sym read ∙ e))

pub returns-then-place-words : goal.returns-then-place-words
returns-then-place-words c = (λ yes. cc yes, λ e. absurd (long (sym (no_word c.args.words.now c.args.place c.if-place-words.true) ∙ e) c.requires))
  where
    long : {t : List ℕ} → [] ≡ t → 0 < length t → ⊥
    long e low = omega (arith, low, ap length e)
