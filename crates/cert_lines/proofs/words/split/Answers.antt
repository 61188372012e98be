use Rattle.std.proofs.Common.{◌≡◌, ◌∙◌, [], ap, refl, rules, subst, sym, tests}
use Rattle.std.proofs.lemmas.Iterator.{items_from_drains}
use Rattle.std.proofs.lemmas.Iterator.Splits.{YieldsList-from_slice_split}
use Rattle.std.specs.List.{slice_split}
use Rattle.std.specs.Slice.Iter.{split_callee, split_done, split_rest}
use Rattle.cert_lines.specs.Words.{IsSplit}
use Rattle.cert_lines.proofs.Splits.{is_space, parts_split, words_in}
use Rattle.cert_lines.proofs.words.split.Goals as goal

pub returns : goal.returns
returns c =
    let line = c.args.line.now in
    let empty : c.in_ok-words.words.items ≡ [] = search rules in
    let (start, words, is, added, (end, (rest, yields, last))) = c.in_ok-extend.ensures.ran in
    let all : c.extend.new.self.items ≡ words = rw (added.0, empty) refl in
    let parts : words_in words ≡ slice_split is_space line = items_from_drains words (rest, yields, λ _. (end, last)) (YieldsList-from_slice_split _ is_space line (ap split_rest is ∙ c.split.ensures.rest) (ap split_done is ∙ c.split.ensures.done) (ap split_callee is ∙ c.split.ensures.closure) (λ x r q k. search (rules, tests))) in
    let text : words_in c.extend.new.self.items ≡ slice_split is_space line = ap words_in all ∙ parts in
    subst (IsSplit line) (sym text) (parts_split line)
