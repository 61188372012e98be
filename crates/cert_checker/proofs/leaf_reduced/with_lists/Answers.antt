use Rattle.std.proofs.Common.{rules, ◌≡◌, ◌+◌, ◌<◌, ◌∙◌, ℕ, arith, length, map, slice_index_or, subst}
use Rattle.std.specs.List.{All}
use Rattle.std.proofs.lemmas.List.{length-map, take_all}
use Rattle.cert_lines.specs.Shapes.{list_shape}
use Rattle.cert_meaning.specs.Named.{names}
use Rattle.cert_checker.specs.declared.fault.Why.{Why}
use Rattle.cert_checker.specs.Leaves.{IfRejected, IsFirstWrongList, IsList, IsWrongList, no_list}
use Rattle.cert_checker.proofs.CheckRefusals.{rejected_weaker}
use Rattle.cert_checker.proofs.Listed.{all_more, lists_more, shape_of_list, wrong_at}
use Rattle.cert_checker.proofs.leaf_reduced.with_lists.Goals as goal

pub returns-in_err-more-clause-fault : goal.returns-in_err-more-clause-fault
returns-in_err-more-clause-fault c =
    let m = c.args.instance.now in
    let cuts = c.args.cuts.now in
    let path = c.args.path.now in
    let lists = c.args.lists.now in
    let shapes = map list_shape lists in
    let k = c.loop-place.place in
    let a = c.index-lists-place.result in
    let less : k < length shapes = omega (arith, c.loop-place-test.true, length-map lists list_shape) in
    let here : slice_index_or shapes k no_list ≡ list_shape a = shape_of_list lists k a c.loop-place-test.true c.index-lists-place.is in
    let f = c.in_err-more.field-0.0 in
    let P : ℕ → Why → Type 0 = λ at w. (at ≡ c.args.line + 1 + k) × ((total : ℕ → ℕ) → IsWrongList (names m total cuts path) (list_shape a) w) in
    let Q : ℕ → Why → Type 0 = λ at w. (total : ℕ → ℕ) → IsFirstWrongList (names m total cuts path) shapes c.args.line at w in
    let why : IfRejected f Q =
    rejected_weaker f P Q
    (λ at w bad total. wrong_at (names m total cuts path) shapes c.args.line at w k (list_shape a) less here (c.loop-place.invariant.lists total) bad.0 (bad.1 total))
    c.in_err-more.ensures.wrong in
    search (rules, why)

pub loop-place-preserved : goal.loop-place-preserved
loop-place-preserved c =
    let lists = c.args.lists.now in
    let shapes = map list_shape lists in
    let k = c.loop-place.place in
    let a = c.index-lists-place.result in
    let less : k < length shapes = omega (arith, c.loop-place-test.true, length-map lists list_shape) in
    let here : slice_index_or shapes k no_list ≡ list_shape a = shape_of_list lists k a c.loop-place-test.true c.index-lists-place.is in
    record {
      all = all_more c.args.parts.now shapes k (list_shape a) c.extend_from_slice-in-loop-place.new.self.items c.loop-place.all.items c.deref.result.now less here c.loop-place.invariant.all (c.deref.ensures.value ∙ c.in_ok-more.ensures.parts) c.in_ok-extend_from_slice-2.ensures.items;
      lists = λ total.
          let n = names c.args.instance.now total c.args.cuts.now c.args.path.now in
          lists_more n shapes k (list_shape a) less here (c.loop-place.invariant.lists total) (c.in_ok-more.ensures.list total);
    }

pub returns-clause-lists : goal.returns-clause-lists
returns-clause-lists c = λ total.
    let lists = c.args.lists.now in
    let n = names c.args.instance.now total c.args.cuts.now c.args.path.now in
    subst (All (IsList n)) (take_all c.loop-place.place (map list_shape lists) (omega (arith, c.loop-place-test.false, length-map lists list_shape))) (c.loop-place.invariant.lists total)
