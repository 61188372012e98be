use Rattle.std.proofs.Common.{ap, arith, refl}
use Rattle.std.specs.Prelude.{map}
use Rattle.std.proofs.lemmas.Result.{IfOk-weaker}
use Rattle.cert_lines.specs.Shapes.{cut_shape}
use Rattle.lp_root.specs.Root.{RootMeans, root_cuts}
use Rattle.lp_root.proofs.RootWhole.{bounds_are, cells_are, figures_exist, none_writable, skipped_is, skipped_means, uncoupled_is, uncoupled_means}
use Rattle.lp_root.proofs.at_root.root.Goals as goal

pub returns-then-is_uncoupled-clause-figures : goal.returns-then-is_uncoupled-clause-figures
returns-then-is_uncoupled-clause-figures c = figures_exist c.args.instance.now c.totals_exist.ensures.weights c.an_instance_breaks_no_rule.ensures

pub returns-then-is_uncoupled-clause-means : goal.returns-then-is_uncoupled-clause-means
returns-then-is_uncoupled-clause-means c =
    let said = c.without_cuts in
    let uncoupled = c.if-is_uncoupled.ensures.0 refl in
    uncoupled_means c.args.instance.now uncoupled said.result said.ensures.says (ap (map cut_shape) said.ensures.cuts) said.ensures.leaf

pub returns-then-is_uncoupled-clause-writable : goal.returns-then-is_uncoupled-clause-writable
returns-then-is_uncoupled-clause-writable c =
    let said = c.without_cuts in
    none_writable c.args.instance.now said.result (ap (map cut_shape) said.ensures.cuts) said.ensures.leaf

pub returns-in_err-program-clause-figures : goal.returns-in_err-program-clause-figures
returns-in_err-program-clause-figures c = figures_exist c.args.instance.now c.totals_exist.ensures.weights c.an_instance_breaks_no_rule.ensures

pub returns-then-cells-gt-MAX_CELLS-clause-means : goal.returns-then-cells-gt-MAX_CELLS-clause-means
returns-then-cells-gt-MAX_CELLS-clause-means c =
    let m = c.args.instance.now in
    let program = c.in_ok-program.program in
    let is = c.in_ok-program.ensures in
    let said = c.without_cuts-then-cells-gt-MAX_CELLS in
    skipped_means m c.cells-cells.result
    (record {
      coupled = λ un. cc (c.if-is_uncoupled.ensures.1 un);
      size = cells_are m program c.cells-cells.result c.cells-cells.ensures is.width is.sized.sides is.round;
      many = omega (arith, c.if-cells-gt-MAX_CELLS.true);
    })
    said.result said.ensures.says (ap (map cut_shape) said.ensures.cuts) said.ensures.leaf

pub returns-then-cells-gt-MAX_CELLS-clause-writable : goal.returns-then-cells-gt-MAX_CELLS-clause-writable
returns-then-cells-gt-MAX_CELLS-clause-writable c =
    let said = c.without_cuts-then-cells-gt-MAX_CELLS in
    none_writable c.args.instance.now said.result (ap (map cut_shape) said.ensures.cuts) said.ensures.leaf

pub returns-then-cells-gt-MAX_CELLS-clause-skipped : goal.returns-then-cells-gt-MAX_CELLS-clause-skipped
returns-then-cells-gt-MAX_CELLS-clause-skipped c = λ cells.
    let m = c.args.instance.now in
    let r = c.without_cuts-then-cells-gt-MAX_CELLS.result in
    let means = returns-then-cells-gt-MAX_CELLS-clause-means c in
    skipped_is m (root_cuts r) means.rows r.leaf (figures_exist m c.totals_exist.ensures.weights c.an_instance_breaks_no_rule.ensures) cells r.says means.says

pub returns-then-cells-gt-MAX_CELLS-clause-figures : goal.returns-then-cells-gt-MAX_CELLS-clause-figures
returns-then-cells-gt-MAX_CELLS-clause-figures c = figures_exist c.args.instance.now c.totals_exist.ensures.weights c.an_instance_breaks_no_rule.ensures

pub make_rounds-requires-clause-tried : goal.make_rounds-requires-clause-tried
make_rounds-requires-clause-tried c =
    let m = c.args.instance.now in
    let program = c.in_ok-program.program in
    let is = c.in_ok-program.ensures in
    record {
      coupled = λ un. cc (c.if-is_uncoupled.ensures.1 un);
      few = λ total totals. omega (arith, cells_are m program c.cells-cells.result c.cells-cells.ensures is.width is.sized.sides is.round total totals, c.if-cells-gt-MAX_CELLS.false);
    }

pub returns-clause-uncoupled : goal.returns-clause-uncoupled
returns-clause-uncoupled c =
    let m = c.args.instance.now in
    IfOk-weaker c.make_rounds.result (RootMeans m) _ (λ r means. uncoupled_is m (root_cuts r) means.rows r.leaf r.says means.says) c.make_rounds.ensures.means

pub returns-clause-skipped : goal.returns-clause-skipped
returns-clause-skipped c =
    let m = c.args.instance.now in
    let figures = figures_exist m c.totals_exist.ensures.weights c.an_instance_breaks_no_rule.ensures in
    IfOk-weaker c.make_rounds.result (RootMeans m) _ (λ r means cells. skipped_is m (root_cuts r) means.rows r.leaf figures cells r.says means.says) c.make_rounds.ensures.means

pub returns-clause-bounds : goal.returns-clause-bounds
returns-clause-bounds c =
    let m = c.args.instance.now in
    let figures = figures_exist m c.totals_exist.ensures.weights c.an_instance_breaks_no_rule.ensures in
    IfOk-weaker c.make_rounds.result (RootMeans m) _ (λ r means. bounds_are m (root_cuts r) means.rows r.leaf figures c.an_instance_breaks_no_rule.ensures c.closed_values_are_floors.ensures c.empty_is_impossible.ensures r.says means.says) c.make_rounds.ensures.means

pub returns-clause-figures : goal.returns-clause-figures
returns-clause-figures c = figures_exist c.args.instance.now c.totals_exist.ensures.weights c.an_instance_breaks_no_rule.ensures
