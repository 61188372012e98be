use Rattle.std.proofs.Common.{arith, subst, sym}
use Rattle.certificate.specs.Shapes.{shape_of}
use Rattle.branching.specs.Search.{IsUsualVersion}
use Rattle.node_domains.specs.Within.{given_ranges}
use Rattle.branching.proofs.Answering.{none_within}
use Rattle.branching.proofs.LeastVersion.{usual_is}
use Rattle.branching.proofs.searching.impossible.Goals as goal

pub returns : goal.returns
returns c = λ stopping.
    let m = c.args.start.instance.now in
    let usual = subst (IsUsualVersion m) (sym c.none_found.ensures.version) c.usual_version-version.ensures.usual in
    let version = usual_is m c.args.wanted.newest (shape_of c.none_found.result.certificate) usual (omega (arith, c.none_found.ensures.version, c.usual_version-version.ensures.at_most, c.requires.start.oldest)) c.none_found.ensures.proved.writable in
    none_within m (given_ranges c.args.start.ranges.now) c.args.wanted stopping c.none_found.result c.args.start.said c.requires.start.room c.requires.start.good c.requires.start.root c.requires.none version c.whole_is_proved.ensures c.none_found.ensures.proved c.none_found.ensures.plan c.none_found.ensures.root c.none_found.ensures.alone
