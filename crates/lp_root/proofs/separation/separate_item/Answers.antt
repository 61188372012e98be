use Rattle.std.proofs.Common.{◌≡◌, subst, sym, rules}
use Rattle.std.specs.Prelude.{IfSome}
use Rattle.std.proofs.lemmas.Result.{IfOk-weaker}
use Rattle.echelon.specs.declared.net.EchelonItem.{EchelonItem}
use Rattle.lin_rows.specs.Points.{read_at}
use Rattle.cert_checker.specs.Cuts.{IsCutEchelon, IsNotLeadFree}
use Rattle.lp_root.specs.RootSteps.{PutsEchelon}
use Rattle.lp_root.proofs.RootCuts.{item_puts, none_of_item}
use Rattle.lp_root.proofs.separation.separate_item.Goals as goal

pub separate_echelon-requires : goal.separate_echelon-requires
separate_echelon-requires c =
    let m = c.args.instance.now in
    let i = c.args.item in
    let e = c.in-Some.echelon in
    let P = IsCutEchelon m i in
    let Q = λ (a : EchelonItem). a.item ≡ i in
    let has : P e = subst (λ found. IfSome found P) c.in-Some.is c.in_ok-echelon.ensures.some in
    let same : Q e = subst (λ found. IfSome found Q) c.in-Some.is c.in_ok-echelon.ensures.item in
    record { echelon = subst (λ k. IsCutEchelon m k e) (sym same) has }

pub returns-in-Some : goal.returns-in-Some
returns-in-Some c =
    let m = c.args.instance.now in
    let i = c.args.item in
    let e = c.in-Some.echelon in
    let read = read_at c.args.point.now in
    let P = IsCutEchelon m i in
    let has : P e = subst (λ found. IfSome found P) c.in-Some.is c.in_ok-echelon.ensures.some in
    let old = c.args.list.now in
    let new = c.separate_echelon.new.list in
    IfOk-weaker c.separate_echelon.result (λ end. PutsEchelon m e read end old new) _ (λ end puts. item_puts m read i e has end old new puts) c.separate_echelon.ensures

pub returns-in-None : goal.returns-in-None
returns-in-None c =
    let m = c.args.instance.now in
    let none : IsNotLeadFree m c.args.item = c.in_ok-echelon.ensures.none (search (rules, c.in-None.is)) in
    none_of_item m (read_at c.args.point.now) c.args.item c.args.list.now none
