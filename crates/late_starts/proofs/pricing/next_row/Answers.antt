use Rattle.std.proofs.Common.{◌≡◌, ◌+◌, ◌-◌, ◌*◌, ◌^◌, ◌∙◌, ap, sym, subst, arith}
use Rattle.late_starts.specs.Rows.{capped}
use Rattle.late_starts.specs.Pricing.{IsNextRowTo, IsPriceAfter, cost_from, late_lots_of, lot_at, owing_from}
use Rattle.late_starts.proofs.Tabling.{price_after, row_more}
use Rattle.late_starts.proofs.pricing.next_row.Goals as goal

pub loop-server-preserved : goal.loop-server-preserved
loop-server-preserved c =
    let lots = c.args.lots.now in
    let a = late_lots_of lots c.args.settled in
    let t = c.args.period in
    let row = c.args.row.now in
    let least = c.args.least in
    let u = c.loop-server.server in
    let e : u ≡ u + 1 - 1 = omega arith in
    let price = c.price_with.result in
    let after = price_after (2 ^ 128 - 1) c.units_in-units.result (lot_at lots u).unit (owing_from lots t u) c.owing_to-owing.result least (lot_at lots u).setup c.entered.result row u c.base_price-base.result price c.owing_to-owing.ensures c.entered.ensures c.base_price-base.ensures c.price_with.ensures in
    let here = subst (λ n. IsPriceAfter (2 ^ 128 - 1) (n * ((lot_at lots u).unit + owing_from lots t u)) (least + (lot_at lots u).setup) row u price) c.units_in-units.ensures after in
    record {
      owing = c.owing_to-owing.ensures ∙ ap (λ k. capped (owing_from lots t k)) e;
      next = subst (IsNextRowTo a t row least (u + 1 - 1)) (sym c.in_ok-push.ensures.items)
          (row_more a t row least (u - 1) (u + 1 - 1) price c.loop-server.next.items (omega (arith, c.loop-server.auto.server)) c.loop-server.invariant.next (subst (λ k. IsPriceAfter (2 ^ 128 - 1) (cost_from a t k) (least + a.setup k) row k price) e here));
    }
