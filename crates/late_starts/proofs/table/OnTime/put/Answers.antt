use Rattle.std.proofs.Common.{◌-◌, ◌∙◌, ap}
use Rattle.std.specs.Prelude.{slice_set}
use Rattle.std.proofs.lemmas.List.{map-set}
use Rattle.late_starts.proofs.table.OnTime.put.Goals as goal

pub returns : goal.returns
returns c = map-set (λ v. v.items) c.self.inside.rows.items (c.args.item - 1) c.args.row ∙ ap (λ rows. slice_set rows (c.args.item - 1) c.args.row.items) c.self.view_is
