use Rattle.std.proofs.Common.{◌∙◌, sym}
use Rattle.std.specs.Str.{bytes_eq}
use Rattle.instance_reader.proofs.Keys.{list_any-map}
use Rattle.instance_reader.proofs.document.is_known.Goals as goal

pub returns : goal.returns
returns c = c.contains.ensures.value ∙ sym (list_any-map (λ one. bytes_eq one c.args.key.now) (λ one. one.now) c.args.keys.now)
