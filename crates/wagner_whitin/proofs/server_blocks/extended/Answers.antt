use Rattle.std.proofs.Common.{◌+◌, ⊎_elim, subst, sym, length}
use Rattle.echelon.specs.Views.{single_of_item}
use Rattle.wagner_whitin.specs.declared.server_blocks.ServerBlock.{ServerBlock}
use Rattle.wagner_whitin.specs.Tables.{IsServerBlock, IsServerBlockOrNone}
use Rattle.wagner_whitin.proofs.Serving.{fresh_block, kept_block}
use Rattle.wagner_whitin.proofs.server_blocks.extended.Goals as goal

pub returns : goal.returns
returns c =
    let s = single_of_item c.args.single.now in
    let g = c.args.potentials.now in
    let u = c.args.server in
    let serving = c.serving_cost-serving.result in
    ⊎_elim
    (λ fresh. subst (λ (k : ServerBlock). IsServerBlock s g u (length g + 1) (record { cost = k.cost + serving; first = k.first; server = u })) (sym fresh.0) (fresh_block s g u c.args.period c.args.block c.last_potential.result c.index-setup.result.now serving c.requires.within c.requires.count c.requires.period c.requires.server c.requires.block c.requires.small c.last_potential.ensures.value c.index-setup.ensures c.serving_cost-serving.ensures.value c.serving_cost-serving.ensures.small fresh.1))
    (λ kept. kept_block s g u c.args.period c.cheaper_start-start.result c.last_potential.result c.index-setup.result.now serving c.requires.within c.requires.period c.requires.server (subst (IsServerBlockOrNone s g u (length g)) kept.0 c.requires.block) c.last_potential.ensures.value c.index-setup.ensures c.serving_cost-serving.ensures.value c.serving_cost-serving.ensures.small kept.1)
    c.cheaper_start-start.ensures.start
