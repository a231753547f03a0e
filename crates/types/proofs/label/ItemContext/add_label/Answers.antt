use Rattle.std.proofs.Common.{◌∙◌, ap, sym, Ok}
use Rattle.syntax.specs.Tree.{label_tree}
use Rattle.types.proofs.Procedures.{item_labelled}
use Rattle.types.proofs.label.ItemContext.add_label.Goals as goal

pub returns-clause-made : goal.returns-clause-made
returns-clause-made c =
    item_labelled (label_tree c.args.written.now) c.in_ok-parts.parts _ _ _ _ c.label_context.ensures.scope c.label_context.ensures.variables c.in_ok-parts.ensures
    ∙ ap (λ label. Ok label) (sym c.in_ok-add_label.ensures.label)
