use Rattle.std.proofs.Common.{◌≡◌, sym, ap, ◌∙◌, map, Bool, false, ◌||◌}
use Rattle.resolved.specs.Labelled.{as_one_exit}
use Rattle.path_map.proofs.Single.{joined-is}
use Rattle.path_map.proofs.exits.Exits.is_single_of_procedure.Goals as goal
use Rattle.path_map.proofs.exits.Exits.is_single_of_procedure.Goals.{then-self, else-self}

pub returns : goal.returns
returns c = λ ends is.
    let joined : c.if-self.joined ≡ (c.args.self.normal || c.args.self.returns) =
    elim c.if-self.branch [
      | then-self w ↦ w.joined-is ∙ (w.if-self.true ∙ sym (ap (λ (b : Bool). b || c.args.self.returns) w.if-self.true))
      | else-self w ↦ w.joined-is ∙ sym (ap (λ (b : Bool). b || c.args.self.returns) w.if-self.false)
    ] in
    c.is_single.ensures (map as_one_exit ends)
    (ap (λ (b : Bool). record c.args.self { normal = b; returns = false }) joined ∙ joined-is c.args.self ends is)
