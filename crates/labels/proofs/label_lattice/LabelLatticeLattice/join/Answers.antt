use Rattle.std.proofs.Common.{subst, sym}
use Rattle.std.proofs.lemmas.Result.{IfOk-weaker}
use Rattle.labels.specs.Canonical.{joined}
use Rattle.lattices.specs.Lattice.{IsJoin}
use Rattle.labels.specs.LabelLattice.{label_lattice}
use Rattle.labels.proofs.Joined.{IsLattice-joined_test}
use Rattle.labels.proofs.label_lattice.LabelLatticeLattice.join.Goals as goal

pub returns : goal.returns
returns c =
    let h = c.args.self.now.hierarchy.now in
    let left = c.args.left.now in
    let right = c.args.right.now in
    let laws = IsLattice-joined_test h in
    let is : IsJoin (label_lattice h) left right (joined left right) = record {
      above_left = laws.above_left left right;
      above_right = laws.above_right left right;
      least_above = laws.least_above left right;
    } in
    IfOk-weaker c.join.result _ _ (λ label e. subst (λ x. IsJoin (label_lattice h) left right x) (sym e) is) c.join.ensures.exact
