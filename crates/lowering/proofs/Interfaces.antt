-- A graph shows what its program does.
use Rattle.std.proofs.Common.{refl}
use Rattle.principals.proofs.Closure.{ActsFor-monotone}
use Rattle.labels.specs.Sets.{SameSet, ascending_set}
use Rattle.labels.proofs.Ascending.{ascending_set-SameSet}
use Rattle.modules.specs.Format.{pair_cmp}
use Rattle.resolved.specs.Program.{Program}
use Rattle.lowering.specs.Graphs.{graph_of}
use Rattle.lowering.specs.Interface.{HasInterfaceOf}
use Rattle.lowering.proofs.Hierarchies.{pair_cmp-exact}

pub graph-interface : (program : Program) → HasInterfaceOf program (graph_of program)
graph-interface program = record {
  version = refl;
  names = refl;
  acts = λ a b. (
    ActsFor-monotone (ascending_set pair_cmp program.hierarchy.pairs) program.hierarchy.pairs (λ x y. (same (x, y)).0),
    ActsFor-monotone program.hierarchy.pairs (ascending_set pair_cmp program.hierarchy.pairs) (λ x y. (same (x, y)).1),
  );
  channels = refl;
  exceptions = refl;
}
  where
    same : SameSet (ascending_set pair_cmp program.hierarchy.pairs) program.hierarchy.pairs
    same = ascending_set-SameSet pair_cmp-exact program.hierarchy.pairs
