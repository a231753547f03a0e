use Rattle.std.proofs.Common.{subst, sym, [], ◌∷◌, ◌++◌}
use Rattle.path_map.specs.declared.keeping.KeptForm.TheVariants.{Whole}
use Rattle.path_map.specs.Entries.{IsRowOfSet}
use Rattle.path_map.specs.Sets.{members}
use Rattle.path_map.proofs.RowLists.{pushed-row}
use Rattle.path_map.proofs.sharing.keep_whole.Goals as goal

pub returns-clause-kept : goal.returns-clause-kept
returns-clause-kept c =
    let rows = c.args.rows.now.items in
    rw c.in_ok-number.ensures.rows
    (subst (λ n. IsRowOfSet (members c.args.set) (rows ++ (record { steps = 1; form = Whole c.args.set }) ∷ []) n) (sym c.in_ok-number.ensures.number) (pushed-row rows 1 c.args.set))
