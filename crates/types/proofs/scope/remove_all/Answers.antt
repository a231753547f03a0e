use Rattle.std.proofs.Common.{ℕ, List, [], None, cond, get_or, refl, ap, ◌∙◌}
use Rattle.std.proofs.lemmas.List.{get_or_default}
use Rattle.std.specs.Borrow.{Bor}
use Rattle.std.specs.Prelude.{bytes_eq}
use Rattle.types.specs.Views.{found_in}
use Rattle.types.proofs.Tables.{without_more, without_one}
use Rattle.types.proofs.scope.remove_all.Goals as goal

pub loop-name-preserved : goal.loop-name-preserved
loop-name-preserved c = λ other.
    let names = c.args.names.now in
    let index = c.loop-name.name-index in
    let none : Bor (List ℕ) = record { ref_ptr = (0, 0); now = [] } in
    let name : Bor (List ℕ) = get_or names index none in
    c.remove.ensures other
    ∙ without_one name.now (found_in c.loop-name.table) other
    ∙ ap (λ found. cond (bytes_eq name.now other) None found) (c.loop-name.invariant other)
    ∙ without_more names index name name.now (found_in c.args.table.now) c.loop-name-test.true (get_or_default names index none name c.loop-name-test.true) refl other
