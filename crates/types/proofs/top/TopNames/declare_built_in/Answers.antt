use Rattle.std.proofs.Common.{◌≡◌, [], map, Ok, ap, sym, ◌∙◌}
use Rattle.std.specs.Prelude.{codes}
use Rattle.types.specs.declared.scope.ItemKind.TheVariants.{Exception}
use Rattle.types.specs.declared.scope.Meaning.TheVariants as meanings
use Rattle.types.specs.Environment.{Environment, declaring}
use Rattle.types.specs.Resolution.{nothing_declared}
use Rattle.types.specs.Views.{found_in, signature_view}
use Rattle.types.proofs.Tables.{ok_inside}
use Rattle.types.proofs.top.TopNames.declare_built_in.Goals as goal

pub returns : goal.returns
returns c =
    let none : nothing_declared ≡ found_in c.new-names.result = sym c.new-names.ensures in
    let found : Environment = found_in c.insert-3.new.table in
    let e : declaring (codes "End") (meanings.Item Exception 2) (declaring (codes "Bounds") (meanings.Item Exception 1) (declaring (codes "Arith") (meanings.Item Exception 0) nothing_declared)) ≡ found =
    ap (λ one. declaring (codes "End") (meanings.Item Exception 2) (declaring (codes "Bounds") (meanings.Item Exception 1) (declaring (codes "Arith") (meanings.Item Exception 0) one))) none
    ∙ ap (λ one. declaring (codes "End") (meanings.Item Exception 2) (declaring (codes "Bounds") (meanings.Item Exception 1) one)) (ok_inside _ _ c.in_ok-insert.ensures)
    ∙ ap (λ one. declaring (codes "End") (meanings.Item Exception 2) one) (ok_inside _ _ c.in_ok-insert-2.ensures)
    ∙ ok_inside _ _ c.in_ok-insert-3.ensures in
    let signatures : [] ≡ map signature_view c.new.result.items = ap (map signature_view) (sym c.new.ensures.items) in
    λ i. Ok (record { names = e i; channels = 0; exceptions = 3; globals = 0; signatures = signatures i })
