use Rattle.std.proofs.Common.{◌≡◌, map, take}
use Rattle.std.specs.Prelude.{string_bytes, unwrap_or}
use Rattle.principals.specs.ActsFor.{number_of}
use Rattle.labels.proofs.renumbering.Renumbering.by_name.Given as goal

-- the names so far have their numbers
abbrev pub invariant-loop-name : goal.invariant-loop-name
invariant-loop-name l =
    l.numbers.items ≡ map (λ name. unwrap_or (number_of l.larger name) 0) (map (λ name. string_bytes name) (take l.name-index l.name-items))
