use Rattle.std.proofs.Common.{List, map, sym, subst}
use Rattle.std.specs.Prelude.{All, String, string_bytes}
use Rattle.std.specs.declared.alloc.Global.{Global}
use Rattle.principals.specs.Named.{IsKeptName}
use Rattle.principals.proofs.Hierarchy.of.Goals as goal

pub close-requires-clause-named : goal.close-requires-clause-named
close-requires-clause-named c =
    subst (λ (keys : List (String Global)). All IsKeptName (map (λ name. string_bytes name) keys)) (sym c.in_ok-names.ensures) c.requires.named
