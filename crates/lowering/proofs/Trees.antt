-- The lists of the code that are left to go along, and the trees that they stand for.
use Rattle.std.proofs.Common.{◌≡◌, ap, ℕ, List, ◌∷◌, map, drop, get_or, length, ◌<◌, ◌+◌}
use Rattle.common.proofs.Cases.{drop_next}
use Rattle.resolved.specs.declared.expression.Expression as E
use Rattle.resolved.specs.TreeOf.{expression_of}

pub next-argument : (arguments : List E.Expression) (i : ℕ) (e : E.Expression) → i < length arguments → e ≡ get_or arguments i e
    → map expression_of (drop i arguments) ≡ expression_of e ∷ map expression_of (drop (i + 1) arguments)
next-argument arguments i e inside is = ap (map expression_of) (drop_next arguments i e inside is)
