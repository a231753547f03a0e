-- The exceptions of a set as a list.
-- Source: our own.
use Rattle.std.specs.Prelude.{ℕ, zero, suc, List, [], ◌∷◌, filter}
use Rattle.path_map.specs.declared.members.ExceptionSet.{ExceptionSet}
use Rattle.path_map.specs.Sets.{members}

-- the numbers below n
abbrev pub below : ℕ → List ℕ
below zero = []
below (suc n) = n ∷ below n

-- the exceptions of a set
abbrev pub listed : ExceptionSet → List ℕ
listed set = filter (members set) (below set.bound)
