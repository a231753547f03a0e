use Rattle.std.proofs.Common.{◌≡◌, ℕ, List, take}
use Rattle.types.specs.Views.{found_in, texts_of, without}
use Rattle.types.proofs.scope.remove_all.Given as goal

-- the names so far are out
abbrev pub invariant-loop-name : goal.invariant-loop-name
invariant-loop-name l = (other : List ℕ) → found_in l.table other ≡ without (texts_of (take l.name-index l.names)) (found_in l.fn.table) other
