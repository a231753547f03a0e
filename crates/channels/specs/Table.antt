-- Private: the table of a module's inputs that is kept while a world's text is read.
-- Source: our own.
use Rattle.std.specs.Prelude.{ℕ, List, Option, ℤ}
use Rattle.std.specs.Option.{option_map}
use Rattle.std.specs.Borrow.{Bor}
use Rattle.std.specs.BTreeMap.{BTreeMap, get_by}
use Rattle.std.specs.Cmp.Lexicographic.{slice_cmp}
use Rattle.std.specs.Ordering.{nat_cmp}
use Rattle.std.specs.declared.alloc.Global.{Global}
use Rattle.std.specs.declared.vec.Vec.{Vec}
use Rattle.channels.specs.WorldText.{Table}

-- a table in the code
abbrev pub Inputs : Type 0
Inputs = BTreeMap (Bor (List ℕ)) (Option (Vec ℤ Global))

-- what it holds for each name
abbrev pub table_of : Inputs → Table
table_of inputs name =
    option_map (λ (entry : Option (Vec ℤ Global)). option_map (λ (numbers : Vec ℤ Global). numbers.items) entry) (get_by (λ (key : Bor (List ℕ)). slice_cmp nat_cmp name key.now) inputs)
