use Rattle.lattices.proofs.Constraints.{reaches-below}
use Rattle.lattices.proofs.constraint_laws.what_reaches_lies_below.Goals as goal

pub returns : goal.returns
returns g c = λ l laws cs values fits v u reaches. reaches-below l laws cs values fits v u reaches
