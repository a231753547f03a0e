use Rattle.types.specs.ShortNames.{number_of}
use Rattle.types.specs.Buckets.{found_short}
use Rattle.types.proofs.Tables.{empty_finds}
use Rattle.types.proofs.scope.Names.new.Goals as goal

pub returns : goal.returns
returns c = λ i other.
    let short = c.new.result in
    empty_finds (found_short short.shift short.buckets.items short.others) c.new-2.result c.new.ensures c.new-2.ensures.empty other (number_of other) i
