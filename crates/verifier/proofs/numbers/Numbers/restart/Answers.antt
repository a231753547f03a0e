use Rattle.std.proofs.Common.{map, ap, ◌∙◌}
use Rattle.verifier.specs.Numbers.{number_of}
use Rattle.verifier.proofs.Counted.{unmarked}
use Rattle.verifier.proofs.numbers.Numbers.restart.Goals as goal

pub returns : goal.returns
returns c = ap (map number_of) c.in_ok-fill.ensures ∙ unmarked c.args.count
