use Rattle.std.proofs.Common.{rules, ◌≡◌, map, replicate, ap, ◌∙◌}
use Rattle.verifier.specs.Numbers.{number_of}
use Rattle.verifier.proofs.Counted.{unmarked}
use Rattle.verifier.proofs.numbers.Numbers.new.Goals as goal

pub returns : goal.returns
returns c =
    let items : c.in_ok-marks.marks.items ≡ replicate c.args.count 0 = search rules in
    ap (map number_of) items ∙ unmarked c.args.count
