use Rattle.std.proofs.Common.{◌≡◌, ℕ, suc, ◌+◌, Some, map, set, ap, arith, ◌∙◌}
use Rattle.std.proofs.lemmas.List.{map-set}
use Rattle.verifier.specs.Numbers.{number_of}
use Rattle.verifier.proofs.numbers.Numbers.set.Goals as goal

marked : (number : ℕ) → number_of (number + 1) ≡ Some number
marked number = let next : number + 1 ≡ suc number = omega arith in ap number_of next

pub returns : goal.returns
returns c =
    map-set number_of c.self.inside.marks.items c.args.index (c.args.number + 1)
    ∙ ap (set (map number_of c.self.inside.marks.items) c.args.index) (marked c.args.number)
    ∙ ap (λ l. set l c.args.index (Some c.args.number)) c.self.view_is
