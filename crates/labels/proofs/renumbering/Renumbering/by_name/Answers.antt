use Rattle.std.proofs.Common.{◌≡◌, ◌∙◌, ℕ, List, ap, map}
use Rattle.std.specs.Prelude.{string_bytes, unwrap_or}
use Rattle.std.proofs.lemmas.List.{take_all}
use Rattle.principals.specs.ActsFor.{number_of}
use Rattle.labels.specs.Carried.{numbered}
use Rattle.labels.proofs.Carried.{numbers-by_name}
use Rattle.labels.proofs.renumbering.Renumbering.by_name.Goals as goal

pub returns : goal.returns
returns c =
    let numbers : c.loop-name.numbers.items ≡ map (λ name. unwrap_or (number_of c.args.larger.now name) 0) c.args.smaller.now.names =
    c.loop-name.invariant
    ∙ (λ i. map (λ name. unwrap_or (number_of c.args.larger.now name) 0) (map (λ name. string_bytes name) (take_all c.loop-name.name-index c.names-name-items.result.now c.loop-name-test.false i)))
    ∙ ap (map (λ name. unwrap_or (number_of c.args.larger.now name) 0)) c.names-name-items.ensures in
    λ i a. (ap (λ (list : List ℕ). numbered list a) numbers ∙ numbers-by_name c.args.smaller.now c.args.larger.now a) i
