use Rattle.std.proofs.Common.{◌∷◌, [], refl}
use Rattle.handlers.proofs.Halves.{Arranges-merged}
use Rattle.handlers.proofs.entries.entries_of_two.Goals as goal

pub returns : goal.returns
returns c =
    Arranges-merged (λ entries. entries.items) c.merge.result _ _ (c.args.first ∷ []) (c.args.second ∷ []) (c.args.first ∷ c.args.second ∷ []) refl
    c.pair_of-count.ensures.arranges c.pair_of-others.ensures.arranges c.merge.ensures.ascends c.merge.ensures.targets
