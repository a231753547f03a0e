use Rattle.std.proofs.Common.{ap, ◌∙◌, ◌++◌, ◌∷◌, []}
use Rattle.constraints.proofs.Moments.{moments-read, moments-same, moments-other}
use Rattle.constraints.proofs.journal.add_to.Goals as goal

pub returns-clause-row : goal.returns-clause-row
returns-clause-row c =
    moments-same c.args.rows.now.items c.args.at c.push.new.self c.requires
    ∙ (c.in_ok-push.ensures.items
    ∙ ap (λ xs. xs ++ c.args.moment ∷ []) (ap (λ r. r.items) c.index_mut.ensures.value ∙ moments-read c.args.rows.now.items c.args.at c.index_mut.result.now c.requires))

pub returns-clause-others : goal.returns-clause-others
returns-clause-others c = λ k ne. moments-other c.args.rows.now.items c.args.at k c.push.new.self ne
