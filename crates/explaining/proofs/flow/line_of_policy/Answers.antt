use Rattle.std.proofs.Common.{◌≡◌, ◌∙◌, ap, sym, subst, rules, List, [], ◌∷◌, ◌++◌}
use Rattle.std.specs.List.Sorted.{IsStrictlySortedBy}
use Rattle.labels.specs.Canonical.{policy_cmp}
use Rattle.labels.specs.Label.{ReaderPolicy}
use Rattle.explaining.proofs.flow.line_of_policy.Goals as goal

pub of-label-requires-clause-ascending : goal.of-label-requires-clause-ascending
unfolding IsStrictlySortedBy
of-label-requires-clause-ascending c =
    let alone : c.push.new.self.items ≡ c.in_ok-clone.field-0 ∷ [] =
    c.in_ok-push.ensures.items ∙ ap (λ list. list ++ c.in_ok-clone.field-0 ∷ []) c.new-policies.ensures.items in
    subst (λ (list : List ReaderPolicy). IsStrictlySortedBy policy_cmp list) (sym alone) (search rules)
