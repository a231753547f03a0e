use Rattle.std.proofs.Common.{◌≡◌, ◌++◌, sym, ◌∙◌, subst}
use Rattle.labels.specs.Canonical.{IsCanonicalLabel, joined}
use Rattle.labels.specs.Label.{Label}
use Rattle.labels.specs.Sets.{SameSet}
use Rattle.labels.proofs.Written.{IsCanonicalLabel-joined, SameSet-joined}
use Rattle.labels.proofs.joins.join.Goals as goal

canonical : (c : goal.In_ok-union) → IsCanonicalLabel c.in_ok-union.field-0.items
canonical c =
    let items : c.in_ok-union.field-0.items ≡ joined c.policies.result.now c.policies-2.result.now = c.in_ok-union.ensures in
    rw (items, c.policies.ensures.policies, c.policies-2.ensures.policies)
    (IsCanonicalLabel-joined c.args.left.now c.args.right.now c.policies.ensures.canonical c.policies-2.ensures.canonical)

pub of-requires-clause-ascending : goal.of-requires-clause-ascending
of-requires-clause-ascending c = (canonical c).policies_ascend

pub of-requires-clause-each_canonical : goal.of-requires-clause-each_canonical
of-requires-clause-each_canonical c = (canonical c).each_canonical

pub returns-clause-union : goal.returns-clause-union
returns-clause-union c =
    let items : c.in_ok-union.field-0.items ≡ joined c.policies.result.now c.policies-2.result.now = c.in_ok-union.ensures in
    let is : c.of.result ≡ joined c.args.left.now c.args.right.now =
    c.of.ensures ∙ (rw (items, c.policies.ensures.policies, c.policies-2.ensures.policies)) in
    let Same : Label → Type 0 = λ l. SameSet l (c.args.left.now ++ c.args.right.now) in
    subst Same (sym is) (SameSet-joined c.args.left.now c.args.right.now)
