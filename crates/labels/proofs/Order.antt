-- Only equal policies tie in the order of policies.
use Rattle.std.proofs.Common.{◌≡◌, refl}
use Rattle.std.specs.Cmp.Lexicographic.{slice_cmp}
use Rattle.std.specs.Ordering.{nat_cmp, ordering_then}
use Rattle.std.specs.declared.cmp.Ordering.{Ordering}
use Rattle.std.specs.declared.cmp.Ordering.TheVariants.{Less, Equal, Greater}
use Rattle.std.proofs.lemmas.Map.Lookups.{CmpEqualImpliesEq, exact_unsigned, exact_bytes}
use Rattle.labels.specs.Canonical.{policy_cmp}

pub both_tie : (a b : Ordering) → ordering_then a b ≡ Equal → (a ≡ Equal) × (b ≡ Equal)
both_tie Less b e = absurd (cc)
both_tie Equal b e = (refl, e)
both_tie Greater b e = absurd (cc)

pub policy_cmp-exact : CmpEqualImpliesEq policy_cmp
policy_cmp-exact p q e =
    let ties = both_tie (nat_cmp p.owner q.owner) (slice_cmp nat_cmp p.readers q.readers) e in
    let owners : p.owner ≡ q.owner = exact_unsigned p.owner q.owner ties.0 in
    let readers : p.readers ≡ q.readers = exact_bytes p.readers q.readers ties.1 in
    λ i. record { owner = owners i; readers = readers i }
