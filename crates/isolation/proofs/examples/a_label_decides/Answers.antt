use Rattle.std.proofs.Common.{arith, ◌≡◌, refl, ap, ℕ, zero, suc, List, [], ◌∷◌, true, false, ℤ, pos, negsuc, ⊎_elim}
use Rattle.common.specs.declared.sent.Pair.{Pair}
use Rattle.labels.specs.Sent.{IsPrefix}
use Rattle.resolved.specs.Meaning.{frame_limit, sent_by}
use Rattle.resolved.specs.Labelled.{channel_label}
use Rattle.labels.specs.Isolated.{WorldsAgree}
use Rattle.labels.proofs.Isolated.{isolated-views}
use Rattle.labels.proofs.Tests.{may_read-decides}
use Rattle.resolved.proofs.Demands.{labelled-fits, labelled-from}
use Rattle.isolation.specs.Examples.{for_alice, relay, comes, sends, bob, two_principals}
use Rattle.isolation.proofs.examples.a_label_decides.Goals as goal

pub returns-clause-faultless : goal.returns-clause-faultless
returns-clause-faultless c = refl

pub returns-clause-labelled : goal.returns-clause-labelled
returns-clause-labelled c = labelled-from (relay for_alice) (λ unwritten. []) refl

pub returns-clause-sent : goal.returns-clause-sent
unfolding frame_limit
returns-clause-sent c = refl

pub returns-clause-refused : goal.returns-clause-refused
returns-clause-refused c labelled = let e : false ≡ true = labelled-fits (relay []) labelled in cc

-- Bob may not read the one input
same_for_bob : (first second : ℤ) → WorldsAgree two_principals (channel_label (relay [])) (relay []).channels bob (comes first) (comes second)
same_for_bob first second zero channel there input reads =
    let e : false ≡ true = (may_read-decides two_principals bob (channel_label (relay []) 0)).1 reads in absurd (cc)
same_for_bob first second (suc n) channel there input reads = refl

-- the first number of a list of pairs
first_of_list : List Pair → ℤ
first_of_list [] = pos 0
first_of_list (pair ∷ rest) = pair.number

size : ℤ → ℕ
size (pos n) = n
size (negsuc n) = n

apart : (m n : ℕ) → IsPrefix (sends (pos m)) (sends (pos n)) → m ≡ n
unfolding first_of_list size
apart m n prefix = ap (λ l. size (first_of_list l)) prefix.1

pub returns-clause-leaks : goal.returns-clause-leaks
unfolding frame_limit
returns-clause-leaks c isolated =
    ⊎_elim
    (λ prefix. let e : 5 ≡ 6 = apart 5 6 prefix in omega (arith, e))
    (λ prefix. let e : 6 ≡ 5 = apart 6 5 prefix in omega (arith, e))
    (isolated-views two_principals (channel_label (relay [])) (relay []).channels (sent_by (relay [])) isolated bob (comes (pos 5)) (comes (pos 6)) (same_for_bob (pos 5) (pos 6)) 1 1)
