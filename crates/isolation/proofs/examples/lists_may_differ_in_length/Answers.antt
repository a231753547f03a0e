use Rattle.std.proofs.Common.{◌≡◌, refl, ap, ℕ, zero, suc, List, [], true, false, pos, Some}
use Rattle.std.specs.Int.{int_wrap}
use Rattle.common.specs.declared.sent.Pair.{Pair}
use Rattle.labels.specs.Sent.{pairs_for}
use Rattle.labels.proofs.Tests.{may_read-decides}
use Rattle.resolved.specs.declared.expression.Variable.TheVariants.{Local}
use Rattle.common.specs.declared.operator.Operator.TheVariants.{Compare}
use Rattle.common.specs.declared.operator.Comparison.TheVariants.{Ordered}
use Rattle.common.specs.declared.operator.Order.TheVariants.{GreaterThan}
use Rattle.resolved.specs.Tree.{Integer, Read, Binary, Placed, Assign, Receive, Send, Try, Empty, Then, NoMore, Catch}
use Rattle.resolved.specs.Program.{procedure_at}
use Rattle.common.specs.declared.exceptions.TheConstants.{END}
use Rattle.resolved.specs.SourceState.{SourceState, value_of}
use Rattle.resolved.specs.Meaning.{Outcome, after, leaving, entering, block_meaning, calls_with, first_state, state_after, frame_limit}
use Rattle.resolved.specs.Labelled.{channel_label}
use Rattle.resolved.proofs.Demands.{labelled-from}
use Rattle.isolation.specs.Examples.{for_alice, two_principals, bob, comes, waiting}
use Rattle.isolation.proofs.Waiting.{waits-for_ever}
use Rattle.isolation.proofs.examples.lists_may_differ_in_length.Goals as goal

pub returns-clause-faultless : goal.returns-clause-faultless
returns-clause-faultless c = refl

pub returns-clause-labelled : goal.returns-clause-labelled
returns-clause-labelled c = labelled-from waiting (λ unwritten. for_alice) refl

pub returns-clause-agree : goal.returns-clause-agree
returns-clause-agree c zero channel there input reads =
    let e : false ≡ true = (may_read-decides two_principals bob (channel_label waiting 0)).1 reads in absurd (cc)
returns-clause-agree c (suc n) channel there input reads = refl

pub returns-clause-all : goal.returns-clause-all
unfolding frame_limit int_wrap
returns-clause-all c zero = refl
returns-clause-all c (suc k) = refl

-- the state in which the loop is reached, and the run from there on
reached : (k : ℕ) → SourceState
reached k =
    state_after (block_meaning (calls_with waiting k 511) k
    (Then (Placed 0 (Assign (Local 0) (Integer 0))) (Then (Placed 0 (Try (Then (Placed 0 (Receive 0 (Some (Local 0)))) Empty) (Catch 0 END Empty NoMore))) Empty))
    (entering (procedure_at waiting 0) [] (first_state waiting (comes (pos 1)))))

seen_from : (k : ℕ) → Outcome → List Pair
seen_from k o =
    pairs_for two_principals (channel_label waiting) bob
    (state_after (leaving (λ t. record t { locals = λ n. [] }) (after o (block_meaning (calls_with waiting k 511) k (Then (Placed 0 (Send 1 (Integer 1))) Empty))))).sent

pub returns-clause-nothing : goal.returns-clause-nothing
unfolding frame_limit int_wrap reached seen_from
returns-clause-nothing c k =
    ap (seen_from k)
    (waits-for_ever k (λ t. value_of t (Binary (Compare (Ordered GreaterThan)) (Read (Local 0)) (Integer 0))) (block_meaning (calls_with waiting k 511) k Empty) (reached k) refl refl)
