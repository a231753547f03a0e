use Rattle.std.proofs.Common.{refl}
use Rattle.flowc.proofs.Cut.{appended_all}
use Rattle.flowc.proofs.Explaining.{chain_of, reported_chain, reported_other}
use Rattle.flowc.specs.Explained.ExplainsSome.{nothing}
use Rattle.flowc.proofs.explain.explain_refusal.Goals as goal
use Rattle.flowc.proofs.explain.explain_refusal.Goals.{in-Some+in_ok-write_flow, in_default}

pub returns-in_err-write_flow-clause-prefix : goal.returns-in_err-write_flow-clause-prefix
returns-in_err-write_flow-clause-prefix g c =
    chain_of _ _ _ _ _ c.requires.first_fault c.requires.flow c.requires.asked _ c.in-Some.is c.in_err-write_flow.ensures.prefix

pub returns-in_err-texts_line-clause-prefix : goal.returns-in_err-texts_line-clause-prefix
returns-in_err-texts_line-clause-prefix g c = elim c.match-refusal.branch [
  | in-Some+in_ok-write_flow w ↦ rw w.out-is
      (chain_of _ _ _ _ _ c.requires.first_fault c.requires.flow c.requires.asked _ w.in-Some.is (appended_all _ _ _ w.in_ok-write_flow.ensures.accepted))
  | in_default w ↦ rw w.out-is (nothing refl)
]

pub returns-clause-prefix : goal.returns-clause-prefix
returns-clause-prefix g c = elim c.match-refusal.branch [
  | in-Some+in_ok-write_flow w ↦ rw w.out-is
      (chain_of _ _ _ _ _ c.requires.first_fault c.requires.flow c.requires.asked _ w.in-Some.is (appended_all _ _ _ w.in_ok-write_flow.ensures.accepted))
  | in_default w ↦ rw w.out-is (nothing refl)
]

pub returns-clause-chain : goal.returns-clause-chain
returns-clause-chain g c = elim c.match-refusal.branch [
  | in-Some+in_ok-write_flow w ↦ rw w.out-is
      (reported_chain _ _ _ _ _ c.requires.first_fault c.requires.flow c.requires.asked _ w.in-Some.is w.in_ok-write_flow.ensures.accepted)
  | in_default w ↦ rw w.out-is
      (reported_other _ _ _ _ _ c.requires.first_fault c.requires.flow c.requires.asked w.in_default.is refl)
]
