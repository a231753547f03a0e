use Rattle.std.proofs.Common.{sym, ◌∙◌, subst, List}
use Rattle.solver.specs.Broken.{is_below}
use Rattle.solver.specs.Reach.{IsTrace}
use Rattle.solver.specs.declared.search.Found.{Found}
use Rattle.solver.specs.declared.constraints.Atom.TheVariants.{Written}
use Rattle.solver.proofs.Chains.{trail-falls}
use Rattle.solver.proofs.Refusing.{break-chain, breaks-some, earliest-breaks}
use Rattle.solver.proofs.Searching.{found-inside}
use Rattle.solver.proofs.solving.find_refusal.Goals as goal

pub earlier_of_value-requires-clause-found : goal.earlier_of_value-requires-clause-found
earlier_of_value-requires-clause-found g c = λ k h.
    let trace = (subst (λ (fs : List Found). IsTrace c.args.edges.now c.args.value fs) (sym c.as_slice-found.ensures.value) c.in_ok-found.ensures) in
    found-inside c.args.edges.now c.args.value c.as_slice-found.result.now k trace.trail c.requires.inside h

pub unreachable-requires : goal.unreachable-requires
unreachable-requires g c =
    let trace = (subst (λ (fs : List Found). IsTrace c.args.edges.now c.args.value fs) (sym c.as_slice-found.ensures.value) c.in_ok-found.ensures) in
    breaks-some c.args.edges.now (is_below (g.W.WrittenElements.order c.args.written.now) (g.W.WrittenElements.elements c.args.written.now)) c.args.value c.as_slice-found.result.now trace c.requires.breaks.0 c.requires.breaks.1
    (sym c.earlier_of_value.ensures ∙ c.in_default.is)

pub chain_to-requires-clause-parent : goal.chain_to-requires-clause-parent
chain_to-requires-clause-parent g c =
    let trace = (subst (λ (fs : List Found). IsTrace c.args.edges.now c.args.value fs) (sym c.as_slice-found.ensures.value) c.in_ok-found.ensures) in
    (earliest-breaks c.args.edges.now (is_below (g.W.WrittenElements.order c.args.written.now) (g.W.WrittenElements.elements c.args.written.now)) c.args.value c.as_slice-found.result.now trace c.in-Some.broken
    (sym c.earlier_of_value.ensures ∙ c.in-Some.is)).parent

pub chain_to-requires-clause-falls : goal.chain_to-requires-clause-falls
chain_to-requires-clause-falls g c =
    let trace = (subst (λ (fs : List Found). IsTrace c.args.edges.now c.args.value fs) (sym c.as_slice-found.ensures.value) c.in_ok-found.ensures) in
    trail-falls c.args.edges.now c.args.value c.as_slice-found.result.now trace.trail

pub returns-clause-chain : goal.returns-clause-chain
returns-clause-chain g c =
    let trace = (subst (λ (fs : List Found). IsTrace c.args.edges.now c.args.value fs) (sym c.as_slice-found.ensures.value) c.in_ok-found.ensures) in
    let is = earliest-breaks c.args.edges.now (is_below (g.W.WrittenElements.order c.args.written.now) (g.W.WrittenElements.elements c.args.written.now)) c.args.value c.as_slice-found.result.now trace c.in-Some.broken
    (sym c.earlier_of_value.ensures ∙ c.in-Some.is) in
    break-chain c.args.edges.now (is_below (g.W.WrittenElements.order c.args.written.now) (g.W.WrittenElements.elements c.args.written.now)) c.args.value c.as_slice-found.result.now trace c.in-Some.broken
    (sym c.earlier_of_value.ensures ∙ c.in-Some.is) c.in_ok-chain.chain.items
    (c.in_ok-chain.ensures c.args.edges.now c.args.value (Written c.in-Some.broken.to) trace.trail is.entered)
