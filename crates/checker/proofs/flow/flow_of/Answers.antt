use Rattle.std.proofs.Common.{◌≡◌, ◌∙◌, ◌<◌, ℕ, sym, subst, List, length, map, arith, true, false}
use Rattle.std.specs.Prelude.{Contains, Option, flat_map}
use Rattle.labels.specs.Label.{ReaderPolicy, Covers, flows}
use Rattle.labels.specs.LabelTable.{label_at}
use Rattle.labels.specs.LabelLattice.{label_lattice}
use Rattle.resolved.specs.declared.target.Target.{Target}
use Rattle.solver.specs.declared.constraints.Constraint.{Constraint}
use Rattle.checker.specs.Reported.{reported_by}
use Rattle.checker.specs.Steps.{report_at}
use Rattle.checker.proofs.Flows.{from-inside, index-inside, last-read, right-written, flow-fails, flow-reported, none-found}
use Rattle.checker.proofs.flow.flow_of.Goals as goal

pub overflow_sub-last : goal.overflow_sub-last
overflow_sub-last c =
    let core = c.args.core in
    let inside = index-inside (label_lattice core.hierarchy) core.labels c.args.system.now.constraints.items c.args.refusal.now c.requires.refused
    c.as_slice-chain.result.now c.as_slice-constraints.result.now c.as_slice-chain.ensures.value c.as_slice-constraints.ensures.value in
    omega (arith, inside.0)

pub bounds-chain-chain : goal.bounds-chain-chain
bounds-chain-chain c =
    let core = c.args.core in
    let inside = index-inside (label_lattice core.hierarchy) core.labels c.args.system.now.constraints.items c.args.refusal.now c.requires.refused
    c.as_slice-chain.result.now c.as_slice-constraints.result.now c.as_slice-chain.ensures.value c.as_slice-constraints.ensures.value in
    omega (arith, inside.0)

pub offset_bounds-constraints-chain : goal.offset_bounds-constraints-chain
offset_bounds-constraints-chain c =
    let core = c.args.core in
    let inside = index-inside (label_lattice core.hierarchy) core.labels c.args.system.now.constraints.items c.args.refusal.now c.requires.refused
    c.as_slice-chain.result.now c.as_slice-constraints.result.now c.as_slice-chain.ensures.value c.as_slice-constraints.ensures.value in
    omega (arith, inside.1, c.as_slice-constraints.type_inv.1)

pub bounds-constraints-chain : goal.bounds-constraints-chain
bounds-constraints-chain c =
    let core = c.args.core in
    (index-inside (label_lattice core.hierarchy) core.labels c.args.system.now.constraints.items c.args.refusal.now c.requires.refused
    c.as_slice-chain.result.now c.as_slice-constraints.result.now c.as_slice-chain.ensures.value c.as_slice-constraints.ensures.value).1

pub unreachable-requires : goal.unreachable-requires
unreachable-requires c =
    let core = c.args.core in
    let l = label_lattice core.hierarchy in
    let at = last-read l core.labels c.args.system.now.constraints.items c.args.refusal.now c.requires.refused
    c.as_slice-chain.result.now c.as_slice-constraints.result.now c.as_slice-chain.ensures.value c.as_slice-constraints.ensures.value
    c.index-constraints-chain.result c.index-constraints-chain.is in
    c.in_default.not-Written _ (right-written l core.labels c.args.system.now.constraints.items c.args.refusal.now c.requires.refused c.index-constraints-chain.result at)

pub overflow_cast-from : goal.overflow_cast-from
overflow_cast-from c =
    let core = c.args.core in
    let l = label_lattice core.hierarchy in
    let at = last-read l core.labels c.args.system.now.constraints.items c.args.refusal.now c.requires.refused
    c.as_slice-chain.result.now c.as_slice-constraints.result.now c.as_slice-chain.ensures.value c.as_slice-constraints.ensures.value
    c.index-constraints-chain.result c.index-constraints-chain.is in
    let inside : c.args.refusal.now.from < length core.labels =
    from-inside core.hierarchy core.labels c.args.refusal.now.from _
    (flow-fails l core.labels c.args.system.now.constraints.items c.args.refusal.now c.requires.refused c.index-constraints-chain.result at c.in-Written.to c.in-Written.is) in
    omega (arith, inside, c.len-count.ensures.few)

pub unreachable-requires-in_default-find_uncovered : goal.unreachable-requires-in_default-find_uncovered
unreachable-requires-in_default-find_uncovered c =
    let core = c.args.core in
    let l = label_lattice core.hierarchy in
    let at = last-read l core.labels c.args.system.now.constraints.items c.args.refusal.now c.requires.refused
    c.as_slice-chain.result.now c.as_slice-constraints.result.now c.as_slice-chain.ensures.value c.as_slice-constraints.ensures.value
    c.index-constraints-chain.result c.index-constraints-chain.is in
    let test = flows core.hierarchy (label_at core.labels c.args.refusal.now.from) (label_at core.labels c.in-Written.to) in
    let no : test ≡ false =
    flow-fails l core.labels c.args.system.now.constraints.items c.args.refusal.now c.requires.refused c.index-constraints-chain.result at c.in-Written.to c.in-Written.is in
    let yes : test ≡ true = c.find_uncovered.ensures.none.0 (none-found c.find_uncovered.result c.in_default-find_uncovered.not-Some) in
    let both : true ≡ false = sym yes ∙ no in
    cc

pub returns-clause-reported : goal.returns-clause-reported
returns-clause-reported c =
    let core = c.args.core in
    let stored = c.args.system.now.constraints.items in
    let at = last-read (label_lattice core.hierarchy) core.labels stored c.args.refusal.now c.requires.refused
    c.as_slice-chain.result.now c.as_slice-constraints.result.now c.as_slice-chain.ensures.value c.as_slice-constraints.ensures.value
    c.index-constraints-chain.result c.index-constraints-chain.is in
    let same : c.in_ok-policy.policy ≡ c.in-Some.policy.now = c.in_ok-policy.ensures.cases in
    flow-reported core stored c.args.refusal.now c.requires.gathered c.requires.refused c.index-constraints-chain.result at c.in-Written.to c.in-Written.is
    c.in_ok-policy.policy
    (subst (λ (p : ReaderPolicy). Contains (label_at core.labels c.args.refusal.now.from) p) (sym same) c.in-Some.ensures.contained)
    (subst (λ (p : ReaderPolicy). ¬ Covers core.hierarchy (label_at core.labels c.in-Written.to) p) (sym same) c.in-Some.ensures.uncovered)
    c.in_ok-steps.steps
    (subst (λ (k : List ℕ). map reported_by c.in_ok-steps.steps.items ≡ flat_map (report_at stored) k) c.as_slice-chain.ensures.value
    (subst (λ (cs : List (Constraint (Option Target))). map reported_by c.in_ok-steps.steps.items ≡ flat_map (report_at cs) c.as_slice-chain.result.now)
    c.as_slice-constraints.ensures.value c.in_ok-steps.ensures))
