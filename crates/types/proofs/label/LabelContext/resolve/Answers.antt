use Rattle.std.proofs.Common.{◌≡◌, ℕ, ◌<◌, ◌∙◌, List, ap, map, sym, refl, arith, get_or, length, Ok}
use Rattle.std.proofs.lemmas.List.{get_or_default}
use Rattle.std.proofs.lemmas.Result.{err_from_is_err_and}
use Rattle.syntax.specs.declared.tree.Component.{Component}
use Rattle.syntax.specs.declared.tree.Component.TheVariants as components
use Rattle.syntax.specs.Tree.{label_tree, name_tree}
use Rattle.types.specs.VariableEntries.{label_with}
use Rattle.types.specs.Views.{label_scope_of}
use Rattle.types.proofs.GatheredLabels.{gathers_none, policy_gathered, policy_wrong, label_gathered, label_wrong, label_is_wrong, label_is_gathered}
use Rattle.types.proofs.label.LabelContext.resolve.Goals as goal
use Rattle.types.proofs.label.LabelContext.resolve.Goals.{in-Policy+in_ok-resolve_policy-in-Policy+in_ok-push-in-Policy, in-Variable+in_ok-label_of-in-Variable+in_ok-push-in-Variable}

-- the component that is looked at stands in the list, whatever would be given past its end
element_is : (all : List Component) (i : ℕ) (other one : Component) → get_or all i other ≡ one → i < length all → one ≡ get_or all i one
element_is all i other one e within = sym e ∙ get_or_default all i other one within

pub loop-component-init : goal.loop-component-init
loop-component-init c =
    gathers_none (label_scope_of c.args.self.now) c.args.self.now.variables.now.labels c.args.written.now.components.now c.new-own.result.items c.new-named.result.items c.new-own.ensures.items c.new-named.ensures.items

pub returns-in_err-resolve_policy-in-Policy : goal.returns-in_err-resolve_policy-in-Policy
returns-in_err-resolve_policy-in-Policy c =
    let p = err_from_is_err_and c.from_residual.result c.from_residual.ensures.1 in
    let fault = c.in_err-resolve_policy-in-Policy.field-0.0 in
    rw (p.1, p.2) (label_is_wrong (label_scope_of c.args.self.now) (label_tree c.args.written.now) c.args.written.now.components.now refl fault
    (policy_wrong c.loop-component.invariant (components.Policy c.in-Policy.owner c.in-Policy.readers) (element_is c.args.written.now.components.now c.loop-component.component-index _ _ c.in-Policy.is c.loop-component-test.true) c.loop-component-test.true (name_tree c.in-Policy.owner) (map name_tree c.in-Policy.readers.now)
    refl fault c.in_err-resolve_policy-in-Policy.ensures.made))

pub returns-in_err-label_of-in-Variable : goal.returns-in_err-label_of-in-Variable
returns-in_err-label_of-in-Variable c =
    let p = err_from_is_err_and c.from_residual-in_err-label_of-in-Variable.result c.from_residual-in_err-label_of-in-Variable.ensures.1 in
    let fault = c.in_err-label_of-in-Variable.field-0.0 in
    rw (p.1, p.2) (label_is_wrong (label_scope_of c.args.self.now) (label_tree c.args.written.now) c.args.written.now.components.now refl fault
    (label_wrong c.loop-component.invariant (components.Variable c.in-Variable.name) (element_is c.args.written.now.components.now c.loop-component.component-index _ _ c.in-Variable.is c.loop-component-test.true) c.loop-component-test.true (name_tree c.in-Variable.name) refl fault
    c.in_err-label_of-in-Variable.ensures))

pub loop-component-preserved : goal.loop-component-preserved
loop-component-preserved c = elim c.match-component.branch [
  | in-Policy+in_ok-resolve_policy-in-Policy+in_ok-push-in-Policy w ↦
      rw (w.own-is, w.named-is, w.in_ok-push-in-Policy.ensures.items) (policy_gathered c.loop-component.invariant (components.Policy w.in-Policy.owner w.in-Policy.readers) (element_is c.args.written.now.components.now c.loop-component.component-index _ _ w.in-Policy.is c.loop-component-test.true) c.loop-component-test.true
      (name_tree w.in-Policy.owner) (map name_tree w.in-Policy.readers.now) refl
      _ w.in_ok-resolve_policy-in-Policy.ensures.made w.in_ok-resolve_policy-in-Policy.ensures.canonical)
  | in-Variable+in_ok-label_of-in-Variable+in_ok-push-in-Variable w ↦
      rw (w.own-is, w.named-is, w.in_ok-push-in-Variable.ensures.items) (label_gathered c.loop-component.invariant (components.Variable w.in-Variable.name) (element_is c.args.written.now.components.now c.loop-component.component-index _ _ w.in-Variable.is c.loop-component-test.true) c.loop-component-test.true
      (name_tree w.in-Variable.name) refl _ w.in_ok-label_of-in-Variable.ensures)
]

pub returns : goal.returns
returns c =
    label_is_gathered (label_scope_of c.args.self.now) (label_tree c.args.written.now) c.args.written.now.components.now refl
    c.loop-component.invariant (omega arith)
    ∙ ap (λ parts. Ok (label_with c.args.self.now.variables.now.labels parts)) (sym c.of.ensures)
