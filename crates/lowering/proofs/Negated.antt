-- Conditions that are negated keep their base type.
use Rattle.std.proofs.Common.{◌≡◌, refl, Bool, true, false, ◌&&◌}
use Rattle.std.proofs.lemmas.Bool.{and_parts}
use Rattle.common.specs.declared.base_type.BaseType.{BaseType}
use Rattle.common.specs.declared.base_type.BaseType.TheVariants as base
use Rattle.common.specs.declared.operator.Operator.{Operator}
use Rattle.common.specs.declared.operator.Operator.TheVariants as operator
use Rattle.resolved.specs.Tree.{Expression, Integer, Logical, Read, Element, Unary, Binary, Short}
use Rattle.resolved.specs.Program.{Program, ProcedureEntry}
use Rattle.resolved.specs.WellFormed.{has_base, same_base, operand_base, result_base}
use Rattle.resolved.proofs.Sound.Values.{same_base_is}
use Rattle.lowering.specs.Expressions.{negated_operator, negated, tested}

negated_bases : (op : Operator) → result_base op ≡ base.Boolean → (result_base (negated_operator op) ≡ base.Boolean) × (operand_base (negated_operator op) ≡ operand_base op)
negated_bases (operator.Compare compared) e = (refl, refl)
negated_bases (operator.Match matched) e = (refl, refl)
negated_bases (operator.Compute computed) e = cc

-- the operands of an operator whose value has a base type
pub record OperandsFit (program : Program) (procedure : ProcedureEntry) (wanted : BaseType) (op : Operator) (d e : Expression) : Type 0 where
  pub result : result_base op ≡ wanted
  pub left : has_base program procedure (operand_base op) d ≡ true
  pub right : has_base program procedure (operand_base op) e ≡ true

pub operands-fit : (program : Program) (procedure : ProcedureEntry) (wanted : BaseType) (op : Operator) (d e : Expression)
    → has_base program procedure wanted (Binary op d e) ≡ true → OperandsFit program procedure wanted op d e
operands-fit program procedure wanted op d e typed =
    let outer = and_parts (same_base (result_base op) wanted && has_base program procedure (operand_base op) d) (has_base program procedure (operand_base op) e) typed in
    let inner = and_parts (same_base (result_base op) wanted) (has_base program procedure (operand_base op) d) outer.0 in
    record { result = same_base_is (result_base op) wanted inner.0; left = inner.1; right = outer.1 }

module _ (program : Program) (procedure : ProcedureEntry) where
  pub negated-fits : (e : Expression) → has_base program procedure base.Boolean e ≡ true → has_base program procedure base.Boolean (negated e) ≡ true
  negated-fits (Integer n) typed = typed
  negated-fits (Logical b) typed = typed
  negated-fits (Read x) typed = typed
  negated-fits (Element array count index) typed = typed
  negated-fits (Unary sign e) typed = typed
  negated-fits (Binary op d e) typed =
      let parts = operands-fit program procedure base.Boolean op d e typed in
      let bases = negated_bases op parts.result in
      rw (bases.0, bases.1, parts.left, parts.right) refl
  negated-fits (Short connective d e) typed = typed

  pub tested-fits : (wanted : Bool) (e : Expression) → has_base program procedure base.Boolean e ≡ true → has_base program procedure base.Boolean (tested wanted e) ≡ true
  tested-fits true e typed = negated-fits e typed
  tested-fits false e typed = typed
