-- Names that stand for entries of a program and of a procedure, and the expressions in which they are used: each that is found has
-- its base type there.
use Rattle.std.proofs.Common.{◌≡◌, refl, sym, subst, ℕ, ◌+◌, ◌≤◌, List, map, Bool, true, false, cond, arith}
use Rattle.std.specs.Prelude.{IfOk, Option, Some, None, ◌==◌, slice_get, bytes_eq}
use Rattle.std.proofs.lemmas.Result.{IfOk-weaker}
use Rattle.std.proofs.lemmas.Bool.{le-leb, eq-eqb, and_from}
use Rattle.common.specs.declared.operator.Comparison.TheVariants.{Ordered, Matched}
use Rattle.syntax.specs.declared.tree.BinaryOperator.{BinaryOperator}
use Rattle.syntax.specs.declared.tree.BinaryOperator.TheVariants as binary
use Rattle.syntax.specs.Nodes.{expression_nodes as written_nodes}
use Rattle.syntax.specs.Tree.{NameTree, ExpressionTree, IntegerTree, TruthTree, VariableTree, ElementTree, UnaryTree, BinaryTree, expression_at}
use Rattle.syntax.specs.Written.{IsInteger, IsWrittenExpression}
use Rattle.common.specs.declared.base_type.BaseType.{BaseType}
use Rattle.resolved.specs.declared.expression.Variable.{Variable}
use Rattle.common.specs.declared.base_type.BaseType.TheVariants.{Int, Boolean}
use Rattle.resolved.specs.Program.{Program, ProcedureEntry, SlotEntry, ResultEntry}
use Rattle.resolved.specs.Tree.{Expression}
use Rattle.resolved.specs.WellFormed.{same_base, prefix_base, VariableType, variable_type, scalar_by, array_by, has_base, channel_is, is_exception, parameters_of, expression_nodes}
use Rattle.resolved.proofs.Sound.Values.{same_base_is, same_base_itself}
use Rattle.types.specs.declared.scope.Meaning.{Meaning}
use Rattle.types.specs.declared.scope.ItemKind.{ItemKind}
use Rattle.types.specs.declared.scope.ItemKind.TheVariants.{Channel, Exception, Procedure}
use Rattle.types.specs.declared.scope.Meaning.TheVariants as meanings
use Rattle.types.specs.Finding.{Finding}
use Rattle.types.specs.Environment.{Environment, declaring, use_as, scalar_of, array_of, item_of}
use Rattle.types.specs.Expressions.{Typed, of_base, wanting, operands_base, value_base, combined, expression_finding, typed_finding}
use Rattle.types.specs.Statements.{Signature, signature_at}
use Rattle.types.proofs.Passing.{then_finds, if_finds}
use Rattle.types.proofs.Uses.{scalar_used, array_used, item_used}
use Rattle.common.specs.declared.limits.TheConstants.{MAX_INTEGER}

-- ---- what names stand for

-- the type of a procedure's value, if it gives one
abbrev pub given_base : Option ResultEntry → Option BaseType
given_base None = None
given_base (Some entry) = Some entry.base

abbrev pub slot_base : SlotEntry → BaseType
slot_base slot = slot.base

-- a procedure has this signature
pub record Signed (callee : ProcedureEntry) (signature : Signature) : Type 0 where
  pub parameters : map slot_base (parameters_of callee) ≡ signature.parameters
  pub value : given_base callee.result ≡ signature.result

abbrev pub scalar_type : BaseType → Option VariableType
scalar_type base = Some (record { base = base; size = None })

abbrev pub array_type : BaseType → ℕ → Option VariableType
array_type base size = Some (record { base = base; size = Some size })

module _ (program : Program) (procedure : ProcedureEntry) (signatures : List Signature) where
  -- an entry is there under the number, and is what the meaning says
  abbrev pub Stands : Meaning → Type 0
  Stands (meanings.Item (Channel direction) channel) = channel_is (slice_get program.channels channel) direction ≡ true
  Stands (meanings.Item Exception number) = is_exception program number ≡ true
  Stands (meanings.Item Procedure number) =
      (callee : ProcedureEntry) × (slice_get program.procedures number ≡ Some callee) × Signed callee (signature_at signatures number)
  Stands (meanings.Variable x base size) = variable_type program procedure x ≡ Some (record { base = base; size = size })

  -- each name in scope stands for an entry
  abbrev pub Means : Environment → Type 0
  Means names = (name : List ℕ) (meaning : Meaning) → names name ≡ Some meaning → Stands meaning

  pub means_declaring : (name : List ℕ) (meaning : Meaning) (names : Environment) → Stands meaning → Means names → Means (declaring name meaning names)
  means_declaring name meaning names stands means other found e = go (bytes_eq name other) e
    where
      go : (b : Bool) → ◌≡◌ {A = Option Meaning} (cond b (Some meaning) (names other)) (Some found) → Stands found
      go true e =
          let same : meaning ≡ found = cc in
          subst Stands same stands
      go false e = means other found e

  -- ---- uses

  pub scalar_found : (names : Environment) (name : NameTree)
      → IfOk (use_as scalar_of (names name.text) name.at) (λ (x : Variable × BaseType). Means names → variable_type program procedure x.0 ≡ scalar_type x.1)
  scalar_found names name =
      IfOk-weaker (use_as scalar_of (names name.text) name.at) _ _ (λ x is means. means name.text (meanings.Variable x.0 x.1 None) is) (scalar_used (names name.text) name.at)

  pub array_found : (names : Environment) (name : NameTree)
      → IfOk (use_as array_of (names name.text) name.at) (λ (a : Variable × BaseType × ℕ). Means names → variable_type program procedure a.0 ≡ array_type a.1 a.2)
  array_found names name =
      IfOk-weaker (use_as array_of (names name.text) name.at) _ _ (λ a is means. means name.text (meanings.Variable a.0 a.1 (Some a.2)) is) (array_used (names name.text) name.at)

  pub item_found : (kind : ItemKind) (names : Environment) (name : NameTree)
      → IfOk (use_as (item_of kind) (names name.text) name.at) (λ n. Means names → Stands (meanings.Item kind n))
  item_found kind names name =
      IfOk-weaker (use_as (item_of kind) (names name.text) name.at) _ _ (λ n is means. means name.text (meanings.Item kind n) is) (item_used kind (names name.text) name.at)

  -- ---- expressions

  -- an expression of a base type that has no more nodes than the written one
  pub record IsWellFormedTyped (names : Environment) (base : BaseType) (written : ℕ) (e : Expression) : Type 0 where
    pub fits : Means names → has_base program procedure base e ≡ true
    pub few : expression_nodes e ≤ written

  abbrev pub IsWellFormedExpression : Environment → ℕ → Typed → Type 0
  IsWellFormedExpression names written found = IsWellFormedTyped names found.1 written found.0

  of_base_keeps : (names : Environment) (base : BaseType) (at written : ℕ) (found : Typed) → IsWellFormedExpression names written found
      → IfOk (of_base base at found) (IsWellFormedTyped names base written)
  unfolding of_base
  of_base_keeps names base at written found kept =
      if_finds (same_base found.1 base) found.0 _ at (IsWellFormedTyped names base written) (λ same. record {
        fits = λ means. subst (λ one. has_base program procedure one found.0 ≡ true) (same_base_is found.1 base same) (kept.fits means);
        few = kept.few;
      })

  wanting_keeps : (names : Environment) (base : BaseType) (at written : ℕ) (looked : Finding Typed) → IfOk looked (IsWellFormedExpression names written)
      → IfOk (wanting base at looked) (IsWellFormedTyped names base written)
  wanting_keeps names base at written looked h =
      then_finds looked (of_base base at) (IsWellFormedExpression names written) (IsWellFormedTyped names base written) h
      (λ found kept. of_base_keeps names base at written found kept)

  scalar_read : (found : Option VariableType) (base : BaseType) → found ≡ scalar_type base → scalar_by found (same_base base) ≡ true
  scalar_read found base e = subst (λ one. scalar_by one (same_base base) ≡ true) (sym e) (same_base_itself base)

  element_read : (found : Option VariableType) (base : BaseType) (size : ℕ) → found ≡ array_type base size → array_by found size (same_base base) ≡ true
  element_read found base size e =
      subst (λ one. array_by one size (same_base base) ≡ true) (sym e)
      (and_from (size == size) (same_base base base) (eq-eqb size size refl) (same_base_itself base))

  combined_fits : (operator : BinaryOperator) (base : BaseType) (d e : Expression)
      → has_base program procedure (operands_base operator base) d ≡ true
      → has_base program procedure (operands_base operator base) e ≡ true
      → has_base program procedure (value_base operator base) (combined operator base d e) ≡ true
  combined_fits (binary.Compute operator) base d e = and_from (has_base program procedure Int d) (has_base program procedure Int e)
  combined_fits (binary.Compare (Ordered order)) base d e = and_from (has_base program procedure Int d) (has_base program procedure Int e)
  combined_fits (binary.Compare (Matched sameness)) Int d e = and_from (has_base program procedure Int d) (has_base program procedure Int e)
  combined_fits (binary.Compare (Matched sameness)) Boolean d e = and_from (has_base program procedure Boolean d) (has_base program procedure Boolean e)
  combined_fits (binary.Connect connective) base d e = and_from (has_base program procedure Boolean d) (has_base program procedure Boolean e)

  combined_nodes : (operator : BinaryOperator) (base : BaseType) (d e : Expression)
      → expression_nodes (combined operator base d e) ≡ 1 + expression_nodes d + expression_nodes e
  combined_nodes (binary.Compute operator) base d e = refl
  combined_nodes (binary.Compare (Ordered order)) base d e = refl
  combined_nodes (binary.Compare (Matched sameness)) Int d e = refl
  combined_nodes (binary.Compare (Matched sameness)) Boolean d e = refl
  combined_nodes (binary.Connect connective) base d e = refl

  module _ (fits : ℕ → Type 0) (word : List ℕ → Type 0) (names : Environment) where
    pub expression_keeps : (tree : ExpressionTree) → IsWrittenExpression fits word IsInteger tree
        → IfOk (expression_finding names tree) (IsWellFormedExpression names (written_nodes tree))
    unfolding expression_finding
    expression_keeps (IntegerTree at value) written =
        record { fits = λ means. le-leb value MAX_INTEGER written.1; few = omega arith }
    expression_keeps (TruthTree at value) written = record { fits = λ means. refl; few = omega arith }
    expression_keeps (VariableTree name) written =
        then_finds (use_as scalar_of (names name.text) name.at) _
        (λ (x : Variable × BaseType). Means names → variable_type program procedure x.0 ≡ scalar_type x.1) _
        (scalar_found names name) (λ x stands. record {
          fits = λ means. scalar_read (variable_type program procedure x.0) x.1 (stands means);
          few = omega arith;
        })
    expression_keeps (ElementTree array index) written =
        then_finds (use_as array_of (names array.text) array.at) _
        (λ (a : Variable × BaseType × ℕ). Means names → variable_type program procedure a.0 ≡ array_type a.1 a.2) _
        (array_found names array) (λ a stands.
        then_finds (wanting Int (expression_at index) (expression_finding names index)) _ (IsWellFormedTyped names Int (written_nodes index)) _
        (wanting_keeps names Int (expression_at index) (written_nodes index) (expression_finding names index) (expression_keeps index written.1))
        (λ i kept. record {
          fits =
              λ means. and_from (array_by (variable_type program procedure a.0) a.2 (same_base a.1)) (has_base program procedure Int i)
              (element_read (variable_type program procedure a.0) a.1 a.2 (stands means)) (kept.fits means);
          few = omega (arith, kept.few);
        }))
    expression_keeps (UnaryTree at prefix operand) written =
        let base = prefix_base prefix in
        then_finds (wanting base (expression_at operand) (expression_finding names operand)) _ (IsWellFormedTyped names base (written_nodes operand)) _
        (wanting_keeps names base (expression_at operand) (written_nodes operand) (expression_finding names operand) (expression_keeps operand written.1))
        (λ e kept. record {
          fits = λ means. and_from (same_base base base) (has_base program procedure base e) (same_base_itself base) (kept.fits means);
          few = omega (arith, kept.few);
        })
    expression_keeps (BinaryTree at operator left right) written =
        then_finds (expression_finding names left) _ (IsWellFormedExpression names (written_nodes left)) _ (expression_keeps left written.1) (λ l left_kept.
        let base = operands_base operator l.1 in
        then_finds (of_base base (expression_at left) l) _ (IsWellFormedTyped names base (written_nodes left)) _
        (of_base_keeps names base (expression_at left) (written_nodes left) l left_kept) (λ d d_kept.
        then_finds (expression_finding names right) _ (IsWellFormedExpression names (written_nodes right)) _ (expression_keeps right written.2) (λ r right_kept.
        then_finds (of_base base (expression_at right) r) _ (IsWellFormedTyped names base (written_nodes right)) _
        (of_base_keeps names base (expression_at right) (written_nodes right) r right_kept) (λ e e_kept. record {
          fits = λ means. combined_fits operator l.1 d e (d_kept.fits means) (e_kept.fits means);
          few = omega (arith, combined_nodes operator l.1 d e, d_kept.few, e_kept.few);
        }))))

    pub typed_keeps : (base : BaseType) (tree : ExpressionTree) → IsWrittenExpression fits word IsInteger tree
        → IfOk (typed_finding names base tree) (IsWellFormedTyped names base (written_nodes tree))
    unfolding typed_finding
    typed_keeps base tree written =
        wanting_keeps names base (expression_at tree) (written_nodes tree) (expression_finding names tree) (expression_keeps tree written)
