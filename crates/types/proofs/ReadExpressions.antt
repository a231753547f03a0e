-- Names that mean what is declared, and the expressions and calls in which they are used: what is found reads as it is written.
use Rattle.types.specs.Views.{CallUse}
use Rattle.std.proofs.Common.{◌≡◌, refl, sym, ◌∙◌, ap, subst, ℕ, List, [], ◌∷◌, ◌++◌, length, Bool, true, false, cond, append-nil, append_assoc}
use Rattle.std.specs.Prelude.{IfOk, Option, Some, None, ◌==◌, bytes_eq, slice_index_or}
use Rattle.std.proofs.lemmas.Result.{IfOk-weaker}
use Rattle.common.specs.declared.operator.Comparison.TheVariants.{Ordered, Matched}
use Rattle.syntax.specs.declared.tree.BinaryOperator.{BinaryOperator}
use Rattle.syntax.specs.declared.tree.BinaryOperator.TheVariants as binary
use Rattle.syntax.specs.Tree.{NameTree, ExpressionTree, IntegerTree, TruthTree, VariableTree, ElementTree, UnaryTree, BinaryTree, CallTree, RightTree, ReceivedTree, CalledTree, ValueTree, expression_at}
use Rattle.common.specs.declared.base_type.BaseType.{BaseType}
use Rattle.common.specs.declared.base_type.BaseType.TheVariants.{Int, Boolean}
use Rattle.resolved.specs.declared.expression.Variable.{Variable}
use Rattle.resolved.specs.declared.expression.Variable.TheVariants.{Global, Local}
use Rattle.common.specs.declared.operator.Operator.TheVariants.{Compute, Compare, Match}
use Rattle.resolved.specs.Program.{Program}
use Rattle.resolved.specs.Tree.{Expression, Placed, Call}
use Rattle.resolved.specs.WellFormed.{same_base, prefix_base}
use Rattle.types.specs.declared.scope.Meaning.{Meaning}
use Rattle.common.specs.declared.direction.Direction.TheVariants as directions
use Rattle.types.specs.declared.scope.ItemKind.{ItemKind}
use Rattle.types.specs.declared.scope.ItemKind.TheVariants.{Channel, Exception, Procedure}
use Rattle.types.specs.declared.scope.Meaning.TheVariants as meanings
use Rattle.common.specs.Results.{along}
use Rattle.types.specs.Finding.{Finding, require}
use Rattle.types.specs.Environment.{Environment, declaring, use_as, scalar_of, array_of, item_of}
use Rattle.types.specs.Expressions.{Typed, of_base, wanting, operands_base, combined, expression_finding, typed_finding}
use Rattle.types.specs.Statements.{arguments_finding, Signature, signature_at, next_argument, call_finding, gives_base, assigned_finding}
use Rattle.types.specs.ReadBack.{NameScope, with_declared, innermost, IsChannel, IsException, IsProcedure, IsVariable, ReadsExpression, ReadInteger, ReadTruth, ReadVariable, ReadElement, ReadUnary, ReadBinary, ReadShort, ReadsArguments, ReadNoArgument, ReadArgument, ReadsRight, ReadReceived, ReadCalled, ReadValue}
use Rattle.types.proofs.Passing.{then_finds, if_finds, any_finds}
use Rattle.types.proofs.Uses.{scalar_used, array_used, item_used}

of_base_finds : (base : BaseType) (at : ℕ) (found : Typed) (P : Expression → Type 0) → P found.0 → IfOk (of_base base at found) P
unfolding of_base
of_base_finds base at found P h = if_finds (same_base found.1 base) found.0 _ at P (λ same. h)

module _ (program : Program) where
  -- ---- what names mean

  abbrev pub IsMeaning : NameScope → NameTree → Meaning → Type 0
  IsMeaning scope name (meanings.Item (Channel direction) n) = IsChannel program scope name n
  IsMeaning scope name (meanings.Item Exception n) = IsException program scope name n
  IsMeaning scope name (meanings.Item Procedure n) = IsProcedure program scope name n
  IsMeaning scope name (meanings.Variable x base size) = IsVariable program scope name x

  -- each name in scope means what is declared
  abbrev pub Agrees : NameScope → Environment → Type 0
  Agrees scope names = (name : NameTree) (meaning : Meaning) → names name.text ≡ Some meaning → IsMeaning scope name meaning

  -- a scope in which the innermost one of a name is the same
  same_meaning : (before after : NameScope) (name : NameTree) (meaning : Meaning)
      → innermost after.visible name.text ≡ innermost before.visible name.text → IsMeaning before name meaning → IsMeaning after name meaning
  same_meaning before after name (meanings.Item (Channel direction) n) same is = (same ∙ is.0, is.1)
  same_meaning before after name (meanings.Item Exception n) same is = (same ∙ is.0, is.1)
  same_meaning before after name (meanings.Item Procedure n) same is = (same ∙ is.0, is.1)
  same_meaning before after name (meanings.Variable (Global n) base size) same is = (same ∙ is.0, is.1)
  same_meaning before after name (meanings.Variable (Local n) base size) same is = same ∙ is

  pub same_scope : (before after : NameScope) (names : Environment) → after.visible ≡ before.visible → Agrees before names → Agrees after names
  same_scope before after names same agrees name meaning e =
      same_meaning before after name meaning (ap (λ visible. innermost visible name.text) same) (agrees name meaning e)

  -- after the declaration of a local
  pub agrees_declaring : (scope : NameScope) (name : NameTree) (at : ℕ) (meaning : Meaning) (names : Environment)
      → ((other : NameTree) → innermost (with_declared scope name at).visible other.text ≡ Some (length scope.declared)
      → IsMeaning (with_declared scope name at) other meaning)
      → Agrees scope names → Agrees (with_declared scope name at) (declaring name.text meaning names)
  agrees_declaring scope name at meaning names new agrees other found e = go (bytes_eq name.text other.text) refl e
    where
      go : (b : Bool) → bytes_eq name.text other.text ≡ b → ◌≡◌ {A = Option Meaning} (cond b (Some meaning) (names other.text)) (Some found)
          → IsMeaning (with_declared scope name at) other found
      go true is e =
          let same : meaning ≡ found = cc in
          subst (IsMeaning (with_declared scope name at) other) same
          (new other (ap (λ b. cond b (Some (length scope.declared)) (innermost scope.visible other.text)) is))
      go false is e =
          same_meaning scope (with_declared scope name at) other found
          (ap (λ b. cond b (Some (length scope.declared)) (innermost scope.visible other.text)) is) (agrees other found e)

  module _ (scope : NameScope) (names : Environment) (agrees : Agrees scope names) where
    -- ---- uses

    pub scalar_reads : (name : NameTree) → IfOk (use_as scalar_of (names name.text) name.at) (λ (x : Variable × BaseType). IsVariable program scope name x.0)
    scalar_reads name =
        IfOk-weaker (use_as scalar_of (names name.text) name.at) _ _ (λ x is. agrees name (meanings.Variable x.0 x.1 None) is) (scalar_used (names name.text) name.at)

    pub array_reads : (name : NameTree) → IfOk (use_as array_of (names name.text) name.at) (λ (a : Variable × BaseType × ℕ). IsVariable program scope name a.0)
    array_reads name =
        IfOk-weaker (use_as array_of (names name.text) name.at) _ _ (λ a is. agrees name (meanings.Variable a.0 a.1 (Some a.2)) is) (array_used (names name.text) name.at)

    pub item_reads : (kind : ItemKind) (name : NameTree) → IfOk (use_as (item_of kind) (names name.text) name.at) (λ n. IsMeaning scope name (meanings.Item kind n))
    item_reads kind name =
        IfOk-weaker (use_as (item_of kind) (names name.text) name.at) _ _ (λ n is. agrees name (meanings.Item kind n) is) (item_used kind (names name.text) name.at)

    -- ---- expressions

    abbrev pub Reads : ExpressionTree → Expression → Type 0
    Reads tree e = ReadsExpression program scope tree e

    combined_reads : (at : ℕ) (operator : BinaryOperator) (base : BaseType) (left right : ExpressionTree) (d e : Expression) → Reads left d → Reads right e
        → Reads (BinaryTree at operator left right) (combined operator base d e)
    combined_reads at (binary.Compute operator) base left right d e p q = ReadBinary {made = Compute operator} refl p q
    combined_reads at (binary.Compare (Ordered order)) base left right d e p q = ReadBinary {made = Compare (Ordered order)} refl p q
    combined_reads at (binary.Compare (Matched sameness)) Int left right d e p q = ReadBinary {made = Compare (Matched sameness)} refl p q
    combined_reads at (binary.Compare (Matched sameness)) Boolean left right d e p q = ReadBinary {made = Match sameness} refl p q
    combined_reads at (binary.Connect connective) base left right d e p q = ReadShort p q

    wanting_reads : (base : BaseType) (at : ℕ) (looked : Finding Typed) (tree : ExpressionTree) → IfOk looked (λ (found : Typed). Reads tree found.0)
        → IfOk (wanting base at looked) (Reads tree)
    wanting_reads base at looked tree h =
        then_finds looked (of_base base at) (λ (found : Typed). Reads tree found.0) (Reads tree) h
        (λ found reads. of_base_finds base at found (Reads tree) reads)

    pub expression_reads : (tree : ExpressionTree) → IfOk (expression_finding names tree) (λ (found : Typed). Reads tree found.0)
    unfolding expression_finding
    expression_reads (IntegerTree at value) = ReadInteger
    expression_reads (TruthTree at value) = ReadTruth
    expression_reads (VariableTree name) =
        then_finds (use_as scalar_of (names name.text) name.at) _ (λ (x : Variable × BaseType). IsVariable program scope name x.0) _ (scalar_reads name)
        (λ x is. ReadVariable is)
    expression_reads (ElementTree array index) =
        then_finds (use_as array_of (names array.text) array.at) _ (λ (a : Variable × BaseType × ℕ). IsVariable program scope array a.0) _ (array_reads array) (λ a is.
        then_finds (wanting Int (expression_at index) (expression_finding names index)) _ (Reads index) _
        (wanting_reads Int (expression_at index) (expression_finding names index) index (expression_reads index)) (λ i reads. ReadElement is reads))
    expression_reads (UnaryTree at prefix operand) =
        let base = prefix_base prefix in
        then_finds (wanting base (expression_at operand) (expression_finding names operand)) _ (Reads operand) _
        (wanting_reads base (expression_at operand) (expression_finding names operand) operand (expression_reads operand))
        (λ e reads. ReadUnary reads)
    expression_reads (BinaryTree at operator left right) =
        then_finds (expression_finding names left) _ (λ (found : Typed). Reads left found.0) _ (expression_reads left) (λ l left_reads.
        let base = operands_base operator l.1 in
        then_finds (of_base base (expression_at left) l) _ (Reads left) _ (of_base_finds base (expression_at left) l (Reads left) left_reads) (λ d d_reads.
        then_finds (expression_finding names right) _ (λ (found : Typed). Reads right found.0) _ (expression_reads right) (λ r right_reads.
        then_finds (of_base base (expression_at right) r) _ (Reads right) _ (of_base_finds base (expression_at right) r (Reads right) right_reads)
        (λ e e_reads. combined_reads at operator l.1 left right d e d_reads e_reads))))

    pub typed_reads : (base : BaseType) (tree : ExpressionTree) → IfOk (typed_finding names base tree) (Reads tree)
    unfolding typed_finding
    typed_reads base tree = wanting_reads base (expression_at tree) (expression_finding names tree) tree (expression_reads tree)

    -- ---- calls and right sides

    -- after those that were found before
    record ArgumentsRead (before : List Expression) (arguments : List ExpressionTree) (found : List Expression) : Type 0 where
      pub more : List Expression
      pub found_is : found ≡ before ++ more
      pub reads : ReadsArguments program scope arguments more

    arguments_read : (parameters : List BaseType) (before : List Expression) (arguments : List ExpressionTree)
        → IfOk (along (next_argument names parameters) before arguments) (ArgumentsRead before arguments)
    arguments_read parameters before [] = record { more = []; found_is = sym (append-nil before); reads = ReadNoArgument }
    arguments_read parameters before (argument ∷ arguments) =
        let wanted = slice_index_or parameters (length before) Int in
        then_finds (next_argument names parameters before argument) (λ next. along (next_argument names parameters) next arguments)
        (λ next. (e : Expression) × (next ≡ before ++ e ∷ []) × Reads argument e) _
        (then_finds (typed_finding names wanted argument) _ (Reads argument) _ (typed_reads wanted argument) (λ e reads. (e, refl, reads)))
        (λ next parts.
        let (e, same, first) = parts in
        IfOk-weaker (along (next_argument names parameters) next arguments) (ArgumentsRead next arguments) (ArgumentsRead before (argument ∷ arguments))
        (λ found rest. record {
          more = e ∷ rest.more;
          found_is = rest.found_is ∙ ap (λ one. one ++ rest.more) same ∙ append_assoc before (e ∷ []) rest.more;
          reads = ReadArgument first rest.reads;
        })
        (arguments_read parameters next arguments))

    pub call_reads : (signatures : List Signature) (call : CallTree)
        → IfOk (call_finding signatures names call)
        (λ (made : CallUse). IsProcedure program scope call.0 made.0 × ReadsArguments program scope call.1 made.1)
    unfolding call_finding
    call_reads signatures call =
        then_finds (use_as (item_of Procedure) (names call.0.text) call.0.at) _ (IsProcedure program scope call.0) _
        (item_reads Procedure call.0) (λ number is.
        let signature = signature_at signatures number in
        then_finds (require (length signature.parameters == length call.1) _ call.0.at) _ (λ one. Unit {0}) _
        (any_finds (require (length signature.parameters == length call.1) _ call.0.at)) (λ one nothing.
        then_finds (along (next_argument names signature.parameters) [] call.1) _ (ArgumentsRead [] call.1) _
        (arguments_read signature.parameters [] call.1)
        (λ arguments read. (is, subst (ReadsArguments program scope call.1) (sym read.found_is) read.reads))))

    pub right_reads : (signatures : List Signature) (at : ℕ) (x : Variable) (base : BaseType) (right : RightTree)
        → IfOk (assigned_finding signatures names at x base right) (ReadsRight program scope at x right)
    unfolding assigned_finding
    right_reads signatures at x base (ReceivedTree receive_at channel) =
        then_finds (require (same_base Int base) _ receive_at) _ (λ one. Unit {0}) _ (any_finds (require (same_base Int base) _ receive_at)) (λ one nothing.
        then_finds (use_as (item_of (Channel directions.Input)) (names channel.text) channel.at) _ (IsChannel program scope channel) _ (item_reads (Channel directions.Input) channel) (λ number is. ReadReceived is))
    right_reads signatures at x base (CalledTree call) =
        then_finds (call_finding signatures names call) _
        (λ (made : CallUse). IsProcedure program scope call.0 made.0 × ReadsArguments program scope call.1 made.1) _
        (call_reads signatures call) (λ made parts.
        if_finds (gives_base base made.2) (Placed at (Call made.0 made.1 (Some x))) _ call.0.at _ (λ given. ReadCalled parts.0 parts.1))
    right_reads signatures at x base (ValueTree value) =
        then_finds (typed_finding names base value) _ (Reads value) _ (typed_reads base value) (λ e reads. ReadValue reads)
