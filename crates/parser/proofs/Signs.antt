-- The grammar leaves nothing out, and its tables give what the code does.
use Prim.Native.String.{String}
use Rattle.lexer.specs.TokenKind.{word_of}
use Rattle.lexer.specs.KindOf.{kind_of}
use Rattle.std.proofs.Common.{◌≡◌, ℕ, List, [], ◌∷◌, Bool, true, false, refl, ap, ◌∙◌}
use Rattle.std.specs.Prelude.{Some, slice_index_or}
use Rattle.lexer.specs.declared.token.Kind.{Kind}
use Rattle.lexer.specs.declared.token.Kind.TheVariants as kinds
use Rattle.lexer.specs.Terminal.{Terminal}
use Rattle.common.specs.declared.direction.Direction.{Direction}
use Rattle.common.specs.declared.direction.Direction.TheVariants as directions
use Rattle.syntax.specs.declared.line.Line.{Line}
use Rattle.syntax.specs.declared.line.Line.TheVariants as the_lines
use Rattle.common.specs.declared.base_type.BaseType.{BaseType}
use Rattle.common.specs.declared.base_type.BaseType.TheVariants as bases
use Rattle.syntax.specs.declared.tree.BinaryOperator.{BinaryOperator}
use Rattle.syntax.specs.declared.tree.BinaryOperator.TheVariants.{Compute, Compare, Connect}
use Rattle.common.specs.declared.operator.Prefix.{Prefix}
use Rattle.common.specs.declared.operator.Prefix.TheVariants.{Negate, Not}
use Rattle.common.specs.declared.operator.Arithmetic.TheVariants.{Add, Subtract, Multiply, Divide, Remainder, Bits}
use Rattle.common.specs.declared.operator.BitOperator.TheVariants as bits
use Rattle.common.specs.declared.operator.Comparison.TheVariants.{Ordered, Matched}
use Rattle.common.specs.declared.operator.Order.TheVariants.{LessThan, AtMost, GreaterThan, AtLeast}
use Rattle.common.specs.declared.operator.Sameness.TheVariants.{Same, Different}
use Rattle.common.specs.declared.operator.Connective.TheVariants.{And, Or}
use Rattle.parser.specs.ReadForm.{table}
use Rattle.syntax.specs.Form.{one_of}
use Rattle.syntax.specs.Grammar.{base, direction, truth, signs, lines, paired}
use Rattle.syntax.specs.Laws.{EachIsThere, SpellsAlone}
use Rattle.parser.specs.Parts.{operator_of}
use Rattle.parser.specs.Reading.{operator_by, line_number, kind_at, word_at}
use Rattle.parser.proofs.AllKinds.{word_coded}

-- the operator of a line by its sign, as the code finds it
operator_is : (line : Line) (kind : Kind) → operator_of (line_number line) (word_of (kind_of kind)) ≡ operator_by line kind
operator_is the_lines.Product kinds.End = refl
operator_is the_lines.Product _ = refl
operator_is the_lines.Sum kinds.End = refl
operator_is the_lines.Sum _ = refl
operator_is the_lines.Shift kinds.End = refl
operator_is the_lines.Shift _ = refl
operator_is the_lines.Relation kinds.End = refl
operator_is the_lines.Relation _ = refl
operator_is the_lines.Equality kinds.End = refl
operator_is the_lines.Equality _ = refl
operator_is the_lines.BitAnd kinds.End = refl
operator_is the_lines.BitAnd _ = refl
operator_is the_lines.BitXor kinds.End = refl
operator_is the_lines.BitXor _ = refl
operator_is the_lines.BitOr kinds.End = refl
operator_is the_lines.BitOr _ = refl
operator_is (the_lines.Connected And) kinds.End = refl
operator_is (the_lines.Connected And) _ = refl
operator_is (the_lines.Connected Or) kinds.End = refl
operator_is (the_lines.Connected Or) _ = refl

pub operator_meant : (line : Line) (tokens : List Terminal) → operator_of (line_number line) (word_at tokens) ≡ operator_by line (kind_at tokens)
operator_meant line tokens = ap (operator_of (line_number line)) (word_coded tokens) ∙ operator_is line (kind_at tokens)

-- a token of a kind, of which nothing else counts
abbrev token_of : Kind → Terminal
token_of kind = record { kind = kind_of kind; text = []; start = 0; end = 0 }

-- it spells what a table has for its kind
alone : {A : Type 0} (rows : List (String × A)) (kind : Kind) (tree : A) → table rows (word_of (kind_of kind)) ≡ Some tree → SpellsAlone (one_of rows) (token_of kind) tree
alone rows kind tree means =
    let token = token_of kind in
    let tokens = token ∷ [] in (
      0,
      (
        λ found. (token.start, found),
        tree,
        tokens,
        (
          paired,
          token.start,
          tokens,
          (refl, refl),
          (λ token. token.start, token, tokens, (refl, refl), ([], refl, refl), refl),
          refl,
        ),
        (token, refl, means),
        refl,
      ),
    )

binary_there : (operator : BinaryOperator) → (line : ℕ) × (token : Terminal) × SpellsAlone (one_of (slice_index_or lines line [])) token operator
binary_there (Compute Multiply) = (0, token_of kinds.Star, alone (slice_index_or lines 0 []) kinds.Star (Compute Multiply) refl)
binary_there (Compute Divide) = (0, token_of kinds.Slash, alone (slice_index_or lines 0 []) kinds.Slash (Compute Divide) refl)
binary_there (Compute Remainder) = (0, token_of kinds.Percent, alone (slice_index_or lines 0 []) kinds.Percent (Compute Remainder) refl)
binary_there (Compute Add) = (1, token_of kinds.Plus, alone (slice_index_or lines 1 []) kinds.Plus (Compute Add) refl)
binary_there (Compute Subtract) = (1, token_of kinds.Minus, alone (slice_index_or lines 1 []) kinds.Minus (Compute Subtract) refl)
binary_there (Compute (Bits bits.ShiftLeft)) = (2, token_of kinds.ShiftLeft, alone (slice_index_or lines 2 []) kinds.ShiftLeft (Compute (Bits bits.ShiftLeft)) refl)
binary_there (Compute (Bits bits.ShiftRight)) = (2, token_of kinds.ShiftRight, alone (slice_index_or lines 2 []) kinds.ShiftRight (Compute (Bits bits.ShiftRight)) refl)
binary_there (Compute (Bits bits.ShiftRightUnsigned)) = (2, token_of kinds.ShiftRightUnsigned, alone (slice_index_or lines 2 []) kinds.ShiftRightUnsigned (Compute (Bits bits.ShiftRightUnsigned)) refl)
binary_there (Compare (Ordered LessThan)) = (3, token_of kinds.LessThan, alone (slice_index_or lines 3 []) kinds.LessThan (Compare (Ordered LessThan)) refl)
binary_there (Compare (Ordered AtMost)) = (3, token_of kinds.AtMost, alone (slice_index_or lines 3 []) kinds.AtMost (Compare (Ordered AtMost)) refl)
binary_there (Compare (Ordered GreaterThan)) = (3, token_of kinds.GreaterThan, alone (slice_index_or lines 3 []) kinds.GreaterThan (Compare (Ordered GreaterThan)) refl)
binary_there (Compare (Ordered AtLeast)) = (3, token_of kinds.AtLeast, alone (slice_index_or lines 3 []) kinds.AtLeast (Compare (Ordered AtLeast)) refl)
binary_there (Compare (Matched Same)) = (4, token_of kinds.EqualTo, alone (slice_index_or lines 4 []) kinds.EqualTo (Compare (Matched Same)) refl)
binary_there (Compare (Matched Different)) = (4, token_of kinds.NotEqualTo, alone (slice_index_or lines 4 []) kinds.NotEqualTo (Compare (Matched Different)) refl)
binary_there (Compute (Bits bits.BitAnd)) = (5, token_of kinds.BitAnd, alone (slice_index_or lines 5 []) kinds.BitAnd (Compute (Bits bits.BitAnd)) refl)
binary_there (Compute (Bits bits.BitXor)) = (6, token_of kinds.BitXor, alone (slice_index_or lines 6 []) kinds.BitXor (Compute (Bits bits.BitXor)) refl)
binary_there (Compute (Bits bits.BitOr)) = (7, token_of kinds.BitOr, alone (slice_index_or lines 7 []) kinds.BitOr (Compute (Bits bits.BitOr)) refl)
binary_there (Connect And) = (8, token_of kinds.And, alone (slice_index_or lines 8 []) kinds.And (Connect And) refl)
binary_there (Connect Or) = (9, token_of kinds.Or, alone (slice_index_or lines 9 []) kinds.Or (Connect Or) refl)

unary_there : (operator : Prefix) → (token : Terminal) × SpellsAlone (one_of signs) token operator
unary_there Negate = (token_of kinds.Minus, alone signs kinds.Minus Negate refl)
unary_there Not = (token_of kinds.Not, alone signs kinds.Not Not refl)

base_there : (tree : BaseType) → (token : Terminal) × SpellsAlone base token tree
unfolding base
base_there bases.Int = (token_of kinds.Int, alone (("int", bases.Int) ∷ ("boolean", bases.Boolean) ∷ []) kinds.Int bases.Int refl)
base_there bases.Boolean = (token_of kinds.Boolean, alone (("int", bases.Int) ∷ ("boolean", bases.Boolean) ∷ []) kinds.Boolean bases.Boolean refl)

truth_there : (tree : Bool) → (token : Terminal) × SpellsAlone truth token tree
unfolding truth
truth_there true = (token_of kinds.True, alone (("true", true) ∷ ("false", false) ∷ []) kinds.True true refl)
truth_there false = (token_of kinds.False, alone (("true", true) ∷ ("false", false) ∷ []) kinds.False false refl)

direction_there : (tree : Direction) → (token : Terminal) × SpellsAlone direction token tree
direction_there directions.Input = (token_of kinds.Input, alone (("input", directions.Input) ∷ ("output", directions.Output) ∷ []) kinds.Input directions.Input refl)
direction_there directions.Output = (token_of kinds.Output, alone (("input", directions.Input) ∷ ("output", directions.Output) ∷ []) kinds.Output directions.Output refl)

pub each_there : EachIsThere
each_there = record {
  binary = binary_there;
  unary = unary_there;
  base = base_there;
  truth = truth_there;
  direction = direction_there;
}
