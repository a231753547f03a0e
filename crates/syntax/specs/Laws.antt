-- Laws of the spelling of programs.
-- Source: our own.
use Rattle.std.specs.Prelude.{◌≡◌, ℕ, ◌≤◌, Bool, List, [], ◌∷◌, length, slice_index_or, map, All, Contains}
use Rattle.lexer.specs.Listing.{IsSpelled}
use Rattle.lexer.specs.Terminal.{Terminal, IsTerminated}
use Rattle.syntax.specs.Form.{Form, give, one_of, ◌·◌}
use Rattle.syntax.specs.Grammar.{SpellsProgram, Spelled, here, paired, base, direction, truth, signs, lines}
use Rattle.syntax.specs.Nesting.{IsNested}
use Rattle.syntax.specs.Nodes.{program_nodes}
use Rattle.common.specs.declared.base_type.BaseType.{BaseType}
use Rattle.syntax.specs.declared.tree.BinaryOperator.{BinaryOperator}
use Rattle.common.specs.declared.operator.Prefix.{Prefix}
use Rattle.syntax.specs.Tree.{ProgramTree}
use Rattle.syntax.specs.Written.{IsInteger, IsNameWithin, IsWritten}
use Rattle.common.specs.declared.direction.Direction.{Direction}
use Rattle.common.specs.declared.limits.TheConstants.{MAX_LEVELS}

-- tokens spell at most one tree
abbrev pub SpellsOneTree : Type 0
SpellsOneTree =
    (tokens : List Terminal) (one other : ProgramTree) → SpellsProgram tokens one → SpellsProgram tokens other → one ≡ other

-- tokens that spell a tree end in an end marker, and have no other
abbrev pub SpelledIsTerminated : Type 0
SpelledIsTerminated = (tokens : List Terminal) (tree : ProgramTree) → SpellsProgram tokens tree → IsTerminated tokens

-- a tree has at most as many nodes as the tokens that spell it
abbrev pub SpelledHasFewNodes : Type 0
SpelledHasFewNodes =
    (tokens : List Terminal) (tree : ProgramTree) → SpellsProgram tokens tree → program_nodes tree ≤ length tokens

-- and it is nested at most so deep
abbrev pub SpelledIsNested : Type 0
SpelledIsNested =
    (tokens : List Terminal) (tree : ProgramTree) → SpellsProgram tokens tree → IsNested MAX_LEVELS tree

-- what tokens spell is written: where each token has the text of its kind, which has at most this many bytes, the tree's names are
-- names of at most this many bytes, its integers are small enough, and its nodes stand where tokens begin
abbrev pub SpelledIsWritten : Type 0
SpelledIsWritten =
    (longest : ℕ) (tokens : List Terminal) (tree : ProgramTree) → SpellsProgram tokens tree → All IsSpelled tokens
    → All (λ token. length token.text ≤ longest) tokens
    → IsWritten (Contains (map (λ token. token.start) tokens)) (IsNameWithin longest) IsInteger tree

-- one token spells the tree by this form, and the place of the token
abbrev pub SpellsAlone : {A : Type 0} → Form A → Terminal → A → Type 0
SpellsAlone F token tree = Spelled (give paired · here · F) 0 0 (token ∷ []) (token.start, tree) []

-- the grammar leaves nothing out: each operator, base type, truth value and direction has a token
pub record EachIsThere : Type 0 where
  pub binary : (operator : BinaryOperator) → (line : ℕ) × (token : Terminal) × SpellsAlone (one_of (slice_index_or lines line [])) token operator
  pub unary : (operator : Prefix) → (token : Terminal) × SpellsAlone (one_of signs) token operator
  pub base : (tree : BaseType) → (token : Terminal) × SpellsAlone base token tree
  pub truth : (tree : Bool) → (token : Terminal) × SpellsAlone truth token tree
  pub direction : (tree : Direction) → (token : Terminal) × SpellsAlone direction token tree
