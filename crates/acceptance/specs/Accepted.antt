-- Which two texts stand for a program: the text of a principal hierarchy, and a source that is accepted under that hierarchy.
-- Source: our own; that a program is accepted where labels for its variables allow its flows is from Volpano, Smith and Irvine 1996
-- and Myers and Liskov 1997.
use Rattle.std.specs.Prelude.{◌≡◌, ℕ, ◌≤◌, nat_lt, List, [], length, IsTrue, Option, None, Some, Ok, if◌then◌else◌}
use Rattle.std.specs.Str.{is_utf8}
use Rattle.lexer.specs.Cut.{IsCut}
use Rattle.lexer.specs.Terminal.{Terminal}
use Rattle.principals.specs.ActsFor.{PrincipalHierarchy}
use Rattle.principals.specs.HierarchyText.{IsReadAs}
use Rattle.syntax.specs.Grammar.{SpellsBut}
use Rattle.syntax.specs.Tree.{ProgramTree}
use Rattle.resolved.specs.Program.{Program}
use Rattle.resolved.specs.Labelled.{Labelled, program_judgement, exit_faults}
use Rattle.types.specs.Resolution.{resolution}
use Rattle.acceptance.specs.declared.kind.RefusalKind.{RefusalKind}
use Rattle.acceptance.specs.declared.kind.RefusalKind.TheVariants as kinds
use Rattle.common.specs.declared.limits.TheConstants.{MAX_TEXT}

-- why bytes are no text of either kind, if they are none: they are too long, which comes before that they are not UTF-8
abbrev pub text_fault : List ℕ → Option RefusalKind
text_fault bytes = if nat_lt MAX_TEXT (length bytes) then Some kinds.TextTooLong else if is_utf8 bytes then None else Some kinds.NotUtf8

-- the tree that a source spells
pub record IsTreeOf (source : List ℕ) (tree : ProgramTree) : Type 0 where
  pub text : text_fault source ≡ None
  pub tokens : List Terminal
  pub cut : IsCut source tokens
  pub spelled : SpellsBut 0 tokens tree

-- the resolved program of a source: its names, types and sizes have no fault
pub record IsResolvedFrom (h : PrincipalHierarchy) (source : List ℕ) (program : Program) : Type 0 where
  pub tree : ProgramTree
  pub tree_of : IsTreeOf source tree
  pub resolved : resolution h tree ≡ Ok program

-- the hierarchy of the first text
pub record HasHierarchy (text : List ℕ) (h : PrincipalHierarchy) : Type 0 where
  pub characters : IsTrue (is_utf8 text)
  pub hierarchy_of : IsReadAs text (Ok h)

-- two texts stand for a program: the source is resolved to it under the hierarchy, it has no fault of its exits, and some labels
-- allow its flows
pub record StandFor (hierarchy source : List ℕ) (program : Program) : Type 0 where
  pub principals : PrincipalHierarchy
  pub has : HasHierarchy hierarchy principals
  pub resolved : IsResolvedFrom principals source program
  pub ended : (program_judgement program).faults ≡ []
  pub labelled : Labelled program

-- ---- parts of the rules, by which proofs speak of them

-- bytes that can be a text of either kind: UTF-8, and not too long
pub record IsText (bytes : List ℕ) : Type 0 where
  pub short : length bytes ≤ MAX_TEXT
  pub characters : IsTrue (is_utf8 bytes)

-- a source is accepted under a hierarchy
pub record IsAccepted (h : PrincipalHierarchy) (source : List ℕ) (program : Program) : Type 0 where
  pub resolved : IsResolvedFrom h source program
  pub ended : exit_faults program ≡ []
  pub labelled : Labelled program
