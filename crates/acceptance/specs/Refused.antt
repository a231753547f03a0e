-- Why the first of two texts that is wrong is refused, and the byte at which that stands: one clause for each reason. Each phase looks
-- at what the ones before it let pass.
-- Source: our own.
use Rattle.std.specs.Prelude.{◌≡◌, ℕ, ◌≤◌, ◌<◌, List, [], ◌∷◌, ◌++◌, length, IsTrue, None, Some, Err, All, Contains}
use Rattle.std.specs.Str.{is_utf8}
use Rattle.lexer.specs.Cut.{IsCut}
use Rattle.lexer.specs.Cut as lexer
use Rattle.lexer.specs.Terminal.{Terminal}
use Rattle.common.specs.declared.refusal.RefusalAt.{RefusalAt}
use Rattle.lexer.specs.declared.fault.LexRefusalKind.{LexRefusalKind}
use Rattle.parser.specs.Refusal as parser
use Rattle.parser.specs.declared.fault.ParseRefusalKind.{ParseRefusalKind}
use Rattle.principals.specs.ActsFor.{PrincipalHierarchy}
use Rattle.principals.specs.HierarchyText.{IsReadAs}
use Rattle.principals.specs.declared.fault.HierarchyRefusalKind.{HierarchyRefusalKind}
use Rattle.syntax.specs.Tree.{ProgramTree}
use Rattle.lattices.specs.Constraints.{Unknown}
use Rattle.labels.specs.Label.{Label}
use Rattle.resolved.specs.Program.{Program}
use Rattle.resolved.specs.declared.fault.ExitRefusalKind.{ExitRefusalKind}
use Rattle.resolved.specs.Labelled.{Unwritten, Demand, Holds, program_judgement}
use Rattle.types.specs.Resolution.{resolution}
use Rattle.types.specs.declared.fault.TypeRefusalKind.{TypeRefusalKind}
use Rattle.acceptance.specs.Accepted.{text_fault, IsText, IsTreeOf, IsResolvedFrom, HasHierarchy}
use Rattle.acceptance.specs.declared.kind.RefusalKind.{RefusalKind}
use Rattle.acceptance.specs.declared.kind.RefusalKind.TheVariants as kinds
use Rattle.acceptance.specs.declared.kind.Text.{Text}
use Rattle.acceptance.specs.declared.kind.Text.TheVariants as texts
use Rattle.common.specs.declared.limits.TheConstants.{MAX_TEXT}

-- demands of a program can be met: some labels meet them, and each demand of the program whose right side is not written
pub record CanMeet (program : Program) (demands : List Demand) : Type 0 where
  pub labels : Unwritten → Label
  pub fit : (d : Demand) (u : Unwritten) → Contains (program_judgement program).demands d → d.right ≡ Unknown u → Holds program.hierarchy labels d
  pub meet : All (Holds program.hierarchy labels) demands

-- the first demand of a program that cannot be met: those before it can, and with it they cannot. It is the first that does not hold
-- under least labels, and a flow chain ends there
pub record IsFirstUnmet (program : Program) (last : Demand) : Type 0 where
  pub before : List Demand
  pub after : List Demand
  pub demands_are : (program_judgement program).demands ≡ before ++ last ∷ after
  pub goes_on : CanMeet program before
  pub stops : ¬ CanMeet program (before ++ last ∷ [])

-- why a source is refused under a hierarchy: the first fault of its tokens, of its tree, of names, types and sizes, or of the exits,
-- or the first demand that cannot be met
pub data IsSourceRefused (h : PrincipalHierarchy) (source : List ℕ) : RefusalKind → (at : ℕ) → Type 0 where
  NoText : (kind : RefusalKind) → text_fault source ≡ Some kind → IsSourceRefused h source kind 0
  NoTokens : text_fault source ≡ None → (refusal : RefusalAt LexRefusalKind) → lexer.IsTextRefused source refusal
      → IsSourceRefused h source (kinds.Lex refusal.kind) refusal.at
  NoTree : text_fault source ≡ None → (tokens : List Terminal) → IsCut source tokens → (refusal : RefusalAt ParseRefusalKind)
      → parser.AreTokensRefused tokens refusal → IsSourceRefused h source (kinds.Parse refusal.kind) refusal.at
  WrongName : (tree : ProgramTree) → IsTreeOf source tree → (refusal : RefusalAt TypeRefusalKind) → resolution h tree ≡ Err refusal
      → IsSourceRefused h source (kinds.Name refusal.kind) refusal.at
  WrongEnd : (program : Program) → IsResolvedFrom h source program → (refusal : RefusalAt ExitRefusalKind) (others : List (RefusalAt ExitRefusalKind))
      → (program_judgement program).faults ≡ refusal ∷ others → IsSourceRefused h source (kinds.End refusal.kind) refusal.at
  WrongFlow : (program : Program) → IsResolvedFrom h source program → (program_judgement program).faults ≡ [] → (last : Demand)
      → IsFirstUnmet program last → IsSourceRefused h source kinds.FlowNotAllowed last.at

-- the first of two texts that is wrong: the source is looked at where the other text has a hierarchy
pub data AreTextsRefusedAt (hierarchy source : List ℕ) : Text → RefusalKind → (at : ℕ) → Type 0 where
  NoHierarchyText : (kind : RefusalKind) → text_fault hierarchy ≡ Some kind → AreTextsRefusedAt hierarchy source texts.Hierarchy kind 0
  WrongHierarchy : text_fault hierarchy ≡ None → (refusal : RefusalAt HierarchyRefusalKind) → IsReadAs hierarchy (Err refusal)
      → AreTextsRefusedAt hierarchy source texts.Hierarchy (kinds.Hierarchy refusal.kind) refusal.at
  Source : (h : PrincipalHierarchy) → HasHierarchy hierarchy h → (kind : RefusalKind) (at : ℕ) → IsSourceRefused h source kind at
      → AreTextsRefusedAt hierarchy source texts.Source kind at

-- ---- parts of the rules, by which proofs speak of them

-- bytes that are no text are refused at their begin: that they are too long comes before that they are not UTF-8
pub data IsNoText (bytes : List ℕ) : RefusalKind → (at : ℕ) → Type 0 where
  TooLong : MAX_TEXT < length bytes → IsNoText bytes kinds.TextTooLong 0
  NotUtf8 : length bytes ≤ MAX_TEXT → ¬ IsTrue (is_utf8 bytes) → IsNoText bytes kinds.NotUtf8 0

-- why the text of a hierarchy is refused
pub data IsHierarchyRefused (text : List ℕ) : RefusalKind → (at : ℕ) → Type 0 where
  Unreadable : (kind : RefusalKind) (at : ℕ) → IsNoText text kind at → IsHierarchyRefused text kind at
  Wrong : IsText text → (refusal : RefusalAt HierarchyRefusalKind) → IsReadAs text (Err refusal)
      → IsHierarchyRefused text (kinds.Hierarchy refusal.kind) refusal.at
