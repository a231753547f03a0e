-- A program that a source is resolved to has proper names.
use Rattle.std.proofs.Common.{◌≡◌, ◌≢◌, ℕ, List, ◌++◌, sym, subst, append_assoc}
use Rattle.std.specs.Prelude.{All, IsUtf8}
use Rattle.std.proofs.lemmas.Str.{IsUtf8-from_is_utf8}
use Rattle.principals.specs.ActsFor.{PrincipalHierarchy, IsHierarchy, AllDifferent}
use Rattle.principals.specs.Named.{IsKeptName}
use Rattle.principals.proofs.Called.{token_texts}
use Rattle.parser.proofs.Spelled.{text_spelled}
use Rattle.syntax.specs.Limits.{IsOfText}
use Rattle.syntax.specs.Tree.{ProgramTree}
use Rattle.common.specs.Exceptions.{built_in_names}
use Rattle.common.proofs.Cases.{all_front, pairs_front}
use Rattle.resolved.specs.Names.{IsShortName, kept_names}
use Rattle.resolved.specs.Program.{Program}
use Rattle.types.specs.Laws.{channel_names, global_names, procedure_names, item_names, IsProperName, HasUtf8Names, NamesAreProper, NamesAreDifferent, NamesAreUtf8, HierarchyIsKept, ChannelLabelsAreCanonical}
use Rattle.acceptance.proofs.Texts.{no_fault_text}
use Rattle.acceptance.specs.Accepted.{IsTreeOf}
use Rattle.acceptance.specs.Laws.{GivesNames}
use Rattle.acceptance.proofs.TreeNames.{spelled_named}

-- ---- lists

-- ---- the tree of a source

pub tree_of_text : (source : List ℕ) (tree : ProgramTree) → IsTreeOf source tree → IsOfText tree
tree_of_text source tree of =
    text_spelled source of.tokens tree (IsUtf8-from_is_utf8 source (no_fault_text source of.text).characters) (no_fault_text source of.text).short of.cut of.spelled

tree_has_utf8 : (source : List ℕ) (tree : ProgramTree) → IsTreeOf source tree → HasUtf8Names tree
tree_has_utf8 source tree of =
    spelled_named of.tokens tree of.spelled (token_texts source of.tokens (IsUtf8-from_is_utf8 source (no_fault_text source of.text).characters) of.cut)

-- ---- names

short_names : (names : List (List ℕ)) → All IsProperName names → All IsUtf8 names → All IsShortName names
short_names names proper utf8 k d within = record {
  named = (proper k d within).0;
  characters = utf8 k d within;
  short = (proper k d within).1;
}

-- the names that a file keeps come first among those of the items
kept_first : (program : Program) → item_names program ≡ kept_names program ++ (global_names program ++ procedure_names program)
kept_first program = sym (append_assoc program.exceptions (channel_names program) (global_names program ++ procedure_names program))

items_short : (program : Program) → All IsProperName (item_names program) → All IsUtf8 (item_names program) → All IsShortName (kept_names program)
items_short program proper utf8 =
    all_front IsShortName (kept_names program) (global_names program ++ procedure_names program)
    (subst (All IsShortName) (kept_first program) (short_names (item_names program) proper utf8))

items_different : (program : Program) → AllDifferent (built_in_names ++ item_names program) → AllDifferent (built_in_names ++ kept_names program)
items_different program different =
    pairs_front (λ first second. first ≢ second) (built_in_names ++ kept_names program) (global_names program ++ procedure_names program)
    (subst (λ (names : List (List ℕ)). AllDifferent (built_in_names ++ names)) (kept_first program) different)

-- the laws of the phases
pub record NameLaws : Type 0 where
  pub proper : NamesAreProper
  pub different : NamesAreDifferent
  pub utf8 : NamesAreUtf8
  pub kept : HierarchyIsKept
  pub canonical : ChannelLabelsAreCanonical

pub gives_names : NameLaws → GivesNames
gives_names laws h source program is_hierarchy named from =
    let tree = from.tree in
    let is = tree_of_text source tree from.tree_of in
    let same = laws.kept h tree program from.resolved in
    record {
      hierarchy = subst IsHierarchy (sym same) is_hierarchy;
      principals = subst (λ (one : PrincipalHierarchy). All IsKeptName one.names) (sym same) named;
      items = items_short program (laws.proper h tree program is from.resolved)
          (laws.utf8 h tree program (tree_has_utf8 source tree from.tree_of) from.resolved);
      different = items_different program (laws.different h tree program is from.resolved);
      labels = laws.canonical h tree program from.resolved;
    }
