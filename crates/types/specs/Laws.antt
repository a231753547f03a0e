-- Laws of the programs that trees stand for.
-- Source: our own.
use Rattle.std.specs.Prelude.{◌≡◌, ℕ, List, ◌++◌, map, All, IsTrue, Some, slice_get, codes, IsUtf8}
use Rattle.common.specs.Exceptions.{built_in_names}
use Rattle.principals.specs.ActsFor.{PrincipalHierarchy, IsHierarchy, AllDifferent}
use Rattle.labels.specs.Canonical.{IsCanonicalLabel}
use Rattle.syntax.specs.Limits.{IsOfText}
use Rattle.syntax.specs.Tree.{ItemTree, ProgramTree}
use Rattle.syntax.specs.Written.{IsNameWithin}
use Rattle.labels.specs.Channel.{ChannelContents}
use Rattle.resolved.specs.Program.{Program, GlobalEntry, ProcedureEntry}
use Rattle.resolved.specs.WellFormed.{well_formed}
use Rattle.resolved.specs.declared.expression.Variable.TheVariants.{Global, Local}
use Rattle.types.specs.declared.scope.Meaning.{Meaning}
use Rattle.types.specs.declared.scope.ItemKind.TheVariants.{Channel, Exception, Procedure}
use Rattle.types.specs.declared.scope.Meaning.TheVariants as meanings
use Rattle.common.specs.Results.{along}
use Rattle.types.specs.Finding.{give}
use Rattle.types.specs.Resolution.{TopLevel, item_name, resolution, next_name, built_in}
use Rattle.common.specs.declared.limits.TheConstants.{MAX_TEXT}

-- the program that the tree of a text stands for is well formed
abbrev pub WhatIsFoundIsWellFormed : Type 0
WhatIsFoundIsWellFormed =
    (h : PrincipalHierarchy) (tree : ProgramTree) (program : Program) → IsHierarchy h → IsOfText tree
    → resolution h tree ≡ give program → IsTrue (well_formed program)

-- ---- names

-- the names of declared exceptions, of channels, of globals and of procedures
abbrev pub channel_names : Program → List (List ℕ)
channel_names program = map (λ (entry : ChannelContents). entry.name) program.channels

abbrev pub global_names : Program → List (List ℕ)
global_names program = map (λ (entry : GlobalEntry). entry.name) program.globals

abbrev pub procedure_names : Program → List (List ℕ)
procedure_names program = map (λ (entry : ProcedureEntry). entry.name) program.procedures

abbrev pub item_names : Program → List (List ℕ)
item_names program = program.exceptions ++ (channel_names program ++ (global_names program ++ procedure_names program))

-- a name of the language that is not too long
abbrev pub IsProperName : List ℕ → Type 0
IsProperName name = IsNameWithin MAX_TEXT name

-- the names of the items of the program that the tree of a text stands for are names, and they and those of the built-in exceptions
-- are all different
abbrev pub NamesAreProper : Type 0
NamesAreProper =
    (h : PrincipalHierarchy) (tree : ProgramTree) (program : Program) → IsOfText tree → resolution h tree ≡ give program
    → All IsProperName (item_names program)

abbrev pub NamesAreDifferent : Type 0
NamesAreDifferent =
    (h : PrincipalHierarchy) (tree : ProgramTree) (program : Program) → IsOfText tree → resolution h tree ≡ give program
    → AllDifferent (built_in_names ++ item_names program)

-- where the names of the items of a tree are UTF-8, those of the program that it stands for are too
abbrev pub HasUtf8Names : ProgramTree → Type 0
HasUtf8Names tree = All (λ (item : ItemTree). IsUtf8 (item_name item).text) tree.items

abbrev pub NamesAreUtf8 : Type 0
NamesAreUtf8 =
    (h : PrincipalHierarchy) (tree : ProgramTree) (program : Program) → HasUtf8Names tree → resolution h tree ≡ give program
    → All IsUtf8 (item_names program)

-- ---- the hierarchy, and the labels of channels

-- the program that a tree stands for is one of the hierarchy under which it is resolved
abbrev pub HierarchyIsKept : Type 0
HierarchyIsKept = (h : PrincipalHierarchy) (tree : ProgramTree) (program : Program) → resolution h tree ≡ give program → program.hierarchy ≡ h

-- the labels of its channels are in the one form in which labels are kept
abbrev pub ChannelLabelsAreCanonical : Type 0
ChannelLabelsAreCanonical =
    (h : PrincipalHierarchy) (tree : ProgramTree) (program : Program) → resolution h tree ≡ give program
    → All (λ (entry : ChannelContents). IsCanonicalLabel entry.label) program.channels

-- ---- numbers

-- what a name means stands under its number and has that name
abbrev pub MeaningHasName : Program → Meaning → List ℕ → Type 0
MeaningHasName program (meanings.Item (Channel direction) number) name = slice_get (channel_names program) number ≡ Some name
MeaningHasName program (meanings.Item Exception number) name =
    slice_get (built_in_names ++ program.exceptions) number ≡ Some name
MeaningHasName program (meanings.Item Procedure number) name = slice_get (procedure_names program) number ≡ Some name
MeaningHasName program (meanings.Variable (Global number) base size) name = slice_get (global_names program) number ≡ Some name
MeaningHasName program (meanings.Variable (Local number) base size) name = ⊥

-- each name in scope at the top level stands for the entry of that name
abbrev pub NumbersReadAsNames : Type 0
NumbersReadAsNames =
    (h : PrincipalHierarchy) (tree : ProgramTree) (program : Program) → resolution h tree ≡ give program
    → (top : TopLevel) → along next_name built_in tree.items ≡ give top
    → (name : List ℕ) (meaning : Meaning) → top.names name ≡ Some meaning → MeaningHasName program meaning name

-- a run begins at the procedure that is called `main`
abbrev pub RunsBeginAtMain : Type 0
RunsBeginAtMain =
    (h : PrincipalHierarchy) (tree : ProgramTree) (program : Program) → resolution h tree ≡ give program
    → slice_get (procedure_names program) program.main ≡ Some (codes "main")
