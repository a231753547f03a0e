-- Laws of hierarchies and of the texts that they are read from.
-- Source: our own.
use Rattle.std.specs.Prelude.{◌≡◌, ◌⊎◌, ℕ, List, length, All, IsUtf8}
use Rattle.principals.specs.ActsFor.{PrincipalHierarchy}
use Rattle.principals.specs.HierarchyText.{IsHierarchyOf, IsRefusedText}
use Rattle.principals.specs.Named.{IsUtf8NameWithin}
use Rattle.common.specs.declared.refusal.RefusalAt.{RefusalAt}
use Rattle.principals.specs.declared.fault.HierarchyRefusalKind.{HierarchyRefusalKind}

-- the principals of a text have names in UTF-8 that are no longer than the text
abbrev pub NamesAreNames : Type 0
NamesAreNames =
    (text : List ℕ) (hierarchy : PrincipalHierarchy) → IsUtf8 text → IsHierarchyOf text hierarchy
    → All (IsUtf8NameWithin (length text)) hierarchy.names

-- ---- each text has one hierarchy or one refusal, and not both

-- a text is that of one hierarchy at most
abbrev pub HasOneHierarchy : Type 0
HasOneHierarchy =
    (text : List ℕ) (hierarchy other : PrincipalHierarchy) → IsHierarchyOf text hierarchy → IsHierarchyOf text other → hierarchy ≡ other

-- the text of a hierarchy is not refused
abbrev pub IsNotReadAndRefused : Type 0
IsNotReadAndRefused =
    (text : List ℕ) (hierarchy : PrincipalHierarchy) (refusal : RefusalAt HierarchyRefusalKind) → IsHierarchyOf text hierarchy → IsRefusedText text refusal → ⊥

-- a text is refused for one reason at most
abbrev pub HierarchiesHaveOneRefusal : Type 0
HierarchiesHaveOneRefusal = (text : List ℕ) (refusal other : RefusalAt HierarchyRefusalKind) → IsRefusedText text refusal → IsRefusedText text other → refusal ≡ other

-- a text is that of a hierarchy, or it is refused
abbrev pub IsReadOrRefused : Type 0
IsReadOrRefused =
    (text : List ℕ) → IsUtf8 text
    → ((hierarchy : PrincipalHierarchy) × IsHierarchyOf text hierarchy) ⊎ ((refusal : RefusalAt HierarchyRefusalKind) × IsRefusedText text refusal)
