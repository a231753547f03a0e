-- What comparisons of labels keep: rows of bits over the own policies of all labels of a table.
-- Source: our own.
use Rattle.std.specs.Prelude.{◌≡◌, ℕ, zero, suc, ◌+◌, ◌<◌, ◌≤◌, ◌^◌, List, [], ◌∷◌, ◌++◌, length, Bool, Option, Some, None, IsTrue, slice_index_or, ◌⊎◌}
use Rattle.principals.specs.ActsFor.{ActsFor, PrincipalHierarchy}
use Rattle.labels.specs.Row.{has}
use Rattle.labels.specs.Label.{Covers, FlowsTo, PolicyAllows, ReaderPolicy}
use Rattle.labels.specs.LabelTable.{label_at}
use Rattle.labels.specs.Entries.{IsTable, labels_in, made_of, own_at, own_of}
use Rattle.labels.specs.declared.entries.Entry.{Entry}
use Rattle.labels.specs.declared.policy_bits.Bits.{Bits}
use Rattle.labels.specs.declared.comparing.Memo.{Memo}
use Rattle.labels.specs.declared.left_side.LeftSide.{LeftSide}
use Rattle.labels.specs.declared.right_side.CoveredSide.{CoveredSide}
use Rattle.labels.specs.declared.policy_bits.Role.{Role}
use Rattle.labels.specs.declared.policy_bits.Role.TheVariants.{Owner, Reader}

-- the own policies of all entries, one entry after another, and how many stand before those of one
abbrev pub slots : List Entry → List ReaderPolicy
slots [] = []
slots (entry ∷ entries) = own_of entry ++ slots entries

abbrev pub start : List Entry → ℕ → ℕ
start [] n = 0
start (entry ∷ entries) zero = 0
start (entry ∷ entries) (suc n) = length (own_of entry) + start entries n

-- a number for each entry and for the end: where its own policies start
pub record AreStarts (entries : List Entry) (starts : List ℕ) : Type 0 where
  pub count : length starts ≡ length entries + 1
  pub each : (n d : ℕ) → n ≤ length entries → slice_index_or starts n d ≡ start entries n
  pub fits : length (slots entries) < 2 ^ 64

-- each policy whose number is in a row has a property
pub record HaveAll (entries : List Entry) (P : ReaderPolicy → Type 0) (row : List Bool) : Type 0 where
  pub count : length row ≡ length (slots entries)
  pub each : (s : ℕ) (d : ReaderPolicy) → IsTrue (has row s) → P (slice_index_or (slots entries) s d)

-- what is asked of a principal and a policy
abbrev pub Told : PrincipalHierarchy → Role → ℕ → ReaderPolicy → Type 0
Told h Owner principal policy = ActsFor h.pairs principal policy.owner
Told h Reader principal policy = PolicyAllows h principal policy

-- each policy whose number is in a new row was in the old one or has a property
pub record AreOf (entries : List Entry) (P : ReaderPolicy → Type 0) (old new : List Bool) : Type 0 where
  pub count : length new ≡ length old
  pub each : (s : ℕ) (d : ReaderPolicy) → IsTrue (has new s) → IsTrue (has old s) ⊎ P (slice_index_or (slots entries) s d)

-- the row that is kept for a number; each has a property; no row is kept that was not; and one more may be
abbrev pub row_kept : List (Option (List Bool)) → ℕ → Option (List Bool)
row_kept kept n = slice_index_or kept n None

abbrev pub KeepEach : (ℕ → List Bool → Type 0) → List (Option (List Bool)) → Type 0
KeepEach Q kept = (n : ℕ) (row : List Bool) → row_kept kept n ≡ Some row → Q n row

abbrev pub IsNoMore : (old new : List (Option (List Bool))) → Type 0
IsNoMore old new = (n : ℕ) (row : List Bool) → row_kept new n ≡ Some row → row_kept old n ≡ Some row

abbrev pub IsOneMore : (old : List (Option (List Bool))) → (number : ℕ) → List Bool → (new : List (Option (List Bool))) → Type 0
IsOneMore old number row new = (n : ℕ) (other : List Bool) → row_kept new n ≡ Some other → (row_kept old n ≡ Some other) ⊎ ((n ≡ number) × (other ≡ row))

pub record AreBits (h : PrincipalHierarchy) (entries : List Entry) (bits : Bits) : Type 0 where
  pub starts_are : AreStarts entries bits.starts.items
  pub owners_are : KeepEach (λ principal. HaveAll entries (Told h Owner principal)) bits.owners.items
  pub readers_are : KeepEach (λ principal. HaveAll entries (Told h Reader principal)) bits.readers.items
  pub wide_are : KeepEach (λ part. HaveAll entries (Covers h (own_at entries part))) bits.wide.items

-- the own policies of an entry are in a row
abbrev pub HasOwn : List Entry → (part : ℕ) → List Bool → Type 0
HasOwn entries part row = (k : ℕ) → k < length (own_at entries part) → IsTrue (has row (start entries part + k))

-- all that a label is made of is in a row
abbrev pub HasParts : List Entry → (label : ℕ) → List Bool → Type 0
HasParts entries label parts = (part : ℕ) → IsTrue (made_of entries label part) → IsTrue (has parts part)

-- a left side has all that its labels are made of, and the own policies of these
pub record IsLeftSide (entries : List Entry) (side : LeftSide) : Type 0 where
  pub labels_count : length side.labels ≡ length entries
  pub parts_count : length side.parts ≡ length entries
  pub policies_count : length side.policies ≡ length (slots entries)
  pub parts_are : (part : ℕ) → IsTrue (has side.parts part) → HasOwn entries part side.policies
  pub complete : (label : ℕ) → IsTrue (has side.labels label) → HasParts entries label side.parts

-- a label covers the policies of a row
pub record IsRightSide (h : PrincipalHierarchy) (entries : List Entry) (side : CoveredSide) : Type 0 where
  pub inside : side.to < length entries
  pub covered_are : HaveAll entries (Covers h (label_at (labels_in entries) side.to)) side.covered

-- all labels of a row flow to one
abbrev pub AllFlow : PrincipalHierarchy → List Entry → List Bool → (to : ℕ) → Type 0
AllFlow h entries row to = (label : ℕ) → IsTrue (has row label) → FlowsTo h (label_at (labels_in entries) label) (label_at (labels_in entries) to)

-- what is kept of comparisons
pub record IsMemo (h : PrincipalHierarchy) (entries : List Entry) (kept : Memo) : Type 0 where
  pub bits_are : AreBits h entries kept.bits
  pub left_is : IsLeftSide entries kept.left
  pub other_is : IsLeftSide entries kept.other
  pub right_is : IsRightSide h entries kept.right

abbrev pub MayBeKept : PrincipalHierarchy → List Entry → Option Memo → Type 0
MayBeKept h entries None = Unit {0}
MayBeKept h entries (Some kept) = IsMemo h entries kept

pub record AreComparisons (h : PrincipalHierarchy) (entries : List Entry) (kept : Option Memo) : Type 0 where
  pub table : IsTable entries
  pub kept_is : MayBeKept h entries kept
