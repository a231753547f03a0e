-- Labels that are held by their numbers: the label with a number, the policies of several, and what a table keeps when it grows.
-- Source: our own.
use Rattle.std.specs.Prelude.{◌≡◌, ℕ, ◌<◌, ◌≤◌, ◌^◌, List, [], ◌++◌, length, slice_index_or}
use Rattle.std.specs.List.{flat_map}
use Rattle.labels.specs.Label.{ReaderPolicy, Label}

-- the label with a number: the least one, which has no policy, where there is none
abbrev pub label_at : List Label → ℕ → Label
label_at labels number = slice_index_or labels number []

-- the policies of the labels with these numbers, one label after another
abbrev pub labels_of : List Label → List ℕ → List ReaderPolicy
labels_of labels numbers = flat_map (label_at labels) numbers

-- later labels are earlier ones with further labels after them
pub record Extends (before after : List Label) : Type 0 where
  pub more : List Label
  pub after_is : after ≡ before ++ more

-- what is kept of a table: the least label is number 0, and numbers have 32 bits
pub record IsLabelTable (labels : List Label) : Type 0 where
  pub some : 0 < length labels
  pub least : label_at labels 0 ≡ []
  pub few : length labels ≤ 2 ^ 32
