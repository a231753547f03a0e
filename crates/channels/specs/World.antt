-- A world: the numbers that a run receives.
-- Source: our own.
use Rattle.std.specs.Prelude.{ℕ, List, [], ◌∷◌, map, filter, Bool, true, false, ℤ, slice_index_or}
use Rattle.modules.specs.Contents.{ModuleContents}
use Rattle.common.specs.declared.direction.Direction.{Direction}
use Rattle.common.specs.declared.direction.Direction.TheVariants.{Input, Output}

-- an input of a module with the numbers that a world has for it
pub record InputNumbers : Type 0 where
  pub name : List ℕ
  pub numbers : List ℤ

abbrev pub is_input : Direction → Bool
is_input Input = true
is_input Output = false

-- the names of a module's inputs, in order
abbrev pub input_names : ModuleContents → List (List ℕ)
input_names m = map (λ channel. channel.name) (filter (λ channel. is_input channel.direction) m.channels)

-- the lists of channels: inputs get these in order, and outputs get none
abbrev pub channel_lists : List Direction → List InputNumbers → List (List ℤ)
channel_lists [] inputs = []
channel_lists (Output ∷ directions) inputs = [] ∷ channel_lists directions inputs
channel_lists (Input ∷ directions) [] = [] ∷ channel_lists directions []
channel_lists (Input ∷ directions) (input ∷ inputs) = input.numbers ∷ channel_lists directions inputs

-- a world as the list of each channel
abbrev pub numbers_of_channel : ModuleContents → List InputNumbers → ℕ → List ℤ
numbers_of_channel m inputs k = slice_index_or (channel_lists (map (λ channel. channel.direction) m.channels) inputs) k []
