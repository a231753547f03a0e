-- Private: the lines of the locals of a procedure, by the text that their places are in.
-- Source: our own.
use Rattle.std.specs.Prelude.{ℕ, List}
use Rattle.explaining.specs.Locals.{AreLines, IsLocalLine, LocalEntry}
use Rattle.explaining.specs.declared.labels_of_locals.Locals.{Locals}

abbrev pub IsLineBy : Locals → LocalEntry → (line : List ℕ) → Type 0
IsLineBy locals = IsLocalLine locals.marked.now.text.now locals.checked.now

abbrev pub AreLinesBy : Locals → List LocalEntry → (text : List ℕ) → Type 0
AreLinesBy locals = AreLines locals.marked.now.text.now locals.checked.now
