-- The text of a world: which lines are right, and the numbers that they give to each input of a module.
-- Source: our own.
use Rattle.std.specs.Prelude.{◌≡◌, ℕ, ◌+◌, ◌<◌, ◌==◌, Bool, true, false, ◌&&◌, not, if◌then◌else◌, List, [], ◌∷◌, length, take, map, filter, Option, Some, None, ℤ, pos, negsuc, neg_ℤ, int_le, slice_index_or}
use Rattle.std.specs.List.{slice_split, list_any, list_all}
use Rattle.std.specs.Borrow.{Bor}
use Rattle.std.specs.Char.{is_ascii_digit}
use Rattle.std.specs.Str.{bytes_eq}
use Rattle.std.specs.Str.Parse.{digits_value}
use Rattle.lexer.specs.Words.{is_name_text}
use Rattle.channels.specs.World.{InputNumbers}
use Rattle.channels.specs.declared.kind.WorldRefusal.{WorldRefusal}
use Rattle.channels.specs.declared.kind.WorldRefusalKind.{WorldRefusalKind}
use Rattle.channels.specs.declared.kind.WorldRefusalKind.TheVariants.{Syntax, UnknownChannel, RepeatedChannel, NumberOutOfRange}

-- what a list of texts holds, without references
abbrev pub texts_of : List (Bor (List ℕ)) → List (List ℕ)
texts_of texts = map (λ text. text.now) texts

-- the words of a line: what stands between spaces, where that is not empty
abbrev pub words_of : List ℕ → List (List ℕ)
words_of line = filter (λ word. not (length word == 0)) (slice_split (λ byte. byte == 32) line)

-- the lines of a text, each as its words
abbrev pub lines_of : List ℕ → List (List (List ℕ))
lines_of text = map words_of (slice_split (λ byte. byte == 10) text)

-- whether a word is one digit or more
abbrev pub is_digits : List ℕ → Bool
is_digits word = not (length word == 0) && list_all is_ascii_digit word

-- whether a word writes a number: a minus sign or none, then one digit or more
abbrev pub is_number : List ℕ → Bool
is_number [] = false
is_number (byte ∷ bytes) = if byte == 45 then is_digits bytes else is_digits (byte ∷ bytes)

-- the number that a word writes in decimal
abbrev pub number_of : List ℕ → ℤ
number_of [] = pos 0
number_of (byte ∷ bytes) =
    if byte == 45 then neg_ℤ (pos (digits_value 10 bytes)) else pos (digits_value 10 (byte ∷ bytes))

-- whether a number has 32 bits: from -2147483648, which is `negsuc 2147483647`, to 2147483647
abbrev pub is_int : ℤ → Bool
is_int n = int_le (negsuc 2147483647) n && int_le n (pos 2147483647)

-- whether words are a line of a world: none, or a name, the word `=`, and numbers
abbrev pub has_form : List (List ℕ) → Bool
has_form [] = true
has_form (name ∷ []) = false
has_form (name ∷ sign ∷ numbers) = is_name_text name && (bytes_eq sign (61 ∷ []) && list_all is_number numbers)

-- whether a line names this channel
abbrev pub gives_to : List ℕ → List (List ℕ) → Bool
gives_to channel [] = false
gives_to channel (name ∷ rest) = bytes_eq channel name

-- the numbers that a line writes
abbrev pub numbers_of : List (List ℕ) → List ℤ
numbers_of [] = []
numbers_of (name ∷ []) = []
numbers_of (name ∷ sign ∷ numbers) = map number_of numbers

-- what is wrong with a line for a module with these inputs, after these lines
abbrev pub kind_of : List (List ℕ) → List (List (List ℕ)) → List (List ℕ) → Option WorldRefusalKind
kind_of inputs before [] = None
kind_of inputs before (name ∷ rest) =
    if not (has_form (name ∷ rest)) then Some Syntax
    else (if not (list_any (λ input. bytes_eq name input) inputs) then Some UnknownChannel
    else (if list_any (λ line. gives_to name line) before then Some RepeatedChannel
    else (if list_all is_int (numbers_of (name ∷ rest)) then None else Some NumberOutOfRange)))

-- what is wrong with the line at an index, counted from 0
abbrev pub kind_at : List (List ℕ) → List (List (List ℕ)) → ℕ → Option WorldRefusalKind
kind_at inputs lines index = kind_of inputs (take index lines) (slice_index_or lines index [])

-- no line before this one is wrong
abbrev pub IsRightBefore : List (List ℕ) → List (List (List ℕ)) → ℕ → Type 0
IsRightBefore inputs lines end = (index : ℕ) → index < end → kind_at inputs lines index ≡ None

-- every line is right
abbrev pub IsWorldText : List (List ℕ) → List (List (List ℕ)) → Type 0
IsWorldText inputs lines = IsRightBefore inputs lines (length lines)

-- the refusal names the first wrong line, by its number from 1, and what is wrong with it
pub record IsWorldRefusal (inputs : List (List ℕ)) (lines : List (List (List ℕ))) (refusal : WorldRefusal) : Type 0 where
  pub index : ℕ
  pub line_is : refusal.line ≡ index + 1
  pub there : index < length lines
  pub wrong : kind_at inputs lines index ≡ Some refusal.kind
  pub first : IsRightBefore inputs lines index

-- the numbers that lines give to a channel: those of the line that names it, and none where no line does
abbrev pub numbers_given : List (List (List ℕ)) → List ℕ → List ℤ
numbers_given [] channel = []
numbers_given (line ∷ lines) channel =
    if gives_to channel line then numbers_of line else numbers_given lines channel

-- the world that right lines write for these inputs
abbrev pub world_of : List (List ℕ) → List (List (List ℕ)) → List InputNumbers
world_of inputs lines = map (λ input. record { name = input; numbers = numbers_given lines input }) inputs

-- ---- reading line by line

-- what lines give to a channel: the numbers of the first line that names it
abbrev pub given_by : List (List (List ℕ)) → List ℕ → Option (List ℤ)
given_by [] channel = None
given_by (line ∷ lines) channel = if gives_to channel line then Some (numbers_of line) else given_by lines channel

-- what a table of inputs holds for each name, before a line: none for no input, and nothing so far for an input that no line named
abbrev pub Table : Type 0
Table = List ℕ → Option (Option (List ℤ))

-- the table of these inputs after these lines
abbrev pub table_after : List (List ℕ) → List (List (List ℕ)) → Table
table_after inputs before name =
    if list_any (λ input. bytes_eq name input) inputs then Some (given_by before name) else None

abbrev pub entry_refusal : Option (Option (List ℤ)) → List ℤ → Option WorldRefusalKind
entry_refusal None numbers = Some UnknownChannel
entry_refusal (Some (Some given)) numbers = Some RepeatedChannel
entry_refusal (Some None) numbers = if list_all is_int numbers then None else Some NumberOutOfRange

-- what is wrong with a line by a table
abbrev pub table_refusal : Table → List (List ℕ) → Option WorldRefusalKind
table_refusal table [] = None
table_refusal table (name ∷ rest) =
    if not (has_form (name ∷ rest)) then Some Syntax else entry_refusal (table name) (numbers_of (name ∷ rest))

-- a table after a right line
abbrev pub table_with : Table → List (List ℕ) → Table
table_with table [] name = table name
table_with table (first ∷ rest) name = if bytes_eq first name then Some (Some (numbers_of (first ∷ rest))) else table name

-- what a table has of a name, as a list of numbers
abbrev pub numbers_in : Option (Option (List ℤ)) → List ℤ
numbers_in None = []
numbers_in (Some None) = []
numbers_in (Some (Some numbers)) = numbers

abbrev pub input_of : Table → List ℕ → InputNumbers
input_of table name = record { name = name; numbers = numbers_in (table name) }
