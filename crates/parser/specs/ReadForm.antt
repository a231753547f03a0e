-- The forms of which the parser's grammar is made, as data, and what they mean. They are those of the grammar, but two forms one after
-- another give a pair, and the token that opens a level is of the form that opens it. Private.
-- Source: extended Backus-Naur form (ISO/IEC 14977). That each form gives a tree is as in attribute grammars; the levels are our own.
use Prim.Native.String.{String}
use Rattle.std.specs.Prelude.{◌≡◌, ◌⊎◌, ℕ, pred, ◌<◌, List, [], ◌∷◌, length, bytes_eq, codes, Option, None, Some, if◌then◌else◌}
use Rattle.std.specs.Map.{lookup}
use Rattle.lexer.specs.TokenKind.{word_of}
use Rattle.lexer.specs.Terminal.{Terminal}
use Rattle.parser.specs.ReadSymbol.{Symbol, tree_of}

-- A form of A spells trees of A. `give` spells one tree by no token. `one_of` spells one token whose word has a meaning, beside its
-- meaning. `level` does too, and after the token, which opens a level, stands a symbol, which closes it at its end.
-- `F · G` is F and then G; `F or G` is either; `many F` is F any number of times; `F gives f` makes another tree of that of F.
infixl 20 ◌·◌
infixl 10 ◌gives◌
infixr 5 ◌or◌
pub data Form : Type 0 → Type 1 where
  give : {A : Type 0} → A → Form A
  one_of : {A : Type 0} → (List ℕ → Option A) → Form (Terminal × A)
  level : {A : Type 0} → (List ℕ → Option A) → (symbol : Symbol) → Form (Terminal × A × tree_of symbol)
  ◌·◌ : {A B : Type 0} → Form A → Form B → Form (A × B)
  ◌or◌ : {A : Type 0} → Form A → Form A → Form A
  many : {A : Type 0} → Form A → Form (List A)
  ◌gives◌ : {A B : Type 0} → Form A → (A → B) → Form B

-- one word is meant, and no other
abbrev pub only : String → List ℕ → Option (Unit {0})
only text word = if bytes_eq word (codes text) then Some tt else None

-- the words of a table are meant, each with what stands beside it
abbrev pub table : {A : Type 0} → List (String × A) → List ℕ → Option A
table rows word = lookup (λ text. bytes_eq word (codes text)) rows

-- `P n tokens tree rest`: some tokens in front spell the tree, and the rest is after them. The last n of the tokens may open any
-- number of levels: where n is 0 all levels count, and where n is the number of the tokens none does.
abbrev pub Phrase : Type 0 → Type 1
Phrase A = ℕ → List Terminal → A → List Terminal → Type 0

abbrev pub Token : {A : Type 0} → (List ℕ → Option A) → List Terminal → Terminal × A → List Terminal → Type 0
Token meaning tokens (token, found) rest = (tokens ≡ token ∷ rest) × (meaning (word_of token.kind) ≡ Some found)

abbrev pub Many : {A : Type 0} → Phrase A → Phrase (List A)
Many P n tokens [] rest = rest ≡ tokens
Many P n tokens (tree ∷ trees) rest = (between : List Terminal) × P n tokens tree between × Many P n between trees rest

-- What a form means, by what the symbols mean, where `room` levels may be opened. Where the token that opens a level is among the last
-- n tokens, none need be left.
abbrev pub means : ((symbol : Symbol) → ℕ → Phrase (tree_of symbol)) → ℕ → {A : Type 0} → Form A → Phrase A
means inside room (give value) n tokens tree rest = (tree ≡ value) × (rest ≡ tokens)
means inside room (one_of meaning) n tokens found rest = Token meaning tokens found rest
means inside room (level meaning symbol) n tokens found rest =
    (between : List Terminal) × Token meaning tokens (found.0, found.1) between × ((0 < room) ⊎ (length between < n))
    × inside symbol (pred room) n between found.2 rest
means inside room (F · G) n tokens trees rest =
    (between : List Terminal) × means inside room F n tokens trees.0 between × means inside room G n between trees.1 rest
means inside room (F or G) n tokens tree rest = means inside room F n tokens tree rest ⊎ means inside room G n tokens tree rest
means inside room (many F) n tokens trees rest = Many (means inside room F) n tokens trees rest
means inside room (F gives f) n tokens tree rest = (value : _) × means inside room F n tokens value rest × (tree ≡ f value)

-- ---- parts of the rules, by which proofs speak of them

abbrev pub Level : {A B : Type 0} → (List ℕ → Option A) → Phrase B → (room : ℕ) → Phrase (Terminal × A × B)
Level meaning P room n tokens found rest =
    (between : List Terminal) × Token meaning tokens (found.0, found.1) between × ((0 < room) ⊎ (length between < n))
    × P n between found.2 rest

abbrev pub Both : {A B : Type 0} → Phrase A → Phrase B → Phrase (A × B)
Both P Q n tokens trees rest = (between : List Terminal) × P n tokens trees.0 between × Q n between trees.1 rest

abbrev pub GivenBy : {A B : Type 0} → Phrase A → (A → B) → Phrase B
GivenBy {A} P f n tokens tree rest = (value : A) × P n tokens value rest × (tree ≡ f value)
