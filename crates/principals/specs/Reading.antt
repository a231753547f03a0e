-- A text of a hierarchy, read one token after another. No public contract cites this file. Our own.
use Rattle.std.specs.Prelude.{◌≡◌, ℕ, ◌≤◌, length, List, [], ◌∷◌, ◌++◌, Option, None, Some, Ok, Err, if◌then◌else◌, bytes_eq, codes, option_map, map, Contains}
use Rattle.common.specs.declared.limits.TheConstants.{MAX_PRINCIPALS}
use Rattle.principals.specs.ActsFor.{PrincipalHierarchy}
use Rattle.std.specs.Option.{option_and_then}
use Rattle.lexer.specs.KindRows.{code_of}
use Rattle.lexer.specs.Terminal.{Terminal, terminal_of}
use Rattle.lexer.specs.TokenKind as token
use Rattle.lexer.specs.TokenKind.{word_of}
use Rattle.lexer.specs.declared.token.Kind.{Kind}
use Rattle.lexer.specs.declared.token.Kind.TheVariants.{Name as NameKind, Comma as CommaKind, Semicolon as SemicolonKind, End as EndKind}
use Rattle.principals.specs.HierarchyText.{Entry, Declares, Relates, IsWord, IsPrincipalName, Derives, IsUnexpectedInHierarchyAt, built, refusal_for}
use Rattle.common.specs.declared.refusal.RefusalAt.{RefusalAt}
use Rattle.principals.specs.declared.fault.HierarchyRefusalKind.{HierarchyRefusalKind}
use Rattle.principals.specs.declared.fault.HierarchyRefusalKind.TheVariants.{Syntax, DeclaredTwice, TooManyPrincipals, UnknownPrincipal}
use Rattle.principals.specs.declared.reading.TokenRole.{TokenRole}
use Rattle.principals.specs.declared.reading.TokenRole.TheVariants.{Principal, ActsFor, Name, Comma, Semicolon, End, Other}
use Rattle.principals.specs.declared.reading.ItemState.{ItemState}
use Rattle.principals.specs.declared.reading.ItemState.TheVariants as progress
use Rattle.principals.specs.declared.reading.HierarchyStatement.{HierarchyStatement}
use Rattle.principals.specs.declared.reading.HierarchyStatement.TheVariants as statement

-- what a token is here
abbrev pub role_by : Kind → List ℕ → TokenRole
role_by NameKind text = if bytes_eq text (codes "principal") then Principal else (if bytes_eq text (codes "actsfor") then ActsFor else Name)
role_by CommaKind text = Comma
role_by SemicolonKind text = Semicolon
role_by EndKind text = End
role_by _ text = Other

abbrev pub role_of : Terminal → TokenRole
role_of token = role_by (code_of token.kind) token.text

-- the same grammar with nonterminals:
--   Items = End  |  `principal` Names  |  name `actsfor` name `;` Items
--   Names = name `,` Names  |  name `;` Items
pub data Nonterminal : Type 0 where
  Items : Nonterminal
  Names : Nonterminal

-- the tokens are derived from a nonterminal, and have these entries
pub data DerivesFrom : Nonterminal → List Terminal → List Entry → Type 0 where
  Finish : (end : Terminal) → end.kind ≡ token.End → DerivesFrom Items (end ∷ []) []
  Declaration : (word : Terminal) (rest : List Terminal) (entries : List Entry) → IsWord (codes "principal") word
      → DerivesFrom Names rest entries → DerivesFrom Items (word ∷ rest) entries
  PrincipalRelation : (left word right semicolon : Terminal) (rest : List Terminal) (entries : List Entry)
      → IsPrincipalName left → IsWord (codes "actsfor") word → IsPrincipalName right → word_of semicolon.kind ≡ codes ";"
      → DerivesFrom Items rest entries → DerivesFrom Items (left ∷ word ∷ right ∷ semicolon ∷ rest) (Relates left right ∷ entries)
  OneMore : (name comma : Terminal) (rest : List Terminal) (entries : List Entry) → IsPrincipalName name
      → word_of comma.kind ≡ codes "," → DerivesFrom Names rest entries → DerivesFrom Names (name ∷ comma ∷ rest) (Declares name ∷ entries)
  Last : (name semicolon : Terminal) (rest : List Terminal) (entries : List Entry) → IsPrincipalName name
      → word_of semicolon.kind ≡ codes ";" → DerivesFrom Items rest entries
      → DerivesFrom Names (name ∷ semicolon ∷ rest) (Declares name ∷ entries)

-- what was read of an item: nothing; what comes before a declared name; the name; the left name of a pair; this and the
-- word; the whole pair. At last the end marker
pub data ReadingState : Type 0 where
  Fresh : ReadingState
  Declaring : ReadingState
  Listed : ReadingState
  Subject : Terminal → ReadingState
  Verb : Terminal → ReadingState
  Complete : ReadingState
  Ended : ReadingState

-- the state after one more token, if some text goes on with it
abbrev pub next_by : ReadingState → TokenRole → Terminal → Option ReadingState
next_by Fresh Principal token = Some Declaring
next_by Fresh Name token = Some (Subject token)
next_by Fresh End token = Some Ended
next_by Declaring Name token = Some Listed
next_by Listed Comma token = Some Declaring
next_by Listed Semicolon token = Some Fresh
next_by (Subject left) ActsFor token = Some (Verb left)
next_by (Verb left) Name token = Some Complete
next_by Complete Semicolon token = Some Fresh
next_by _ _ token = None

abbrev pub next : ReadingState → Terminal → Option ReadingState
next state token = next_by state (role_of token) token

-- the entry that one more token makes whole
abbrev pub finished_entries : ReadingState → Terminal → List Entry
finished_entries Declaring token = Declares token ∷ []
finished_entries (Verb left) token = Relates left token ∷ []
finished_entries _ token = []

-- the state after tokens, and the entries that they finish
abbrev pub run : ReadingState → List Terminal → Option (ReadingState × List Entry)
run state [] = Some (state, [])
run state (token ∷ rest) =
    option_and_then (λ after. option_map (λ end. (end.0, finished_entries state token ++ end.1)) (run after rest)) (next state token)

-- the code's states and statements, without references
abbrev pub state_of : ItemState → ReadingState
state_of progress.Fresh = Fresh
state_of progress.Declaring = Declaring
state_of progress.Listed = Listed
state_of (progress.Subject left) = Subject (terminal_of left)
state_of (progress.Verb left) = Verb (terminal_of left)
state_of progress.Complete = Complete
state_of progress.Ended = Ended

abbrev pub entry_of : HierarchyStatement → Entry
entry_of (statement.Declares name) = Declares (terminal_of name)
entry_of (statement.Relates left right) = Relates (terminal_of left) (terminal_of right)

abbrev pub entries_of : List HierarchyStatement → List Entry
entries_of statements = map entry_of statements

-- the tokens of a whole text of this form, with these entries
abbrev pub IsHierarchyForm : List Terminal → List Entry → Type 0
IsHierarchyForm tokens entries = Derives (codes ";") tokens entries

-- the names that are declared, in order
abbrev pub declared : List Entry → List (List ℕ)
declared [] = []
declared (Declares name ∷ entries) = name.text ∷ declared entries
declared (Relates left right ∷ entries) = declared entries

-- an entry is refused, where these names are declared before it; of two refusals of one entry the first is reported
pub data IsEntryRefusal (names : List (List ℕ)) : Entry → RefusalAt HierarchyRefusalKind → Type 0 where
  Twice : (name : Terminal) → Contains names name.text → IsEntryRefusal names (Declares name) (refusal_for DeclaredTwice name.start)
  Crowded : (name : Terminal) → (Contains names name.text → ⊥) → MAX_PRINCIPALS ≤ length names
      → IsEntryRefusal names (Declares name) (refusal_for TooManyPrincipals name.start)
  UnknownLeft : (left right : Terminal) → (Contains names left.text → ⊥)
      → IsEntryRefusal names (Relates left right) (refusal_for UnknownPrincipal left.start)
  UnknownRight : (left right : Terminal) → Contains names left.text → (Contains names right.text → ⊥)
      → IsEntryRefusal names (Relates left right) (refusal_for UnknownPrincipal right.start)

-- the refusal of the form alone: the first token with which no text of this form goes on
abbrev pub IsFormRefusal : List Terminal → RefusalAt HierarchyRefusalKind → Type 0
IsFormRefusal tokens refusal = (at : ℕ) × (refusal ≡ refusal_for Syntax at) × IsUnexpectedInHierarchyAt tokens at

-- the entries build this hierarchy
abbrev pub IsBuilt : List Entry → PrincipalHierarchy → Type 0
IsBuilt entries hierarchy = built entries ≡ Ok hierarchy

-- and this is the first thing that is wrong with them
abbrev pub IsFirstRefusal : List Entry → RefusalAt HierarchyRefusalKind → Type 0
IsFirstRefusal entries refusal = built entries ≡ Err refusal
