-- The text of a principal hierarchy: its form, the hierarchy that its entries build, and the first refusal in it. Our own.
use Rattle.std.specs.Prelude.{◌≡◌, ◌≢◌, ℕ, ◌<◌, ◌≤◌, nat_le, is_some, if◌then◌else◌, List, [], ◌∷◌, ◌++◌, length, codes, ok_or, Result, Ok, Err, IsCharBoundary}
use Rattle.common.specs.Results.{along, ◌>>=◌}
use Rattle.common.specs.declared.limits.TheConstants.{MAX_PRINCIPALS, MAX_TEXT}
use Rattle.lexer.specs.Cut.{IsCut, IsTextRefused}
use Rattle.lexer.specs.FirstFault.{AreRefusedAt}
use Rattle.lexer.specs.Terminal.{Terminal}
use Rattle.lexer.specs.declared.fault.LexRefusalKind.{LexRefusalKind}
use Rattle.lexer.specs.TokenKind.{Name, End, word_of}
use Rattle.principals.specs.ActsFor.{PrincipalHierarchy, number_of}
use Rattle.common.specs.declared.refusal.RefusalAt.{RefusalAt}
use Rattle.principals.specs.declared.fault.HierarchyRefusalKind.{HierarchyRefusalKind}
use Rattle.principals.specs.declared.fault.HierarchyRefusalKind.TheVariants.{TooLong, Syntax, DeclaredTwice, TooManyPrincipals, UnknownPrincipal}

-- ---- the form of the text

-- what a text says, in order: that there is a principal of a name, or that one acts for another. Each name is its token
pub data Entry : Type 0 where
  Declares : Terminal → Entry
  Relates : Terminal → Terminal → Entry

-- the token is this word
abbrev pub IsWord : List ℕ → Terminal → Type 0
IsWord word token = (token.kind ≡ Name) × (token.text ≡ word)

-- the token may name a principal: it is a name, and neither of the two words of this text
abbrev pub IsPrincipalName : Terminal → Type 0
IsPrincipalName token = (token.kind ≡ Name) × (token.text ≢ codes "principal") × (token.text ≢ codes "actsfor")

-- the tokens that may stand after a sign, up to the end, and the entries that they have. After `;`, and at the begin of the text, stands
-- the end, a declaration or a pair; the names of a declaration stand after its word and after each `,`
pub data Derives : (sign : List ℕ) → List Terminal → List Entry → Type 0 where
  Finish : (end : Terminal) → end.kind ≡ End → Derives (codes ";") (end ∷ []) []
  Declaration : (word : Terminal) (rest : List Terminal) (entries : List Entry) → IsWord (codes "principal") word
      → Derives (codes ",") rest entries → Derives (codes ";") (word ∷ rest) entries
  DeclaredName : (name sign : Terminal) (rest : List Terminal) (entries : List Entry) → IsPrincipalName name
      → Derives (word_of sign.kind) rest entries → Derives (codes ",") (name ∷ sign ∷ rest) (Declares name ∷ entries)
  PrincipalRelation : (left word right sign : Terminal) (rest : List Terminal) (entries : List Entry)
      → IsPrincipalName left → IsWord (codes "actsfor") word → IsPrincipalName right → word_of sign.kind ≡ codes ";"
      → Derives (codes ";") rest entries → Derives (codes ";") (left ∷ word ∷ right ∷ sign ∷ rest) (Relates left right ∷ entries)

-- the tokens are a prefix of those of some text of this form
abbrev pub IsPrefixOfForm : List Terminal → Type 0
IsPrefixOfForm front = (more : List Terminal) × (entries : List Entry) × Derives (codes ";") (front ++ more) entries

-- ---- what the entries build

-- the refusal of a kind at a byte
abbrev pub refusal_for : HierarchyRefusalKind → (at : ℕ) → RefusalAt HierarchyRefusalKind
refusal_for kind at = record { kind = kind; at = at }

-- the hierarchy so far with one entry more, or what is wrong with the entry. A pair is written by the numbers of its names
abbrev pub with_entry : PrincipalHierarchy → Entry → Result PrincipalHierarchy (RefusalAt HierarchyRefusalKind)
with_entry so_far (Declares name) =
    if is_some (number_of so_far name.text) then Err (refusal_for DeclaredTwice name.start)
    else (if nat_le MAX_PRINCIPALS (length so_far.names) then Err (refusal_for TooManyPrincipals name.start)
    else Ok (record so_far { names = so_far.names ++ name.text ∷ [] }))
with_entry so_far (Relates left right) = do
  a ← ok_or (number_of so_far left.text) (refusal_for UnknownPrincipal left.start)
  b ← ok_or (number_of so_far right.text) (refusal_for UnknownPrincipal right.start)
  Ok (record so_far { pairs = so_far.pairs ++ (a, b) ∷ [] })

-- ---- the whole text

-- what a text is read as: the hierarchy that its entries build, or the first refusal, which is that it is too long, that its tokens are
-- refused, that one of them is such that no text of this form goes on with it, or the first thing that is wrong with its entries
pub data IsReadAs (text : List ℕ) : Result PrincipalHierarchy (RefusalAt HierarchyRefusalKind) → Type 0 where
  Long : MAX_TEXT < length text → IsReadAs text (Err (refusal_for TooLong 0))
  Tokenless : (refusal : RefusalAt LexRefusalKind) → length text ≤ MAX_TEXT → IsTextRefused text refusal
      → IsReadAs text (Err (refusal_for Syntax refusal.at))
  Formless : (tokens : List Terminal) (at : ℕ) → length text ≤ MAX_TEXT → IsCut text tokens
      → AreRefusedAt IsPrefixOfForm (λ front. ¬ IsPrefixOfForm front) tokens at → IsReadAs text (Err (refusal_for Syntax at))
  Formed : (tokens : List Terminal) (entries : List Entry) (outcome : Result PrincipalHierarchy (RefusalAt HierarchyRefusalKind))
      → length text ≤ MAX_TEXT → IsCut text tokens → Derives (codes ";") tokens entries
      → along with_entry (record { names = []; pairs = [] }) entries ≡ outcome → IsReadAs text outcome

-- ---- parts of the rules, by which contracts and proofs speak of them

-- the hierarchy of entries, which are added one after another, or the first thing that is wrong with them
abbrev pub built : List Entry → Result PrincipalHierarchy (RefusalAt HierarchyRefusalKind)
built entries = along with_entry (record { names = []; pairs = [] }) entries

-- the hierarchy of a text, and its first refusal
abbrev pub IsHierarchyOf : List ℕ → PrincipalHierarchy → Type 0
IsHierarchyOf text hierarchy = IsReadAs text (Ok hierarchy)

abbrev pub IsRefusedText : List ℕ → RefusalAt HierarchyRefusalKind → Type 0
IsRefusedText text refusal = IsReadAs text (Err refusal)

-- a text of this form, with its entries
pub record HasEntries (text : List ℕ) (entries : List Entry) : Type 0 where
  pub fits : length text ≤ MAX_TEXT
  pub tokens : List Terminal
  pub cut : IsCut text tokens
  pub form : Derives (codes ";") tokens entries

-- the first token with which no text of this form goes on begins at a byte
abbrev pub IsUnexpectedInHierarchyAt : List Terminal → ℕ → Type 0
IsUnexpectedInHierarchyAt tokens at = AreRefusedAt IsPrefixOfForm (λ front. ¬ IsPrefixOfForm front) tokens at

-- the place of a refusal is a character boundary of the text, so that its line and its column can be found
abbrev pub HasBoundary : List ℕ → RefusalAt HierarchyRefusalKind → Type 0
HasBoundary text refusal = IsCharBoundary text refusal.at
