-- The names of a hierarchy text are names.
use Rattle.lexer.specs.Patterns.{Token, Between}
use Rattle.std.proofs.Common.{◌≡◌, ℕ, ◌+◌, ◌-◌, ◌≤◌, true, List, [], ◌∷◌, length, drop, get_or, refl, sym, ap, subst, arith}
use Rattle.std.proofs.lemmas.List.{length-take, length-drop}
use Rattle.std.proofs.lemmas.List.Elements.{All-from_recursion, All-append, All-cons, All-nil, All-head, All-tail}
use Rattle.std.proofs.lemmas.Str.{scalars-chars, IsUtf8-nil}
use Rattle.std.specs.List.{AllByRecursion, All}
use Rattle.std.specs.Str.{chars, IsUtf8, all_scalars}
use Rattle.lexer.proofs.Listed.{listed, scalars_parts}
use Rattle.lexer.specs.Cut.{Cuts, Nothing, IsCut, terminal_at, size}
use Rattle.lexer.specs.Listing as listing
use Rattle.lexer.specs.Listing.{IsSliceOf, IsSpelled}
use Rattle.lexer.specs.Terminal.{Terminal}
use Rattle.lexer.specs.TokenKind.{Name, End}
use Rattle.common.specs.declared.limits.TheConstants.{MAX_TEXT}
use Rattle.principals.specs.ActsFor.{PrincipalHierarchy}
use Rattle.principals.specs.HierarchyText.{Entry, IsHierarchyOf, Formed}
use Rattle.principals.specs.Reading.{Nonterminal, DerivesFrom, Finish, Declaration, PrincipalRelation, OneMore, Last, declared, IsHierarchyForm}
use Rattle.principals.proofs.Automaton.{to_items}
use Rattle.principals.proofs.Building.{built_names}
use Rattle.principals.specs.Named.{IsUtf8NameWithin, IsKeptName}

-- the text of a token is UTF-8
abbrev IsText : Terminal → Type 0
IsText token = IsUtf8 token.text

cut_texts : (start : ℕ) (text : List ℕ) (tokens : List Terminal) (end : ℕ) (rest : List ℕ) → Cuts start text tokens end rest → all_scalars text ≡ true → AllByRecursion IsText tokens
cut_texts start text tokens end rest (Nothing _ _) scalars = tt
cut_texts start text tokens end rest (Token _ _ kind front left others _ _ next cuts) scalars =
    let (here, later) = scalars_parts front left (subst (λ t. all_scalars t ≡ true) next.text_is scalars) in
    ((front, (here, refl)), cut_texts (start + size front) left others end rest cuts later)
cut_texts start text tokens end rest (Between _ _ front left _ _ _ next cuts) scalars =
    let (here, later) = scalars_parts front left (subst (λ t. all_scalars t ≡ true) next.text_is scalars) in
    cut_texts (start + size front) left tokens end rest cuts later

pub token_texts : (text : List ℕ) (tokens : List Terminal) → IsUtf8 text → IsCut text tokens → All (λ token. IsUtf8 token.text) tokens
token_texts text tokens ok cut =
    let last : Terminal = terminal_at (length text) End [] in
    subst (All IsText) (sym cut.ended) (All-append IsText cut.words (last ∷ []) (All-from_recursion IsText cut.words (cut_texts 0 (chars text) cut.words (length text) [] cut.cuts (scalars-chars text ok))) (All-cons IsText last [] IsUtf8-nil (All-nil IsText)))

-- what holds of the text of each token that is a name holds of each name that is declared
module _ (P : List ℕ → Type 0) where
  abbrev Holds : Terminal → Type 0
  Holds token = token.kind ≡ Name → P token.text

  pub declared_hold : (form : Nonterminal) (tokens : List Terminal) (entries : List Entry) → DerivesFrom form tokens entries → All (λ token. token.kind ≡ Name → P token.text) tokens → All P (declared entries)
  declared_hold _ _ _ (Finish end kind) all = All-nil P
  declared_hold _ _ _ (Declaration word rest entries kind derived) all =
      declared_hold _ rest entries derived (All-tail Holds word rest all)
  declared_hold _ _ _ (PrincipalRelation left word right semicolon rest entries a b c d derived) all =
      declared_hold _ rest entries derived (All-tail Holds semicolon rest (All-tail Holds right (semicolon ∷ rest) (All-tail Holds word (right ∷ semicolon ∷ rest) (All-tail Holds left (word ∷ right ∷ semicolon ∷ rest) all))))
  declared_hold _ _ _ (OneMore name comma rest entries named kind derived) all =
      All-cons P name.text (declared entries) (All-head Holds name (comma ∷ rest) all named.0) (declared_hold _ rest entries derived (All-tail Holds comma rest (All-tail Holds name (comma ∷ rest) all)))
  declared_hold _ _ _ (Last name semicolon rest entries named kind derived) all =
      All-cons P name.text (declared entries) (All-head Holds name (semicolon ∷ rest) all named.0) (declared_hold _ rest entries derived (All-tail Holds semicolon rest (All-tail Holds name (semicolon ∷ rest) all)))

slice_short : (text : List ℕ) (token : Terminal) → IsSliceOf text token → length token.text ≤ length text
slice_short text token slice =
    omega (arith, ap length slice, length-take (token.end - token.start) (drop token.start text), length-drop token.start text)

name_within : (text : List ℕ) (token : Terminal) → IsSliceOf text token → IsSpelled token → IsText token → token.kind ≡ Name → IsUtf8NameWithin (length text) token.text
name_within text token slice spelled characters kind = record {
  named = subst (λ kind. listing.SpellsToken kind token.text) kind spelled;
  characters = characters;
  short = slice_short text token slice;
}

-- the names that a text declares
declared_named : (text : List ℕ) (tokens : List Terminal) (entries : List Entry) → IsUtf8 text → IsCut text tokens → IsHierarchyForm tokens entries →
    All (IsUtf8NameWithin (length text)) (declared entries)
declared_named text tokens entries ok cut form =
    let each = listed text tokens ok cut in
    let texts = token_texts text tokens ok cut in
    declared_hold (IsUtf8NameWithin (length text)) _ tokens entries (to_items form) (λ k d lt. name_within text (get_or tokens k d) (each.slices k d lt) (each.spelled k d lt) (texts k d lt))

pub names_are_names : (text : List ℕ) (hierarchy : PrincipalHierarchy) → IsUtf8 text → IsHierarchyOf text hierarchy → All (IsUtf8NameWithin (length text)) hierarchy.names
names_are_names text hierarchy ok (Formed tokens entries _ fits cut form described) =
    subst (All (IsUtf8NameWithin (length text))) (sym (built_names entries hierarchy described)) (declared_named text tokens entries ok cut form)

pub declared_kept : (text : List ℕ) (tokens : List Terminal) (entries : List Entry) → IsUtf8 text → length text ≤ MAX_TEXT → IsCut text tokens → IsHierarchyForm tokens entries →
    All IsKeptName (declared entries)
declared_kept text tokens entries ok short cut form k d lt =
    let is = declared_named text tokens entries ok cut form k d lt in
    record { named = is.named; characters = is.characters; short = omega (arith, is.short, short) }
