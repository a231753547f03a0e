-- Cuts of a text, one after another, and why there is one at most.
use Rattle.lexer.specs.Patterns.{Word, Gap, LargeLiteral, OpenComment, Token, Between}
use Rattle.std.proofs.Common.{◌≡◌, ℕ, ◌+◌, List, [], ◌∷◌, ◌++◌, length, refl, sym, ap, subst, ◌∙◌}
use Rattle.std.specs.Str.{chars}
use Rattle.lexer.specs.Terminal.{Terminal}
use Rattle.lexer.specs.Lexeme.{Lexeme}
use Rattle.lexer.specs.Cut.{Cuts, Nothing, IsNextLexeme, IsRefusedFor, terminal_at, size}
use Rattle.lexer.specs.Laws.{HasOneCut, IsNotCutAndRefused, TextsHaveOneRefusal}
use Rattle.lexer.specs.TokenKind.{TokenKind, End}
use Rattle.lexer.specs.declared.fault.LexRefusalKind.{LexRefusalKind}
use Rattle.lexer.specs.declared.fault.LexRefusalKind.TheVariants.{NoToken, LiteralTooLarge, UnclosedComment}
use Rattle.lexer.proofs.Fronts.{nonempty}
use Rattle.lexer.proofs.Nexts.{one_next}

-- one cut goes on from another
pub cuts_on : (start : ℕ) (text : List ℕ) (tokens : List Terminal) (middle : ℕ) (left : List ℕ) (others : List Terminal)
    (end : ℕ) (rest : List ℕ) → Cuts start text tokens middle left → Cuts middle left others end rest
    → Cuts start text (tokens ++ others) end rest
cuts_on start text tokens middle left others end rest (Nothing _ _) more = more
cuts_on start text tokens middle left others end rest (Token _ _ kind front l ts _ _ next cuts) more =
    Token start text kind front l (ts ++ others) end rest next
    (cuts_on (start + size front) l ts middle left others end rest cuts more)
cuts_on start text tokens middle left others end rest (Between _ _ front l ts _ _ next cuts) more =
    Between start text front l (ts ++ others) end rest next
    (cuts_on (start + size front) l ts middle left others end rest cuts more)

-- no token and no gap begins the text
pub record Halts (text : List ℕ) : Type 0 where
  pub no_token : (kind : TokenKind) (front left : List ℕ) → IsNextLexeme text (Word kind) front left → ⊥
  pub no_gap : (front left : List ℕ) → IsNextLexeme text Gap front left → ⊥

-- the end of a cut: its tokens, and where it ends
pub record Same (tokens others : List Terminal) (end place : ℕ) (rest left : List ℕ) : Type 0 where
  pub tokens_same : tokens ≡ others
  pub end_same : end ≡ place
  pub rest_same : rest ≡ left

moved_cut : (start : ℕ) (front back l m : List ℕ) (tokens : List Terminal) (end : ℕ) (rest : List ℕ) → front ≡ back
    → l ≡ m → Cuts (start + size back) m tokens end rest → Cuts (start + size front) l tokens end rest
moved_cut start front back l m tokens end rest e k cuts =
    subst (λ t. Cuts (start + size front) t tokens end rest) (sym k)
    (subst (λ f. Cuts (start + size f) m tokens end rest) (sym e) cuts)

-- two cuts that go as far as they can are one
pub one_way : (start : ℕ) (text : List ℕ) (tokens : List Terminal) (end : ℕ) (rest : List ℕ) (others : List Terminal)
    (place : ℕ) (left : List ℕ) → Cuts start text tokens end rest → Halts rest → Cuts start text others place left
    → Halts left → Same tokens others end place rest left
one_way start text tokens end rest others place left (Nothing _ _) h (Nothing _ _) k =
    record { tokens_same = refl; end_same = refl; rest_same = refl }
one_way start text tokens end rest others place left (Nothing _ _) h (Token _ _ kind front l ts _ _ next cuts) k =
    absurd (h.no_token kind front l next)
one_way start text tokens end rest others place left (Nothing _ _) h (Between _ _ front l ts _ _ next cuts) k =
    absurd (h.no_gap front l next)
one_way start text tokens end rest others place left (Token _ _ kind front l ts _ _ next cuts) h (Nothing _ _) k =
    absurd (k.no_token kind front l next)
one_way start text tokens end rest others place left (Token _ _ kind front l ts _ _ next cuts) h (Token _ _ other back m us _ _ after more) k =
    let (lexeme, (same, goes_on)) = one_next text front l back m (Word kind) (Word other) next after in
    let kind_same : kind ≡ other = cc in
    let here : Cuts (start + size front) l us place left = moved_cut start front back l m us place left same goes_on more in
    let r = one_way (start + size front) l ts end rest us place left cuts h here k in
    record {
      tokens_same =
          ap (λ t. t ∷ ts) (ap (λ x. terminal_at start x front) kind_same ∙ ap (terminal_at start other) same)
          ∙ ap (λ x. terminal_at start other back ∷ x) r.tokens_same;
      end_same = r.end_same;
      rest_same = r.rest_same;
    }
one_way start text tokens end rest others place left (Token _ _ kind front l ts _ _ next cuts) h (Between _ _ back m us _ _ after more) k =
    let e = (one_next text front l back m (Word kind) Gap next after).0 in
    absurd cc
one_way start text tokens end rest others place left (Between _ _ front l ts _ _ next cuts) h (Nothing _ _) k =
    absurd (k.no_gap front l next)
one_way start text tokens end rest others place left (Between _ _ front l ts _ _ next cuts) h (Token _ _ other back m us _ _ after more) k =
    let e = (one_next text front l back m Gap (Word other) next after).0 in
    absurd cc
one_way start text tokens end rest others place left (Between _ _ front l _ _ _ next cuts) h (Between _ _ back m _ _ _ after more) k =
    let (lexeme, (same, goes_on)) = one_next text front l back m Gap Gap next after in
    let here : Cuts (start + size front) l others place left = moved_cut start front back l m others place left same goes_on more in
    one_way (start + size front) l tokens end rest others place left cuts h here k

-- where no character is left, nothing begins
front_nil : (lexeme : Lexeme) (text front left : List ℕ) → IsNextLexeme text lexeme front left → text ≡ [] → ⊥
front_nil lexeme text [] left next e = nonempty lexeme [] next.is refl
front_nil lexeme text (c ∷ front) left next e = let both : [] ≡ c ∷ (front ++ left) = sym e ∙ next.text_is in cc

pub halts_nil : Halts []
halts_nil = record {
  no_token = λ kind front left next. front_nil (Word kind) [] front left next refl;
  no_gap = λ front left next. front_nil Gap [] front left next refl;
}

-- a text that goes on with a refused lexeme goes on with no other
halts_at : (text front rest : List ℕ) (lexeme : Lexeme) → ((kind : TokenKind) → lexeme ≡ Word kind → ⊥)
    → (lexeme ≡ Gap → ⊥) → IsNextLexeme text lexeme front rest → Halts text
halts_at text front rest lexeme no_word no_gap next = record {
  no_token = λ kind back left other. no_word kind (one_next text front rest back left lexeme (Word kind) next other).0;
  no_gap = λ back left other. no_gap (one_next text front rest back left lexeme Gap next other).0;
}

pub halts_stuck : (text : List ℕ) (kind : LexRefusalKind) → IsRefusedFor text kind → Halts text
halts_stuck text NoToken stuck = record {
  no_token = λ kind front left next. stuck.1 (Word kind) front left next.is next.text_is;
  no_gap = λ front left next. stuck.1 Gap front left next.is next.text_is;
}
halts_stuck text LiteralTooLarge (front, rest, next) = halts_at text front rest LargeLiteral (λ kind h. cc) (λ h. cc) next
halts_stuck text UnclosedComment (front, rest, next) = halts_at text front rest OpenComment (λ kind h. cc) (λ h. cc) next

some_stuck : (text : List ℕ) (kind : LexRefusalKind) → IsRefusedFor text kind → text ≡ [] → ⊥
some_stuck text NoToken stuck e = stuck.0 e
some_stuck text LiteralTooLarge (front, rest, next) e = front_nil LargeLiteral text front rest next e
some_stuck text UnclosedComment (front, rest, next) e = front_nil OpenComment text front rest next e

one_kind : (text : List ℕ) (kind other : LexRefusalKind) → IsRefusedFor text kind → IsRefusedFor text other → kind ≡ other
one_kind text NoToken NoToken h k = refl
one_kind text NoToken LiteralTooLarge h (front, rest, next) = absurd (h.1 LargeLiteral front rest next.is next.text_is)
one_kind text NoToken UnclosedComment h (front, rest, next) = absurd (h.1 OpenComment front rest next.is next.text_is)
one_kind text LiteralTooLarge NoToken (front, rest, next) k = absurd (k.1 LargeLiteral front rest next.is next.text_is)
one_kind text LiteralTooLarge LiteralTooLarge h k = refl
one_kind text LiteralTooLarge UnclosedComment (front, rest, next) (back, left, other) =
    let e = (one_next text front rest back left LargeLiteral OpenComment next other).0 in
    absurd cc
one_kind text UnclosedComment NoToken (front, rest, next) k = absurd (k.1 OpenComment front rest next.is next.text_is)
one_kind text UnclosedComment LiteralTooLarge (front, rest, next) (back, left, other) =
    let e = (one_next text front rest back left OpenComment LargeLiteral next other).0 in
    absurd cc
one_kind text UnclosedComment UnclosedComment h k = refl

-- the laws
pub has_one_cut : HasOneCut
has_one_cut text tokens others h k =
    let same = one_way 0 (chars text) h.words (length text) [] k.words (length text) [] h.cuts halts_nil k.cuts halts_nil in
    h.ended ∙ (ap (λ ws. ws ++ terminal_at (length text) End [] ∷ []) same.tokens_same ∙ sym k.ended)

pub not_cut_and_refused : IsNotCutAndRefused
not_cut_and_refused text tokens refusal h k =
    let halts = halts_stuck k.rest refusal.kind k.stuck in
    let same = one_way 0 (chars text) h.words (length text) [] k.words refusal.at k.rest h.cuts halts_nil k.cuts halts in
    some_stuck k.rest refusal.kind k.stuck (sym same.rest_same)

pub has_one_refusal : TextsHaveOneRefusal
has_one_refusal text refusal other h k =
    let halts = halts_stuck h.rest refusal.kind h.stuck in
    let other_halts = halts_stuck k.rest other.kind k.stuck in
    let same = one_way 0 (chars text) h.words refusal.at h.rest k.words other.at k.rest h.cuts halts k.cuts other_halts in
    let kinds = one_kind k.rest refusal.kind other.kind (subst (λ r. IsRefusedFor r refusal.kind) same.rest_same h.stuck) k.stuck in
    λ i. record { kind = kinds i; at = same.end_same i }
