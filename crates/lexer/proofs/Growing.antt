-- One more lexeme of a text that is cut so far.
use Rattle.lexer.specs.Patterns.{Word, Gap, Token, Between}
use Rattle.std.proofs.Common.{◌≡◌, ℕ, ◌+◌, ◌-◌, ◌<◌, ◌≤◌, true, List, [], ◌∷◌, ◌++◌, Option, Some, None, length, sym, ap, subst, ◌∙◌, arith, append-nil}
use Rattle.std.proofs.lemmas.Str.{encodes-chars, chars-nil}
use Rattle.std.specs.Str.{chars, IsUtf8, encode_utf8_all}
use Rattle.lexer.specs.Terminal.{Terminal}
use Rattle.lexer.specs.Lexeme.{Lexeme}
use Rattle.lexer.specs.Cut.{Cuts, Nothing, IsNextLexeme, IsCut, IsTextRefused, terminal_at, size}
use Rattle.lexer.specs.Scan.{Reads, after_run, lexeme_of, IsStuck}
use Rattle.lexer.specs.Words.{is_white_space}
use Rattle.lexer.specs.KindOf.{kind_of}
use Rattle.lexer.specs.TokenKind.{End}
use Rattle.lexer.specs.declared.token.Kind.{Kind}
use Rattle.common.specs.declared.refusal.RefusalAt.{RefusalAt}
use Rattle.lexer.specs.declared.fault.LexRefusalKind.{LexRefusalKind}
use Rattle.lexer.proofs.Cutting.{cuts_on}
use Rattle.lexer.proofs.Listed.{size-append, front_some}
use Rattle.lexer.proofs.Nexts.{next_white}
use Rattle.lexer.proofs.Reading.{run_parts}
use Rattle.lexer.specs.Scan.{Stops}
use Rattle.lexer.proofs.Runs.{same_before}
use Rattle.std.proofs.lemmas.Bool.{and_parts}
use Rattle.std.specs.List.{list_all}

-- the text is cut up to where `rest` begins
pub record IsCutSoFar (text rest : List ℕ) (tokens : List Terminal) : Type 0 where
  pub within : length rest ≤ length text
  pub cuts : Cuts 0 (chars text) tokens (length text - length rest) (chars rest)

pub begin : (text : List ℕ) → IsCutSoFar text text []
begin text =
    let none : 0 ≡ length text - length text = omega arith in
    record { within = omega arith; cuts = subst (λ k. Cuts 0 (chars text) [] k (chars text)) none (Nothing 0 (chars text)) }

-- how far a lexeme goes
record Goes (text rest left : List ℕ) (front : List ℕ) : Type 0 where
  shorter : length left < length rest
  place : length text - length rest + size front ≡ length text - length left

goes : (text rest left : List ℕ) (lexeme : Lexeme) (front : List ℕ) → length rest ≤ length text → IsUtf8 rest → IsUtf8 left
    → IsNextLexeme (chars rest) lexeme front (chars left) → Goes text rest left front
goes text rest left lexeme front within ok tail_ok next =
    let n : length rest ≡ size (chars rest) = ap length (sym (encodes-chars rest ok)) in
    let m : length left ≡ size (chars left) = ap length (sym (encodes-chars left tail_ok)) in
    let parts : size (chars rest) ≡ size front + size (chars left) = ap size next.text_is ∙ size-append front (chars left) in
    let some = front_some lexeme (chars rest) front (chars left) next in
    record { shorter = omega arith; place = omega arith }

-- a lexeme takes a byte at least
pub shorter_by : (rest left : List ℕ) (kind : Option Kind) → IsUtf8 rest → IsUtf8 left
    → Reads (chars rest) kind (chars left) → length left < length rest
shorter_by rest left kind ok tail_ok (front, next) =
    (goes rest rest left (lexeme_of kind) front (omega arith) ok tail_ok next).shorter

-- a gap
pub record GrowsBy (text rest left : List ℕ) (tokens : List Terminal) : Type 0 where
  pub shorter : length left < length rest
  pub grown : IsCutSoFar text left tokens

pub gap : (text rest left : List ℕ) (tokens : List Terminal) → IsUtf8 rest → IsUtf8 left → IsCutSoFar text rest tokens
    → Reads (chars rest) None (chars left) → GrowsBy text rest left tokens
gap text rest left tokens ok tail_ok so_far (front, next) =
    let g = goes text rest left Gap front so_far.within ok tail_ok next in
    let here = length text - length rest in
    let step : Cuts here (chars rest) [] (length text - length left) (chars left) =
    subst (λ k. Cuts here (chars rest) [] k (chars left)) g.place
    (Between here (chars rest) front (chars left) [] (here + size front) (chars left) next (Nothing (here + size front) (chars left))) in
    let h = so_far.within in
    let s = g.shorter in
    record {
      shorter = g.shorter;
      grown = record {
        within = omega arith;
        cuts = subst (λ ts. Cuts 0 (chars text) ts (length text - length left) (chars left)) (append-nil tokens)
            (cuts_on 0 (chars text) tokens here (chars rest) [] (length text - length left) (chars left) so_far.cuts step);
      };
    }

-- white space is cut into gaps
blanks_cut : (start : ℕ) (front rest : List ℕ) → list_all is_white_space front ≡ true
    → Cuts start (front ++ rest) [] (start + size front) rest
blanks_cut start [] rest all =
    let none : start ≡ start + size [] = omega arith in
    subst (λ k. Cuts start rest [] k rest) none (Nothing start rest)
blanks_cut start (c ∷ front) rest all =
    let (first, others) = and_parts (is_white_space c) (list_all is_white_space front) all in
    let parts = size-append (c ∷ []) front in
    let place : start + size (c ∷ []) + size front ≡ start + size (c ∷ front) = omega arith in
    Between start (c ∷ (front ++ rest)) (c ∷ []) (front ++ rest) [] (start + size (c ∷ front)) rest
    (next_white c (front ++ rest) first)
    (subst (λ k. Cuts (start + size (c ∷ [])) (front ++ rest) [] k rest) place (blanks_cut (start + size (c ∷ [])) front rest others))

-- the white space is passed
pub record PassesBlanks (text left : List ℕ) (tokens : List Terminal) : Type 0 where
  pub so_far : IsCutSoFar text left tokens
  pub dark : Stops is_white_space (chars left)

pub no_longer : (rest left : List ℕ) → IsUtf8 rest → IsUtf8 left → chars left ≡ after_run is_white_space (chars rest)
    → length left ≤ length rest
no_longer rest left ok tail_ok e =
    let (front, run) = run_parts is_white_space (chars rest) in
    let n : length rest ≡ size (chars rest) = ap length (sym (encodes-chars rest ok)) in
    let m : length left ≡ size (chars left) = ap length (sym (encodes-chars left tail_ok)) in
    let whole : chars rest ≡ front ++ chars left = run.text_is ∙ ap (λ r. front ++ r) (sym e) in
    let parts : size (chars rest) ≡ size front + size (chars left) = ap size whole ∙ size-append front (chars left) in
    omega arith

pub blanks : (text rest left : List ℕ) (tokens : List Terminal) → IsUtf8 rest → IsUtf8 left → IsCutSoFar text rest tokens
    → chars left ≡ after_run is_white_space (chars rest) → PassesBlanks text left tokens
blanks text rest left tokens ok tail_ok so_far e =
    let (front, run) = run_parts is_white_space (chars rest) in
    let n : length rest ≡ size (chars rest) = ap length (sym (encodes-chars rest ok)) in
    let m : length left ≡ size (chars left) = ap length (sym (encodes-chars left tail_ok)) in
    let whole : chars rest ≡ front ++ chars left = run.text_is ∙ ap (λ r. front ++ r) (sym e) in
    let parts : size (chars rest) ≡ size front + size (chars left) = ap size whole ∙ size-append front (chars left) in
    let h = so_far.within in
    let here = length text - length rest in
    let place : here + size front ≡ length text - length left = omega arith in
    let step : Cuts here (chars rest) [] (length text - length left) (chars left) =
    subst (λ t. Cuts here t [] (length text - length left) (chars left)) (sym whole)
    (subst (λ k. Cuts here (front ++ chars left) [] k (chars left)) place (blanks_cut here front (chars left) run.passes)) in
    record {
      so_far = record {
        within = omega arith;
        cuts = subst (λ ts. Cuts 0 (chars text) ts (length text - length left) (chars left)) (append-nil tokens)
            (cuts_on 0 (chars text) tokens here (chars rest) [] (length text - length left) (chars left) so_far.cuts step);
      };
      dark = subst (Stops is_white_space) (sym e) run.stops;
    }

-- a token, with the bytes of its text
pub token : (text rest left bytes : List ℕ) (tokens : List Terminal) (kind : Kind) → IsUtf8 rest → IsUtf8 left → IsUtf8 bytes
    → IsCutSoFar text rest tokens → Reads (chars rest) (Some kind) (chars left) → chars rest ≡ chars bytes ++ chars left
    → (added : Terminal)
    → added ≡ record { kind = kind_of kind; text = bytes; start = length text - length rest; end = length text - length rest + length bytes }
    → GrowsBy text rest left (tokens ++ added ∷ [])
token text rest left bytes tokens kind ok tail_ok bytes_ok so_far (front, next) parts added e =
    let g = goes text rest left (Word (kind_of kind)) front so_far.within ok tail_ok next in
    let here = length text - length rest in
    let same : chars bytes ≡ front = same_before (chars bytes) front (chars left) (sym parts ∙ next.text_is) in
    let spelled : encode_utf8_all front ≡ bytes = ap encode_utf8_all (sym same) ∙ encodes-chars bytes bytes_ok in
    let terminal : terminal_at here (kind_of kind) front ≡ added =
    ap (λ t. record { kind = kind_of kind; text = t; start = here; end = here + length t }) spelled ∙ sym e in
    let step : Cuts here (chars rest) (terminal_at here (kind_of kind) front ∷ []) (length text - length left) (chars left) =
    subst (λ k. Cuts here (chars rest) (terminal_at here (kind_of kind) front ∷ []) k (chars left)) g.place
    (Token here (chars rest) (kind_of kind) front (chars left) [] (here + size front) (chars left) next (Nothing (here + size front) (chars left))) in
    let h = so_far.within in
    let s = g.shorter in
    record {
      shorter = g.shorter;
      grown = record {
        within = omega arith;
        cuts = subst (λ t. Cuts 0 (chars text) (tokens ++ t ∷ []) (length text - length left) (chars left)) terminal
            (cuts_on 0 (chars text) tokens here (chars rest) _ (length text - length left) (chars left) so_far.cuts step);
      };
    }

-- a text that can't be cut further
pub refused : (text rest : List ℕ) (tokens : List Terminal) (fault : RefusalAt LexRefusalKind) → IsCutSoFar text rest tokens
    → IsStuck (length text - length rest) (chars rest) fault → IsTextRefused text fault
refused text rest tokens fault so_far stuck = record {
  words = tokens;
  rest = chars rest;
  cuts = subst (λ p. Cuts 0 (chars text) tokens p (chars rest)) (sym stuck.0) so_far.cuts;
  stuck = stuck.1;
}

-- a text that is cut to its end
pub cut_to_end : (text rest : List ℕ) (tokens : List Terminal) (last : Terminal) → IsCutSoFar text rest tokens → rest ≡ []
    → last ≡ record { kind = End; text = rest; start = length text; end = length text + length rest }
    → IsCut text (tokens ++ last ∷ [])
cut_to_end text rest tokens last so_far e k =
    let place : length text - length rest ≡ length text = let n = ap length e in omega arith in
    let none : chars rest ≡ [] = ap chars e ∙ chars-nil in
    record {
      words = tokens;
      cuts = subst (λ r. Cuts 0 (chars text) tokens (length text) r) none
          (subst (λ p. Cuts 0 (chars text) tokens p (chars rest)) place so_far.cuts);
      ended = ap (λ t. tokens ++ t ∷ []) (k
          ∙ ap (λ r. record { kind = End; text = r; start = length text; end = length text + length r }) e);
    }
