-- What holds of a tree that tokens spell.
use Rattle.lexer.specs.TokenKind.{TokenKind}
use Rattle.lexer.specs.TokenKind as token_kinds
use Rattle.std.proofs.Common.{ℕ, ◌-◌, ◌≤◌, List, [], length, map, get_or, ap, subst, arith}
use Rattle.std.specs.List.{All, Contains}
use Rattle.std.proofs.lemmas.List.{length-map, length-take, length-drop, get_or-map}
use Rattle.std.proofs.lemmas.List.Elements.{All-weaker, Contains-get_or}
use Rattle.std.proofs.Math.ListN.{drop}
use Rattle.std.specs.Str.{IsUtf8}
use Rattle.lexer.proofs.Listed.{listed}
use Rattle.lexer.specs.Cut.{IsCut}
use Rattle.lexer.specs.Listing as listing
use Rattle.lexer.specs.Listing.{IsSpelled, IsSliceOf}
use Rattle.lexer.specs.Terminal.{Terminal}
use Rattle.syntax.specs.Grammar.{SpellsProgram, value_of}
use Rattle.parser.specs.ReadGrammar.{program}
use Rattle.syntax.specs.Limits.{IsOfText}
use Rattle.syntax.specs.Nesting.{IsNested}
use Rattle.syntax.specs.Nodes.{program_nodes}
use Rattle.syntax.specs.Tree.{ProgramTree}
use Rattle.syntax.specs.Written.{Anywhere, IsInteger, IsNameWithin, IsWritten}
use Rattle.parser.proofs.Holds.{spelled_taken}
use Rattle.parser.proofs.Productions.{as_paired}
use Rattle.parser.proofs.Fits.{Fit, Fitting, Fits}
use Rattle.parser.proofs.FitStatements.{symbols_fit}
use Rattle.parser.proofs.FitItems.{program_fits}
use Rattle.common.specs.declared.limits.TheConstants.{MAX_TEXT}

abbrev IsShort : ℕ → Terminal → Type 0
IsShort longest token = length token.text ≤ longest

pub spelled_fits : (fits : ℕ → Type 0) (word : List ℕ → Type 0) (number : ℕ → Type 0) (tokens : List Terminal) (tree : ProgramTree) → SpellsProgram tokens tree → All (Fitting fits word number) tokens → Fit (IsWritten fits word number tree) (program_nodes tree) (IsNested 64 tree) (length tokens)
spelled_fits fits word number tokens tree spelled all =
    let taken = spelled_taken (Fitting fits word number) (Fits fits word number) (symbols_fit fits word number) program 64 tokens tree [] (as_paired 0 tokens tree spelled) all in
    let fit = program_fits fits word number 64 tree taken.count taken.holds in
    record { written = fit.written; few = omega (arith, fit.few, taken.length_is); nested = fit.nested }

-- ---- any tokens

abbrev AnyWord : List ℕ → Type 0
AnyWord text = Unit {0}

fits_anyhow : (tokens : List Terminal) (tree : ProgramTree) → SpellsProgram tokens tree → Fit (IsWritten Anywhere AnyWord Anywhere tree) (program_nodes tree) (IsNested 64 tree) (length tokens)
fits_anyhow tokens tree d =
    spelled_fits Anywhere AnyWord Anywhere tokens tree d (λ k token lt. record { place = tt; named = λ is. tt; valued = tt })

pub few_nodes : (tokens : List Terminal) (tree : ProgramTree) → SpellsProgram tokens tree → program_nodes tree ≤ length tokens
few_nodes tokens tree d = (fits_anyhow tokens tree d).few

pub spelled_nested : (tokens : List Terminal) (tree : ProgramTree) → SpellsProgram tokens tree → IsNested 64 tree
spelled_nested tokens tree d = (fits_anyhow tokens tree d).nested

-- ---- tokens with the texts of their kinds

value_small : (kind : TokenKind) (text : List ℕ) → listing.SpellsToken kind text → IsInteger (value_of kind)
value_small (token_kinds.Integer value) text h = h.2
value_small token_kinds.Name text h = omega arith
value_small _ text h = omega arith

fitting : (fits : ℕ → Type 0) (longest : ℕ) (token : Terminal) → fits token.start → IsSpelled token → IsShort longest token → Fitting fits (IsNameWithin longest) IsInteger token
fitting fits longest token place spelled short = record {
  place = place;
  named = λ is. (subst (λ kind. listing.SpellsToken kind token.text) is spelled, short);
  valued = value_small token.kind token.text spelled;
}

-- what is written where each token is spelled, not too long, and at a place that fits
pub spelled_written : (fits : ℕ → Type 0) (longest : ℕ) (tokens : List Terminal) (tree : ProgramTree) → SpellsProgram tokens tree → All IsSpelled tokens → All (IsShort longest) tokens → All (λ token. fits token.start) tokens → IsWritten fits (IsNameWithin longest) IsInteger tree
spelled_written fits longest tokens tree d spelled short places =
    (spelled_fits fits (IsNameWithin longest) IsInteger tokens tree d (λ k token lt. fitting fits longest (get_or tokens k token) (places k token lt) (spelled k token lt) (short k token lt))).written

-- each place is that of a token
pub spelled_written_there : (longest : ℕ) (tokens : List Terminal) (tree : ProgramTree) → SpellsProgram tokens tree → All IsSpelled tokens → All (λ token. length token.text ≤ longest) tokens → IsWritten (Contains (map (λ token. token.start) tokens)) (IsNameWithin longest) IsInteger tree
spelled_written_there longest tokens tree d spelled short =
    let starts = map (λ (token : Terminal). token.start) tokens in
    spelled_written (Contains starts) longest tokens tree d spelled short (λ k token lt. subst (Contains starts) (get_or-map (λ (token : Terminal). token.start) tokens k token 0 lt) (Contains-get_or starts k 0 (omega (arith, lt, length-map tokens (λ (token : Terminal). token.start)))))

-- ---- the tokens of a text

slice_short : (source : List ℕ) (longest : ℕ) → length source ≤ longest → (token : Terminal) → IsSliceOf source token → IsShort longest token
slice_short source longest few token slice =
    omega (arith, few, ap length slice, length-take (token.end - token.start) (drop token.start source), length-drop token.start source)

-- what the tokens of a text of at most 1 MiB spell is a tree of such a text
pub text_spelled : (source : List ℕ) (tokens : List Terminal) (tree : ProgramTree) → IsUtf8 source → length source ≤ MAX_TEXT → IsCut source tokens → SpellsProgram tokens tree → IsOfText tree
text_spelled source tokens tree ok few cut d =
    let each = listed source tokens ok cut in
    record {
      written = spelled_written Anywhere MAX_TEXT tokens tree d each.spelled (All-weaker (IsSliceOf source) (IsShort MAX_TEXT) (slice_short source MAX_TEXT few) tokens each.slices) (λ k token lt. tt);
      few = omega (arith, few, each.count, few_nodes tokens tree d);
    }
