-- Comments that end: where their first `*/` stands.
use Rattle.std.proofs.Common.{◌≡◌, refl, sym, ap, ◌∙◌, ℕ, List, [], ◌∷◌, ◌++◌, length, drop, arith, append_assoc}
use Rattle.std.specs.Prelude.{codes, slice_index_or}
use Rattle.std.proofs.lemmas.List.{length-append}
use Rattle.lexer.specs.Lexeme.{HasNoCommentEnd}

-- the characters end with `*/`, and no other `*/` stands in them
pub record IsClosed (cs : List ℕ) : Type 0 where
  pub inner : List ℕ
  pub ends : cs ≡ inner ++ codes "*/"
  pub once : (before after : List ℕ) → cs ≡ before ++ (codes "*/" ++ after) → after ≡ []

no_rest : (before after : List ℕ) → 47 ∷ [] ≡ before ++ (42 ∷ 47 ∷ after) → ⊥
no_rest before after e = let n = ap length e ∙ length-append before (42 ∷ 47 ∷ after) in omega arith

ends_once : (inner before after : List ℕ) → HasNoCommentEnd (inner ++ codes "*") → inner ++ codes "*/" ≡ before ++ (codes "*/" ++ after) → after ≡ []
ends_once [] [] after none e = sym (ap (λ l. drop 2 l) e)
ends_once [] (b ∷ before) after none e = absurd (no_rest before after (ap (λ l. drop 1 l) e))
ends_once (c ∷ []) [] after none e = absurd (let no : ◌≡◌ {A = ℕ} 42 47 = ap (λ l. slice_index_or l 1 0) e in omega (arith, no))
ends_once (c ∷ d ∷ inner) [] after none e =
    let star : ◌≡◌ {A = ℕ} c 42 = ap (λ l. slice_index_or l 0 0) e in
    let solidus : ◌≡◌ {A = ℕ} d 47 = ap (λ l. slice_index_or l 1 0) e in
    absurd (none [] (inner ++ codes "*") (ap (λ n. n ∷ d ∷ (inner ++ codes "*")) star ∙ ap (λ n. 42 ∷ n ∷ (inner ++ codes "*")) solidus))
ends_once (c ∷ inner) (b ∷ before) after none e =
    ends_once inner before after (λ front back f. none (c ∷ front) back (ap (λ t. c ∷ t) f)) (ap (λ l. drop 1 l) e)

-- what stands before the `*/` has none, not even with the `*`
pub closed_by : (inner : List ℕ) → HasNoCommentEnd (inner ++ codes "*") → IsClosed (inner ++ codes "*/")
closed_by inner none = record { inner = inner; ends = refl; once = λ before after e. ends_once inner before after none e }

pub open_before : (cs : List ℕ) (closed : IsClosed cs) → HasNoCommentEnd (closed.inner ++ codes "*")
open_before cs closed before after e =
    let whole : cs ≡ before ++ (codes "*/" ++ (after ++ codes "/")) =
    closed.ends ∙ sym (append_assoc closed.inner (codes "*") (codes "/")) ∙ ap (λ t. t ++ codes "/") e
    ∙ append_assoc before (codes "*/" ++ after) (codes "/") in
    let n = ap length (closed.once before (after ++ codes "/") whole) ∙ refl in
    let m = length-append after (codes "/") in
    absurd (omega (arith, n, m))
