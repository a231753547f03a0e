-- Exits of statements and their exit unknowns, and the exceptions of expressions, each once.
use Rattle.std.proofs.Common.{◌≡◌, refl, sym, ap, ◌∙◌, ℕ, Bool, true, false, not, List, [], ◌∷◌, ◌++◌, ◌||◌, ◌&&◌, ◌⊎◌, inl, inr, ⊎_elim, arith}
use Rattle.std.specs.Prelude.{Option, Some, if◌then◌else◌, ◌==◌, filter, flat_map}
use Rattle.std.specs.List.{list_all, list_any}
use Rattle.std.proofs.lemmas.Bool.{and_parts, or_left, or_right, or_cases}
use Rattle.std.proofs.lemmas.List.Folds.{list_any-append}
use Rattle.std.proofs.lemmas.Map.Views.{any-filter_same}
use Rattle.common.specs.declared.operator.Operator.{Operator}
use Rattle.resolved.specs.declared.statement.Exit.{Exit}
use Rattle.resolved.specs.declared.statement.Exit.TheVariants.{Normal, Return, Break, Continue, Throw}
use Rattle.resolved.specs.Tree.{Expression, Integer, Logical, Read, Element, Unary, Binary, Short, Handlers}
use Rattle.resolved.specs.Program.{Program, procedure_at}
use Rattle.common.specs.declared.exceptions.TheConstants.{ARITH, BOUNDS}
use Rattle.resolved.specs.Exits.{same_exit, has_exit, one_exit, is_division, divisor_can_raise, index_can_raise, index_raises, operator_raises, raises, thrown_exits, declared_by, then_exits, handles, passes, list_if}
use Rattle.resolved.specs.Labelled.{Join, ExitLabels}
use Rattle.resolved.specs.LabelRules.{at_exits}
use Rattle.gathering.specs.Walk.{ExitUnknowns, with_normal, in_try, raised_once, call_exits}
use Rattle.common.proofs.Cases.{by_test}
use Rattle.resolved.proofs.Exits.{same-exit, thrown-normal, thrown-break, thrown-continue}

pub has-left : (xs ys : List Exit) (e : Exit) → has_exit xs e ≡ true → has_exit (xs ++ ys) e ≡ true
has-left [] ys e h = let i : false ≡ true = h in absurd (cc)
has-left (x ∷ xs) ys e h = ⊎_elim (λ k. or_left (same_exit e x) (has_exit (xs ++ ys) e) k) (λ k. or_right (same_exit e x) (has_exit (xs ++ ys) e) (has-left xs ys e k)) (or_cases (same_exit e x) (has_exit xs e) h)

pub has-right : (xs ys : List Exit) (e : Exit) → has_exit ys e ≡ true → has_exit (xs ++ ys) e ≡ true
has-right [] ys e h = h
has-right (x ∷ xs) ys e h = or_right (same_exit e x) (has_exit (xs ++ ys) e) (has-right xs ys e h)

pub has-filter : (p : Exit → Bool) (ends : List Exit) (e : Exit) → p e ≡ true → has_exit ends e ≡ true → has_exit (filter p ends) e ≡ true
has-filter p ends e h k = any-filter_same (same_exit e) p (p e) (λ x s. sym (ap p (same-exit e x s))) ends ∙ rw (h, k) refl

pub then-rest : (first rest : List Exit) (e : Exit) → has_exit first Normal ≡ true → has_exit rest e ≡ true → has_exit (then_exits first rest) e ≡ true
then-rest first rest e normal h = rw normal (has-right (filter (λ x. not (same_exit Normal x)) first) rest e h)

abbrev pub Other : Exit → Type 0
Other e = (same_exit Normal e ≡ false) × ((normal : Option ℕ) (exit_unknowns : ExitUnknowns) → with_normal normal exit_unknowns e ≡ exit_unknowns e)

pub normal_or_other : (e : Exit) → (Normal ≡ e) ⊎ Other e
normal_or_other Normal = inl refl
normal_or_other Return = inr (refl, λ o t. refl)
normal_or_other Break = inr (refl, λ o t. refl)
normal_or_other Continue = inr (refl, λ o t. refl)
normal_or_other (Throw x) = inr (refl, λ o t. refl)

pub exits-single : (ends : List Exit) (pc : Join) (exits : ExitLabels) (e : Exit) → one_exit ends ≡ true → has_exit ends e ≡ true → at_exits ends pc exits e ≡ pc
exits-single ends pc exits e one h = rw (one, h) refl

pub exits-many : (ends : List Exit) (pc : Join) (exits : ExitLabels) (e : Exit) → one_exit ends ≡ false → has_exit ends e ≡ true → at_exits ends pc exits e ≡ exits e
exits-many ends pc exits e one h = rw (one, h) refl

pub exits-none : (ends : List Exit) (pc : Join) (exits : ExitLabels) (e : Exit) → has_exit ends e ≡ false → at_exits ends pc exits e ≡ []
exits-none ends pc exits e h = rw h refl

-- an exit of a try's block is taken by a handler, or goes on
abbrev pub Taken : Handlers → Exit → Type 0
Taken handlers e = (x : ℕ) × (Throw x ≡ e) × (handles handlers x ≡ true)

abbrev pub Passed : (ℕ → ℕ) → Handlers → ExitUnknowns → Exit → Type 0
Passed number handlers exit_unknowns e = (passes handlers e ≡ true) × (in_try number handlers exit_unknowns e ≡ exit_unknowns e)

pub taken_or_passed : (number : ℕ → ℕ) (handlers : Handlers) (exit_unknowns : ExitUnknowns) (e : Exit) → Taken handlers e ⊎ Passed number handlers exit_unknowns e
taken_or_passed number handlers exit_unknowns Normal = inr (refl, refl)
taken_or_passed number handlers exit_unknowns Return = inr (refl, refl)
taken_or_passed number handlers exit_unknowns Break = inr (refl, refl)
taken_or_passed number handlers exit_unknowns Continue = inr (refl, refl)
taken_or_passed number handlers exit_unknowns (Throw x) = by_test (handles handlers x) (λ h. inl (x, refl, h)) (λ h. inr (rw h refl, rw h refl))

pub in_try-taken : (number : ℕ → ℕ) (handlers : Handlers) (exit_unknowns : ExitUnknowns) (x : ℕ) → handles handlers x ≡ true → in_try number handlers exit_unknowns (Throw x) ≡ Some (number x)
in_try-taken number handlers exit_unknowns x h = rw h refl

single-is : (h : Exit) (rest : List Exit) (e : Exit) → list_all (same_exit h) rest ≡ true → has_exit rest e ≡ true → e ≡ h
single-is h [] e all has = let i : false ≡ true = has in absurd (cc)
single-is h (x ∷ rest) e all has =
    let parts = and_parts (same_exit h x) (list_all (same_exit h) rest) all in
    ⊎_elim (λ k. same-exit e x k ∙ sym (same-exit h x parts.0)) (λ k. single-is h rest e parts.1 k) (or_cases (same_exit e x) (has_exit rest e) has)

pub single-end : (h : Exit) (rest : List Exit) (e : Exit) → one_exit (h ∷ rest) ≡ true → has_exit (h ∷ rest) e ≡ true → e ≡ h
single-end h rest e one has = ⊎_elim (λ k. same-exit e h k) (λ k. single-is h rest e one k) (or_cases (same_exit e h) (has_exit rest e) has)

-- ---- exceptions, each once
abbrev pub is_in : ℕ → List ℕ → Bool
is_in x xs = list_any (λ y. x == y) xs

abbrev pub SameIn : List ℕ → List ℕ → Type 0
SameIn xs ys = (x : ℕ) → is_in x xs ≡ is_in x ys

thrown-has : (xs : List ℕ) (x : ℕ) → has_exit (thrown_exits xs) (Throw x) ≡ is_in x xs
thrown-has [] x = refl
thrown-has (y ∷ ys) x = ap (λ b. (x == y) || b) (thrown-has ys x)

thrown-return : (xs : List ℕ) → has_exit (thrown_exits xs) Return ≡ false
thrown-return [] = refl
thrown-return (y ∷ ys) = thrown-return ys

pub same-thrown : (xs ys : List ℕ) → SameIn xs ys → (e : Exit) → has_exit (thrown_exits xs) e ≡ has_exit (thrown_exits ys) e
same-thrown xs ys same Normal = thrown-normal xs ∙ sym (thrown-normal ys)
same-thrown xs ys same Return = thrown-return xs ∙ sym (thrown-return ys)
same-thrown xs ys same Break = thrown-break xs ∙ sym (thrown-break ys)
same-thrown xs ys same Continue = thrown-continue xs ∙ sym (thrown-continue ys)
same-thrown xs ys same (Throw x) = thrown-has xs x ∙ same x ∙ sym (thrown-has ys x)

-- the exceptions that an expression can raise
abbrev pub two : List ℕ
two = ARITH ∷ BOUNDS ∷ []

abbrev pub AmongTwo : List ℕ → Type 0
AmongTwo xs = (x : ℕ) → is_in x xs ≡ true → is_in x two ≡ true

among-append : (xs ys : List ℕ) → AmongTwo xs → AmongTwo ys → AmongTwo (xs ++ ys)
among-append xs ys f g x h =
    ⊎_elim (λ t. f x t) (λ t. g x t) (or_cases (is_in x xs) (is_in x ys) (sym (list_any-append (λ y. x == y) xs ys) ∙ h))

among-nil : AmongTwo []
among-nil x h = let i : false ≡ true = h in absurd (cc)

among-arith : AmongTwo (ARITH ∷ [])
among-arith x h = ⊎_elim (λ t. or_left (x == ARITH) (is_in x (BOUNDS ∷ [])) t) (λ t. let i : false ≡ true = t in absurd (cc)) (or_cases (x == ARITH) false h)

among-bounds : AmongTwo (BOUNDS ∷ [])
among-bounds x h = or_right (x == ARITH) (is_in x (BOUNDS ∷ [])) h

pub among-index : (index : Expression) (length : ℕ) → AmongTwo (index_raises index length)
among-index index length = go (index_can_raise index length)
  where
    go : (b : Bool) → AmongTwo (if b then BOUNDS ∷ [] else [])
    go true = among-bounds
    go false = among-nil

among-operator : (operator : Operator) (e : Expression) → AmongTwo (operator_raises operator e)
among-operator operator e = go (is_division operator) (divisor_can_raise e)
  where
    go : (b c : Bool) → AmongTwo (list_if (b && c) (ARITH ∷ []))
    go true true = among-arith
    go true false = among-nil
    go false c = among-nil

pub raises-two : (e : Expression) → AmongTwo (raises e)
raises-two (Integer n) = among-nil
raises-two (Logical b) = among-nil
raises-two (Read x) = among-nil
raises-two (Element array length index) = among-append (raises index) (index_raises index length) (raises-two index) (among-index index length)
raises-two (Unary prefix e) = raises-two e
raises-two (Binary operator d e) =
    among-append (raises d ++ raises e) (operator_raises operator e) (among-append (raises d) (raises e) (raises-two d) (raises-two e)) (among-operator operator e)
raises-two (Short connective d e) = among-append (raises d) (raises e) (raises-two d) (raises-two e)

pub arguments-two : (es : List Expression) → AmongTwo (flat_map raises es)
arguments-two [] = among-nil
arguments-two (e ∷ rest) = among-append (raises e) (flat_map raises rest) (raises-two e) (arguments-two rest)

pub store-two : (index e : Expression) (length : ℕ) → AmongTwo (raises index ++ raises e ++ index_raises index length)
store-two index e length =
    among-append (raises index ++ raises e) (index_raises index length) (among-append (raises index) (raises e) (raises-two index) (raises-two e)) (among-index index length)

pub once-same : (xs : List ℕ) → AmongTwo xs → SameIn (raised_once xs) xs
once-same xs among x =
    any-filter_same (λ y. x == y) (λ y. is_in y xs) (is_in x xs) (λ y same. ap (λ z. is_in z xs) (sym (grind (arith, same)))) two ∙ go (is_in x xs) refl
  where
    go : (b : Bool) → is_in x xs ≡ b → (b && is_in x two) ≡ b
    go true h = among x h
    go false h = refl

pub once-more : (xs ys : List ℕ) → AmongTwo xs → SameIn (raised_once xs ++ ys) (xs ++ ys)
once-more xs ys among x =
    list_any-append (λ y. x == y) (raised_once xs) ys ∙ ap (λ b. b || is_in x ys) (once-same xs among x) ∙ sym (list_any-append (λ y. x == y) xs ys)

-- the exits of a call, as the walk lists them
pub call-same : (program : Program) (callee : ℕ) (arguments : List Expression) (e : Exit) →
    has_exit (call_exits program callee arguments) e ≡ has_exit (Normal ∷ thrown_exits (flat_map raises arguments ++ declared_by (procedure_at program callee).throws)) e
call-same program callee arguments e =
    let declared : List ℕ = declared_by (procedure_at program callee).throws in
    ap (λ b. same_exit e Normal || b) (same-thrown (raised_once (flat_map raises arguments) ++ declared) (flat_map raises arguments ++ declared)
    (once-more (flat_map raises arguments) declared (arguments-two arguments)) e)
