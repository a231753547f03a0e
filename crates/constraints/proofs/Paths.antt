-- Paths of flows to inner unknowns: put together, and noted in rows.
use Rattle.std.proofs.Common.{◌≡◌, ◌≢◌, refl, sym, ap, ◌∙◌, subst, ℕ, ◌<◌, List, [], ◌∷◌, ◌++◌, length, get_or, set, arith, ⊎_elim}
use Rattle.std.specs.Prelude.{Contains, nat_lt, slice_index_or}
use Rattle.std.proofs.lemmas.Bool.{cases_eq, ltb-false, ltb-true}
use Rattle.std.proofs.lemmas.List.{get_or-set_other, get_or-set_same, get_or_append_left, get_or_at, get_or_past, length-set, length_push}
use Rattle.common.proofs.Cases.{by_test}
use Rattle.solver.specs.declared.constraints.Atom.{Atom}
use Rattle.solver.specs.declared.constraints.Atom.TheVariants.{Unknown}
use Rattle.constraints.specs.Added.{Stored}
use Rattle.constraints.specs.Following.{AreFollowed, IsOver}
use Rattle.constraints.specs.Merging.{IsFollowed, followed, itself}
use Rattle.constraints.specs.declared.following.Following.{Following}

pub followed-then : (real : ℕ) (base : List Stored) (from middle to : Atom) → IsFollowed real base from middle → IsFollowed real base middle to → IsFollowed real base from to
followed-then real base from middle to first (itself _ same) = subst (IsFollowed real base from) same first
followed-then real base from middle to first (followed next u on inner flow) = followed next u (followed-then real base from middle next first on) inner flow

-- by whatever constraints
pub over-same : (following : Following) (a : Atom) → IsOver following a a
over-same following a real base ways = itself a refl

pub over-then : (following : Following) (a b c : Atom) → IsOver following a b → IsOver following b c → IsOver following a c
over-then following a b c first second real base ways = followed-then real base a b c (first real base ways) (second real base ways)

-- ---- rows
pub followed-set : (real : ℕ) (base : List Stored) (rows : List ℕ) (u v : ℕ) → AreFollowed real base rows → IsFollowed real base (Unknown u) (Unknown v) → AreFollowed real base (set rows u v)
followed-set real base rows u v are on w = ⊎_elim
    (λ (same : w ≡ u). by_test (nat_lt w (length rows))
    (λ inside. subst (λ k. IsFollowed real base (Unknown w) (Unknown k))
    (sym (ap (λ j. get_or (set rows u v) j w) same ∙ get_or-set_same rows u v w (subst (λ k. k < length rows) same (ltb-true w (length rows) inside))))
    (subst (λ k. IsFollowed real base (Unknown k) (Unknown v)) (sym same) on))
    (λ outside. itself (Unknown (get_or (set rows u v) w w))
    (ap (λ k. Unknown k) (sym (get_or_past (set rows u v) w w (omega (arith, ltb-false w (length rows) outside, length-set rows u v)))))))
    (λ (differs : w ≢ u). subst (λ k. IsFollowed real base (Unknown w) (Unknown k)) (sym (get_or-set_other rows u w v w differs)) (are w))
    (cases_eq w u)

pub pushed-itself : (rows new : List ℕ) (u : ℕ) → new ≡ rows ++ u ∷ [] → length rows ≡ u → ((k : ℕ) → slice_index_or rows k k ≡ k) → (k : ℕ) → slice_index_or new k k ≡ k
pushed-itself rows new u is count each k = ap (λ xs. get_or xs k k) is ∙ ⊎_elim
    (λ (here : k ≡ u). get_or_at rows u [] k k (count ∙ sym here) ∙ sym here)
    (λ (differs : k ≢ u). by_test (nat_lt k u)
    (λ below. get_or_append_left rows (u ∷ []) k k (omega (arith, ltb-true k u below, count)) ∙ each k)
    (λ past. get_or_past (rows ++ u ∷ []) k k (omega (arith, ltb-false k u past, differs, count, length_push rows u))))
    (cases_eq k u)

pub item-there : {A : Type 0} (xs : List A) (i : ℕ) (x : A) → i < length xs → x ≡ get_or xs i x → Contains xs x
item-there xs i x inside is = (i, inside, sym is)

pub followed-after : (real : ℕ) (base : List Stored) (rows : List ℕ) (u v : ℕ) → AreFollowed real base rows → v ≡ slice_index_or rows u u → IsFollowed real base (Unknown u) (Unknown v)
followed-after real base rows u v are is = subst (λ k. IsFollowed real base (Unknown u) (Unknown k)) (sym is) (are u)
