-- Tables of names: what they say of a name after some were put in or taken out.
use Rattle.std.proofs.Common.{◌≡◌, ℕ, ◌+◌, ◌<◌, List, [], ◌∷◌, ◌++◌, length, take, drop, get_or, Bool, true, false, ◌||◌, cond, Option, Some, None, Ok, refl, sym, ◌∙◌, ap}
use Rattle.std.specs.Prelude.{bytes_eq, string_bytes, String}
use Rattle.std.specs.BTreeMap.{BTreeMap, is_at}
use Rattle.std.specs.Borrow.{Bor}
use Rattle.std.specs.Cmp.Lexicographic.{slice_cmp}
use Rattle.std.specs.List.{list_any}
use Rattle.std.specs.Map.{lookup}
use Rattle.std.specs.Ordering.{nat_cmp}
use Rattle.std.specs.declared.alloc.Global.{Global}
use Rattle.std.proofs.lemmas.List.{take_more, map_push}
use Rattle.std.proofs.lemmas.List.Folds.{list_any-append}
use Rattle.std.proofs.Math.Seq.{drop-append_seam}
use Rattle.std.proofs.lemmas.Slice.Eq.{bytes_eq-Decides}
use Rattle.syntax.specs.Tree.{NameTree, ItemTree}
use Rattle.types.specs.declared.scope.Meaning.{Meaning}
use Rattle.types.specs.Finding.{Finding, give}
use Rattle.types.specs.Environment.{Environment, declaring, fresh_finding}
use Rattle.types.proofs.NextItems.{next_is}
use Rattle.types.specs.Resolution.{TopLevel, item_name, item_meaning, counted, next_name}
use Rattle.types.specs.Views.{and_then, found_at, or_else, texts_of, without}

-- what stands in a finding
abbrev value_or : {A : Type 0} → A → Finding A → A
value_or d (Ok x) = x
value_or d _ = d

pub ok_inside : {A : Type 0} (x y : A) → give x ≡ give y → x ≡ y
ok_inside x y e = ap (value_or x) e

-- tables without entries find nothing
pub empty_finds : (short : ℕ → Option Meaning) (long : BTreeMap (String Global) Meaning) → ((number : ℕ) → short number ≡ None) → long.entries ≡ []
    → (other : List ℕ) (number : Option ℕ) → found_at short long other number ≡ None
empty_finds short long e f other (Some number) = e number
empty_finds short long e f other None = ap (λ entries. lookup (is_at (λ key. slice_cmp nat_cmp other (string_bytes key))) entries) f

-- ---- names that are taken out

-- some and then others
pub without_both : (some others : List (List ℕ)) (names : Environment) (name : List ℕ) → without (some ++ others) names name ≡ without some (without others names) name
without_both some others names name =
    ap (λ gone. cond gone None (names name)) (list_any-append (λ one. bytes_eq one name) some others)
    ∙ by (list_any (λ one. bytes_eq one name) some) (list_any (λ one. bytes_eq one name) others)
  where
    by : (first second : Bool) → cond (first || second) None (names name) ≡ cond first None (cond second None (names name))
    by true second = refl
    by false second = refl

-- one of them
pub without_one : (text : List ℕ) (names : Environment) (other : List ℕ) → without (text ∷ []) names other ≡ cond (bytes_eq text other) None (names other)
without_one text names other = by (bytes_eq text other)
  where
    by : (gone : Bool) → cond (gone || false) None (names other) ≡ cond gone None (names other)
    by true = refl
    by false = refl

-- one more of a list
pub without_more : (gone : List (Bor (List ℕ))) (i : ℕ) (next : Bor (List ℕ)) (text : List ℕ) (names : Environment) → i < length gone → next ≡ get_or gone i next
    → text ≡ next.now → (other : List ℕ)
    → cond (bytes_eq text other) None (without (texts_of (take i gone)) names other) ≡ without (texts_of (take (i + 1) gone)) names other
without_more gone i next text names within is same other =
    let more : texts_of (take (i + 1) gone) ≡ texts_of (take i gone) ++ text ∷ [] =
    ap texts_of (take_more gone i next within ∙ ap (λ one. take i gone ++ one ∷ []) (sym is)) ∙ map_push (λ name. name.now) (take i gone) next
    ∙ ap (λ one. texts_of (take i gone) ++ one ∷ []) (sym same) in
    by (bytes_eq text other) (list_any (λ one. bytes_eq one other) (texts_of (take i gone)))
    ∙ ap (λ found. cond found None (names other)) (sym (ap (list_any (λ one. bytes_eq one other)) more ∙ list_any-append (λ one. bytes_eq one other) (texts_of (take i gone)) (text ∷ [])))
  where
    by : (last before : Bool) → cond last None (cond before None (names other)) ≡ cond (before || (last || false)) None (names other)
    by true true = refl
    by true false = refl
    by false true = refl
    by false false = refl

-- the one that was declared last, which stood for nothing before
pub without_declared : (name : List ℕ) (meaning : Meaning) (names : Environment) → names name ≡ None → (other : List ℕ)
    → names other ≡ without (name ∷ []) (declaring name meaning names) other
without_declared name meaning names fresh other = by (bytes_eq name other) ((bytes_eq-Decides name other).0)
  where
    by : (b : Bool) → (b ≡ true → name ≡ other) → names other ≡ cond (b || false) None (cond b (Some meaning) (names other))
    by true same = ap names (sym (same refl)) ∙ fresh
    by false same = refl

-- the one that was put after a list and into a table in which it was not
pub without_last : (gone : List (Bor (List ℕ))) (all : List (Bor (List ℕ))) (last : Bor (List ℕ)) (text : List ℕ) (meaning : Meaning) (names found : Environment)
    → all ≡ gone ++ last ∷ [] → last.now ≡ text → names text ≡ None → give (declaring text meaning names) ≡ give found → (other : List ℕ)
    → names other ≡ without (texts_of (drop (length gone) all)) found other
without_last gone all last text meaning names found after same fresh put other =
    without_declared text meaning names fresh other
    ∙ ap (λ one. without (text ∷ []) one other) (ok_inside _ _ put)
    ∙ ap (λ one. without (one ∷ []) found other) (sym same)
    ∙ ap (λ rest. without (texts_of rest) found other) (sym (ap (drop (length gone)) after ∙ drop-append_seam gone (last ∷ [])))

-- ---- names that are put in

-- a name that stands for nothing by one table and after it by another
pub inner_none : (inner outer : Option Meaning) → or_else inner outer ≡ None → inner ≡ None
inner_none None outer e = refl
inner_none (Some meaning) outer e = e

-- a name that is put into the inner of two tables
pub inner_named : (inner outer found : Environment) (name : List ℕ) (meaning : Meaning) → give (declaring name meaning inner) ≡ give found
    → declaring name meaning (λ other. or_else (inner other) (outer other)) ≡ (λ other. or_else (found other) (outer other))
inner_named inner outer found name meaning e = λ i other. (at other ∙ ap (λ one. or_else (one other) (outer other)) (ok_inside _ _ e)) i
  where
    by : (b : Bool) (l t : Option Meaning) → cond b (Some meaning) (or_else l t) ≡ or_else (cond b (Some meaning) l) t
    by true l t = refl
    by false l t = refl

    at : (other : List ℕ) → declaring name meaning (λ other. or_else (inner other) (outer other)) other ≡ or_else (declaring name meaning inner other) (outer other)
    at other = by (bytes_eq name other) (inner other) (outer other)

-- the next item, whose name was put into the table of the top level
pub named : (top : TopLevel) (item : ItemTree) (found : Environment) (name : NameTree) (looked : Option Meaning) (meaning : Meaning)
    → name ≡ item_name item → looked ≡ top.names name.text → fresh_finding looked name.at ≡ Ok tt
    → meaning ≡ item_meaning top item → give (declaring name.text meaning top.names) ≡ give found
    → next_name top item ≡ Ok (record (counted top item) { names = found })
named top item found name looked meaning n f fresh m e =
    next_is top item
    ∙ ap (λ (one : NameTree). and_then (fresh_finding (top.names one.text) one.at) (λ _. give (record (counted top item) { names = declaring (item_name item).text (item_meaning top item) top.names }))) (sym n)
    ∙ ap (λ one. and_then one (λ _. give (record (counted top item) { names = declaring (item_name item).text (item_meaning top item) top.names }))) (sym (ap (λ one. fresh_finding one name.at) f) ∙ fresh)
    ∙ ap (λ (names : Environment). Ok (record (counted top item) { names = names }))
    (ap (λ (one : NameTree). declaring one.text (item_meaning top item) top.names) (sym n)
    ∙ ap (λ one. declaring name.text one top.names) (sym m) ∙ ok_inside _ _ e)
