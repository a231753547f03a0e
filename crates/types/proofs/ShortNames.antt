-- The numbers of short names: each stands for one name, and fits its type. What tables of names find after a change of one of them.
use Rattle.std.proofs.Common.{◌≡◌, ℕ, zero, suc, ◌*◌, ◌^◌, ◌<◌, ◌≤◌, ◌==◌, List, [], ◌∷◌, length, Bool, true, false, cond, Option, Some, None, refl, sym, ◌∙◌, ap, arith}
use Rattle.std.specs.Prelude.{bytes_eq, String, nat_lt, nat_le, ◌&&◌}
use Rattle.std.specs.BTreeMap.{BTreeMap, UpdatesBy, get_by_text}
use Rattle.std.specs.Bool.{Decides}
use Rattle.std.specs.Option.{unwrap_or}
use Rattle.std.specs.Cmp.Lexicographic.{slice_cmp}
use Rattle.std.specs.Ordering.{nat_cmp, is_eq}
use Rattle.std.specs.declared.alloc.Global.{Global}
use Rattle.std.specs.String.{string_bytes, string_cmp}
use Rattle.std.proofs.lemmas.Bool.{eqb-true, eq-eqb}
use Rattle.std.proofs.lemmas.Bool.Decides.{nat_tests}
use Rattle.std.proofs.lemmas.Map.Lookups.{exact_unsigned}
use Rattle.std.specs.Cmp.{Equal-is, nat_cmp_is}
use Rattle.std.specs.declared.cmp.Ordering.TheVariants.{Equal}
use Rattle.std.proofs.lemmas.Slice.Eq.{bytes_eq-Decides}
use Rattle.std.proofs.lemmas.Map.Text.{btree_map_updates_text}
use Rattle.types.specs.declared.scope.Meaning.{Meaning}
use Rattle.types.specs.Buckets.{Updates}
use Rattle.types.specs.ShortNames.{are_bytes, digits, number_of}
use Rattle.types.specs.Views.{found_at}

some_inside : (a b : ℕ) → Some a ≡ Some b → a ≡ b
some_inside a b e = ap (λ o. unwrap_or o a) e

-- ---- one number for one name

pub digits_positive : (name : List ℕ) → 1 ≤ digits name
digits_positive [] = omega arith
digits_positive (byte ∷ bytes) = omega (arith, digits_positive bytes)

-- the first of some bytes, and the others
first_is_byte : (byte : ℕ) (bytes : List ℕ) → are_bytes (byte ∷ bytes) ≡ true → byte < 256
first_is_byte byte bytes all = by (nat_lt byte 256) refl all
  where
    by : (b : Bool) → nat_lt byte 256 ≡ b → (b && are_bytes bytes) ≡ true → byte < 256
    by true t all = grind (arith, nat_tests)
    by false t all = cc

others_are_bytes : (byte : ℕ) (bytes : List ℕ) → are_bytes (byte ∷ bytes) ≡ true → are_bytes bytes ≡ true
others_are_bytes byte bytes all = by (nat_lt byte 256) all
  where
    by : (b : Bool) → (b && are_bytes bytes) ≡ true → are_bytes bytes ≡ true
    by true all = all
    by false all = cc

pub digits_same : (one other : List ℕ) → are_bytes one ≡ true → are_bytes other ≡ true → digits one ≡ digits other → one ≡ other
digits_same [] [] p q e = refl
digits_same [] (b ∷ ys) p q e = absurd (omega (arith, digits_positive ys, e))
digits_same (a ∷ xs) [] p q e = absurd (omega (arith, digits_positive xs, e))
digits_same (a ∷ xs) (b ∷ ys) p q e =
    let x = first_is_byte a xs p in
    let y = first_is_byte b ys q in
    let first : a ≡ b = omega arith in
    let rest : xs ≡ ys = digits_same xs ys (others_are_bytes a xs p) (others_are_bytes b ys q) (omega arith) in
    ap (λ c. c ∷ xs) first ∙ ap (λ cs. b ∷ cs) rest

-- ---- the number fits 128 bits

abbrev scale : ℕ → ℕ
scale zero = 2
scale (suc n) = scale n * 256

scale_above_one : (n : ℕ) → 1 < scale n
scale_above_one zero = omega arith
scale_above_one (suc n) = omega (arith, scale_above_one n)

digits_below : (name : List ℕ) (n : ℕ) → are_bytes name ≡ true → length name ≤ n → digits name < scale n
digits_below [] n all l = scale_above_one n
digits_below (b ∷ bs) zero all l = absurd (omega (arith, l))
digits_below (b ∷ bs) (suc n) all l = omega (arith, first_is_byte b bs all, digits_below bs n (others_are_bytes b bs all) (omega (arith, l)))

pub digits_fit_word : (name : List ℕ) → are_bytes name ≡ true → length name ≤ 6 → digits name < 2 ^ 49
digits_fit_word name all l = digits_below name 6 all l

pub digits_fit : (name : List ℕ) → are_bytes name ≡ true → length name ≤ 14 → digits name < 2 ^ 113
digits_fit name all l = digits_below name 14 all l

-- ---- tables after a change

pub number_ties : (n m : ℕ) → Decides (is_eq (nat_cmp n m)) (n ≡ m)
number_ties n m = (λ t. exact_unsigned n m ((Equal-is (nat_cmp n m)).0 t), λ e. ap is_eq (sym (nat_cmp_is n m Equal e)))

eqb_decides : (n m : ℕ) → Decides (n == m) (n ≡ m)
eqb_decides n m = (eqb-true n m, eq-eqb n m)

-- names with one number are one name
pub number_same : (one other : List ℕ) (n : ℕ) → number_of one ≡ Some n → number_of other ≡ Some n → one ≡ other
number_same one other n p q = by (nat_le (length one) 15) (are_bytes one) (nat_le (length other) 15) (are_bytes other) refl refl p q
  where
    by : (s a t b : Bool) → are_bytes one ≡ a → are_bytes other ≡ b → cond (s && a) (Some (digits one)) None ≡ Some n → cond (t && b) (Some (digits other)) None ≡ Some n → one ≡ other
    by true true true true x y p q = digits_same one other x y (some_inside (digits one) (digits other) (p ∙ sym q))
    by true true true false x y p q = cc
    by true true false b x y p q = cc
    by true false t b x y p q = cc
    by false a t b x y p q = cc

pub updates_short : (name : List ℕ) (n : ℕ) (w : Option Meaning) (old new : ℕ → Option Meaning) (long : BTreeMap (String Global) Meaning)
    → number_of name ≡ Some n → Updates n w old new → (other : List ℕ) (number : Option ℕ) → number_of other ≡ number
    → found_at new long other number ≡ cond (bytes_eq name other) w (found_at old long other number)
updates_short name n w old new long numbered updates other (Some m) e = updates m ∙ ap (λ t. cond t w (old m)) (same (n == m) (bytes_eq name other) (eqb_decides n m) (bytes_eq-Decides name other))
  where
    same : (a b : Bool) → Decides a (n ≡ m) → Decides b (name ≡ other) → a ≡ b
    same true true p q = refl
    same false false p q = refl
    same true false p q = sym (q.1 (number_same name other n numbered (e ∙ ap Some (sym (p.0 refl)))))
    same false true p q = p.1 (some_inside n m (sym numbered ∙ ap number_of (q.0 refl) ∙ e))
updates_short name n w old new long numbered updates other None e = ap (λ t. cond t w (get_by_text long other)) (sym (apart (bytes_eq name other) ((bytes_eq-Decides name other).0)))
  where
    apart : (b : Bool) → (b ≡ true → name ≡ other) → b ≡ false
    apart false q = refl
    apart true q = cc (numbered, e, ap number_of (q refl))

pub updates_long : (name : List ℕ) (w : Option Meaning) (short : ℕ → Option Meaning) (old new : BTreeMap (String Global) Meaning)
    → number_of name ≡ None → UpdatesBy string_cmp (λ k. slice_cmp nat_cmp name (string_bytes k)) old new w → (other : List ℕ) (number : Option ℕ) → number_of other ≡ number
    → found_at short new other number ≡ cond (bytes_eq name other) w (found_at short old other number)
updates_long name w short old new numbered updates other None e = btree_map_updates_text name old new w updates other
updates_long name w short old new numbered updates other (Some m) e = ap (λ t. cond t w (short m)) (sym (apart (bytes_eq name other) ((bytes_eq-Decides name other).0)))
  where
    apart : (b : Bool) → (b ≡ true → name ≡ other) → b ≡ false
    apart false q = refl
    apart true q = cc (numbered, e, ap number_of (q refl))
