-- Lists of exits that are alike.
use Rattle.std.proofs.Common.{◌≡◌, refl, sym, ap, ◌∙◌, subst, suc, List, [], ◌∷◌, ◌++◌, map, set, length, append_assoc, append-nil}
use Rattle.resolved.specs.declared.statement.Exit.{Exit}
use Rattle.resolved.specs.declared.statement.Exit.TheVariants.{Normal, Return, Break, Continue, Throw}
use Rattle.path_map.specs.EndsOf.{SameExits}
use Rattle.path_map.specs.Exits.{exits_of, thrown_in}
use Rattle.path_map.specs.Paths.{HaveSameExits}
use Rattle.path_map.proofs.Summary.{raised-same, throws-in}

pub alike-refl : (xs : List (List Exit)) → HaveSameExits xs xs
alike-refl [] = tt
alike-refl (x ∷ xs) = ((λ exit. refl), alike-refl xs)

pub alike-then : (xs ys zs : List (List Exit)) → HaveSameExits xs ys → HaveSameExits ys zs → HaveSameExits xs zs
alike-then [] [] [] a b = tt
alike-then [] [] (z ∷ zs) a b = absurd b
alike-then [] (y ∷ ys) zs a b = absurd a
alike-then (x ∷ xs) [] zs a b = absurd a
alike-then (x ∷ xs) (y ∷ ys) [] a b = absurd b
alike-then (x ∷ xs) (y ∷ ys) (z ∷ zs) a b = ((λ exit. a.0 exit ∙ b.0 exit), alike-then xs ys zs a.1 b.1)

pub alike-append : (xs ys zs : List (List Exit)) → HaveSameExits xs ys → HaveSameExits (xs ++ zs) (ys ++ zs)
alike-append [] [] zs a = alike-refl zs
alike-append [] (y ∷ ys) zs a = absurd a
alike-append (x ∷ xs) [] zs a = absurd a
alike-append (x ∷ xs) (y ∷ ys) zs a = (a.0, alike-append xs ys zs a.1)

pub alike-set : (old now : List (List Exit)) (p : List Exit) (ps : List (List Exit)) (x y : List Exit)
    → HaveSameExits now (old ++ p ∷ ps) → SameExits x y → HaveSameExits (set now (length old) x) (old ++ y ∷ ps)
alike-set [] [] p ps x y a same = absurd a
alike-set [] (n ∷ now) p ps x y a same = (same, a.1)
alike-set (o ∷ old) [] p ps x y a same = absurd a
alike-set (o ∷ old) (n ∷ now) p ps x y a same = (a.0, alike-set old now p ps x y a.1 same)

pub alike-length : (xs ys : List (List Exit)) → HaveSameExits xs ys → length xs ≡ length ys
alike-length [] [] a = refl
alike-length [] (y ∷ ys) a = absurd a
alike-length (x ∷ xs) [] a = absurd a
alike-length (x ∷ xs) (y ∷ ys) a = ap suc (alike-length xs ys a.1)

-- one list after another
pub alike-both : (e0 e1 e2 ps qs : List (List Exit)) → HaveSameExits e1 (e0 ++ ps) → HaveSameExits e2 (e1 ++ qs) → HaveSameExits e2 (e0 ++ (ps ++ qs))
alike-both e0 e1 e2 ps qs first second =
    alike-then e2 (e1 ++ qs) (e0 ++ (ps ++ qs)) second
    (subst (λ xs. HaveSameExits (e1 ++ qs) xs) (append_assoc e0 ps qs) (alike-append e1 (e0 ++ ps) qs first))

pub alike-step : (next now ps rest zs : List (List Exit)) → HaveSameExits next (now ++ ps) → HaveSameExits (now ++ (ps ++ rest)) zs → HaveSameExits (next ++ rest) zs
alike-step next now ps rest zs step all =
    alike-then (next ++ rest) (now ++ (ps ++ rest)) zs
    (subst (λ xs. HaveSameExits (next ++ rest) xs) (append_assoc now ps rest) (alike-append next (now ++ ps) rest step)) all

pub alike-end : (now zs : List (List Exit)) → HaveSameExits (now ++ []) zs → HaveSameExits now zs
alike-end now zs all = subst (λ xs. HaveSameExits xs zs) (append-nil now) all

pub alike-nil : (xs : List (List Exit)) → HaveSameExits xs (xs ++ [])
alike-nil xs = subst (λ ys. HaveSameExits xs ys) (sym (append-nil xs)) (alike-refl xs)

-- the same exits have one summary
pub exits-same : (xs ys : List Exit) → SameExits xs ys → exits_of xs ≡ exits_of ys
exits-same xs ys same =
    rw (
      same Normal,
      same Return,
      same Break,
      same Continue,
      raised-same (thrown_in xs) (thrown_in ys) (λ e. throws-in xs e ∙ (same (Throw e) ∙ sym (throws-in ys e))),
    ) refl

pub alike-exits : (xs ys : List (List Exit)) → HaveSameExits xs ys → map exits_of xs ≡ map exits_of ys
alike-exits [] [] a = refl
alike-exits [] (y ∷ ys) a = absurd a
alike-exits (x ∷ xs) [] a = absurd a
alike-exits (x ∷ xs) (y ∷ ys) a = rw (exits-same x y a.0, alike-exits xs ys a.1) refl
