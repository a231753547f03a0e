-- Lists that a loop makes element by element.
use Rattle.std.proofs.Common.{◌≡◌, ℕ, ◌+◌, ◌<◌, List, [], ◌∷◌, ◌++◌, All, length, map, take, get_or, sym, ap, subst, ◌∙◌}
use Rattle.std.proofs.Math.ListN.{get_or-map}
use Rattle.std.proofs.lemmas.List.{map-append, length-map}
use Rattle.std.proofs.lemmas.List.Elements.{All-get_or, All-push}
use Rattle.common.proofs.Cases.{map_next}

-- a list of copies with one more, seen through a function
pub copied_more : {X Y : Type 0} (f : X → Y) (xs made new : List X) (i : ℕ) (x y : X) → i < length xs → x ≡ get_or xs i x → new ≡ made ++ y ∷ [] → map f made ≡ map f (take i xs) → f y ≡ f x → map f new ≡ map f (take (i + 1) xs)
copied_more f xs made new i x y below is pushed before same =
    ap (map f) pushed ∙ map-append f made (y ∷ []) ∙ ap (λ l. l ++ f y ∷ []) before ∙ ap (λ z. map f (take i xs) ++ z ∷ []) same
    ∙ sym (map_next f xs i x below is)

-- a list of what two functions make, with one more
pub made_more : {X Y Z : Type 0} (f : X → Y) (g : Y → Z) (xs : List X) (made new : List Z) (i : ℕ) (x : X) (z : Z) → i < length xs → x ≡ get_or xs i x → new ≡ made ++ z ∷ [] → made ≡ map g (map f (take i xs)) → z ≡ g (f x) → new ≡ map g (map f (take (i + 1) xs))
made_more f g xs made new i x z below is pushed before same =
    pushed ∙ ap (λ l. l ++ z ∷ []) before ∙ ap (λ y. map g (map f (take i xs)) ++ y ∷ []) same
    ∙ sym (ap (map g) (map_next f xs i x below is) ∙ map-append g (map f (take i xs)) (f x ∷ []))

-- what holds of all that a function makes holds of what it makes of one element
pub mapped_holds : {X Y : Type 0} (f : X → Y) (P : Y → Type 0) (xs : List X) (i : ℕ) (x : X) → i < length xs → x ≡ get_or xs i x → All P (map f xs) → P (f x)
mapped_holds f P xs i x below is all =
    subst P (get_or-map f xs i x ∙ ap f (sym is)) (All-get_or P (map f xs) i (f x) (subst (λ (n : ℕ). i < n) (sym (length-map xs f)) below) all)

-- what holds of what it makes of the first elements, with one more
pub held_more : {X Y : Type 0} (f : X → Y) (P : Y → Type 0) (xs : List X) (i : ℕ) (x : X) → i < length xs → x ≡ get_or xs i x → All P (map f (take i xs)) → P (f x) → All P (map f (take (i + 1) xs))
held_more f P xs i x below is before here =
    subst (All P) (sym (map_next f xs i x below is)) (All-push P (map f (take i xs)) (f x) before here)
