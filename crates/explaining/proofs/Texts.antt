-- Texts that are written line by line, to their end or in part.
use Rattle.std.proofs.Common.{◌≡◌, ℕ, ◌+◌, ◌<◌, ◌≤◌, List, [], ◌∷◌, ◌++◌, length, take, drop, get_or, ap, sym, ◌∙◌, subst, refl, append_assoc, Option, Result, Ok, Err, OnErr, OnOk}
use Rattle.std.proofs.KnownBytes.{Appends-nil, Appends-trans}
use Rattle.std.proofs.lemmas.List.{append-nil, take-append-drop, take_all, take_more}
use Rattle.std.specs.Io.KnownBytes.{Appends}
use Rattle.std.specs.Prelude.{flat_map}
use Rattle.std.proofs.lemmas.Grind.{flat_map-append}
use Rattle.channels.specs.Sink.{AppendsPrefix}
use Rattle.channels.proofs.Sinks.{cut_front}

-- what was written is a prefix of what was to be written, where nothing or a part of the rest was
module _ (old mid new : Option (List ℕ)) (front back : List ℕ) where
  pub cut_before : Appends old mid front → AppendsPrefix old mid (front ++ back)
  cut_before before = (front, (back, refl), before)

  pub cut_within : Appends old mid front → AppendsPrefix mid new back → AppendsPrefix old new (front ++ back)
  cut_within before part = (
    front ++ part.0,
    (part.1.0, append_assoc front part.0 part.1.0 ∙ ap (λ text. front ++ text) part.1.1),
    Appends-trans old mid new front part.0 before part.2,
  )

-- the front was written, and then the rest, if a call was done
module _ {X Y : Type 0} (old mid new : Option (List ℕ)) (front back line rest : List ℕ) where
  pub all_or_none : (result : Result X Y) → line ≡ front → rest ≡ back → Appends old mid line → OnOk result (Appends mid new rest)
      → OnOk result (Appends old new (front ++ back))
  all_or_none (Ok x) front_is back_is before now =
      subst (λ (text : List ℕ). Appends old new (text ++ back)) front_is
      (subst (λ (text : List ℕ). Appends old new (line ++ text)) back_is (Appends-trans old mid new line rest before now))
  all_or_none (Err y) front_is back_is before now = tt

  pub part_or_none : (result : Result X Y) → line ≡ front → rest ≡ back → Appends old mid line → OnErr result (AppendsPrefix mid new rest)
      → OnErr result (AppendsPrefix old new (front ++ back))
  part_or_none (Ok x) front_is back_is before part = tt
  part_or_none (Err y) front_is back_is before part =
      subst (λ (text : List ℕ). AppendsPrefix old new (text ++ back)) front_is
      (subst (λ (text : List ℕ). AppendsPrefix old new (line ++ text)) back_is (cut_within old mid new line rest before part))

-- nothing is a prefix of each text
pub cut_first : (old : Option (List ℕ)) (text : List ℕ) → AppendsPrefix old old text
cut_first old text = ([], (text, refl), Appends-nil old)

-- ---- a text that is made of pieces, one for each of a list
module _ {X : Type 0} (f : X → List ℕ) where
  -- the pieces of one more
  pub flat_map-more : (xs : List X) (i : ℕ) (d : X) → i < length xs → flat_map f (take i xs) ++ f (get_or xs i d) ≡ flat_map f (take (i + 1) xs)
  flat_map-more xs i d within =
      ap (λ text. flat_map f (take i xs) ++ text) (sym (append-nil (f (get_or xs i d))))
      ∙ sym (flat_map-append f (take i xs) (get_or xs i d ∷ []))
      ∙ ap (flat_map f) (sym (take_more xs i d within))

  -- and those of the rest
  pub flat_map-rest : (xs : List X) (i : ℕ) → flat_map f (take i xs) ++ flat_map f (drop i xs) ≡ flat_map f xs
  flat_map-rest xs i = sym (flat_map-append f (take i xs) (drop i xs)) ∙ ap (flat_map f) (take-append-drop i xs)

  module _ (old : Option (List ℕ)) (xs : List X) (i : ℕ) where
    pub one_more : (d : X) (mid new : Option (List ℕ)) (line : List ℕ) → i < length xs → line ≡ f (get_or xs i d)
        → Appends old mid (flat_map f (take i xs)) → Appends mid new line → Appends old new (flat_map f (take (i + 1) xs))
    one_more d mid new line within is before now =
        subst (λ (text : List ℕ). Appends old new text)
        (ap (λ text. flat_map f (take i xs) ++ text) is ∙ flat_map-more xs i d within)
        (Appends-trans old mid new (flat_map f (take i xs)) line before now)

    pub cut_at : (new : Option (List ℕ)) → Appends old new (flat_map f (take i xs)) → AppendsPrefix old new (flat_map f xs)
    cut_at new before =
        subst (λ (text : List ℕ). AppendsPrefix old new text) (flat_map-rest xs i)
        (cut_before old new new (flat_map f (take i xs)) (flat_map f (drop i xs)) before)

    pub cut_in : (d : X) (mid new : Option (List ℕ)) (line : List ℕ) → i < length xs → line ≡ f (get_or xs i d)
        → Appends old mid (flat_map f (take i xs)) → AppendsPrefix mid new line → AppendsPrefix old new (flat_map f xs)
    cut_in d mid new line within is before part =
        subst (λ (text : List ℕ). AppendsPrefix old new text) (flat_map-rest xs (i + 1))
        (cut_front old new (flat_map f (take (i + 1) xs)) (flat_map f (drop (i + 1) xs)) (flat_map f (take (i + 1) xs)) refl
        (subst (λ (text : List ℕ). AppendsPrefix old new text)
        (ap (λ text. flat_map f (take i xs) ++ text) is ∙ flat_map-more xs i d within)
        (cut_within old mid new (flat_map f (take i xs)) line before part)))

    pub all_there : (new : Option (List ℕ)) → length xs ≤ i → Appends old new (flat_map f (take i xs)) → Appends old new (flat_map f xs)
    all_there new all before = subst (λ (list : List X). Appends old new (flat_map f list)) (take_all i xs all) before
