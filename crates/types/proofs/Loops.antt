-- A loop over a list: what is checked so far, and going on with the rest, is the whole.
use Rattle.std.proofs.Common.{◌≡◌, ℕ, ◌+◌, ◌<◌, ◌≤◌, List, [], ◌∷◌, ◌++◌, map, length, get_or, drop, Result, Ok, sym, ◌∙◌, ap, subst}
use Rattle.std.proofs.lemmas.List.{drop_more, drop_all}
use Rattle.common.specs.Answers.{IfRefused}
use Rattle.common.specs.declared.fault.OrNoMemory.{OrNoMemory}
use Rattle.common.specs.declared.refusal.RefusalAt.{RefusalAt}
use Rattle.types.specs.declared.fault.TypeRefusalKind.{TypeRefusalKind}
use Rattle.common.specs.declared.fault.OrNoMemory.TheVariants.{NoMemory, Refused}
use Rattle.common.specs.Results.{along}
use Rattle.types.specs.Finding.{IsRefusalOf, put_last}
use Rattle.types.specs.Views.{and_then}

-- from this state and this element on, the check gives what the whole gives
pub record GoesOn {S X Y : Type 0} (step : S → X → Result S (RefusalAt TypeRefusalKind)) (tree : Y → X) (xs : List Y) (whole : Result S (RefusalAt TypeRefusalKind)) (state : S) (i : ℕ) : Type 0 where
  pub on : along step state (map tree (drop i xs)) ≡ whole

-- a check that fails makes what it begins fail
pub fails_later : {A B : Type 0} (checked : Result A (RefusalAt TypeRefusalKind)) (check : A → Result B (RefusalAt TypeRefusalKind)) (fault : OrNoMemory (RefusalAt TypeRefusalKind)) → IfRefused (IsRefusalOf checked) fault → IfRefused (IsRefusalOf (and_then checked check)) fault
fails_later checked check NoMemory h = tt
fails_later checked check (Refused refusal) h = ap (λ one. and_then one check) h

pub then_ok : {A B : Type 0} (checked : Result A (RefusalAt TypeRefusalKind)) (check : A → Result B (RefusalAt TypeRefusalKind)) (x : A) → checked ≡ Ok x → and_then checked check ≡ check x
then_ok checked check x e = ap (λ one. and_then one check) e

pub fails_second : {A B : Type 0} (checked : Result A (RefusalAt TypeRefusalKind)) (check : A → Result B (RefusalAt TypeRefusalKind)) (x : A) (fault : OrNoMemory (RefusalAt TypeRefusalKind)) → checked ≡ Ok x → IfRefused (IsRefusalOf (check x)) fault → IfRefused (IsRefusalOf (and_then checked check)) fault
fails_second checked check x fault e h = subst (λ found. IfRefused (IsRefusalOf found) fault) (sym (then_ok checked check x e)) h

pub starts : {S X Y : Type 0} (step : S → X → Result S (RefusalAt TypeRefusalKind)) (tree : Y → X) (xs : List Y) (state begin : S) → state ≡ begin → GoesOn step tree xs (along step begin (map tree xs)) state 0
starts step tree xs state begin e = record { on = ap (λ one. along step one (map tree xs)) e }

module _ {S X Y : Type 0} {step : S → X → Result S (RefusalAt TypeRefusalKind)} {tree : Y → X} {xs : List Y} {whole : Result S (RefusalAt TypeRefusalKind)} {state : S} {i : ℕ} (goes : GoesOn step tree xs whole state i) where
  one_step : (x : Y) → x ≡ get_or xs i x → i < length xs → and_then (step state (tree x)) (λ next. along step next (map tree (drop (i + 1) xs))) ≡ whole
  one_step x is within =
      ap (λ y. and_then (step state (tree y)) (λ next. along step next (map tree (drop (i + 1) xs)))) is
      ∙ sym (ap (λ rest. along step state (map tree rest)) (drop_more xs i x within)) ∙ goes.on

  pub goes_further : (x : Y) (next : S) → x ≡ get_or xs i x → i < length xs → step state (tree x) ≡ Ok next → GoesOn step tree xs whole next (i + 1)
  goes_further x next is within e = record {
    on = sym (ap (λ one. and_then one (λ next. along step next (map tree (drop (i + 1) xs)))) e) ∙ one_step x is within;
  }

  pub goes_wrong : (x : Y) (fault : OrNoMemory (RefusalAt TypeRefusalKind)) → x ≡ get_or xs i x → i < length xs → IfRefused (IsRefusalOf (step state (tree x))) fault → IfRefused (IsRefusalOf whole) fault
  goes_wrong x fault is within h =
      subst (λ found. IfRefused (IsRefusalOf found) fault) (one_step x is within) (fails_later _ (λ next. along step next (map tree (drop (i + 1) xs))) fault h)

  pub goes_to_end : length xs ≤ i → whole ≡ Ok state
  goes_to_end all = sym goes.on ∙ ap (λ rest. along step state (map tree rest)) (drop_all i xs all)

-- the same for a loop that collects
module _ {X Y A : Type 0} (check : X → Result A (RefusalAt TypeRefusalKind)) {tree : Y → X} {xs : List Y} {whole : Result (List A) (RefusalAt TypeRefusalKind)} {done : List A} {i : ℕ} (goes : GoesOn (put_last check) tree xs whole done i) where
  pub collects : (x : Y) (made : A) → x ≡ get_or xs i x → i < length xs → check (tree x) ≡ Ok made → GoesOn (put_last check) tree xs whole (done ++ made ∷ []) (i + 1)
  collects x made is within e =
      goes_further goes x (done ++ made ∷ []) is within (ap (λ one. and_then one (λ made. Ok (done ++ made ∷ []))) e)

  pub collects_wrong : (x : Y) (fault : OrNoMemory (RefusalAt TypeRefusalKind)) → x ≡ get_or xs i x → i < length xs → IfRefused (IsRefusalOf (check (tree x))) fault → IfRefused (IsRefusalOf whole) fault
  collects_wrong x fault is within h =
      goes_wrong goes x fault is within (fails_later (check (tree x)) (λ made. Ok (done ++ made ∷ [])) fault h)
