-- What a name is used as: where it is found, that is what the name stands for.
use Rattle.std.proofs.Common.{◌≡◌, refl, ap, ℕ, Bool, true, false, cond}
use Rattle.std.specs.Prelude.{IfOk, IfSome, Option, Some, None}
use Rattle.common.specs.declared.base_type.BaseType.{BaseType}
use Rattle.common.specs.declared.direction.Direction.TheVariants as directions
use Rattle.resolved.specs.declared.expression.Variable.{Variable}
use Rattle.types.specs.contracts.scope.ItemKindPartialEq.TheImpl.{eq-value}
use Rattle.types.specs.declared.fault.TypeRefusalKind.TheVariants as refusals
use Rattle.types.specs.declared.scope.ItemKind.{ItemKind}
use Rattle.types.specs.declared.scope.ItemKind.TheVariants.{Channel, Exception, Procedure}
use Rattle.types.specs.declared.scope.Meaning.{Meaning}
use Rattle.types.specs.declared.scope.Meaning.TheVariants as meanings
use Rattle.types.specs.Environment.{use_as, scalar_of, array_of, item_of}
use Rattle.types.proofs.Passing.{found_finds}

-- what is wanted of a meaning tells the meaning
used : {A : Type 0} (wanted : Meaning → Option A) (means : A → Meaning) → ((meaning : Meaning) (a : A) → wanted meaning ≡ Some a → meaning ≡ means a)
    → (found : Option Meaning) (at : ℕ) → IfOk (use_as wanted found at) (λ a. found ≡ Some (means a))
unfolding use_as
used wanted means exact None at = tt
used {A} wanted means exact (Some meaning) at =
    found_finds refusals.WrongUse at (wanted meaning) (λ a. Some meaning ≡ Some (means a)) (by_wanted (wanted meaning) refl)
  where
    by_wanted : (a : Option A) → wanted meaning ≡ a → IfSome a (λ a. Some meaning ≡ Some (means a))
    by_wanted None e = tt
    by_wanted (Some a) e = ap (λ meaning. Some meaning) (exact meaning a e)

scalar_is : (meaning : Meaning) (x : Variable × BaseType) → scalar_of meaning ≡ Some x → meaning ≡ meanings.Variable x.0 x.1 None
scalar_is (meanings.Item kind number) x e = cc
scalar_is (meanings.Variable variable base None) x e =
    let same : (variable, base) ≡ x = cc in ap (λ (x : Variable × BaseType). meanings.Variable x.0 x.1 None) same
scalar_is (meanings.Variable variable base (Some size)) x e = cc

array_is : (meaning : Meaning) (a : Variable × BaseType × ℕ) → array_of meaning ≡ Some a → meaning ≡ meanings.Variable a.0 a.1 (Some a.2)
array_is (meanings.Item kind number) a e = cc
array_is (meanings.Variable variable base None) a e = cc
array_is (meanings.Variable variable base (Some size)) a e =
    let same : (variable, base, size) ≡ a = cc in ap (λ (a : Variable × BaseType × ℕ). meanings.Variable a.0 a.1 (Some a.2)) same

-- kinds that the test takes for the same are the same
same_item : (a b : ItemKind) → eq-value.it a b ≡ true → a ≡ b
same_item (Channel directions.Input) (Channel directions.Input) e = refl
same_item (Channel directions.Output) (Channel directions.Output) e = refl
same_item Exception Exception e = refl
same_item Procedure Procedure e = refl
same_item a b e = absurd (let no : false ≡ true = e in cc)

item_is : (kind : ItemKind) (meaning : Meaning) (n : ℕ) → item_of kind meaning ≡ Some n → meaning ≡ meanings.Item kind n
item_is kind (meanings.Variable variable base size) n e = cc
item_is kind (meanings.Item other number) n e = by_test (eq-value.it other kind) refl e
  where
    by_test : (b : Bool) → eq-value.it other kind ≡ b → ◌≡◌ {A = Option ℕ} (cond b (Some number) None) (Some n) → meanings.Item other number ≡ meanings.Item kind n
    by_test true same e =
        let is : other ≡ kind = same_item other kind same in
        let counted : number ≡ n = cc in
        cc
    by_test false differs e = cc

pub scalar_used : (found : Option Meaning) (at : ℕ) → IfOk (use_as scalar_of found at) (λ (x : Variable × BaseType). found ≡ Some (meanings.Variable x.0 x.1 None))
scalar_used = used scalar_of (λ x. meanings.Variable x.0 x.1 None) scalar_is

pub array_used : (found : Option Meaning) (at : ℕ) → IfOk (use_as array_of found at) (λ (a : Variable × BaseType × ℕ). found ≡ Some (meanings.Variable a.0 a.1 (Some a.2)))
array_used = used array_of (λ a. meanings.Variable a.0 a.1 (Some a.2)) array_is

pub item_used : (kind : ItemKind) (found : Option Meaning) (at : ℕ) → IfOk (use_as (item_of kind) found at) (λ n. found ≡ Some (meanings.Item kind n))
item_used kind = used (item_of kind) (meanings.Item kind) (item_is kind)
