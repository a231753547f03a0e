-- The entries of two halves of a list of handlers.
use Rattle.std.proofs.Common.{◌≡◌, ℕ, Bool, true, false, nat_lt, ◌==◌, ◌&&◌, not, if◌then◌else◌, List, [], ◌∷◌, ◌++◌, Option, Some, None, refl, sym, ap, ◌∙◌}
use Rattle.std.specs.Prelude.{Result, Ok, Err, IfOk}
use Rattle.std.specs.Option.{option_or}
use Rattle.std.proofs.Math.Path.{fun_ext}
use Rattle.modules.specs.Machine.{handler_for}
use Rattle.modules.specs.declared.declaration.Handler.{Handler}
use Rattle.handlers.specs.Targets.{Arranges, IsAscending, target_from, target_in}
use Rattle.handlers.specs.declared.entries.ThrowSite.{ThrowSite}
use Rattle.handlers.specs.declared.entries.TableEntry.{TableEntry}

by_or : (test : Bool) (target : ℕ) (a b c : Option ℕ) → a ≡ option_or b c → (if test then Some target else a) ≡ option_or (if test then Some target else b) c
by_or true target a b c e = refl
by_or false target a b c e = e

-- the first handlers come first
pub handler_for-append : (xs ys : List Handler) (offset exception : ℕ) → handler_for (xs ++ ys) offset exception ≡ option_or (handler_for xs offset exception) (handler_for ys offset exception)
handler_for-append [] ys offset exception = refl
handler_for-append (x ∷ xs) ys offset exception =
    by_or (not (nat_lt offset x.start) && (nat_lt offset x.end && x.exception == exception)) x.target (handler_for (xs ++ ys) offset exception) (handler_for xs offset exception) (handler_for ys offset exception)
    (handler_for-append xs ys offset exception)

pub Arranges-both : (first second entries : List TableEntry) (xs ys handlers : List Handler) → xs ++ ys ≡ handlers → Arranges first xs → Arranges second ys → IsAscending entries
    → ((site : ThrowSite) → target_from None entries site ≡ option_or (target_from None first site) (target_from None second site)) → Arranges entries handlers
Arranges-both first second entries xs ys handlers both left right ascends targets = record {
  ascends = ascends;
  targets = fun_ext (λ offset. fun_ext (λ exception.
      targets (record { exception = exception; offset = offset })
      ∙ ap (λ (f : ℕ → ℕ → Option ℕ). option_or (f offset exception) (target_in second offset exception)) left.targets
      ∙ ap (λ (f : ℕ → ℕ → Option ℕ). option_or (handler_for xs offset exception) (f offset exception)) right.targets
      ∙ sym (handler_for-append xs ys offset exception)
      ∙ ap (λ (hs : List Handler). handler_for hs offset exception) both));
}

-- the same of what a merge returned
pub Arranges-merged : {V E : Type 0} (items : V → List TableEntry) (result : Result V E) (first second : List TableEntry) (xs ys handlers : List Handler) → xs ++ ys ≡ handlers → Arranges first xs → Arranges second ys → IfOk result (λ v. IsAscending (items v))
    → IfOk result (λ v. (site : ThrowSite) → target_from None (items v) site ≡ option_or (target_from None first site) (target_from None second site)) → IfOk result (λ v. Arranges (items v) handlers)
Arranges-merged items (Ok v) first second xs ys handlers both left right ascends targets = Arranges-both first second (items v) xs ys handlers both left right ascends targets
Arranges-merged items (Err e) first second xs ys handlers both left right ascends targets = tt
