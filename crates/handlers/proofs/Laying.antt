-- A handler laid over entries gives its own target where it takes an exception, and theirs elsewhere.
use Rattle.std.proofs.Common.{◌≡◌, ℕ, Bool, true, false, nat_lt, ◌==◌, ◌&&◌, ◌||◌, not, if◌then◌else◌, List, [], ◌∷◌, Option, Some, None, refl, sym, ap, ◌∙◌, arith}
use Rattle.std.proofs.lemmas.Bool.Decides.{nat_tests}
use Rattle.std.proofs.Math.Path.{fun_ext}
use Rattle.modules.specs.Machine.{handler_for}
use Rattle.modules.specs.declared.declaration.Handler.{Handler}
use Rattle.handlers.specs.Procedures.{arranged, end_of, from_end, laid_over, start_of}
use Rattle.handlers.specs.Targets.{is_before, target_from, target_in}
use Rattle.handlers.specs.declared.entries.ThrowSite.{ThrowSite}
use Rattle.handlers.specs.declared.entries.TableEntry.{TableEntry}
use Rattle.handlers.proofs.Order.{before_later, before_once}

module _ (handler : Handler) (site : ThrowSite) where
  end_step : (own target : Option ℕ) (entry : TableEntry) (entries : List TableEntry) (after ends here : Bool)
      → is_before (end_of handler) entry.site ≡ after → is_before site (end_of handler) ≡ ends → is_before site entry.site ≡ here
      → target_from own (from_end handler entry.target entries) site ≡ (if ends then own else target_from entry.target entries site)
      → target_from own
      (if after then record { site = end_of handler; target = target } ∷ entry ∷ entries else from_end handler entry.target entries) site
      ≡ (if ends then own else if here then target else target_from entry.target entries site)
  end_step own target entry entries true ends here a e h more = rw (e, h) refl
  end_step own target entry entries false true here a e h more = more
  end_step own target entry entries false false false a e h more = more
  end_step own target entry entries false false true a e h more =
      absurd (let no : true ≡ false = sym (before_later site entry.site (end_of handler) h a) ∙ e in cc)

  -- from a handler's end on the targets are those of the entries
  past_end : (own target : Option ℕ) (entries : List TableEntry)
      → target_from own (from_end handler target entries) site ≡ (if is_before site (end_of handler) then own else target_from target entries site)
  past_end own target [] = refl
  past_end own target (entry ∷ entries) =
      end_step own target entry entries (is_before (end_of handler) entry.site) (is_before site (end_of handler)) (is_before site entry.site)
      refl refl refl
      (past_end own entry.target entries)

  -- the target where a handler with two tests lies over another target
  abbrev over : (starts ends : Bool) → Option ℕ → Option ℕ
  over starts ends other = if starts then other else if ends then Some handler.target else other

  over_step : (target : Option ℕ) (entry : TableEntry) (entries : List TableEntry) (after starts ends here : Bool)
      → is_before (start_of handler) entry.site ≡ after → is_before site (start_of handler) ≡ starts
      → is_before site (end_of handler) ≡ ends → is_before site entry.site ≡ here
      → target_from entry.target (laid_over handler entry.target entries) site ≡ over starts ends (target_from entry.target entries site)
      → target_from target
      (if after then record { site = start_of handler; target = Some handler.target } ∷ from_end handler target (entry ∷ entries)
      else entry ∷ laid_over handler entry.target entries) site
      ≡ over starts ends (if here then target else target_from entry.target entries site)
  over_step target entry entries true true ends true a s e h more = rw s refl
  over_step target entry entries true true ends false a s e h more =
      absurd (let no : true ≡ false = sym (before_later site (start_of handler) entry.site s (before_once (start_of handler) entry.site a)) ∙ h in cc)
  over_step target entry entries true false ends here a s e h more =
      rw s (past_end (Some handler.target) target (entry ∷ entries) ∙ rw (e, h) refl)
  over_step target entry entries false true ends true a s e h more = rw h refl
  over_step target entry entries false false ends true a s e h more =
      absurd (let no : true ≡ false = sym (before_later site entry.site (start_of handler) h a) ∙ s in cc)
  over_step target entry entries false starts ends false a s e h more = rw h more

  laid_gives : (target : Option ℕ) (entries : List TableEntry)
      → target_from target (laid_over handler target entries) site
      ≡ over (is_before site (start_of handler)) (is_before site (end_of handler)) (target_from target entries site)
  laid_gives target [] = refl
  laid_gives target (entry ∷ entries) =
      over_step target entry entries (is_before (start_of handler) entry.site) (is_before site (start_of handler)) (is_before site (end_of handler))
      (is_before site entry.site) refl refl refl refl (laid_gives entry.target entries)

same_both : (a b : ℕ) → (a == b) ≡ (b == a)
same_both a b = grind (arith, nat_tests)

not_lower : (a b : ℕ) → (a == b) ≡ true → nat_lt a b ≡ false
not_lower a b h = grind (arith, nat_tests)

-- a handler takes what does not stand before its start and stands before its end
takes_by : (lower equal starts ends : Bool) (own other : Option ℕ) → (equal ≡ true → lower ≡ false)
    → (if lower || (equal && starts) then other else if lower || (equal && ends) then own else other)
    ≡ (if not starts && (ends && equal) then own else other)
takes_by true true starts ends own other h = absurd (let no : true ≡ false = h refl in cc)
takes_by true false true ends own other h = refl
takes_by true false false true own other h = refl
takes_by true false false false own other h = refl
takes_by false false true ends own other h = refl
takes_by false false false true own other h = refl
takes_by false false false false own other h = refl
takes_by false true true ends own other h = refl
takes_by false true false true own other h = refl
takes_by false true false false own other h = refl

-- the entries of handlers give the targets that these do
arranged_at : (handlers : List Handler) (offset exception : ℕ) → target_in (arranged handlers) offset exception ≡ handler_for handlers offset exception
arranged_at [] offset exception = refl
arranged_at (handler ∷ handlers) offset exception =
    let site : ThrowSite = record { exception = exception; offset = offset } in
    let other = handler_for handlers offset exception in
    let starts = nat_lt offset handler.start in
    let ends = nat_lt offset handler.end in
    laid_gives handler site None (arranged handlers)
    ∙ ap (over handler site (is_before site (start_of handler)) (is_before site (end_of handler))) (arranged_at handlers offset exception)
    ∙ takes_by (nat_lt exception handler.exception) (exception == handler.exception) starts ends (Some handler.target) other (not_lower exception handler.exception)
    ∙ ap (λ b. if not starts && (ends && b) then Some handler.target else other) (same_both exception handler.exception)

pub arranged_finds : (handlers : List Handler) → target_in (arranged handlers) ≡ handler_for handlers
arranged_finds handlers = fun_ext (λ offset. fun_ext (λ exception. arranged_at handlers offset exception))
