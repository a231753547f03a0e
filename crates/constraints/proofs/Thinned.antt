-- Constraints that were added but for the flows of exceptions of calls, one after the other.
use Rattle.std.proofs.Common.{◌≡◌, refl, sym, ap, ◌∙◌, subst, ℕ, length, List, [], ◌∷◌, ◌++◌, Bool, true, false, arith, inl, inr, ⊎_elim}
use Rattle.std.specs.Prelude.{if◌then◌else◌, Contains}
use Rattle.std.specs.Global.{Global}
use Rattle.std.specs.declared.vec.Vec.{Vec}
use Rattle.std.proofs.lemmas.List.Elements.{Contains-append_cases, Contains-append_left, Contains-append_right}
use Rattle.labels.specs.Label.{Label}
use Rattle.lattices.specs.Constraints.{Constraint, is_inner, outer}
use Rattle.resolved.specs.declared.program.Core.{Core}
use Rattle.gathering.specs.Names.{NamedConstraint, is_inner_name}
use Rattle.gathering.proofs.Begins.{begins-append}
use Rattle.constraints.specs.Added.{AreAdded, Stored}
use Rattle.constraints.specs.Journals.{IsRaised, IsUpToDate, entry_at}
use Rattle.constraints.specs.ExitUnknowns.{exit_unknown_of}
use Rattle.constraints.specs.Thinned.{AreNoted, IsOwnOf, Thinned, ThinnedNow, ThinnedWhole}
use Rattle.constraints.specs.declared.journal.Called.{Called}
use Rattle.constraints.specs.declared.journal.Journal.{Journal}
use Rattle.constraints.specs.declared.progress.Progress.{Progress}
use Rattle.constraints.specs.declared.exit_unknowns.ExitUnknown.{ExitUnknown}
use Rattle.constraints.proofs.Added.{added-none, added-then}

outer-append : {N U V : Type 0} (inner : U → Bool) (xs ys : List (Constraint N U V)) → outer inner (xs ++ ys) ≡ outer inner xs ++ outer inner ys
outer-append inner [] ys = refl
outer-append inner (x ∷ xs) ys = go (is_inner inner x.right) (outer-append inner xs ys)
  where
    go : (b : Bool) → outer inner (xs ++ ys) ≡ outer inner xs ++ outer inner ys
        → (if b then outer inner (xs ++ ys) else (x ∷ outer inner (xs ++ ys))) ≡ (if b then outer inner xs else (x ∷ outer inner xs)) ++ outer inner ys
    go true next = next
    go false next = ap (λ z. x ∷ z) next

-- an own label that was given in a part
own-left : (called : Called) (a b : List NamedConstraint) → IsOwnOf called a → IsOwnOf called (a ++ b)
own-left called a b own = record { by = own.by; among = Contains-append_left a b own.by own.among; is = own.is }

own-right : (called : Called) (a b : List NamedConstraint) → IsOwnOf called b → IsOwnOf called (a ++ b)
own-right called a b own = record { by = own.by; among = Contains-append_right a b own.by own.among; is = own.is }

-- a flow of an exception of a call that two journals have, with the entries that they have at it
pub raised-by : (core : Core) (one other : Journal) (c : NamedConstraint)
    → ((called : Called) → Contains one.calls.items called → Contains other.calls.items called × ((x : ℕ) → entry_at other x called.call ≡ entry_at one x called.call))
    → IsRaised core one c → IsRaised core other c
raised-by core one other c kept raised =
    let keeps = kept raised.called raised.among in
    record {
      called = raised.called;
      among = keeps.0;
      entry = raised.entry;
      declared = raised.declared;
      exit_unknown = raised.exit_unknown;
      takes = ap (exit_unknown_of raised.called.barrier) (keeps.1 raised.entry.exception) ∙ raised.takes;
      is = raised.is;
    }

module _ (core : Core) (table : List Label) where
  -- all of them were added
  pub thinned-exact : (added : List NamedConstraint) (old new : List Stored) (before after : Journal) (thrown changed : List ExitUnknown)
      → AreAdded core table added old new → after ≡ before → changed ≡ thrown → IsUpToDate before thrown
      → ThinnedNow core table added old new before after changed
  thinned-exact added old new before after thrown changed is same kept ready = record {
    kept = added;
    kept_added = is;
    outer_is = refl;
    stays = λ c h. h;
    rest = λ c h. inl h;
    only = λ c raised. inl (subst (λ j. IsRaised core j c) same raised);
    keeps = λ c raised. subst (λ j. IsRaised core j c) (sym same) raised;
    owns = λ called h. inl (subst (λ (j : Journal). Contains j.calls.items called) same h);
    few = let e : length after.calls.items ≡ length before.calls.items = ap (λ (j : Journal). length j.calls.items) same in omega (arith, e);
    up_to_date = subst (λ j. IsUpToDate j changed) (sym same) (subst (IsUpToDate before) (sym kept) ready);
  }

  -- none, while entries were noted
  pub thinned-noted : (old new : List Stored) (before after : Journal) (thrown changed : List ExitUnknown)
      → new ≡ old → AreNoted before after changed → IsUpToDate before thrown
      → ThinnedNow core table [] old new before after changed
  thinned-noted old new before after thrown changed same noted ready = record {
    kept = [];
    kept_added = subst (AreAdded core table [] old) (sym same) (added-none core table old);
    outer_is = refl;
    stays = λ c h. h;
    rest = λ c h. inl h;
    only = λ c raised. inl (raised-by core after before c
        (λ called h. let there = subst (λ (v : Vec Called Global). Contains v.items called) noted.calls_are h in
        (there, λ x. sym (noted.past_are x called.call (ready.past called there)))) raised);
    keeps = λ c raised. raised-by core before after c
        (λ called h. (subst (λ (v : Vec Called Global). Contains v.items called) (sym noted.calls_are) h, λ x. noted.past_are x called.call (ready.past called h))) raised;
    owns = λ called h. inl (subst (λ (v : Vec Called Global). Contains v.items called) noted.calls_are h);
    few = let e : length after.calls.items ≡ length before.calls.items = ap (λ (v : Vec Called Global). length v.items) noted.calls_are in omega (arith, e);
    up_to_date = noted.up_to_date;
  }

  -- first some of them, then the others
  pub thinned-then : (a b : List NamedConstraint) (old between new : List Stored) (before middle after : Journal) (thrown changed : List ExitUnknown)
      → ThinnedNow core table a old between before middle thrown → ThinnedNow core table b between new middle after changed
      → ThinnedNow core table (a ++ b) old new before after changed
  thinned-then a b old between new before middle after thrown changed one two = record {
    kept = one.kept ++ two.kept;
    kept_added = added-then core table one.kept two.kept old between new one.kept_added two.kept_added;
    outer_is = outer-append is_inner_name one.kept two.kept ∙ ap (λ cs. cs ++ outer is_inner_name two.kept) one.outer_is
        ∙ ap (λ cs. outer is_inner_name a ++ cs) two.outer_is ∙ sym (outer-append is_inner_name a b);
    stays = λ c h. ⊎_elim (λ k. Contains-append_left a b c (one.stays c k)) (λ k. Contains-append_right a b c (two.stays c k)) (Contains-append_cases one.kept two.kept c h);
    rest = λ c h. ⊎_elim
        (λ k. ⊎_elim (λ stays. inl (Contains-append_left one.kept two.kept c stays)) (λ raised. inr (two.keeps c raised)) (one.rest c k))
        (λ k. ⊎_elim (λ stays. inl (Contains-append_right one.kept two.kept c stays)) (λ raised. inr raised) (two.rest c k))
        (Contains-append_cases a b c h);
    only = λ c raised. ⊎_elim
        (λ earlier. ⊎_elim (λ first. inl first) (λ k. inr (Contains-append_left a b c k)) (one.only c earlier))
        (λ k. inr (Contains-append_right a b c k))
        (two.only c raised);
    keeps = λ c raised. two.keeps c (one.keeps c raised);
    owns = λ called h. ⊎_elim
        (λ earlier. ⊎_elim (λ first. inl first) (λ own. inr (own-left called a b own)) (one.owns called earlier))
        (λ own. inr (own-right called a b own))
        (two.owns called h);
    few = omega (arith, one.few, two.few, begins-append a b);
    up_to_date = two.up_to_date;
  }

  pub thinned-same : (a b : List NamedConstraint) (old new : List Stored) (before after : Journal) (changed : List ExitUnknown) → a ≡ b
      → ThinnedNow core table b old new before after changed → ThinnedNow core table a old new before after changed
  thinned-same a b old new before after changed same thinned = subst (λ cs. ThinnedNow core table cs old new before after changed) (sym same) thinned

  -- the same of walks
  pub walks-then : (a b : List NamedConstraint) (old middle new : Progress) → Thinned core table a old middle → Thinned core table b middle new → Thinned core table (a ++ b) old new
  walks-then a b old middle new first second ready =
      let one = first ready in
      thinned-then a b old.constraints.items middle.constraints.items new.constraints.items old.journal middle.journal new.journal middle.thrown.items new.thrown.items one (second one.up_to_date)

  pub walks-same : (a b : List NamedConstraint) (old new : Progress) → a ≡ b → Thinned core table b old new → Thinned core table a old new
  walks-same a b old new same thinned ready = thinned-same a b old.constraints.items new.constraints.items old.journal new.journal new.thrown.items same (thinned ready)

  pub walks-exact : (added : List NamedConstraint) (old new : Progress) → AreAdded core table added old.constraints.items new.constraints.items
      → new.journal ≡ old.journal → new.thrown.items ≡ old.thrown.items → Thinned core table added old new
  walks-exact added old new is journal thrown ready =
      thinned-exact added old.constraints.items new.constraints.items old.journal new.journal old.thrown.items new.thrown.items is journal thrown ready

  pub walks-none : (now : Progress) → Thinned core table [] now now
  walks-none now = walks-exact [] now now (added-none core table now.constraints.items) refl refl

  pub walks-noted : (old new : Progress) → new.constraints.items ≡ old.constraints.items → (IsUpToDate old.journal old.thrown.items → AreNoted old.journal new.journal new.thrown.items)
      → Thinned core table [] old new
  walks-noted old new same noted ready =
      thinned-noted old.constraints.items new.constraints.items old.journal new.journal old.thrown.items new.thrown.items same (noted ready) ready

  -- of whole walks
  pub whole-then : (a b : List NamedConstraint) (middle new : Progress) → ThinnedWhole core table a middle → Thinned core table b middle new → ThinnedWhole core table (a ++ b) new
  whole-then a b middle new first second = record {
    start = first.start;
    no_calls = first.no_calls;
    now = thinned-then a b [] middle.constraints.items new.constraints.items first.start middle.journal new.journal middle.thrown.items new.thrown.items first.now (second first.now.up_to_date);
  }

  pub whole-same : (a b : List NamedConstraint) (new : Progress) → a ≡ b → ThinnedWhole core table b new → ThinnedWhole core table a new
  whole-same a b new same whole = subst (λ cs. ThinnedWhole core table cs new) (sym same) whole
