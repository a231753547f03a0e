-- Entries of exceptions that handlers took one after the other.
use Rattle.std.proofs.Common.{◌≡◌, refl, sym, ap, ◌∙◌, subst, ℕ, suc, ◌+◌, ◌≤◌, List, [], ◌∷◌, Bool, true, false, ◌||◌, map, arith, get_or, drop, length, ◌<◌}
use Rattle.std.specs.Prelude.{◌==◌, if◌then◌else◌, Some, None}
use Rattle.std.proofs.Math.Path.{fun_ext}
use Rattle.std.proofs.lemmas.Bool.{lt-ltb, ne_eqb}
use Rattle.std.proofs.lemmas.List.{get_or-map}
use Rattle.std.proofs.Math.Bool.{or-true}
use Rattle.resolved.specs.Exits.{handles}
use Rattle.resolved.specs.Tree.{Handlers, NoMore, Catch}
use Rattle.resolved.specs.TreeOf.{handlers_of}
use Rattle.resolved.specs.declared.statement.Exit.{Exit}
use Rattle.resolved.specs.declared.statement.Exit.TheVariants.{Normal, Return, Break, Continue, Throw}
use Rattle.resolved.specs.declared.statement.Handler.{Handler}
use Rattle.gathering.specs.Walk.{handler_number, in_try}
use Rattle.constraints.specs.declared.exit_unknowns.ExitUnknown.{ExitUnknown}
use Rattle.constraints.specs.declared.exit_unknowns.ExitUnknowns.{ExitUnknowns}
use Rattle.constraints.specs.ExitUnknowns.{AreLevelled, entry_after, entry_in_try, no_entry, exit_unknown_of, exit_unknowns_of}
use Rattle.resolved.proofs.Views.{next-handler}
use Rattle.path_map.proofs.Summary.{same-number}

-- an entry that has the level stays
after-same : (handled : ℕ) (entry old : ExitUnknown) (x : ℕ) → (old.level == entry.level) ≡ true → entry_after handled entry x old ≡ old
after-same handled entry old x same = go (x == handled)
  where
    go : (b : Bool) → (if b then (if old.level == entry.level then old else entry) else old) ≡ old
    go true = ap (λ c. if c then old else entry) same
    go false = refl

pub stays : (handlers : Handlers) (n level x : ℕ) (old : ExitUnknown) → (old.level == level) ≡ true → entry_in_try handlers n level x old ≡ old
stays NoMore n level x old same = refl
stays (Catch at handled body rest) n level x old same =
    ap (entry_in_try rest (suc n) level x) (after-same handled (record { number = n; level = level }) old x same)
    ∙ stays rest (suc n) level x old same

-- the entry of the first handler of an exception
pub first-takes : (handlers : Handlers) (n level x : ℕ) (old : ExitUnknown) → (old.level == level) ≡ false → (level == level) ≡ true
    → entry_in_try handlers n level x old ≡ (if handles handlers x then record { number = handler_number handlers n x; level = level } else old)
first-takes NoMore n level x old differs same = refl
first-takes (Catch at handled body rest) n level x old differs same = go (x == handled) (first-takes rest (suc n) level x old differs same)
  where
    go : (b : Bool)
        → entry_in_try rest (suc n) level x old ≡ (if handles rest x then record { number = handler_number rest (suc n) x; level = level } else old)
        → entry_in_try rest (suc n) level x (if b then (if old.level == level then old else record { number = n; level = level }) else old)
        ≡ (if (b || handles rest x) then record { number = if b then n else handler_number rest (suc n) x; level = level } else old)
    go true later =
        ap (λ c. entry_in_try rest (suc n) level x (if c then old else record { number = n; level = level })) differs
        ∙ stays rest (suc n) level x (record { number = n; level = level }) same
    go false later = later

above : (n level : ℕ) → n ≤ level → (n == level + 1) ≡ false
above n level within = ne_eqb n (level + 1) (λ same. omega (arith, within, same))

-- one by one, for all exceptions
module _ (exit_unknowns : ExitUnknowns) (handlers : Handlers) (n : ℕ) (old new : List ExitUnknown) (levelled : AreLevelled exit_unknowns old)
    (taken : (x : ℕ) → get_or new x no_entry ≡ entry_in_try handlers n (exit_unknowns.level + 1) x (get_or old x no_entry)) where
  pub entry-is : (x : ℕ) → get_or new x no_entry
      ≡ (if handles handlers x then record { number = handler_number handlers n x; level = exit_unknowns.level + 1 } else get_or old x no_entry)
  entry-is x = taken x ∙ first-takes handlers n (exit_unknowns.level + 1) x (get_or old x no_entry)
      (above (get_or old x no_entry).level exit_unknowns.level (levelled.entries_are_within x)) (same-number (exit_unknowns.level + 1))

  pub try-exit_unknowns : exit_unknowns_of (record exit_unknowns { level = exit_unknowns.level + 1 }) new ≡ in_try (handler_number handlers n) handlers (exit_unknowns_of exit_unknowns old)
  try-exit_unknowns = fun_ext each
    where
      thrown : (x : ℕ) (b : Bool) → exit_unknown_of exit_unknowns.ends.raised (if b then record { number = handler_number handlers n x; level = exit_unknowns.level + 1 } else get_or old x no_entry)
          ≡ (if b then Some (handler_number handlers n x) else exit_unknown_of exit_unknowns.ends.raised (get_or old x no_entry))
      thrown x true = ap (λ b. if b then Some (handler_number handlers n x) else None) (lt-ltb exit_unknowns.ends.raised (exit_unknowns.level + 1) (omega (arith, levelled.barrier_is_within)))
      thrown x false = refl

      each : (exit : Exit) → exit_unknowns_of (record exit_unknowns { level = exit_unknowns.level + 1 }) new exit ≡ in_try (handler_number handlers n) handlers (exit_unknowns_of exit_unknowns old) exit
      each Normal = refl
      each Return = refl
      each Break = refl
      each Continue = refl
      each (Throw x) = ap (exit_unknown_of exit_unknowns.ends.raised) (entry-is x) ∙ thrown x (handles handlers x)

  pub try-levels : AreLevelled (record exit_unknowns { level = exit_unknowns.level + 1 }) new
  try-levels = record {
    barrier_is_within = omega (arith, levelled.barrier_is_within);
    entries_are_within = λ x. subst (λ (e : ExitUnknown). e.level ≤ exit_unknowns.level + 1) (sym (entry-is x)) (within x (handles handlers x));
  }
    where
      within : (x : ℕ) (b : Bool) → (if b then record { number = handler_number handlers n x; level = exit_unknowns.level + 1 } else get_or old x no_entry).level ≤ exit_unknowns.level + 1
      within x true = omega arith
      within x false = omega (arith, levelled.entries_are_within x)

-- the numbers of handlers, which are those of their exceptions' entries
pub numbers-same : (exit_unknowns : ExitUnknowns) (all : List Handler) (n : ℕ) (old new : List ExitUnknown) → AreLevelled exit_unknowns old
    → ((x : ℕ) → get_or new x no_entry ≡ entry_in_try (handlers_of all) n (exit_unknowns.level + 1) x (get_or old x no_entry))
    → (rest : List Handler) → ((x : ℕ) → handles (handlers_of rest) x ≡ true → handles (handlers_of all) x ≡ true)
    → map (λ (h : Handler). (get_or new h.exception no_entry).number) rest ≡ map (λ (h : Handler). handler_number (handlers_of all) n h.exception) rest
numbers-same exit_unknowns all n old new levelled taken [] within = refl
numbers-same exit_unknowns all n old new levelled taken (h ∷ rest) within =
    ap (λ k. k ∷ map (λ (h : Handler). (get_or new h.exception no_entry).number) rest) first
    ∙ ap (λ ks. handler_number (handlers_of all) n h.exception ∷ ks)
    (numbers-same exit_unknowns all n old new levelled taken rest (λ x has. within x (ap (λ b. (x == h.exception) || b) has ∙ or-true (x == h.exception))))
  where
    there : handles (handlers_of all) h.exception ≡ true
    there = within h.exception (ap (λ b. b || handles (handlers_of rest) h.exception) (same-number h.exception))

    first : (get_or new h.exception no_entry).number ≡ handler_number (handlers_of all) n h.exception
    first = ap (λ (e : ExitUnknown). e.number) (entry-is exit_unknowns (handlers_of all) n old new levelled taken h.exception
        ∙ ap (λ b. if b then record { number = handler_number (handlers_of all) n h.exception; level = exit_unknowns.level + 1 } else get_or old h.exception no_entry) there)

-- one more handler took its exception
pub taken-next : (handlers : List Handler) (i : ℕ) (handler : Handler) (first level number x : ℕ) (start old new : ExitUnknown) → i < length handlers → handler ≡ get_or handlers i handler
    → number ≡ first + i
    → entry_in_try (handlers_of (drop i handlers)) (first + i) level x old ≡ start
    → new ≡ entry_after handler.exception (record { number = number; level = level }) x old
    → entry_in_try (handlers_of (drop (i + 1) handlers)) (first + (i + 1)) level x new ≡ start
taken-next handlers i handler first level number x start old new inside is number_is before after =
    ap (λ k. entry_in_try (handlers_of (drop (i + 1) handlers)) k level x new) (omega arith)
    ∙ ap (entry_in_try (handlers_of (drop (i + 1) handlers)) (suc (first + i)) level x)
    (after ∙ ap (λ k. entry_after handler.exception (record { number = k; level = level }) x old) number_is)
    ∙ sym (ap (λ hs. entry_in_try hs (first + i) level x old) (next-handler handlers i handler handler.body.items inside is refl))
    ∙ before

-- the number of the handler at an index
pub number-at : (numbers : List ℕ) (number : ℕ → ℕ) (handlers : List Handler) (i : ℕ) (handler : Handler) (n d : ℕ) → numbers ≡ map (λ (h : Handler). number h.exception) handlers
    → i < length handlers → handler ≡ get_or handlers i handler → n ≡ get_or numbers i d → n ≡ number handler.exception
number-at numbers number handlers i handler n d are inside is found =
    found ∙ (ap (λ list. get_or list i d) are ∙ (get_or-map (λ (h : Handler). number h.exception) handlers i handler d inside
    ∙ ap (λ (h : Handler). number h.exception) (sym is)))
