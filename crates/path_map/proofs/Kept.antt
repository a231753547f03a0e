-- What is kept of the exits of statements and blocks, and what they are in it.
use Rattle.std.proofs.Common.{◌≡◌, ◌≢◌, refl, sym, ap, ◌∙◌, subst, ℕ, zero, suc, ◌<◌, ◌≤◌, List, [], ◌∷◌, ◌++◌, Bool, true, false, ◌&&◌, ◌||◌, map, filter, set, length, get_or, arith, ltb}
use Rattle.std.specs.Prelude.{◌==◌, slice_index_or}
use Rattle.std.proofs.lemmas.Bool.{eqb-true, eqb-false, ne_eqb, ltb-true, ltb-false}
use Rattle.std.proofs.Math.Bool.{or-false, and-true, and-false}
use Rattle.std.proofs.lemmas.List.{get_or_past, length-map}
use Rattle.resolved.specs.declared.statement.Exit.{Exit}
use Rattle.resolved.specs.declared.statement.Exit.TheVariants.{Normal, Return, Break, Continue, Throw}
use Rattle.resolved.specs.Exits.{same_exit, has_exit, thrown_exits}
use Rattle.path_map.specs.declared.exits.Raised.{Raised}
use Rattle.path_map.specs.declared.exits.Raised.TheVariants.{Nothing, One, Several}
use Rattle.path_map.specs.Exits.{Exits}
use Rattle.path_map.specs.declared.members.ExceptionSet.{ExceptionSet}
use Rattle.path_map.specs.declared.keeping.KeptRow.{KeptRow}
use Rattle.path_map.specs.declared.table.ExitsEntry.{ExitsEntry}
use Rattle.path_map.specs.Exits.{exits_of, raised_by, thrown_in}
use Rattle.path_map.specs.Entries.{exceptions_at, end_if, entry_exits, IsKept, AreKept, RowsGrow, IsRowFor, HasExits, IsEntryWritten}
use Rattle.path_map.specs.Listed.{below, listed}
use Rattle.path_map.specs.RowLists.{row_at}
use Rattle.path_map.specs.Joins.{only_raised}
use Rattle.path_map.specs.PathMaps.{value_at}
use Rattle.path_map.specs.ThrownExits.{is_raised}
use Rattle.path_map.specs.Exceptions.{is_one_of}
use Rattle.path_map.specs.declared.members.SetForm.{SetForm}
use Rattle.path_map.specs.declared.members.SetForm.TheVariants.{Empty, Single, Many}
use Rattle.path_map.specs.Kept.{IsSetInside, kept_has}
use Rattle.path_map.specs.Sets.{members, throws, IsSummaryOf}
use Rattle.path_map.proofs.Summary.{none-thrown, summary-is, throws-in, throws-thrown}

-- the exceptions of a row
listed-before : (p : ℕ → Bool) (n e : ℕ) → n ≤ e → is_one_of (filter p (below n)) e ≡ false
listed-before p zero e far = refl
listed-before p (suc n) e far =
    let rest : is_one_of (filter p (below n)) e ≡ false = listed-before p n e (omega arith) in
    let differs : (e == n) ≡ false = ne_eqb e n (λ same. absurd (omega arith)) in
    go (p n) refl rest differs
  where
    go : (b : Bool) → p n ≡ b → is_one_of (filter p (below n)) e ≡ false → (e == n) ≡ false → is_one_of (filter p (n ∷ below n)) e ≡ false
    go false f rest differs = rw f rest
    go true f rest differs = rw (f, differs) rest

listed-at : (p : ℕ → Bool) (n e : ℕ) → e < n → is_one_of (filter p (below n)) e ≡ p e
listed-at p zero e near = absurd (omega arith)
listed-at p (suc n) e near = go (e == n) refl (p n) refl (λ less. listed-at p n e less)
  where
    go : (same : Bool) → (e == n) ≡ same → (b : Bool) → p n ≡ b → (e < n → is_one_of (filter p (below n)) e ≡ p e) → is_one_of (filter p (n ∷ below n)) e ≡ p e
    go true f true g rest = rw (g, f) (sym (ap p (eqb-true e n f) ∙ g))
    go true f false g rest = rw g (listed-before p n e (omega (arith, eqb-true e n f)) ∙ sym (ap p (eqb-true e n f) ∙ g))
    go false f true g rest =
        let less : e < n = let differs : e ≢ n = eqb-false e n f in omega arith in
        rw (g, f) (rest less)
    go false f false g rest =
        let less : e < n = let differs : e ≢ n = eqb-false e n f in omega arith in
        rw g (rest less)

inside-below : (bound : ℕ) (kept : SetForm) → IsSetInside bound kept → (e : ℕ) → bound ≤ e → kept_has kept e ≡ false
inside-below bound Empty inside e far = refl
inside-below bound (Single only) inside e far = let below : only < bound = inside.0 only refl in ne_eqb e only (λ same. absurd (omega (arith, below, same, far)))
inside-below bound (Many row) inside e far = let same : length row ≡ bound = inside.1 row refl in get_or_past row e false (omega (arith, same, far))

pub listed-has : (set : ExceptionSet) (e : ℕ) → is_one_of (listed set) e ≡ members set e
listed-has set e = go (ltb e set.bound) refl
  where
    go : (b : Bool) → ltb e set.bound ≡ b → is_one_of (listed set) e ≡ members set e
    go true f = listed-at (members set) set.bound e (ltb-true e set.bound f)
    go false f =
        let far : set.bound ≤ e = ltb-false e set.bound f in
        listed-before (members set) set.bound e far ∙ sym (inside-below set.bound set.kept set.inside e far)

-- the exits of an entry
if-has : (test : Bool) (x : Exit) (rest : List Exit) (exit : Exit)
    → has_exit (end_if test x ++ rest) exit ≡ ((test && same_exit exit x) || has_exit rest exit)
if-has true x rest exit = refl
if-has false x rest exit = refl

module _ (rows : List KeptRow) (entry : ExitsEntry) where
  raised : List ℕ
  raised = exceptions_at rows entry.row entry.exits.raised

  each : (exit : Exit) → has_exit (entry_exits rows entry) exit
      ≡ ((entry.exits.normal && same_exit exit Normal) || ((entry.exits.returns && same_exit exit Return)
      || ((entry.exits.breaks && same_exit exit Break) || ((entry.exits.continues && same_exit exit Continue) || has_exit (thrown_exits raised) exit))))
  unfolding raised
  each exit =
      if-has entry.exits.normal Normal (end_if entry.exits.returns Return ++ (end_if entry.exits.breaks Break ++ (end_if entry.exits.continues Continue ++ thrown_exits raised))) exit
      ∙ ap (λ b. (entry.exits.normal && same_exit exit Normal) || b)
      (if-has entry.exits.returns Return (end_if entry.exits.breaks Break ++ (end_if entry.exits.continues Continue ++ thrown_exits raised)) exit
      ∙ ap (λ b. (entry.exits.returns && same_exit exit Return) || b)
      (if-has entry.exits.breaks Break (end_if entry.exits.continues Continue ++ thrown_exits raised) exit
      ∙ ap (λ b. (entry.exits.breaks && same_exit exit Break) || b)
      (if-has entry.exits.continues Continue (thrown_exits raised) exit)))

  sure : (n r b c x : Bool) → x ≡ false → ((n && true) || ((r && false) || ((b && false) || ((c && false) || x)))) ≡ n
  sure n r b c x none = rw (and-true n, and-false r, and-false b, and-false c, none) (or-false n)

  second : (n r b c x : Bool) → x ≡ false → ((n && false) || ((r && true) || ((b && false) || ((c && false) || x)))) ≡ r
  second n r b c x none = rw (and-false n, and-true r, and-false b, and-false c, none) (or-false r)

  third : (n r b c x : Bool) → x ≡ false → ((n && false) || ((r && false) || ((b && true) || ((c && false) || x)))) ≡ b
  third n r b c x none = rw (and-false n, and-false r, and-true b, and-false c, none) (or-false b)

  fourth : (n r b c x : Bool) → x ≡ false → ((n && false) || ((r && false) || ((b && false) || ((c && true) || x)))) ≡ c
  fourth n r b c x none = rw (and-false n, and-false r, and-false b, and-true c, none) (or-false c)

  last : (n r b c x : Bool) → ((n && false) || ((r && false) || ((b && false) || ((c && false) || x)))) ≡ x
  last n r b c x = rw (and-false n, and-false r, and-false b, and-false c) refl

  pub entry-normal : has_exit (entry_exits rows entry) Normal ≡ entry.exits.normal
  entry-normal =
      each Normal ∙ sure entry.exits.normal entry.exits.returns entry.exits.breaks entry.exits.continues (has_exit (thrown_exits raised) Normal)
      (none-thrown Normal (λ _. refl) raised)

  pub entry-returns : has_exit (entry_exits rows entry) Return ≡ entry.exits.returns
  entry-returns =
      each Return ∙ second entry.exits.normal entry.exits.returns entry.exits.breaks entry.exits.continues (has_exit (thrown_exits raised) Return)
      (none-thrown Return (λ _. refl) raised)

  pub entry-breaks : has_exit (entry_exits rows entry) Break ≡ entry.exits.breaks
  entry-breaks =
      each Break ∙ third entry.exits.normal entry.exits.returns entry.exits.breaks entry.exits.continues (has_exit (thrown_exits raised) Break)
      (none-thrown Break (λ _. refl) raised)

  pub entry-continues : has_exit (entry_exits rows entry) Continue ≡ entry.exits.continues
  entry-continues =
      each Continue ∙ fourth entry.exits.normal entry.exits.returns entry.exits.breaks entry.exits.continues (has_exit (thrown_exits raised) Continue)
      (none-thrown Continue (λ _. refl) raised)

  pub entry-raised : (e : ℕ) → throws (entry_exits rows entry) e ≡ is_one_of (exceptions_at rows entry.row entry.exits.raised) e
  unfolding raised
  entry-raised e =
      each (Throw e) ∙ (last entry.exits.normal entry.exits.returns entry.exits.breaks entry.exits.continues (has_exit (thrown_exits raised) (Throw e))
      ∙ throws-thrown raised e)

-- more rows
exceptions-same : (old new : List KeptRow) (row : ℕ) (raised : Raised) → row_at new row ≡ row_at old row
    → exceptions_at new row raised ≡ exceptions_at old row raised
exceptions-same old new row Nothing same = refl
exceptions-same old new row (One e) same = refl
exceptions-same old new row Several same = same

module _ (old new : List KeptRow) (grown : RowsGrow old new) where
  ends-same : (entry : ExitsEntry) → IsKept old entry → entry_exits new entry ≡ entry_exits old entry
  ends-same entry kept =
      ap (λ es. end_if entry.exits.normal Normal ++ (end_if entry.exits.returns Return ++ (end_if entry.exits.breaks Break
      ++ (end_if entry.exits.continues Continue ++ thrown_exits es))))
      (exceptions-same old new entry.row entry.exits.raised (grown.same entry.row kept.there))

  one-grown : (entry : ExitsEntry) → IsKept old entry → IsKept new entry
  one-grown entry kept = record {
    there = omega (arith, kept.there, grown.more);
    summary = kept.summary ∙ ap exits_of (sym (ends-same entry kept));
  }

  pub view-grown : (entries : List ExitsEntry) → AreKept old entries → map (entry_exits new) entries ≡ map (entry_exits old) entries
  view-grown [] kept = refl
  view-grown (entry ∷ entries) kept = rw (ends-same entry kept.0, view-grown entries kept.1) refl

  pub kept-grown : (entries : List ExitsEntry) → AreKept old entries → AreKept new entries
  kept-grown [] kept = tt
  kept-grown (entry ∷ entries) kept = (one-grown entry kept.0, kept-grown entries kept.1)

-- the exits of an entry, as its path map has them
raised-among : (rows : List KeptRow) (row : ℕ) (raised : Raised) (x : ℕ) → is_raised raised rows row x ≡ is_one_of (exceptions_at rows row raised) x
raised-among rows row Nothing x = refl
raised-among rows row (One only) x = sym (or-false (x == only))
raised-among rows row Several x = refl

pub entry-value : (rows : List KeptRow) (entry : ExitsEntry) (exit : Exit)
    → value_at (λ (raised : Raised). is_raised entry.exits.raised rows entry.row) entry.exits exit ≡ has_exit (entry_exits rows entry) exit
entry-value rows entry Normal = sym (entry-normal rows entry)
entry-value rows entry Return = sym (entry-returns rows entry)
entry-value rows entry Break = sym (entry-breaks rows entry)
entry-value rows entry Continue = sym (entry-continues rows entry)
entry-value rows entry (Throw x) = raised-among rows entry.row entry.exits.raised x ∙ sym (entry-raised rows entry x)

-- more entries
pub kept-append : (rows : List KeptRow) (entries : List ExitsEntry) (entry : ExitsEntry) → AreKept rows entries → IsKept rows entry → AreKept rows (entries ++ entry ∷ [])
kept-append rows [] entry kept one = (one, tt)
kept-append rows (x ∷ entries) entry kept one = (kept.0, kept-append rows entries entry kept.1 one)

kept-set : (rows : List KeptRow) (entries : List ExitsEntry) (at : ℕ) (entry : ExitsEntry) → AreKept rows entries → IsKept rows entry → AreKept rows (set entries at entry)
kept-set rows [] at entry kept one = tt
kept-set rows (x ∷ entries) zero entry kept one = (one, kept.1)
kept-set rows (x ∷ entries) (suc at) entry kept one = (kept.0, kept-set rows entries at entry kept.1 one)

view-set : (rows : List KeptRow) (entries : List ExitsEntry) (at : ℕ) (entry : ExitsEntry)
    → map (entry_exits rows) (set entries at entry) ≡ set (map (entry_exits rows) entries) at (entry_exits rows entry)
view-set rows [] at entry = refl
view-set rows (x ∷ entries) zero entry = refl
view-set rows (x ∷ entries) (suc at) entry = ap (λ xs. entry_exits rows x ∷ xs) (view-set rows entries at entry)

pub exits-at : (rows : List KeptRow) (entries : List ExitsEntry) (number : ℕ) (none : ExitsEntry) → AreKept rows entries → number < length entries
    → (get_or entries number none).exits ≡ exits_of (slice_index_or (map (entry_exits rows) entries) number [])
exits-at rows [] number none kept there = absurd (omega arith)
exits-at rows (x ∷ entries) zero none kept there = kept.0.summary
exits-at rows (x ∷ entries) (suc number) none kept there = exits-at rows entries number none kept.1 (omega arith)

-- an entry that is read
kept-at : (rows : List KeptRow) (entries : List ExitsEntry) (number : ℕ) (none : ExitsEntry) → AreKept rows entries → number < length entries
    → (get_or entries number none).row < length rows
kept-at rows [] number none kept there = absurd (omega arith)
kept-at rows (x ∷ entries) zero none kept there = kept.0.there
kept-at rows (x ∷ entries) (suc number) none kept there = kept-at rows entries number none kept.1 (omega arith)

ends-at : (rows : List KeptRow) (entries : List ExitsEntry) (number : ℕ) (none : ExitsEntry) → number < length entries
    → entry_exits rows (get_or entries number none) ≡ slice_index_or (map (entry_exits rows) entries) number []
ends-at rows [] number none there = absurd (omega arith)
ends-at rows (x ∷ entries) zero none there = refl
ends-at rows (x ∷ entries) (suc number) none there = ends-at rows entries number none (omega arith)

module _ (rows : List KeptRow) (entries : List ExitsEntry) (found : List (List Exit)) (number : ℕ) (entry none : ExitsEntry)
    (is : entry ≡ get_or entries number none) (view : map (entry_exits rows) entries ≡ found) (there : number < length found) where
  inside : number < length entries
  inside = omega (arith, there, ap length view, length-map entries (entry_exits rows))

  pub row-inside : AreKept rows entries → entry.row < length rows
  row-inside kept = subst (λ (e : ExitsEntry). e.row < length rows) (sym is) (kept-at rows entries number none kept inside)

  pub end-found : (exit : Exit) → has_exit (entry_exits rows entry) exit ≡ has_exit (slice_index_or found number []) exit
  end-found exit =
      ap (λ (e : ExitsEntry). has_exit (entry_exits rows e) exit) is
      ∙ (ap (λ ends. has_exit ends exit) (ends-at rows entries number none inside)
      ∙ ap (λ v. has_exit (slice_index_or v number []) exit) view)

-- an entry that is written
one-exception : (set : ℕ → Bool) (x e : ℕ) → IsSummaryOf set (One x) → ((e == x) || false) ≡ set e
one-exception set x e only = go (e == x) refl (set e) refl
  where
    go : (same : Bool) → (e == x) ≡ same → (has : Bool) → set e ≡ has → ((e == x) || false) ≡ set e
    go true f has g = rw f (sym (ap set (eqb-true e x f) ∙ only.has))
    go false f false g = rw (f, g) refl
    go false f true g = absurd (eqb-false e x f (only.only e g))

module _ (rows : List KeptRow) (exits : Exits) (set : ℕ → Bool) (row : ℕ) (raised : Raised) (there : row < length rows) (sum : IsSummaryOf set raised)
    (of : raised ≡ Several → (e : ℕ) → is_one_of (row_at rows row) e ≡ set e) where
  written : ExitsEntry
  written = record { exits = record exits { raised = raised }; row = row }

  written-members : (r : Raised) → raised ≡ r → (e : ℕ) → is_one_of (exceptions_at rows row r) e ≡ set e
  written-members Nothing is e = sym ((subst (IsSummaryOf set) is sum) e)
  written-members (One x) is e = one-exception set x e (subst (IsSummaryOf set) is sum)
  written-members Several is e = of is e

  pub written-has : HasExits exits set (entry_exits rows (record { exits = record exits { raised = raised }; row = row }))
  unfolding written
  written-has = record {
    normal = entry-normal rows written;
    returns = entry-returns rows written;
    breaks = entry-breaks rows written;
    continues = entry-continues rows written;
    raised = λ e. entry-raised rows written e ∙ written-members raised refl e;
  }

  pub written-kept : IsKept rows (record { exits = record exits { raised = raised }; row = row })
  unfolding written
  written-kept =
      let ends : List Exit = entry_exits rows written in
      let is : raised ≡ raised_by (thrown_in ends) =
      summary-is (thrown_in ends) set (λ e. throws-in ends e ∙ written-has.raised e) raised sum in
      record {
        there = there;
        summary =
            rw (written-has.normal, written-has.returns, written-has.breaks, written-has.continues, sym is) refl;
      }

module _ (old new : List KeptRow) (entries : List ExitsEntry) (at : ℕ) (exits given : Exits) (raises : ℕ → Bool) (row : ℕ) (raised : Raised)
    (grown : RowsGrow old new) (kept : AreKept old entries) (of : IsRowFor raises raised new row) (sum : IsSummaryOf raises raised)
    (is : given ≡ record exits { raised = raised }) where
  pub put-is : IsEntryWritten at exits raises (map (entry_exits old) entries) (map (entry_exits new) (set entries at (record { exits = given; row = row })))
  put-is =
      let entry : ExitsEntry = record { exits = record exits { raised = raised }; row = row } in
      subst (λ (x : Exits). IsEntryWritten at exits raises (map (entry_exits old) entries) (map (entry_exits new) (set entries at (record { exits = x; row = row })))) (sym is)
      (record {
        ends = entry_exits new entry;
        has = written-has new exits raises row raised of.there sum of.same;
        written =
            view-set new entries at entry
            ∙ ap (λ xs. set xs at (entry_exits new entry)) (view-grown old new grown entries kept);
      })

  pub put-kept : AreKept new (set entries at (record { exits = given; row = row }))
  put-kept =
      subst (λ (x : Exits). AreKept new (set entries at (record { exits = x; row = row }))) (sym is)
      (kept-set new entries at (record { exits = record exits { raised = raised }; row = row }) (kept-grown old new grown entries kept)
      (written-kept new exits raises row raised of.there sum of.same))

-- an entry for which room is made
pub room-kept : (rows : List KeptRow) (given : Exits) → given ≡ only_raised Nothing → 0 < length rows → IsKept rows (record { exits = given; row = 0 })
room-kept rows given is some = rw is (record { there = some; summary = refl })

pub no-row : (rows : List KeptRow) (set : ℕ → Bool) (summary : Raised) → 0 < length rows → (summary ≡ Several → ⊥) → IsRowFor set summary rows 0
no-row rows set summary some none = record { there = some; same = λ several. absurd (none several) }

abbrev is_several : Raised → Bool
is_several Nothing = false
is_several (One e) = false
is_several Several = true

pub not-several : Nothing ≡ Several → ⊥
not-several same = let no : false ≡ true = ap is_several same in absurd (cc)
