-- The pieces of a walk that go into no block.
use Rattle.std.proofs.Common.{◌≡◌, refl, sym, ap, ◌∙◌, subst, ℕ, ◌+◌, List, [], ◌∷◌, map, drop, get_or, length, arith, Bool, true, false}
use Rattle.std.proofs.lemmas.List.{length-map}
use Rattle.common.proofs.Cases.{same_heads, same_tails}
use Rattle.labels.specs.Label.{Label}
use Rattle.resolved.specs.declared.program.Core.{Core}
use Rattle.resolved.specs.declared.statement.Exit.{Exit}
use Rattle.resolved.specs.declared.statement.Handler.{Handler}
use Rattle.resolved.specs.Exits.{handles, one_exit}
use Rattle.resolved.specs.Tree.{Empty}
use Rattle.resolved.specs.TreeOf.{handlers_of}
use Rattle.path_map.specs.Exits.{Exits}
use Rattle.path_map.specs.Exits.{exits_of}
use Rattle.gathering.specs.Names.{NamedAtom, NamedConstraint}
use Rattle.gathering.specs.Walk.{block_constraints, flow, single}
use Rattle.solver.specs.declared.constraints.Atom.{Atom}
use Rattle.constraints.specs.Added.{IsGatheredAt}
use Rattle.constraints.specs.Journals.{moments_at, noted_all}
use Rattle.constraints.specs.Thinned.{IsThinnedAt}
use Rattle.constraints.specs.LeftSides.{scope_of}
use Rattle.constraints.specs.ExitUnknowns.{AreLevelled, entry_in_try, no_entry, exit_unknowns_of, undone}
use Rattle.constraints.specs.Walked.{IsTried, IsWalked}
use Rattle.constraints.specs.declared.pieces.Tried.{Tried}
use Rattle.constraints.specs.declared.progress.Progress.{Progress}
use Rattle.constraints.specs.declared.exit_unknowns.ExitUnknown.{ExitUnknown}
use Rattle.constraints.specs.declared.exit_unknowns.ExitUnknowns.{ExitUnknowns}
use Rattle.constraints.proofs.Added.{added-none, added-same}
use Rattle.constraints.proofs.Noted.{handled-ones, noted-journal, unhandled-stay}
use Rattle.constraints.proofs.Passed.{alone-walked, passed-same}
use Rattle.constraints.proofs.Ready.{count-of}
use Rattle.constraints.proofs.SavedEntries.{undone-length}
use Rattle.constraints.proofs.Thinned.{walks-exact}
use Rattle.constraints.proofs.Taken.{numbers-same, try-levels, try-exit_unknowns}

module _ (core : Core) (table : List Label) (entries : List Exits) where
  -- the entry of a block or statement, and the flow of its pc
  pub begun : (pc : Atom) (exit_unknowns : ExitUnknowns) (exits : Exits) (thrown : List ExitUnknown) (ends : List Exit) (old middle new : Progress)
      → drop old.index entries ≡ exits ∷ drop middle.index entries → middle ≡ record old { index = middle.index } → thrown ≡ middle.thrown.items
      → new.index ≡ middle.index → new.number ≡ middle.number → new.thrown.items ≡ middle.thrown.items → new.journal ≡ middle.journal
      → (exits ≡ exits_of ends → IsGatheredAt core table pc (λ named. single (one_exit ends) named (exit_unknowns_of exit_unknowns thrown) ends) middle.constraints.items new.constraints.items)
      → IsWalked core table entries pc exit_unknowns (ends ∷ []) (λ named. single (one_exit ends) named (exit_unknowns_of exit_unknowns old.thrown.items) ends) 0 old new
  begun pc exit_unknowns exits thrown ends old middle new found others lent index number thrown_is journal added = λ left before levelled.
      let both : exits ∷ drop middle.index entries ≡ exits_of ends ∷ left = sym found ∙ before in
      let from : IsGatheredAt core table pc (λ named. single (one_exit ends) named (exit_unknowns_of exit_unknowns thrown) ends) old.constraints.items new.constraints.items =
      subst (λ cs. IsGatheredAt core table pc (λ named. single (one_exit ends) named (exit_unknowns_of exit_unknowns thrown) ends) cs new.constraints.items)
      (ap (λ (p : Progress). p.constraints.items) others) (added (same_heads exits (exits_of ends) (drop middle.index entries) left both)) in
      passed-same core table entries pc (λ named. single (one_exit ends) named (exit_unknowns_of exit_unknowns old.thrown.items) ends) (λ named. single (one_exit ends) named (exit_unknowns_of exit_unknowns thrown) ends) 0 0 left old new
      (λ named. ap (λ t. single (one_exit ends) named (exit_unknowns_of exit_unknowns t) ends) (sym (lent ∙ ap (λ (p : Progress). p.thrown.items) others))) refl
      (record {
        added = λ named stands. walks-exact core table (single (one_exit ends) named (exit_unknowns_of exit_unknowns thrown) ends) old new (from named stands)
            (journal ∙ ap (λ (p : Progress). p.journal) others) (thrown_is ∙ ap (λ (p : Progress). p.thrown.items) others);
        entries_left = ap (λ i. drop i entries) index ∙ same_tails exits (exits_of ends) (drop middle.index entries) left both;
        number_is = number ∙ (ap (λ (p : Progress). p.number) others ∙ omega arith);
        thrown_is = thrown_is ∙ ap (λ (p : Progress). p.thrown.items) others;
      })

  -- what is gathered with inner unknowns that are made for it
  pub made-thinned : (pc : Atom) (exit_unknowns : ExitUnknowns) (thrown : List ExitUnknown) (k first : ℕ) (gathered : List ExitUnknown → ℕ → NamedAtom → List NamedConstraint) (old middle new : Progress)
      → middle ≡ record old { number = old.number + k } → first ≡ old.number → thrown ≡ middle.thrown.items
      → new.index ≡ middle.index → new.number ≡ middle.number → new.thrown.items ≡ middle.thrown.items
      → IsThinnedAt core table pc (gathered thrown first) middle new
      → IsWalked core table entries pc exit_unknowns [] (gathered old.thrown.items old.number) k old new
  made-thinned pc exit_unknowns thrown k first gathered old middle new made first_is lent index number thrown_is added = λ left before levelled.
      let from : IsThinnedAt core table pc (gathered thrown first) (record old { number = old.number + k }) new =
      subst (λ p. IsThinnedAt core table pc (gathered thrown first) p new) made added in
      passed-same core table entries pc (gathered old.thrown.items old.number) (gathered thrown first) k k left old new
      (λ named. ap (λ t. gathered t old.number named) (sym (lent ∙ ap (λ (p : Progress). p.thrown.items) made)) ∙ ap (λ n. gathered thrown n named) (sym first_is)) refl
      (record {
        added = from;
        entries_left = ap (λ i. drop i entries) (index ∙ ap (λ (p : Progress). p.index) made) ∙ before;
        number_is = number ∙ ap (λ (p : Progress). p.number) made;
        thrown_is = thrown_is ∙ ap (λ (p : Progress). p.thrown.items) made;
      })

  pub made-walked : (pc : Atom) (exit_unknowns : ExitUnknowns) (thrown : List ExitUnknown) (k first : ℕ) (gathered : List ExitUnknown → ℕ → NamedAtom → List NamedConstraint) (old middle new : Progress)
      → middle ≡ record old { number = old.number + k } → first ≡ old.number → thrown ≡ middle.thrown.items
      → new.index ≡ middle.index → new.number ≡ middle.number → new.thrown.items ≡ middle.thrown.items → new.journal ≡ middle.journal
      → IsGatheredAt core table pc (gathered thrown first) middle.constraints.items new.constraints.items
      → IsWalked core table entries pc exit_unknowns [] (gathered old.thrown.items old.number) k old new
  made-walked pc exit_unknowns thrown k first gathered old middle new made first_is lent index number thrown_is journal added =
      made-thinned pc exit_unknowns thrown k first gathered old middle new made first_is lent index number thrown_is
      (λ named stands. walks-exact core table (gathered thrown first named) middle new (added named stands) journal thrown_is)

  -- the end of a block that is not reached
  pub unreached : (procedure : ℕ) (reached : Bool) (pc : Atom) (exit_unknowns : ExitUnknowns) (n : ℕ) (old : Progress) → reached ≡ false
      → IsWalked core table entries pc exit_unknowns [] (λ named. block_constraints (scope_of core procedure) reached named (exit_unknowns_of exit_unknowns old.thrown.items) n Empty) 0 old old
  unreached procedure reached pc exit_unknowns n old is =
      alone-walked core table entries pc exit_unknowns (λ named. block_constraints (scope_of core procedure) reached named (exit_unknowns_of exit_unknowns old.thrown.items) n Empty) 0 old old refl (omega arith) refl refl
      (λ named stands. added-same core table (block_constraints (scope_of core procedure) reached named (exit_unknowns_of exit_unknowns old.thrown.items) n Empty) [] old.constraints.items old.constraints.items
      (ap (λ b. block_constraints (scope_of core procedure) b named (exit_unknowns_of exit_unknowns old.thrown.items) n Empty) is) (added-none core table old.constraints.items))

  -- the end of one that is
  pub reached-walked : (procedure : ℕ) (reached : Bool) (pc : Atom) (exit_unknowns : ExitUnknowns) (n : ℕ) (old new : Progress) → reached ≡ true
      → new.index ≡ old.index → new.number ≡ old.number → new.thrown.items ≡ old.thrown.items → new.journal ≡ old.journal
      → IsGatheredAt core table pc (λ named. flow (named ∷ []) exit_unknowns.ends.normal) old.constraints.items new.constraints.items
      → IsWalked core table entries pc exit_unknowns [] (λ named. block_constraints (scope_of core procedure) reached named (exit_unknowns_of exit_unknowns old.thrown.items) n Empty) 0 old new
  reached-walked procedure reached pc exit_unknowns n old new is index number thrown journal added =
      alone-walked core table entries pc exit_unknowns (λ named. block_constraints (scope_of core procedure) reached named (exit_unknowns_of exit_unknowns old.thrown.items) n Empty) 0 old new index (omega (arith, number)) thrown journal
      (λ named stands. added-same core table (block_constraints (scope_of core procedure) reached named (exit_unknowns_of exit_unknowns old.thrown.items) n Empty) (flow (named ∷ []) exit_unknowns.ends.normal) old.constraints.items new.constraints.items
      (ap (λ b. block_constraints (scope_of core procedure) b named (exit_unknowns_of exit_unknowns old.thrown.items) n Empty) is) (added named stands))

-- handlers that took their exceptions
pub try-begun : (exit_unknowns : ExitUnknowns) (handlers : List Handler) (thrown noting : List ExitUnknown) (first level : ℕ) (old middle new : Progress) (tried : Tried)
    → middle ≡ record old { number = old.number + length handlers } → first ≡ old.number
    → tried.exit_unknowns ≡ record exit_unknowns { level = exit_unknowns.level + 1 } → level ≡ exit_unknowns.level + 1
    → undone tried.saved.items new.thrown.items ≡ middle.thrown.items
    → ((x : ℕ) → get_or new.thrown.items x no_entry ≡ entry_in_try (handlers_of handlers) first level x (get_or middle.thrown.items x no_entry))
    → tried.numbers.items ≡ map (λ (handler : Handler). (get_or thrown handler.exception no_entry).number) handlers → thrown ≡ new.thrown.items
    → new.index ≡ middle.index → new.constraints ≡ middle.constraints → new.number ≡ middle.number
    → new.journal.calls ≡ middle.journal.calls
    → ((x : ℕ) → moments_at new.journal.moments.items x ≡ noted_all (length middle.journal.moments.items) (length middle.journal.calls.items) noting
    (map (λ (handler : Handler). handler.exception) handlers) x (moments_at middle.journal.moments.items x))
    → length new.journal.moments.items ≡ length middle.journal.moments.items → noting ≡ new.thrown.items
    → IsTried exit_unknowns handlers old new tried
try-begun exit_unknowns handlers thrown noting first level old middle new tried made first_is inner_is level_is undone_is taken numbers_are lent index constraints number calls moments count noted_are =
    let thrown_same : middle.thrown.items ≡ old.thrown.items = ap (λ (p : Progress). p.thrown.items) made in
    let from : (x : ℕ) → get_or new.thrown.items x no_entry ≡ entry_in_try (handlers_of handlers) old.number (exit_unknowns.level + 1) x (get_or old.thrown.items x no_entry) =
    λ x. taken x ∙ (ap (λ n. entry_in_try (handlers_of handlers) n level x (get_or middle.thrown.items x no_entry)) first_is
    ∙ (ap (λ l. entry_in_try (handlers_of handlers) old.number l x (get_or middle.thrown.items x no_entry)) level_is
    ∙ ap (λ list. entry_in_try (handlers_of handlers) old.number (exit_unknowns.level + 1) x (get_or list x no_entry)) thrown_same)) in
    let others : (x : ℕ) → handles (handlers_of handlers) x ≡ false → get_or new.thrown.items x no_entry ≡ get_or old.thrown.items x no_entry =
    λ x none. from x ∙ unhandled-stay (handlers_of handlers) old.number (exit_unknowns.level + 1) x (get_or old.thrown.items x no_entry) none in
    let width : length new.thrown.items ≡ length old.thrown.items = sym (undone-length tried.saved.items new.thrown.items) ∙ ap length (undone_is ∙ thrown_same) in
    record {
      taken = λ levelled. record {
        exit_unknowns_are = ap (λ t. exit_unknowns_of t new.thrown.items) inner_is ∙ try-exit_unknowns exit_unknowns (handlers_of handlers) old.number old.thrown.items new.thrown.items levelled from;
        levels_are = subst (λ t. AreLevelled t new.thrown.items) (sym inner_is) (try-levels exit_unknowns (handlers_of handlers) old.number old.thrown.items new.thrown.items levelled from);
      };
      numbers_are = λ levelled. numbers_are ∙ (ap (λ list. map (λ (handler : Handler). (get_or list handler.exception no_entry).number) handlers) lent
          ∙ numbers-same exit_unknowns handlers old.number old.thrown.items new.thrown.items levelled from handlers (λ x has. has));
      count_is = ap length numbers_are ∙ length-map handlers (λ (handler : Handler). (get_or thrown handler.exception no_entry).number);
      saved_is = undone_is ∙ thrown_same;
      index_is = index ∙ ap (λ (p : Progress). p.index) made;
      constraints_are = constraints ∙ ap (λ (p : Progress). p.constraints) made;
      others_are = others;
      noted = λ ready. noted-journal old.journal new.journal old.thrown.items new.thrown.items (map (λ (handler : Handler). handler.exception) handlers)
          (calls ∙ ap (λ (p : Progress). p.journal.calls) made)
          (λ x. moments x
          ∙ (ap (λ list. noted_all (length middle.journal.moments.items) (length middle.journal.calls.items) list (map (λ (handler : Handler). handler.exception) handlers) x
          (moments_at middle.journal.moments.items x)) noted_are
          ∙ ap (λ (p : Progress). noted_all (length p.journal.moments.items) (length p.journal.calls.items) new.thrown.items (map (λ (handler : Handler). handler.exception) handlers) x
          (moments_at p.journal.moments.items x)) made))
          (count ∙ ap (λ (p : Progress). length p.journal.moments.items) made) width
          (λ x none. others x (sym (handled-ones handlers x) ∙ none)) ready;
      number_is = number ∙ (ap (λ (p : Progress). p.number) made ∙ ap (λ n. old.number + n) (count-of handlers));
      level_is = ap (λ (t : ExitUnknowns). t.level) inner_is;
    }
