-- What a walk finds, put together from what it finds of the pieces.
use Rattle.std.proofs.Common.{◌≡◌, refl, sym, ap, ◌∙◌, subst, ℕ, ◌<◌, List, [], ◌∷◌, ◌++◌, Bool, true, false, not, ◌&&◌, ◌||◌, filter, length, set, arith, append_assoc}
use Rattle.std.specs.Prelude.{◌==◌}
use Rattle.std.proofs.lemmas.Bool.{eqb-true, eqb-false, eq-eqb, ne_eqb}
use Rattle.std.proofs.lemmas.List.{length-append}
use Rattle.std.proofs.Math.Bool.{or-false, and-false, or_assoc}
use Rattle.std.proofs.lemmas.List.Folds.{list_any-append}
use Rattle.resolved.specs.FaultParts.{place_of, may_stand, inner_faults}
use Rattle.resolved.specs.declared.statement.Exit.{Exit}
use Rattle.resolved.specs.declared.statement.Exit.TheVariants.{Normal, Return, Break, Continue, Throw}
use Rattle.resolved.specs.Tree.{Statement, Block, Empty, Then, Handlers, NoMore, Catch}
use Rattle.resolved.specs.Program.{Program}
use Rattle.resolved.specs.Exits.{same_exit, has_exit, thrown_exits, then_exits, leaves_loop, handles, passes, statement_exits, block_exits, handlers_exits, fault_unless}
use Rattle.resolved.specs.ExitFaults.{block_faults, handlers_faults}
use Rattle.common.specs.declared.refusal.RefusalAt.{RefusalAt}
use Rattle.resolved.specs.declared.fault.ExitRefusalKind.{ExitRefusalKind}
use Rattle.path_map.specs.declared.exits.Raised.{Raised}
use Rattle.path_map.specs.declared.exits.Raised.TheVariants.{Nothing}
use Rattle.path_map.specs.Exits.{Exits}
use Rattle.resolved.specs.declared.fault.ExitRefusalKind.TheVariants as kind
use Rattle.resolved.proofs.Exits.{faults-in_parts}
use Rattle.common.specs.declared.fault.OrNoMemory.{OrNoMemory}
use Rattle.common.specs.declared.fault.OrNoMemory.TheVariants.{NoMemory, Refused}
use Rattle.common.specs.Answers.{IfRefused}
use Rattle.path_map.specs.FirstFault.{IsFirstEndFault}
use Rattle.path_map.specs.Exits.{exits_of, raised_by, thrown_in}
use Rattle.path_map.specs.Joins.{join, join_raised, after, only_raised, of_loop}
use Rattle.path_map.specs.Paths.{HaveSameExits, statement_paths, block_paths, rest_paths, handlers_paths}
use Rattle.path_map.specs.Exceptions.{is_one_of}
use Rattle.path_map.specs.Sets.{IsSum, IsSummaryOf, throws}
use Rattle.path_map.specs.Walks.{IsFound, AreThrown, AreLeft}
use Rattle.path_map.proofs.Summary.{exits-append, exits-assoc, exits-then, throws-then, after-assoc, after-normal, join-none, loop-summary, loop-throws, exits-pass, throws-pass, throws-in, throws-thrown, exits-thrown, raised-same, raised-append, summary-is}
use Rattle.path_map.specs.EndsOf.{SameExits}
use Rattle.path_map.specs.Entries.{HasExits, IsEntryWritten}
use Rattle.path_map.proofs.Alike.{alike-refl, alike-set, alike-length, alike-both, alike-step, alike-end, alike-nil}
use Rattle.path_map.proofs.Rows.{not-more}

-- sums of sets
pub sum-then : (a b c : ℕ → Bool) (f g h : ℕ → Bool) → IsSum a f b → IsSum b g c → ((e : ℕ) → h e ≡ (f e || g e)) → IsSum a h c
sum-then a b c f g h first second each = record {
  has = λ e.
      second.has e ∙ ap (λ x. x || g e) (first.has e) ∙ or_assoc (a e) (f e) (g e)
      ∙ ap (λ x. a e || x) (sym (each e));
}

pub sum-same : (a b : ℕ → Bool) (f g : ℕ → Bool) → IsSum a f b → ((e : ℕ) → g e ≡ f e) → IsSum a g b
sum-same a b f g sum each = record { has = λ e. sum.has e ∙ ap (λ x. a e || x) (sym (each e)) }

pub sum-none : (a : ℕ → Bool) → IsSum a (λ e. false) a
sum-none a = record { has = λ e. sym (or-false (a e)) }

put-same : (ends : List Exit) (own : ℕ → Bool) (found : Exits) (written : List Exit) → found ≡ exits_of ends
    → ((e : ℕ) → own e ≡ throws ends e) → HasExits found own written → SameExits written ends
put-same ends own found written is own-is has Normal = has.normal ∙ ap (λ (x : Exits). x.normal) is
put-same ends own found written is own-is has Return = has.returns ∙ ap (λ (x : Exits). x.returns) is
put-same ends own found written is own-is has Break = has.breaks ∙ ap (λ (x : Exits). x.breaks) is
put-same ends own found written is own-is has Continue = has.continues ∙ ap (λ (x : Exits). x.continues) is
put-same ends own found written is own-is has (Throw e) = has.raised e ∙ own-is e

-- a statement with nothing in it
pub alone : (ends : List Exit) (had has : ℕ → Bool) (found : Exits) → found ≡ exits_of ends → IsSum had (throws ends) has
    → (entries : List (List Exit)) → IsFound ends [] entries entries had has found
alone ends had has found is sum entries = record { summary = is; entries = alike-nil entries; raised = sum }

pub one-thrown : (had has : ℕ → Bool) (x : ℕ) → IsSum had (λ other. other == x) has → IsSum had (λ e. (e == x) || false) has
one-thrown had has x sum = sum-same had has (λ other. other == x) (λ e. (e == x) || false) sum (λ e. or-false (e == x))

-- a piece whose exceptions were found in a set of its own, and then written into the entry for which room was made
module _ (ends : List Exit) (paths : List (List Exit)) (old room new : List (List Exit)) (at : ℕ) (none own : ℕ → Bool) (found : Exits)
    (made : room ≡ old ++ [] ∷ []) (number : at ≡ length old) (piece : IsFound ends paths room new none own found) where
  in-room : HaveSameExits new (old ++ [] ∷ paths)
  in-room =
      subst (λ xs. HaveSameExits new xs) (ap (λ xs. xs ++ paths) made ∙ append_assoc old ([] ∷ []) paths) piece.entries

  pub has-room : at < length new
  has-room = omega (arith, number, alike-length new (old ++ [] ∷ paths) in-room, length-append old ([] ∷ paths))

  pub reserved : (put : List (List Exit)) (had has : ℕ → Bool) → ((e : ℕ) → none e ≡ false)
      → IsSum had own has → IsEntryWritten at found own new put → IsFound ends (ends ∷ paths) old put had has found
  reserved put had has empty united written =
      let own-is : (e : ℕ) → own e ≡ throws ends e = λ e. piece.raised.has e ∙ ap (λ b. b || throws ends e) (empty e) in
      record {
        summary = piece.summary;
        entries =
            subst (λ xs. HaveSameExits xs (old ++ ends ∷ paths)) (ap (λ i. set new i written.ends) (sym number) ∙ sym written.written)
            (alike-set old new [] paths written.ends ends in-room
            (put-same ends own found written.ends piece.summary own-is written.has));
        raised = record { has = λ e. united.has e ∙ ap (λ b. had e || b) (own-is e) };
      }

-- two pieces, one after the other
pub both : (a b : List Exit) (ps qs : List (List Exit)) (e0 e1 e2 : List (List Exit)) (r0 r1 r2 : ℕ → Bool) (x y : Exits)
    → IsFound a ps e0 e1 r0 r1 x → IsFound b qs e1 e2 r1 r2 y → IsFound (a ++ b) (ps ++ qs) e0 e2 r0 r2 (join x y)
both a b ps qs e0 e1 e2 r0 r1 r2 x y first second = record {
  summary = ap (λ k. join k y) first.summary ∙ ap (λ k. join (exits_of a) k) second.summary ∙ sym (exits-append a b);
  entries = alike-both e0 e1 e2 ps qs first.entries second.entries;
  raised = sum-then r0 r1 r2 (throws a) (throws b) (throws (a ++ b)) first.raised second.raised (λ e. list_any-append (same_exit (Throw e)) a b);
}

-- a loop by its condition and body
pub looped : (ends : List Exit) (ps : List (List Exit)) (e0 e1 : List (List Exit)) (r0 r1 : ℕ → Bool) (x : Exits)
    → IsFound ends ps e0 e1 r0 r1 x → IsFound (Normal ∷ filter leaves_loop ends) ps e0 e1 r0 r1 (of_loop x)
looped ends ps e0 e1 r0 r1 x piece = record {
  summary = ap of_loop piece.summary ∙ sym (loop-summary ends);
  entries = piece.entries;
  raised = sum-same r0 r1 (throws ends) (throws (Normal ∷ filter leaves_loop ends)) piece.raised (loop-throws ends);
}

-- a block with handlers
or-swap : (a b c : Bool) → ((a || b) || c) ≡ (a || (c || b))
or-swap true b c = refl
or-swap false true true = refl
or-swap false true false = refl
or-swap false false true = refl
or-swap false false false = refl

module _ (b h : List Exit) (handlers : Handlers) (pb ph : List (List Exit)) (e0 e1 e2 : List (List Exit))
    (none i1 i2 r0 r1 r2 : ℕ → Bool) (x y : Exits) (k : Raised)
    (empty : (e : ℕ) → none e ≡ false) (tried : IsFound b pb e0 e1 none i1 x)
    (handled : IsFound h ph e1 e2 r0 r1 y) (left : AreLeft i1 i2 handlers) (united : IsSum r1 i2 r2) (summary : IsSummaryOf i2 k) where
  inner-throws : (e : ℕ) → i1 e ≡ throws b e
  inner-throws e = tried.raised.has e ∙ ap (λ z. z || throws b e) (empty e)

  pass-throws : (e : ℕ) → throws (filter (passes handlers) b) e ≡ i2 e
  pass-throws e =
      throws-pass handlers b e ∙ ap (λ z. z && not (handles handlers e)) (sym (inner-throws e)) ∙ sym (left.has e)

  pub try-found : IsFound (filter (passes handlers) b ++ h) (pb ++ ph) e0 e2 r0 r2 (join (record x { raised = k }) y)
  try-found =
      let passing : List Exit = filter (passes handlers) b in
      let is : k ≡ raised_by (thrown_in passing) =
      summary-is (thrown_in passing) i2 (λ e. throws-in passing e ∙ pass-throws e) k summary in
      record {
        summary =
            ap (λ (z : Exits). join (record z { raised = k }) y) tried.summary
            ∙ ap (λ z. join z y) (exits-pass handlers b k is)
            ∙ ap (λ z. join (exits_of passing) z) handled.summary ∙ sym (exits-append passing h);
        entries = alike-both e0 e1 e2 pb ph tried.entries handled.entries;
        raised = record {
          has = λ e.
              united.has e ∙ ap (λ z. z || i2 e) (handled.raised.has e)
              ∙ or-swap (r0 e) (throws h e) (i2 e)
              ∙ ap (λ z. r0 e || (z || throws h e)) (sym (pass-throws e))
              ∙ ap (λ z. r0 e || z) (sym (list_any-append (same_exit (Throw e)) passing h));
        };
      }

-- the first of faults that are put together
pub first-left : (a b : List (RefusalAt ExitRefusalKind)) (fault : OrNoMemory (RefusalAt ExitRefusalKind)) → IfRefused (IsFirstEndFault a) fault → IfRefused (IsFirstEndFault (a ++ b)) fault
first-left a b NoMemory first = tt
first-left [] b (Refused refusal) first = absurd (cc)
first-left (x ∷ a) b (Refused refusal) first = first

pub first-right : (a b : List (RefusalAt ExitRefusalKind)) (fault : OrNoMemory (RefusalAt ExitRefusalKind)) → a ≡ [] → IfRefused (IsFirstEndFault b) fault → IfRefused (IsFirstEndFault (a ++ b)) fault
first-right a b fault none first = subst (λ xs. IfRefused (IsFirstEndFault (xs ++ b)) fault) (sym none) first

pub none-both : (a b : List (RefusalAt ExitRefusalKind)) → a ≡ [] → b ≡ [] → a ++ b ≡ []
none-both a b p q = ap (λ xs. xs ++ b) p ∙ q

-- along the statements of a block: what was found so far, with what is to come, is what is found of the block
pub record Along (program : Program) (in_loop : Bool) (block tail : Block) (old now : List (List Exit)) (had has : ℕ → Bool) (so_far : Exits) : Type 0 where
  pub summary : after so_far (exits_of (block_exits program tail)) ≡ exits_of (block_exits program block)
  pub entries : HaveSameExits (now ++ rest_paths program tail) (old ++ rest_paths program block)
  pub raised : (e : ℕ) → (has e || (so_far.normal && throws (block_exits program tail) e)) ≡ (had e || throws (block_exits program block) e)
  pub faults : block_faults program in_loop so_far.normal tail ≡ block_faults program in_loop true block

module _ (program : Program) (in_loop : Bool) (block : Block) (old : List (List Exit)) (had : ℕ → Bool) where
  pub along-begin : (so_far : Exits) → so_far ≡ record (only_raised Nothing) { normal = true } → Along program in_loop block block old old had had so_far
  along-begin so_far is = record {
    summary = ap (λ (x : Exits). after x (exits_of (block_exits program block))) is;
    entries = alike-refl (old ++ rest_paths program block);
    raised = λ e. ap (λ (x : Exits). had e || (x.normal && throws (block_exits program block) e)) is;
    faults = ap (λ (x : Exits). block_faults program in_loop x.normal block) is;
  }

  module _ (statement : Statement) (tail : Block) (now : List (List Exit)) (has : ℕ → Bool) (so_far : Exits)
      (along : Along program in_loop block (Then statement tail) old now had has so_far) where
    in_parts : fault_unless (may_stand in_loop statement) kind.OutsideLoop (place_of statement)
        ++ fault_unless so_far.normal kind.Unreachable (place_of statement) ++ inner_faults program in_loop statement
        ++ block_faults program in_loop (has_exit (statement_exits program statement) Normal) tail ≡ block_faults program in_loop true block
    in_parts = sym (faults-in_parts program in_loop so_far.normal tail statement) ∙ along.faults

    pub outside : may_stand in_loop statement ≡ false
        → IfRefused (IsFirstEndFault (block_faults program in_loop true block)) (Refused (record { kind = kind.OutsideLoop; at = place_of statement }))
    outside stands =
        subst (λ faults. IfRefused (IsFirstEndFault faults) (Refused (record { kind = kind.OutsideLoop; at = place_of statement }))) in_parts
        (rw stands refl)

    pub unreachable : may_stand in_loop statement ≡ true → so_far.normal ≡ false
        → IfRefused (IsFirstEndFault (block_faults program in_loop true block)) (Refused (record { kind = kind.Unreachable; at = place_of statement }))
    unreachable stands reached =
        subst (λ faults. IfRefused (IsFirstEndFault faults) (Refused (record { kind = kind.Unreachable; at = place_of statement }))) in_parts
        (rw (stands, reached) refl)

    pub inside : may_stand in_loop statement ≡ true → so_far.normal ≡ true → (fault : OrNoMemory (RefusalAt ExitRefusalKind)) → IfRefused (IsFirstEndFault (inner_faults program in_loop statement)) fault
        → IfRefused (IsFirstEndFault (block_faults program in_loop true block)) fault
    inside stands reached fault first =
        subst (λ faults. IfRefused (IsFirstEndFault faults) fault) in_parts
        (rw (stands, reached) (first-left (inner_faults program in_loop statement) (block_faults program in_loop (has_exit (statement_exits program statement) Normal) tail) fault first))

    pub along-step : may_stand in_loop statement ≡ true → so_far.normal ≡ true → (next : List (List Exit)) (more : ℕ → Bool) (found : Exits)
        → IsFound (statement_exits program statement) (statement_paths program statement) now next has more found
        → inner_faults program in_loop statement ≡ [] → Along program in_loop block tail old next had more (after so_far found)
    along-step stands reached next more found piece clean =
        let ends : List Exit = statement_exits program statement in
        let rest : List Exit = block_exits program tail in
        let goes_on : (after so_far found).normal ≡ has_exit ends Normal = rw reached (ap (λ (x : Exits). x.normal) piece.summary) in
        record {
          summary =
              ap (λ x. after (after so_far x) (exits_of rest)) piece.summary
              ∙ after-assoc so_far (exits_of ends) (exits_of rest)
              ∙ ap (λ x. after so_far x) (sym (exits-then ends rest))
              ∙ along.summary;
          entries =
              alike-step next now (statement_paths program statement) (rest_paths program tail) (old ++ rest_paths program block) piece.entries along.entries;
          raised = λ e.
              ap (λ b. more e || (b && throws rest e)) goes_on
              ∙ ap (λ b. b || (has_exit ends Normal && throws rest e)) (piece.raised.has e)
              ∙ or_assoc (has e) (throws ends e) (has_exit ends Normal && throws rest e)
              ∙ ap (λ b. has e || b) (sym (throws-then ends rest e))
              ∙ ap (λ b. has e || (b && throws (then_exits ends rest) e)) (sym reached)
              ∙ along.raised e;
          faults =
              ap (λ b. block_faults program in_loop b tail) goes_on
              ∙ sym (rw (stands, reached, clean) refl)
              ∙ in_parts;
        }

  pub along-end : (now : List (List Exit)) (has : ℕ → Bool) (so_far : Exits) → Along program in_loop block Empty old now had has so_far
      → IsFound (block_exits program block) (rest_paths program block) old now had has so_far
  along-end now has so_far along = record {
    summary = after-normal so_far ∙ along.summary;
    entries = alike-end now (old ++ rest_paths program block) along.entries;
    raised = record { has = λ e. sym (ap (λ b. has e || b) (and-false so_far.normal) ∙ or-false (has e)) ∙ along.raised e };
  }

-- along handlers: what the walk has taken out of the inner set, and the faults that are to come
pub record Remaining (program : Program) (in_loop : Bool) (faults : List (RefusalAt ExitRefusalKind)) (row : ℕ → Bool) (tail : Handlers) : Type 0 where
  pub ends : List Exit
  pub are : AreThrown row ends
  pub same : handlers_faults program in_loop ends tail ≡ faults

pub record Handling (program : Program) (in_loop : Bool) (handlers tail : Handlers) (old now : List (List Exit)) (had has was row : ℕ → Bool) (so_far : Exits) : Type 0 where
  pub summary : join so_far (exits_of (handlers_exits program tail)) ≡ exits_of (handlers_exits program handlers)
  pub entries : HaveSameExits (now ++ handlers_paths program tail) (old ++ handlers_paths program handlers)
  pub raised : (e : ℕ) → (has e || throws (handlers_exits program tail) e) ≡ (had e || throws (handlers_exits program handlers) e)
  pub left : (e : ℕ) → (row e && not (handles tail e)) ≡ (was e && not (handles handlers e))
  pub remaining : (ends : List Exit) → AreThrown was ends → Remaining program in_loop (handlers_faults program in_loop ends handlers) row tail

throws-without : (h : ℕ) (ends : List Exit) (e : ℕ)
    → throws (filter (λ exit. not (same_exit (Throw h) exit)) ends) e ≡ (throws ends e && not (e == h))
throws-without h [] e = refl
throws-without h (Normal ∷ ends) e = throws-without h ends e
throws-without h (Return ∷ ends) e = throws-without h ends e
throws-without h (Break ∷ ends) e = throws-without h ends e
throws-without h (Continue ∷ ends) e = throws-without h ends e
throws-without h (Throw x ∷ ends) e = go (h == x) refl (e == x) refl (throws-without h ends e)
  where
    go : (taken : Bool) → (h == x) ≡ taken → (same : Bool) → (e == x) ≡ same
        → throws (filter (λ exit. not (same_exit (Throw h) exit)) ends) e ≡ (throws ends e && not (e == h))
        → throws (filter (λ exit. not (same_exit (Throw h) exit)) (Throw x ∷ ends)) e ≡ (((e == x) || throws ends e) && not (e == h))
    go false f false g rest = rw (f, g) rest
    go false f true g rest =
        let is : e ≡ x = eqb-true e x g in
        let differs : (e == h) ≡ false = ne_eqb e h (λ same. eqb-false h x f (sym same ∙ is)) in
        rw (f, g, differs) refl
    go true f false g rest = rw (f, g) rest
    go true f true g rest =
        let is : e ≡ x = eqb-true e x g in
        let same : (e == h) ≡ true = eq-eqb e h (is ∙ sym (eqb-true h x f)) in
        rw (f, g) (rest ∙ rw same (and-false (throws ends e)))

module _ (program : Program) (in_loop : Bool) (handlers : Handlers) (old : List (List Exit)) (had was : ℕ → Bool) where
  pub handling-begin : (so_far : Exits) → so_far ≡ only_raised Nothing → Handling program in_loop handlers handlers old old had had was was so_far
  handling-begin so_far is = record {
    summary = ap (λ x. join x (exits_of (handlers_exits program handlers))) is;
    entries = alike-refl (old ++ handlers_paths program handlers);
    raised = λ e. refl;
    left = λ e. refl;
    remaining = λ ends are. record { ends = ends; are = are; same = refl };
  }

  module _ (at handled : ℕ) (body : Block) (tail : Handlers) (now : List (List Exit)) (has row taken : ℕ → Bool) (so_far : Exits)
      (along : Handling program in_loop handlers (Catch at handled body tail) old now had has was row so_far)
      (without : (e : ℕ) → taken e ≡ (row e && not (e == handled))) where
    pub never-raised : row handled ≡ false → (ends : List Exit) → AreThrown was ends
        → IfRefused (IsFirstEndFault (handlers_faults program in_loop ends handlers)) (Refused (record { kind = kind.NeverRaised; at = at }))
    never-raised absent ends are =
        let there = along.remaining ends are in
        let none : throws there.ends handled ≡ false = sym (there.are.has handled) ∙ absent in
        subst (λ faults. IfRefused (IsFirstEndFault faults) (Refused (record { kind = kind.NeverRaised; at = at }))) there.same (rw none refl)

    pub in-handler : row handled ≡ true → (fault : OrNoMemory (RefusalAt ExitRefusalKind)) → IfRefused (IsFirstEndFault (block_faults program in_loop true body)) fault
        → (ends : List Exit) → AreThrown was ends → IfRefused (IsFirstEndFault (handlers_faults program in_loop ends handlers)) fault
    in-handler present fault first ends are =
        let there = along.remaining ends are in
        let some : throws there.ends handled ≡ true = sym (there.are.has handled) ∙ present in
        subst (λ faults. IfRefused (IsFirstEndFault faults) fault) there.same
        (rw some (first-left (block_faults program in_loop true body)
        (handlers_faults program in_loop (filter (λ exit. not (same_exit (Throw handled) exit)) there.ends) tail) fault first))

    pub handling-step : row handled ≡ true → (next : List (List Exit)) (more : ℕ → Bool) (found : Exits)
        → IsFound (block_exits program body) (block_paths program body) now next has more found
        → block_faults program in_loop true body ≡ []
        → Handling program in_loop handlers tail old next had more was taken (join so_far found)
    handling-step present next more found piece clean =
        let ends : List Exit = block_exits program body in
        let rest : List Exit = handlers_exits program tail in
        record {
          summary =
              ap (λ x. join (join so_far x) (exits_of rest)) piece.summary
              ∙ exits-assoc so_far (exits_of ends) (exits_of rest)
              ∙ ap (λ x. join so_far x) (sym (exits-append ends rest))
              ∙ along.summary;
          entries =
              alike-step next now (block_paths program body) (handlers_paths program tail) (old ++ handlers_paths program handlers) piece.entries along.entries;
          raised = λ e.
              ap (λ b. b || throws rest e) (piece.raised.has e)
              ∙ or_assoc (has e) (throws ends e) (throws rest e)
              ∙ ap (λ b. has e || b) (sym (list_any-append (same_exit (Throw e)) ends rest))
              ∙ along.raised e;
          left = λ e.
              ap (λ b. b && not (handles tail e)) (without e)
              ∙ not-more (row e) (e == handled) (handles tail e)
              ∙ along.left e;
          remaining = λ given are.
              let there = along.remaining given are in
              let some : throws there.ends handled ≡ true = sym (there.are.has handled) ∙ present in
              record {
                ends = filter (λ exit. not (same_exit (Throw handled) exit)) there.ends;
                are = record {
                  has = λ e.
                      without e ∙ ap (λ b. b && not (e == handled)) (there.are.has e) ∙ sym (throws-without handled there.ends e);
                };
                same = sym (rw (some, clean) refl) ∙ there.same;
              };
        }

  pub handling-end : (now : List (List Exit)) (has row : ℕ → Bool) (so_far : Exits) → Handling program in_loop handlers NoMore old now had has was row so_far
      → IsFound (handlers_exits program handlers) (handlers_paths program handlers) old now had has so_far
  handling-end now has row so_far along = record {
    summary = sym (join-none so_far) ∙ along.summary;
    entries = alike-end now (old ++ handlers_paths program handlers) along.entries;
    raised = record { has = λ e. sym (or-false (has e)) ∙ along.raised e };
  }

-- a statement that only raises, goes on or returns
module _ (listed exceptions : List ℕ) (same : (e : ℕ) → is_one_of listed e ≡ is_one_of exceptions e) (raised : Raised) (is : raised ≡ raised_by listed)
    (had has : ℕ → Bool) (sum : IsSum had (is_one_of listed) has) (exits : Exits) (entries : List (List Exit)) where
  raised-is : raised ≡ raised_by exceptions
  raised-is = is ∙ raised-same listed exceptions same

  sum-is : IsSum had (throws (thrown_exits exceptions)) has
  sum-is = sum-same had has (is_one_of listed) (throws (thrown_exits exceptions)) sum (λ e. throws-thrown exceptions e ∙ sym (same e))

  pub raising-found : exits ≡ only_raised raised → IsFound (thrown_exits exceptions) [] entries entries had has exits
  raising-found made = record {
    summary = made ∙ (ap only_raised raised-is ∙ sym (exits-thrown exceptions));
    entries = alike-nil entries;
    raised = sum-is;
  }

  pub going-found : exits ≡ record (only_raised raised) { normal = true } → IsFound (Normal ∷ thrown_exits exceptions) [] entries entries had has exits
  going-found made = record {
    summary = made ∙ ap (λ (x : Exits). record x { normal = true }) (ap only_raised raised-is ∙ sym (exits-thrown exceptions));
    entries = alike-nil entries;
    raised = sum-same had has (throws (thrown_exits exceptions)) (throws (Normal ∷ thrown_exits exceptions)) sum-is (λ e. refl);
  }

  pub returning-found : exits ≡ record (only_raised raised) { returns = true } → IsFound (Return ∷ thrown_exits exceptions) [] entries entries had has exits
  returning-found made = record {
    summary = made ∙ ap (λ (x : Exits). record x { returns = true }) (ap only_raised raised-is ∙ sym (exits-thrown exceptions));
    entries = alike-nil entries;
    raised = sum-same had has (throws (thrown_exits exceptions)) (throws (Return ∷ thrown_exits exceptions)) sum-is (λ e. refl);
  }

-- a call: what its arguments raise, and what the procedure declares
pub call-found : (listed exceptions declared : List ℕ) (same : (e : ℕ) → is_one_of listed e ≡ is_one_of exceptions e) (own other : Raised)
    → own ≡ raised_by listed → other ≡ raised_by declared → (had mid has : ℕ → Bool) → IsSum had (is_one_of listed) mid → IsSum mid (is_one_of declared) has
    → (exits : Exits) (entries : List (List Exit)) → exits ≡ record (only_raised (join_raised own other)) { normal = true }
    → IsFound (Normal ∷ thrown_exits (exceptions ++ declared)) [] entries entries had has exits
call-found listed exceptions declared same own other own_is other_is had mid has first second exits entries made =
    going-found (exceptions ++ declared) (exceptions ++ declared) (λ e. refl) (join_raised own other)
    (ap (λ r. join_raised r other) (own_is ∙ raised-same listed exceptions same) ∙ ap (λ r. join_raised (raised_by exceptions) r) other_is
    ∙ sym (raised-append exceptions declared))
    had has
    (sum-then had mid has (is_one_of listed) (is_one_of declared) (is_one_of (exceptions ++ declared)) first second
    (λ e. list_any-append (λ other. e == other) exceptions declared ∙ ap (λ b. b || is_one_of declared e) (sym (same e))))
    exits entries made
