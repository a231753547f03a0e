-- Control goes from a offset to another one.
use Rattle.common.specs.Functions.{updated}
use Rattle.std.proofs.Common.{is_some, map, slice_get, replicate, ◌≡◌, ◌≢◌, ◌⊎◌, inl, inr, ℕ, suc, zero, ◌+◌, ◌<◌, ◌≤◌, ◌==◌, Bool, true, false, if◌then◌else◌, List, [], ◌∷◌, ◌++◌, length, get_or, set, take, Option, Some, None, pos, refl, sym, ap, ◌∙◌, subst, arith, length-append}
use Rattle.std.specs.List.{Contains}
use Rattle.std.specs.Prelude.{IfNone, IfSome}
use Rattle.std.proofs.lemmas.Bool.Decides.{nat_tests}
use Rattle.std.proofs.lemmas.List.{length-replicate, get_or-set_same, get_or-set_other, get_or_append_left}
use Rattle.std.proofs.lemmas.List.Elements.{Contains-append_left, Contains-push, Contains-push_cases}
use Rattle.std.proofs.Math.ListN.{length-set}
use Rattle.std.proofs.lemmas.Bool.{eqb-true, cases_eq}
use Rattle.modules.specs.Contents.{ProcedureContents, ModuleContents}
use Rattle.modules.specs.Code.{width_of, code_length, instruction_at, offset_at}
use Rattle.modules.specs.declared.instruction.Instruction.TheVariants.{Push, Jump, JumpIfFalse}
use Rattle.std.proofs.lemmas.Option.{slice_get-get_or}
use Rattle.verifier.specs.Index.{index_of}
use Rattle.common.specs.declared.base_type.BaseType.{BaseType}
use Rattle.modules.specs.declared.declaration.Handler.{Handler}
use Rattle.modules.specs.declared.instruction.Instruction.{Instruction}
use Rattle.verifier.specs.declared.fault.CodeRefusalKind.{CodeRefusalKind}
use Rattle.modules.specs.Targets.{goes_on, renamed_instruction, target_of}
use Rattle.verifier.specs.Positions.{or_zero, position_of}
use Rattle.verifier.specs.Work.{listed_at}
use Rattle.verifier.specs.declared.work.ListedOffset.{ListedOffset}
use Rattle.verifier.specs.Flow.{Edge, next, jumps, caught, Flow, starts, grows, misses, meets, falls, IsRefusedForOperands, FlowsWell, between, effect, Effect, Leaves, Misses}
use Rattle.verifier.specs.SignatureParts.{nowhere, pushed}
use Rattle.verifier.specs.Operands.{list_of, IsLonger, StartsWithEmpty}
use Rattle.verifier.specs.Boundaries.{IsBoundary, KeepsBoundaries}
use Rattle.verifier.specs.Coverage.{IsCoverage, Waits}
use Rattle.verifier.specs.Depth as Depth
use Rattle.verifier.specs.Depth.{IsMet, found}
use Rattle.verifier.specs.Search.{list_for, shape_at, shape_for, table, jump_of, IsLengthened, IsListed, IsLongest, IsWaiting, StandsAt, HasFollowedEdges, IsSearching, IsAtEdge, Flowed, KeepsSearching, IsApplied, HasEffect, HasInstruction, IsSearchingNext, count, left, unset}
use Rattle.verifier.specs.declared.fault.CodeRefusalKind.TheVariants.{FallsOffEnd}
use Rattle.verifier.specs.declared.coverage.Coverage.{Coverage}
use Rattle.verifier.specs.declared.search.ReachedOffsets.{ReachedOffsets}
use Rattle.verifier.proofs.Offsets.{code_length_least}
use Rattle.verifier.proofs.Indices.{begins_at, by_index, first_offset, index_is_position, last_offset, length-indices, number_found, numbered_at}
use Rattle.verifier.proofs.Laws.{IsFinished, flows_well, changed_at}

fun_ext : {f g : ℕ → Option (List BaseType)} → ((x : ℕ) → f x ≡ g x) → f ≡ g
fun_ext h = λ i x. h x i

past_end : {A : Type 0} (xs : List A) (k : ℕ) (d : A) → length xs ≤ k → get_or xs k d ≡ d
past_end [] k d h = refl
past_end (x ∷ xs) zero d h = absurd (omega arith)
past_end (x ∷ xs) (suc k) d h = past_end xs k d (omega arith)

pub unset_set : (shapes : List (Option ℕ)) (k list : ℕ) → k < length shapes → get_or shapes k None ≡ None → unset (set shapes k (Some list)) + 1 ≡ unset shapes
unset_set [] k list h e = absurd (omega arith)
unset_set (None ∷ shapes) zero list h e = omega arith
unset_set (Some other ∷ shapes) zero list h e = absurd (let f : Some other ≡ None = e in cc)
unset_set (None ∷ shapes) (suc k) list h e = let i : unset (set shapes k (Some list)) + 1 ≡ unset shapes = unset_set shapes k list (omega arith) e in omega arith
unset_set (Some other ∷ shapes) (suc k) list h e = unset_set shapes k list (omega arith) e

-- nothing is at the end
pub none_at_end : (m : ModuleContents) (p : ProcedureContents) (s : ReachedOffsets) (busy : List ℕ) → IsSearching m p s busy → table p s (code_length p.code) ≡ None
none_at_end m p s busy g = ap (λ o. list_for s.operands (shape_for s.shapes o)) (past_end (index_of p.code) (code_length p.code) None (omega (arith, length-indices 0 p.code)))

-- an instruction begins where one stands
pub stands_there : (p : ProcedureContents) (number to : ℕ) → StandsAt p number to → number < length p.code → (i : Instruction) × (instruction_at p.code to ≡ Some i)
stands_there p number to place inside =
    (get_or p.code number (Push (pos 0)), ap (instruction_at p.code) (sym place.there) ∙ numbered_at p.code number ∙ slice_get-get_or p.code number (Push (pos 0)) inside)

-- and what stands for it is that of its number
pub stands_for : (p : ProcedureContents) (s : ReachedOffsets) (number to : ℕ) → StandsAt p number to → number < length p.code → shape_at p s to ≡ get_or s.shapes number None
stands_for p s number to place inside = ap (shape_for s.shapes) (number_found p.code number to inside place.there)

pub stands_found : (p : ProcedureContents) (index : List (Option ℕ)) (to number : ℕ) → index ≡ index_of p.code → get_or index to None ≡ Some number → StandsAt p number to
stands_found p index to number is e =
    let found = begins_at p.code to number (ap (λ l. get_or l to None) (sym is) ∙ e) in
    record { inside = omega (arith, found.0); there = found.1 }

pub stands_last : (p : ProcedureContents) (index : List (Option ℕ)) (to number : ℕ) → index ≡ index_of p.code → None ≡ get_or index to None → IsBoundary p to → number ≡ length p.code → StandsAt p number to
stands_last p index to number is e boundary last =
    elim boundary [
      | inl ends ↦ record { inside = omega (arith, last); there = ap (offset_at p.code) last ∙ last_offset p.code ∙ sym ends }
      | inr begins ↦ absurd (let no : Some begins.0 ≡ None = sym begins.1 ∙ by_index p.code index to None is e in cc)
    ]

-- the position of an instruction's offset is its number
pub stands_position : (p : ProcedureContents) (to : ℕ) → (i : Instruction) × (instruction_at p.code to ≡ Some i) → StandsAt p (position_of p.code to) to
stands_position p to begins = split (get_or (index_of p.code) to None) refl
  where
    split : (o : Option ℕ) → get_or (index_of p.code) to None ≡ o → StandsAt p (position_of p.code to) to
    split None e = absurd (let no : Some begins.0 ≡ None = sym begins.1 ∙ by_index p.code (index_of p.code) to None refl (sym e) in cc)
    split (Some number) e =
        subst (λ n. StandsAt p n to) (ap or_zero (sym e ∙ index_is_position p.code to)) (stands_found p (index_of p.code) to number refl e)

renamed_target : (f : ℕ → ℕ) (i : Instruction) (to : ℕ) → target_of i ≡ Some to → target_of (renamed_instruction f i) ≡ Some (f to)
renamed_target f (Jump target) to e = let same : target ≡ to = cc in ap (λ t. Some (f t)) same
renamed_target f (JumpIfFalse target) to e = let same : target ≡ to = cc in ap (λ t. Some (f t)) same
renamed_target f _ to e = absurd (let no : None ≡ Some to = e in cc)

-- where an instruction jumps, as a position
pub jump_placed : (f : ℕ → ℕ) (code : List Instruction) (number : ℕ) (i : Instruction) (to : ℕ) → slice_get code number ≡ Some i → target_of i ≡ Some to → jump_of (slice_get (map (renamed_instruction f) code) number) ≡ Some (f to)
jump_placed f [] number i to is e = absurd (let no : None ≡ Some i = is in cc)
jump_placed f (j ∷ code) zero i to is e = let same : j ≡ i = cc in renamed_target f j to (ap target_of same ∙ e)
jump_placed f (j ∷ code) (suc number) i to is e = jump_placed f code number i to is e

pub jump_inside : (code : List Instruction) (number : ℕ) → is_some (jump_of (slice_get code number)) ≡ true → number < length code
jump_inside [] number e = absurd (let no : false ≡ true = e in cc)
jump_inside (i ∷ code) zero e = omega arith
jump_inside (i ∷ code) (suc number) e = omega (arith, jump_inside code number e)

pub jump_there : (code : List Instruction) (number : ℕ) (d : Instruction) → number < length code → jump_of (slice_get code number) ≡ target_of (get_or code number d)
jump_there code number d inside = ap jump_of (slice_get-get_or code number d inside)

-- an edge to the end is refused
pub falls_at : (m : ModuleContents) (p : ProcedureContents) (s : ReachedOffsets) (busy : List ℕ) (at to : ℕ) (after : List BaseType) → IsSearching m p s busy → IsAtEdge m p s at to after → to ≡ code_length p.code → IsRefusedForOperands m p to FallsOffEnd
falls_at m p s busy at to after g e is =
    subst (λ t. IsRefusedForOperands m p t FallsOffEnd) (sym is)
    (falls (updated (table p s) (code_length p.code) (Some after)) after (grows (table p s) at e.kinds (code_length p.code) after g.flow e.has (subst (λ t. Edge m p at e.kinds t after) is e.edge) (none_at_end m p s busy g)) (changed_at (table p s) (code_length p.code) after))

-- an edge that brings another list is refused
pub meets_at : (m : ModuleContents) (p : ProcedureContents) (s : ReachedOffsets) (busy : List ℕ) (at to : ℕ) (after others : List BaseType) (kind : CodeRefusalKind) → IsSearching m p s busy → IsAtEdge m p s at to after → to ≢ code_length p.code → table p s to ≡ Some others → after ≢ others → kind ≡ between after others → IsRefusedForOperands m p to kind
meets_at m p s busy at to after others kind g e inside there ne is =
    subst (IsRefusedForOperands m p to) (sym is) (meets (table p s) at e.kinds to after others g.flow e.has e.edge inside there ne)

-- the longest list stays
longest_same : (m : ModuleContents) (p : ProcedureContents) (s new : ReachedOffsets) → new.operands ≡ s.operands → new.longest ≡ s.longest → new.deepest ≡ s.deepest → IsLongest m p s → IsLongest m p new
longest_same m p s new lists longest deepest l =
    let same : list_of new.operands new.longest ≡ list_of s.operands s.longest = ap (λ ls. list_of ls new.longest) lists ∙ ap (list_of s.operands) longest in
    record {
      there = omega (arith, l.there, ap length lists);
      met = subst (IsMet m p) (sym same) l.met;
      depth = ap length same ∙ l.depth ∙ sym deepest;
    }

-- the search with one more list
module _ (m : ModuleContents) (p : ProcedureContents) (s new : ReachedOffsets) (at to number list : ℕ) (g : IsSearching m p s (at ∷ [])) (e : IsAtEdge m p s at to (list_of s.operands list)) (known : list < length s.operands) (place : StandsAt p number to) (inside : number < length s.shapes) (unset_there : get_or s.shapes number None ≡ None) (deep : length (list_of s.operands list) ≤ s.deepest) (lists : new.operands ≡ s.operands) (longest : new.longest ≡ s.longest) (deepest : new.deepest ≡ s.deepest) (shapes : new.shapes ≡ set s.shapes number (Some list)) (work : new.work ≡ s.work ++ listed_at to number list ∷ []) where
  within : number < length p.code
  within = omega (arith, inside, g.sized)

  set_there : get_or new.shapes number None ≡ Some list
  set_there = ap (λ l. get_or l number None) shapes ∙ get_or-set_same s.shapes number (Some list) None inside

  set_elsewhere : (k : ℕ) → k ≢ number → get_or new.shapes k None ≡ get_or s.shapes k None
  set_elsewhere k ne = ap (λ l. get_or l k None) shapes ∙ get_or-set_other s.shapes number k (Some list) None ne

  at_to : shape_at p new to ≡ Some list
  at_to = stands_for p new number to place within ∙ set_there

  at_number : (o : Option ℕ) → o ≢ Some number → shape_for new.shapes o ≡ shape_for s.shapes o
  at_number None ne = refl
  at_number (Some k) ne = set_elsewhere k (λ same. ne (ap Some same))

  at_other : (offset : ℕ) → offset ≢ to → shape_at p new offset ≡ shape_at p s offset
  at_other offset ne = at_number (get_or (index_of p.code) offset None) (λ is. ne (sym (begins_at p.code offset number is).1 ∙ place.there))

  arrives : table p new to ≡ Some (list_of s.operands list)
  arrives = ap (list_for new.operands) at_to ∙ ap (λ l. Some (list_of l list)) lists

  others : (offset : ℕ) → offset ≢ to → table p new offset ≡ table p s offset
  others offset ne = ap (list_for new.operands) (at_other offset ne) ∙ ap (λ l. list_for l (shape_at p s offset)) lists

  is_changed : (offset : ℕ) → table p new offset ≡ updated (table p s) to (Some (list_of s.operands list)) offset
  is_changed offset =
      elim (cases_eq offset to) [
        | inl same ↦ ap (table p new) same ∙ arrives ∙ sym (changed_at (table p s) to (list_of s.operands list)) ∙ ap (updated (table p s) to (Some (list_of s.operands list))) (sym same)
        | inr ne ↦ others offset ne ∙ not_at offset ne
      ]
    where
      not_at : (offset : ℕ) → offset ≢ to → table p s offset ≡ updated (table p s) to (Some (list_of s.operands list)) offset
      not_at offset ne = split (offset == to) refl
        where
          split : (b : Bool) → offset == to ≡ b → table p s offset ≡ (if b then Some (list_of s.operands list) else table p s offset)
          split true t = absurd (ne (eqb-true offset to t))
          split false f = refl

  was_none : table p s to ≡ None
  was_none = ap (list_for s.operands) (stands_for p s number to place within ∙ unset_there)

  keeps : (offset : ℕ) (kinds : List BaseType) → table p s offset ≡ Some kinds → table p new offset ≡ Some kinds
  keeps offset kinds h =
      elim (cases_eq offset to) [
        | inl same ↦ absurd (let f : None ≡ Some kinds = sym was_none ∙ ap (table p s) (sym same) ∙ h in cc)
        | inr ne ↦ others offset ne ∙ h
      ]

  kept : (offset : ℕ) (kinds : List BaseType) → HasFollowedEdges m p s offset kinds → HasFollowedEdges m p new offset kinds
  kept offset kinds k = record {
    instruction = k.instruction;
    there = k.there;
    after = k.after;
    finds = k.finds;
    next = λ h. keeps (offset + width_of k.instruction) k.after (k.next h);
    jumps = λ t h. keeps t k.after (k.jumps t h);
    caught = λ h c l m. keeps h.target [] (k.caught h c l m);
  }

  kept_listed : (l : ListedOffset) → IsListed p s l → IsListed p new l
  kept_listed l h = record {
    number = h.number;
    list = keeps l.at (list_of s.operands l.list) h.list ∙ ap (λ ls. Some (list_of ls l.list)) (sym lists);
    inside = omega (arith, h.inside, ap length lists);
  }

  here : IsListed p new (listed_at to number list)
  here = record {
    number = place.there;
    list = arrives ∙ ap (λ ls. Some (list_of ls list)) (sym lists);
    inside = omega (arith, known, ap length lists);
  }

  pub flowed : Flowed m p s new at to list
  flowed = record {
    searching = record {
      root = subst StartsWithEmpty (sym lists) g.root;
      sized = ap length shapes ∙ length-set s.shapes number (Some list) ∙ g.sized;
      numbers = λ k n h. elim (cases_eq k number) [
        | inl same ↦ let f : Some list ≡ Some n = sym set_there ∙ ap (λ j. get_or new.shapes j None) (sym same) ∙ h in let n_is : list ≡ n = cc in omega (arith, ap length lists)
        | inr ne ↦ omega (arith, ap length lists, g.numbers k n (sym (set_elsewhere k ne) ∙ h))
      ];
      begins = λ offset kinds h. elim (cases_eq offset to) [
        | inl same ↦ subst (λ q. (i : Instruction) × (instruction_at p.code q ≡ Some i)) (sym same) (stands_there p number to place within)
        | inr ne ↦ g.begins offset kinds (sym (others offset ne) ∙ h)
      ];
      first = keeps 0 [] g.first;
      deep = λ offset kinds h. elim (cases_eq offset to) [
        | inl same ↦ let is : Some (list_of s.operands list) ≡ Some kinds = sym arrives ∙ ap (table p new) (sym same) ∙ h in let kinds_are : list_of s.operands list ≡ kinds = cc in omega (arith, deep, ap length kinds_are)
        | inr ne ↦ omega (arith, g.deep offset kinds (sym (others offset ne) ∙ h))
      ];
      longest = longest_same m p s new lists longest deepest g.longest;
      flow = subst (Flow m p) (sym (fun_ext is_changed)) (grows (table p s) at e.kinds to (list_of s.operands list) g.flow e.has e.edge was_none);
      pending = λ offset kinds h. elim (cases_eq offset to) [
        | inl same ↦ inl (record { listed = listed_at to number list; there = subst (λ w. Contains w (listed_at to number list)) (sym work) (Contains-push s.work (listed_at to number list)); is = sym same })
        | inr ne ↦ elim (g.pending offset kinds (sym (others offset ne) ∙ h)) [
          | inl w ↦ inl (record { listed = w.listed; there = subst (λ l. Contains l w.listed) (sym work) (Contains-append_left s.work (listed_at to number list ∷ []) w.listed w.there); is = w.is })
          | inr b ↦ elim b [ inl busy ↦ inr (inl busy) | inr k ↦ inr (inr (kept offset kinds k)) ]
        ]
      ];
      waits = λ l w. elim (Contains-push_cases s.work (listed_at to number list) l (subst (λ v. Contains v l) work w)) [
        | inl old ↦ kept_listed l (g.waits l old)
        | inr same ↦ subst (IsListed p new) same here
      ];
    };
    keeps = keeps;
    arrives = arrives;
    same = lists;
    deepest = deepest;
    left = omega (arith, ap unset shapes, unset_set s.shapes number list inside unset_there, ap length work, length-append s.work (listed_at to number list ∷ []));
  }

-- the list was there
pub flowed_there : (m : ModuleContents) (p : ProcedureContents) (s new : ReachedOffsets) (at to list other : ℕ) → IsSearching m p s (at ∷ []) → shape_at p s to ≡ Some other → list_of s.operands list ≡ list_of s.operands other → new ≡ s → Flowed m p s new at to list
flowed_there m p s new at to list other g there same is =
    subst (λ n. Flowed m p s n at to list) (sym is) (record {
      searching = g;
      keeps = λ offset kinds h. h;
      arrives = ap (list_for s.operands) there ∙ ap Some (sym same);
      same = refl;
      deepest = refl;
      left = omega arith;
    })

-- ---- the end of the search

-- with nothing to look at, the table is finished
pub table_finished : (m : ModuleContents) (p : ProcedureContents) (s : ReachedOffsets) → IsSearching m p s [] → s.work ≡ [] → IsFinished m p (table p s)
table_finished m p s g empty = record {
  first = g.first;
  finds = λ at kinds i wrong h is e. let k = every at kinds h in
      absurd (let f : Some k.instruction ≡ Some i = sym k.there ∙ is in let same : k.instruction ≡ i = cc in let t : Leaves k.after ≡ Misses wrong = sym k.finds ∙ ap (λ j. effect m p j kinds) same ∙ e in cc);
  keeps = λ at kinds to after h edge. along at kinds (every at kinds h) to after edge;
  none_at_end = none_at_end m p s [] g;
}
  where
    every : (at : ℕ) (kinds : List BaseType) → table p s at ≡ Some kinds → HasFollowedEdges m p s at kinds
    every at kinds h =
        elim (g.pending at kinds h) [
          | inl w ↦ absurd (none_waits w.listed (subst (λ l. Contains l w.listed) empty w.there))
          | inr b ↦ elim b [ inl busy ↦ absurd (nothing at busy) | inr k ↦ k ]
        ]
      where
        nothing : (at : ℕ) → Contains [] at → ⊥
        nothing at c = omega (arith, c.1)

        none_waits : (l : ListedOffset) → Contains [] l → ⊥
        none_waits l c = omega (arith, c.1)

    along : (at : ℕ) (kinds : List BaseType) → HasFollowedEdges m p s at kinds → (to : ℕ) (after : List BaseType) → Edge m p at kinds to after → table p s to ≡ Some after
    along at kinds k _ _ (next i to after is e goes to_is) =
        let f : Some k.instruction ≡ Some i = sym k.there ∙ is in let same : k.instruction ≡ i = cc in
        let t : Leaves k.after ≡ Leaves after = sym k.finds ∙ ap (λ j. effect m p j kinds) same ∙ e in let after_is : k.after ≡ after = cc in
        ap (table p s) (to_is ∙ ap (λ j. at + width_of j) (sym same)) ∙ k.next (ap goes_on same ∙ goes) ∙ ap Some after_is
    along at kinds k _ _ (jumps i to after is e jumps_to) =
        let f : Some k.instruction ≡ Some i = sym k.there ∙ is in let same : k.instruction ≡ i = cc in
        let t : Leaves k.after ≡ Leaves after = sym k.finds ∙ ap (λ j. effect m p j kinds) same ∙ e in let after_is : k.after ≡ after = cc in
        k.jumps to (ap target_of same ∙ jumps_to) ∙ ap Some after_is
    along at kinds k _ _ (caught i h is c l m) = k.caught h c l m

pub search_finished : (m : ModuleContents) (p : ProcedureContents) (s : ReachedOffsets) → IsSearching m p s [] → s.work ≡ [] → FlowsWell m p
search_finished m p s g empty = flows_well m p (table p s) (table_finished m p s g empty)

-- ---- a offset is looked at

-- what was looked at is kept
pub looked_at : (m : ModuleContents) (p : ProcedureContents) (s : ReachedOffsets) (at : ℕ) → IsSearching m p s (at ∷ []) → ((kinds : List BaseType) → table p s at ≡ Some kinds → HasFollowedEdges m p s at kinds) → IsSearching m p s []
looked_at m p s at g kept = record {
  root = g.root;
  sized = g.sized;
  numbers = g.numbers;
  begins = g.begins;
  first = g.first;
  flow = g.flow;
  deep = g.deep;
  longest = g.longest;
  pending = λ offset kinds h. elim (g.pending offset kinds h) [
    | inl w ↦ inl w
    | inr b ↦ elim b [ inl busy ↦ inr (inr (here offset kinds h (one at offset busy))) | inr k ↦ inr (inr k) ]
  ];
  waits = g.waits;
}
  where
    one : (at offset : ℕ) → Contains (at ∷ []) offset → at ≡ offset
    one at offset c = single c.0 c.1 c.2
      where
        single : (k : ℕ) → k < 1 → get_or (at ∷ []) k offset ≡ offset → at ≡ offset
        single zero h e = e
        single (suc k) h e = absurd (omega arith)

    here : (offset : ℕ) (kinds : List BaseType) → table p s offset ≡ Some kinds → at ≡ offset → HasFollowedEdges m p s offset kinds
    here offset kinds h e = subst (λ a. HasFollowedEdges m p s a kinds) e (kept kinds (ap (table p s) e ∙ h))

-- ---- more lists

longer_list : (lists more : List (List BaseType)) (o : Option ℕ) → ((n : ℕ) → o ≡ Some n → n < length lists) → IsLonger lists more → list_for more o ≡ list_for lists o
longer_list lists more None h l = refl
longer_list lists more (Some n) h l = ap Some (ap (λ ls. get_or ls n []) l.1 ∙ get_or_append_left lists l.0 [] n (h n refl))

-- what stands for an instruction is one of the lists
pub shape_known : (shapes : List (Option ℕ)) (count : ℕ) → ((number list : ℕ) → get_or shapes number None ≡ Some list → list < count) → (o : Option ℕ) (list : ℕ) → shape_for shapes o ≡ Some list → list < count
shape_known shapes count known None list e = absurd (let no : None ≡ Some list = e in cc)
shape_known shapes count known (Some number) list e = known number list e

module _ (m : ModuleContents) (p : ProcedureContents) (s new : ReachedOffsets) (busy : List ℕ) (g : IsSearching m p s busy) (longer : IsLonger s.operands new.operands) (shapes : new.shapes ≡ s.shapes) (work : new.work ≡ s.work) (deeper : s.deepest ≤ new.deepest) (longest : IsLongest m p new) where
  pub same_table : (offset : ℕ) → table p new offset ≡ table p s offset
  same_table offset = ap (λ (v : List (Option ℕ)). list_for new.operands (shape_for v (get_or (index_of p.code) offset None))) shapes ∙ longer_list s.operands new.operands (shape_at p s offset) (shape_known s.shapes (length s.operands) g.numbers (get_or (index_of p.code) offset None)) longer

  pub going_longer : IsSearching m p new busy
  going_longer = record {
    root = (omega (arith, g.root.0, ap length longer.1, length-append s.operands longer.0), ap (λ ls. get_or ls 0 []) longer.1 ∙ get_or_append_left s.operands longer.0 [] 0 g.root.0 ∙ g.root.1);
    sized = ap length shapes ∙ g.sized;
    numbers = λ offset n h. let k = g.numbers offset n (ap (λ (v : List (Option ℕ)). get_or v offset None) (sym shapes) ∙ h) in omega (arith, k, ap length longer.1, length-append s.operands longer.0);
    begins = λ offset kinds h. g.begins offset kinds (sym (same_table offset) ∙ h);
    first = same_table 0 ∙ g.first;
    flow = subst (Flow m p) (sym (fun_ext same_table)) g.flow;
    deep = λ offset kinds h. omega (arith, deeper, g.deep offset kinds (sym (same_table offset) ∙ h));
    longest = longest;
    pending = λ offset kinds h. elim (g.pending offset kinds (sym (same_table offset) ∙ h)) [
      | inl w ↦ inl (record { listed = w.listed; there = subst (λ (v : List ListedOffset). Contains v w.listed) (sym work) w.there; is = w.is })
      | inr b ↦ elim b [ inl busy ↦ inr (inl busy) | inr k ↦ inr (inr (kept offset kinds k)) ]
    ];
    waits = λ l w. let h = g.waits l (subst (λ (v : List ListedOffset). Contains v l) work w) in record {
      number = h.number;
      list = same_table l.at ∙ h.list ∙ ap Some (sym (ap (λ ls. list_of ls l.list) longer.1 ∙ get_or_append_left s.operands longer.0 [] l.list h.inside));
      inside = omega (arith, h.inside, ap length longer.1, length-append s.operands longer.0);
    };
  }
    where
      kept : (offset : ℕ) (kinds : List BaseType) → HasFollowedEdges m p s offset kinds → HasFollowedEdges m p new offset kinds
      kept offset kinds k = record {
        instruction = k.instruction;
        there = k.there;
        after = k.after;
        finds = k.finds;
        next = λ h. same_table (offset + width_of k.instruction) ∙ k.next h;
        jumps = λ t h. same_table t ∙ k.jumps t h;
        caught = λ h c l m. same_table h.target ∙ k.caught h c l m;
      }

  pub same_left : left new ≡ left s
  same_left = ap (λ v. unset v + length new.work) shapes ∙ ap (λ (v : List ListedOffset). unset s.shapes + length v) work

-- ---- steps from a offset

pub edge_next : (m : ModuleContents) (p : ProcedureContents) (s : ReachedOffsets) (at to : ℕ) (i : Instruction) (after : List BaseType) → HasEffect m p s at i after → goes_on i ≡ true → to ≡ at + width_of i → IsAtEdge m p s at to after
edge_next m p s at to i after h goes is = record { kinds = h.kinds; has = h.has; edge = next i to after h.there h.effect goes is }

pub edge_jump : (m : ModuleContents) (p : ProcedureContents) (s : ReachedOffsets) (at to : ℕ) (i : Instruction) (after : List BaseType) → HasEffect m p s at i after → target_of i ≡ Some to → IsAtEdge m p s at to after
edge_jump m p s at to i after h is = record { kinds = h.kinds; has = h.has; edge = jumps i to after h.there h.effect is }

pub edge_caught : (m : ModuleContents) (p : ProcedureContents) (s : ReachedOffsets) (at : ℕ) (kinds : List BaseType) (i : Instruction) (h : Handler) → table p s at ≡ Some kinds → instruction_at p.code at ≡ Some i → Contains p.handlers h → h.start ≤ at → at < h.end → IsAtEdge m p s at h.target []
edge_caught m p s at kinds i h has is inside low high = record { kinds = kinds; has = has; edge = caught i h is inside low high }

-- an instruction that misses an operand is refused
pub misses_by : (m : ModuleContents) (p : ProcedureContents) (s : ReachedOffsets) (busy : List ℕ) (at : ℕ) (kinds : List BaseType) (i : Instruction) (wrong : CodeRefusalKind) → IsSearching m p s busy → table p s at ≡ Some kinds → instruction_at p.code at ≡ Some i → effect m p i kinds ≡ Misses wrong → IsRefusedForOperands m p at wrong
misses_by m p s busy at kinds i wrong g has is e = misses (table p s) at kinds i wrong g.flow has is e

-- what it leaves, where nothing or one kind is still to be pushed
pub leaves_rest : (o : Option BaseType) (e : Effect) (rest : List BaseType) → e ≡ Leaves (pushed o rest) → o ≡ None → e ≡ Leaves rest
leaves_rest o e rest is none = is ∙ ap (λ p. Leaves (pushed p rest)) none

pub leaves_more : (o : Option BaseType) (e : Effect) (rest : List BaseType) (kind : BaseType) → e ≡ Leaves (pushed o rest) → o ≡ Some kind → e ≡ Leaves (kind ∷ rest)
leaves_more o e rest kind is some = is ∙ ap (λ p. Leaves (pushed p rest)) some

-- what an instruction pushes is met: it is the longest list if none was as long
pub pushed_by : (m : ModuleContents) (p : ProcedureContents) (s new : ReachedOffsets) (busy : List ℕ) (at : ℕ) (kinds after : List BaseType) (i : Instruction) → IsSearching m p s busy → table p s at ≡ Some kinds → instruction_at p.code at ≡ Some i → effect m p i kinds ≡ Leaves after → IsLonger s.operands new.operands → IsLengthened s new after → IsLongest m p new
pushed_by m p s new busy at kinds after i g has is e longer h =
    elim h.either [
      | inl more ↦ record {
        there = more.there;
        met = subst (IsMet m p) (sym more.list) (Depth.left (table p s) at kinds i after g.flow has is e);
        depth = ap length more.list ∙ sym more.depth;
      }
      | inr same ↦
          let l = g.longest in
          let kept : list_of new.operands new.longest ≡ list_of s.operands s.longest = ap (λ (k : ℕ). list_of new.operands k) same.longest ∙ ap (λ ls. list_of ls s.longest) longer.1 ∙ get_or_append_left s.operands longer.0 [] s.longest l.there in
          record {
            there = omega (arith, l.there, same.longest, ap length longer.1, length-append s.operands longer.0);
            met = subst (IsMet m p) (sym kept) l.met;
            depth = ap length kept ∙ l.depth ∙ sym same.depth;
          }
    ]

-- the list that an instruction leaves, where the lists grew
pub applied : (m : ModuleContents) (p : ProcedureContents) (s new : ReachedOffsets) (at : ℕ) → IsSearching m p s (at ∷ []) → IsLonger s.operands new.operands → length new.operands ≤ length s.operands + 1 → new.shapes ≡ s.shapes → new.work ≡ s.work → s.deepest ≤ new.deepest → IsLongest m p new → IsApplied m p s new at
applied m p s new at g longer few shapes work deeper longest = record {
  searching = going_longer m p s new (at ∷ []) g longer shapes work deeper longest;
  keeps = λ offset kinds h. same_table m p s new (at ∷ []) g longer shapes work deeper longest offset ∙ h;
  few = few;
  left = omega (arith, same_left m p s new (at ∷ []) g longer shapes work deeper longest);
}

pub effect_of : (m : ModuleContents) (p : ProcedureContents) (s new : ReachedOffsets) (at : ℕ) (kinds after : List BaseType) (i : Instruction) → IsApplied m p s new at → table p s at ≡ Some kinds → instruction_at p.code at ≡ Some i → effect m p i kinds ≡ Leaves after → HasEffect m p new at i after
effect_of m p s new at kinds after i a has is e = record { there = is; kinds = kinds; has = a.keeps at kinds has; effect = e }

-- an offset from which each edge was followed is kept
pub all_followed : (m : ModuleContents) (p : ProcedureContents) (s new : ReachedOffsets) (at : ℕ) (i : Instruction) (after : List BaseType) → HasEffect m p s at i after → ((to : ℕ) → target_of i ≡ Some to → table p s to ≡ Some after) → ((h : Handler) → Contains p.handlers h → h.start ≤ at → at < h.end → table p s h.target ≡ Some []) → ((offset : ℕ) (kinds : List BaseType) → table p s offset ≡ Some kinds → table p new offset ≡ Some kinds) → (goes_on i ≡ true → table p new (at + width_of i) ≡ Some after) → IsSearching m p new (at ∷ []) → IsSearching m p new []
all_followed m p s new at i after e to_targets to_handlers still to_next g =
    looked_at m p new at g (λ kinds has.
    let some : Some e.kinds ≡ Some kinds = sym (still at e.kinds e.has) ∙ has in
    let same : e.kinds ≡ kinds = cc in
    record {
      instruction = i;
      there = e.there;
      after = after;
      finds = ap (effect m p i) (sym same) ∙ e.effect;
      next = to_next;
      jumps = λ to is. still to after (to_targets to is);
      caught = λ h there low high. still h.target [] (to_handlers h there low high);
    })

pub steps_more : (m : ModuleContents) (p : ProcedureContents) (old between new : ReachedOffsets) (at to list : ℕ) → KeepsSearching m p old between at → Flowed m p between new at to list → KeepsSearching m p old new at
steps_more m p old between new at to list f h = record {
  searching = h.searching;
  keeps = λ offset kinds e. h.keeps offset kinds (f.keeps offset kinds e);
  same = h.same ∙ f.same;
  deepest = h.deepest ∙ f.deepest;
  left = omega (arith, f.left, h.left);
}

-- handlers that wait still do where lists were kept
pub waiting_kept : (p : ProcedureContents) (c : Coverage) (s new : ReachedOffsets) → ((offset : ℕ) (kinds : List BaseType) → table p s offset ≡ Some kinds → table p new offset ≡ Some kinds) → IsWaiting p c s → IsWaiting p c new
waiting_kept p c s new keeps w = record {
  coverage = w.coverage;
  real = w.real;
  waits_or_entered = λ h at there low high. elim (w.waits_or_entered h at there low high) [ inl waits ↦ inl waits | inr has ↦ inr (keeps h.target [] has) ];
}

-- control went to one that waited, and that waits no more
pub waiting_less : (p : ProcedureContents) (c rest : Coverage) (s new : ReachedOffsets) (h : Handler) → IsWaiting p c s → IsCoverage rest → ((x : Handler) → Waits rest x → Waits c x) → ((x : Handler) → Waits c x → (x ≡ h) ⊎ Waits rest x) → ((offset : ℕ) (kinds : List BaseType) → table p s offset ≡ Some kinds → table p new offset ≡ Some kinds) → table p new h.target ≡ Some [] → IsWaiting p rest new
waiting_less p c rest s new h w good within others keeps arrives = record {
  coverage = good;
  real = λ x waits. w.real x (within x waits);
  waits_or_entered = λ x at there low high. elim (w.waits_or_entered x at there low high) [
    | inl waits ↦ elim (others x waits) [
      | inl same ↦ inr (ap (λ (y : Handler). table p new y.target) same ∙ arrives)
      | inr still ↦ inl still
    ]
    | inr has ↦ inr (keeps x.target [] has)
  ];
}

-- the same ones wait
pub waiting_same : (p : ProcedureContents) (c rest : Coverage) (s : ReachedOffsets) → IsWaiting p c s → IsCoverage rest → ((x : Handler) → Waits rest x → Waits c x) → ((x : Handler) → Waits c x → Waits rest x) → IsWaiting p rest s
waiting_same p c rest s w good within kept = record {
  coverage = good;
  real = λ x waits. w.real x (within x waits);
  waits_or_entered = λ x at there low high. elim (w.waits_or_entered x at there low high) [ inl waits ↦ inl (kept x waits) | inr has ↦ inr has ];
}

-- none that covers an offset waits any more
pub all_entered : (p : ProcedureContents) (c : Coverage) (s : ReachedOffsets) (at : ℕ) → IsWaiting p c s → ((x : Handler) → Waits c x → x.start ≤ at → at < x.end → ⊥) → (h : Handler) → Contains p.handlers h → h.start ≤ at → at < h.end → table p s h.target ≡ Some []
all_entered p c s at w none h there low high = elim (w.waits_or_entered h at there low high) [
  | inl waits ↦ absurd (none h waits low high)
  | inr has ↦ has
]

-- at the start all wait
pub waiting_start : (p : ProcedureContents) (c : Coverage) (s : ReachedOffsets) (handlers : List Handler) → handlers ≡ p.handlers → IsCoverage c → ((h : Handler) → Waits c h → Contains handlers h) → ((h : Handler) (at : ℕ) → Contains handlers h → at < h.end → Waits c h) → IsWaiting p c s
waiting_start p c s handlers same good real all = record {
  coverage = good;
  real = λ h waits. subst (λ hs. Contains hs h) same (real h waits);
  waits_or_entered = λ h at there low high. inl (all h at (subst (λ hs. Contains hs h) (sym same) there) high);
}

pub take_all : {A : Type 0} (xs : List A) (n : ℕ) → length xs ≤ n → take n xs ≡ xs
take_all [] zero h = refl
take_all [] (suc n) h = refl
take_all (x ∷ xs) zero h = absurd (omega arith)
take_all (x ∷ xs) (suc n) h = ap (λ ys. x ∷ ys) (take_all xs n (omega arith))

pub no_items : {A : Type 0} (xs : List A) → length xs ≡ 0 → xs ≡ []
no_items [] e = refl
no_items (x ∷ xs) e = absurd (omega arith)

-- a offset is taken from those that wait
module _ (m : ModuleContents) (p : ProcedureContents) (s new : ReachedOffsets) (listed : ListedOffset) (g : IsSearching m p s []) (operands : new.operands ≡ s.operands) (longest : new.longest ≡ s.longest) (deepest : new.deepest ≡ s.deepest) (shapes : new.shapes ≡ s.shapes) (work : s.work ≡ new.work ++ listed ∷ []) where
  taken_table : (offset : ℕ) → table p new offset ≡ table p s offset
  taken_table offset = ap (λ (v : List (Option ℕ)). list_for new.operands (shape_for v (get_or (index_of p.code) offset None))) shapes ∙ ap (λ ls. list_for ls (shape_at p s offset)) operands

  taken_kept : (offset : ℕ) (kinds : List BaseType) → HasFollowedEdges m p s offset kinds → HasFollowedEdges m p new offset kinds
  taken_kept offset kinds k = record {
    instruction = k.instruction;
    there = k.there;
    after = k.after;
    finds = k.finds;
    next = λ h. taken_table (offset + width_of k.instruction) ∙ k.next h;
    jumps = λ t h. taken_table t ∙ k.jumps t h;
    caught = λ h c l m. taken_table h.target ∙ k.caught h c l m;
  }

  taken_listed_one : (l : ListedOffset) → IsListed p s l → IsListed p new l
  taken_listed_one l h = record {
    number = h.number;
    list = taken_table l.at ∙ h.list ∙ ap (λ ls. Some (list_of ls l.list)) (sym operands);
    inside = omega (arith, h.inside, ap length operands);
  }

  pub taken : IsSearching m p new (listed.at ∷ [])
  taken = record {
    root = subst StartsWithEmpty (sym operands) g.root;
    sized = ap length shapes ∙ g.sized;
    numbers = λ offset n h. let k = g.numbers offset n (ap (λ (v : List (Option ℕ)). get_or v offset None) (sym shapes) ∙ h) in omega (arith, k, ap length operands);
    begins = λ offset kinds h. g.begins offset kinds (sym (taken_table offset) ∙ h);
    first = taken_table 0 ∙ g.first;
    flow = subst (Flow m p) (sym (fun_ext taken_table)) g.flow;
    deep = λ offset kinds h. omega (arith, g.deep offset kinds (sym (taken_table offset) ∙ h));
    longest = longest_same m p s new operands longest deepest g.longest;
    pending = λ offset kinds h. elim (g.pending offset kinds (sym (taken_table offset) ∙ h)) [
      | inl w ↦ elim (Contains-push_cases new.work listed w.listed (subst (λ l. Contains l w.listed) work w.there)) [
        | inl rest ↦ inl (record { listed = w.listed; there = rest; is = w.is })
        | inr same ↦ inr (inl (subst (Contains (listed.at ∷ [])) (ap (λ (l : ListedOffset). l.at) same ∙ w.is) (Contains-push [] listed.at)))
      ]
      | inr b ↦ elim b [ inl busy ↦ absurd (omega (arith, busy.1)) | inr k ↦ inr (inr (taken_kept offset kinds k)) ]
    ];
    waits = λ l w. taken_listed_one l (g.waits l (subst (λ v. Contains v l) (sym work) (Contains-append_left new.work (listed ∷ []) l w)));
  }

  pub taken_left : left new + 1 ≡ left s
  taken_left = omega (arith, ap unset shapes, ap length work, length-append new.work (listed ∷ []))

  waited : IsListed p s listed
  waited = g.waits listed (subst (λ l. Contains l listed) (sym work) (Contains-push new.work listed))

  pub taken_listed : IsListed p new listed
  taken_listed = taken_listed_one listed waited

  pub taken_instruction : HasInstruction p new listed.at
  taken_instruction =
      let i = g.begins listed.at (list_of s.operands listed.list) waited.list in
      record { instruction = i.0; there = i.1; kinds = list_of s.operands listed.list; has = taken_table listed.at ∙ waited.list }

-- what goes on after one that is taken, if there is one, or where nothing waits
pub taken_next : (m : ModuleContents) (p : ProcedureContents) (s : ReachedOffsets) (work : List ListedOffset) (o : Option ListedOffset) → IsSearching m p s [] → IfSome o (λ listed. s.work ≡ work ++ listed ∷ []) → IfNone o (s.work ≡ []) → IfNone o (work ≡ []) → IsSearchingNext m p (record s { work = work }) o
taken_next m p s work None g some none empty = subst (λ (w : List ListedOffset). IsSearching m p (record s { work = w }) []) (none ∙ sym empty) g
taken_next m p s work (Some listed) g some none empty =
    let new : ReachedOffsets = record s { work = work } in (
      taken m p s new listed g refl refl refl refl some,
      (taken_instruction m p s new listed g refl refl refl refl some, taken_listed m p s new listed g refl refl refl refl some),
    )

pub taken_count : (old work : List ListedOffset) (o : Option ListedOffset) → IfSome o (λ listed. old ≡ work ++ listed ∷ []) → IfNone o (work ≡ []) → length work + count o ≤ length old
taken_count old work None some empty = omega (arith, ap length empty)
taken_count old work (Some listed) some empty = omega (arith, ap length some, length-append work (listed ∷ []))

-- the table is that of the lists and what stands for them
pub table_same : (p : ProcedureContents) (s new : ReachedOffsets) → new.operands ≡ s.operands → new.shapes ≡ s.shapes → (offset : ℕ) → table p new offset ≡ table p s offset
table_same p s new operands shapes offset = ap (λ (v : List (Option ℕ)). list_for new.operands (shape_for v (get_or (index_of p.code) offset None))) shapes ∙ ap (λ ls. list_for ls (shape_at p s offset)) operands

-- ---- the start

all_none : (n k : ℕ) → ◌≡◌ {A = Option ℕ} (get_or (replicate n None) k None) None
all_none zero k = refl
all_none (suc n) zero = refl
all_none (suc n) (suc k) = all_none n k

not_zero : (k : ℕ) → suc k == 0 ≡ false
not_zero k = grind (arith, nat_tests)

all_unset : (n : ℕ) → unset (replicate n None) ≡ n
all_unset zero = refl
all_unset (suc n) = ap suc (all_unset n)

pub empty_falls : (m : ModuleContents) (p : ProcedureContents) → code_length p.code ≡ 0 → IsRefusedForOperands m p 0 FallsOffEnd
empty_falls m p e = subst (λ t. IsRefusedForOperands m p t FallsOffEnd) e (falls (updated nowhere 0 (Some [])) [] starts (subst (λ t. updated nowhere 0 (Some []) t ≡ Some []) (sym e) (changed_at nowhere 0 [])))

module _ (m : ModuleContents) (p : ProcedureContents) (s : ReachedOffsets) (n : ℕ) (size : length p.code ≡ suc n) (boundaries : KeepsBoundaries p) (root : StartsWithEmpty s.operands) (longest : s.longest ≡ 0) (deepest : s.deepest ≡ 0) (shapes : s.shapes ≡ set (replicate (suc n) None) 0 (Some 0)) (work : s.work ≡ listed_at 0 0 0 ∷ []) where
  index_first : get_or (index_of p.code) 0 None ≡ Some 0
  index_first = number_found p.code 0 0 (omega (arith, size)) (first_offset p.code)

  start_table : (offset : ℕ) → table p s offset ≡ list_for s.operands (shape_for (Some 0 ∷ replicate n None) (get_or (index_of p.code) offset None))
  start_table offset = ap (λ v. list_for s.operands (shape_for v (get_or (index_of p.code) offset None))) shapes

  none_later : (k : ℕ) (o : Option ℕ) → get_or (index_of p.code) (suc k) None ≡ o → list_for s.operands (shape_for (Some 0 ∷ replicate n None) o) ≡ None
  none_later k None e = refl
  none_later k (Some zero) e = absurd (omega (arith, (begins_at p.code (suc k) zero e).1, first_offset p.code))
  none_later k (Some (suc j)) e = ap (list_for s.operands) (all_none n j)

  start_shape : (offset : ℕ) → list_for s.operands (shape_for (Some 0 ∷ replicate n None) (get_or (index_of p.code) offset None)) ≡ updated nowhere 0 (Some []) offset
  start_shape zero = ap (λ o. list_for s.operands (shape_for (Some 0 ∷ replicate n None) o)) index_first ∙ ap Some root.1
  start_shape (suc k) = none_later k (get_or (index_of p.code) (suc k) None) refl ∙ ap (λ (b : Bool). if b then Some [] else None) (sym (not_zero k))

  only_first : (offset : ℕ) (kinds : List BaseType) → table p s offset ≡ Some kinds → offset ≡ 0
  only_first zero kinds h = refl
  only_first (suc k) kinds h = absurd (let f : None ≡ Some kinds = sym (start_table (suc k) ∙ none_later k (get_or (index_of p.code) (suc k) None) refl) ∙ h in cc)

  pub start_left : left s ≡ suc n
  start_left = omega (arith, ap unset shapes, ap length work, all_unset n)

  pub started : IsSearching m p s []
  started = record {
    root = root;
    sized = ap length shapes ∙ (ap suc (length-replicate n None)) ∙ sym size;
    numbers = λ offset list h. numbers offset list h;
    begins = λ offset kinds h. subst (λ q. (i : Instruction) × (instruction_at p.code q ≡ Some i)) (sym (only_first offset kinds h)) (elim boundaries.first [ inl e ↦ absurd (omega (arith, e, size, code_length_least p.code)) | inr i ↦ i ]);
    first = start_table 0 ∙ start_shape 0;
    flow = subst (Flow m p) (sym (fun_ext (λ offset. start_table offset ∙ start_shape offset))) starts;
    deep = λ offset kinds h. let is : Some [] ≡ Some kinds = sym (start_table 0 ∙ start_shape 0) ∙ ap (table p s) (sym (only_first offset kinds h)) ∙ h in let none : [] ≡ kinds = cc in omega (arith, ap length none);
    longest = record {
      there = omega (arith, longest, root.0);
      met = subst (IsMet m p) (sym first_list) (found (updated nowhere 0 (Some [])) 0 [] starts (changed_at nowhere 0 []));
      depth = ap length first_list ∙ sym deepest;
    };
    pending = λ offset kinds h. inl (record { listed = listed_at 0 0 0; there = subst (λ l. Contains l (listed_at 0 0 0)) (sym work) (Contains-push [] (listed_at 0 0 0)); is = sym (only_first offset kinds h) });
    waits = λ l w. elim (Contains-push_cases [] (listed_at 0 0 0) l (subst (λ v. Contains v l) work w)) [ inl none ↦ absurd (omega (arith, none.1)) | inr same ↦ subst (IsListed p s) same first_listed ];
  }
    where
      first_listed : IsListed p s (listed_at 0 0 0)
      first_listed = record {
        number = first_offset p.code;
        list = start_table 0 ∙ start_shape 0 ∙ ap Some (sym root.1);
        inside = root.0;
      }

      first_list : list_of s.operands s.longest ≡ []
      first_list = ap (list_of s.operands) longest ∙ root.1

      numbers : (offset list : ℕ) → get_or s.shapes offset None ≡ Some list → list < length s.operands
      numbers zero list h = let f : Some 0 ≡ Some list = sym (ap (λ v. get_or v 0 None) shapes) ∙ h in let g : 0 ≡ list = cc in omega (arith, root.0)
      numbers (suc k) list h = absurd (let f : None ≡ Some list = sym (ap (λ v. get_or v (suc k) None) shapes ∙ all_none n k) ∙ h in cc)
