-- A call: in place of the flows of the exceptions that its callee declares, it is noted.
use Rattle.std.proofs.Common.{◌≡◌, refl, sym, ap, ◌∙◌, subst, ℕ, ◌+◌, ◌≤◌, length, length-append, List, [], ◌∷◌, ◌++◌, true, arith, append_assoc, inl, inr, ⊎_elim}
use Rattle.std.specs.Prelude.{◌⊎◌, IsTrue, Option, Some, None, Contains, nat_le, if◌then◌else◌, slice_index_or, flat_map}
use Rattle.std.specs.Global.{Global}
use Rattle.std.specs.declared.vec.Vec.{Vec}
use Rattle.std.proofs.lemmas.Bool.{le-leb}
use Rattle.std.proofs.lemmas.List.Elements.{Contains-append_cases, Contains-append_left, Contains-append_right}
use Rattle.common.proofs.Cases.{contained_map, contained_map_only}
use Rattle.common.proofs.Elements.{none_in_nil, Contains-cons_cases, Contains-first, Contains-later}
use Rattle.labels.specs.Label.{Label}
use Rattle.lattices.specs.Constraints.{is_inner, outer}
use Rattle.resolved.specs.declared.expression.Variable.{Variable}
use Rattle.resolved.specs.declared.program.Core.{Core}
use Rattle.resolved.specs.declared.statement.Exit.TheVariants.{Normal, Throw}
use Rattle.resolved.specs.declared.target.Target.TheVariants.{ToBegin, ToValue}
use Rattle.resolved.specs.CoreOf.{program_of}
use Rattle.resolved.specs.Exits.{raises, declared_by, thrown_exits}
use Rattle.resolved.specs.Labelled.{Scope, label_of, one}
use Rattle.resolved.specs.Program.{Program, ThrownEntry, procedure_at}
use Rattle.resolved.specs.Tree.{Expression}
use Rattle.resolved.proofs.Exits.{thrown-append}
use Rattle.gathering.specs.Names.{NamedAtom, NamedConstraint, is_inner_name, named_atoms}
use Rattle.gathering.specs.Size.{begins}
use Rattle.gathering.specs.Walk as walk
use Rattle.gathering.specs.Walk.{argument_constraints, call_atoms, call_constraints, call_exits, call_flows, flow, inner_atom, inner_constraint, raise_atoms_all, raised_once, rule_constraint, target_constraint}
use Rattle.gathering.proofs.Rerouted.{outer-joined}
use Rattle.constraints.specs.Added.{AreAdded, Stored}
use Rattle.constraints.specs.Journals.{AreOrdered, AreUpTo, IsUpToDate, entry_at, entry_from, moments_at, raised_flow}
use Rattle.constraints.specs.LeftSides.{scope_of}
use Rattle.constraints.specs.ExitUnknowns.{no_entry, exit_unknown_of, exit_unknowns_of}
use Rattle.constraints.specs.Thinned.{Thinned, ThinnedNow}
use Rattle.constraints.specs.Walks.{kept_call, kept_exits}
use Rattle.constraints.specs.declared.journal.Called.{Called}
use Rattle.constraints.specs.declared.journal.Journal.{Journal}
use Rattle.constraints.specs.declared.journal.Moment.{Moment}
use Rattle.constraints.specs.declared.progress.Progress.{Progress}
use Rattle.constraints.specs.declared.exit_unknowns.ExitUnknown.{ExitUnknown}
use Rattle.constraints.specs.declared.exit_unknowns.ExitUnknowns.{ExitUnknowns}
use Rattle.constraints.proofs.Called.{flows-append}
use Rattle.constraints.proofs.Thinned.{raised-by}

-- ---- the flows of exceptions
flow-only : (left : List NamedAtom) (o : Option ℕ) (c : NamedConstraint) → Contains (flow left o) c
    → (exit_unknown : ℕ) × (o ≡ Some exit_unknown) × (c ≡ (record { at = 0; rule = 0; left = left; target = None; right = inner_atom exit_unknown }))
flow-only left None c h = absurd (none_in_nil c h)
flow-only left (Some k) c h = ⊎_elim (λ same. (k, refl, sym same)) (λ none. absurd (none_in_nil c none))
    (Contains-cons_cases (record { at = 0; rule = 0; left = left; target = None; right = inner_atom k }) [] c h)

flow-there : (left : List NamedAtom) (o : Option ℕ) (exit_unknown : ℕ) → o ≡ Some exit_unknown
    → Contains (flow left o) (record { at = 0; rule = 0; left = left; target = None; right = inner_atom exit_unknown })
flow-there left o exit_unknown is = subst (λ o'. Contains (flow left o') (record { at = 0; rule = 0; left = left; target = None; right = inner_atom exit_unknown })) (sym is)
    (Contains-first (record { at = 0; rule = 0; left = left; target = None; right = inner_atom exit_unknown }) [])

module _ (program : Program) (callee own : ℕ) (exit_unknowns : walk.ExitUnknowns) where
  -- one of the flows of these exceptions
  record IsFlowOf (xs : List ℕ) (c : NamedConstraint) : Type 0 where
    exception : ℕ
    among : Contains xs exception
    exit_unknown : ℕ
    takes : exit_unknowns (Throw exception) ≡ Some exit_unknown
    is : c ≡ raised_flow program callee own exception exit_unknown

  flows-only : (xs : List ℕ) (c : NamedConstraint) → Contains (call_flows program callee own exit_unknowns (thrown_exits xs)) c → IsFlowOf xs c
  flows-only [] c h = absurd (none_in_nil c h)
  flows-only (x ∷ xs) c h = ⊎_elim
      (λ k.
      let found = flow-only (inner_atom own ∷ named_atoms (call_atoms program callee (Throw x))) (exit_unknowns (Throw x)) c k in
      record { exception = x; among = Contains-first x xs; exit_unknown = found.0; takes = found.1; is = found.2 })
      (λ k.
      let rest = flows-only xs c k in
      record { exception = rest.exception; among = Contains-later x xs rest.exception rest.among; exit_unknown = rest.exit_unknown; takes = rest.takes; is = rest.is })
      (Contains-append_cases (flow (inner_atom own ∷ named_atoms (call_atoms program callee (Throw x))) (exit_unknowns (Throw x))) (call_flows program callee own exit_unknowns (thrown_exits xs)) c h)

  flows-there : (xs : List ℕ) (x exit_unknown : ℕ) → Contains xs x → exit_unknowns (Throw x) ≡ Some exit_unknown
      → Contains (call_flows program callee own exit_unknowns (thrown_exits xs)) (raised_flow program callee own x exit_unknown)
  flows-there [] x exit_unknown h takes = absurd (none_in_nil x h)
  flows-there (y ∷ ys) x exit_unknown h takes =
      let first : List NamedConstraint = flow (inner_atom own ∷ named_atoms (call_atoms program callee (Throw y))) (exit_unknowns (Throw y)) in
      let rest : List NamedConstraint = call_flows program callee own exit_unknowns (thrown_exits ys) in
      ⊎_elim
      (λ same. Contains-append_left first rest (raised_flow program callee own x exit_unknown)
      (subst (λ z. Contains first (raised_flow program callee own z exit_unknown)) same
      (flow-there (inner_atom own ∷ named_atoms (call_atoms program callee (Throw y))) (exit_unknowns (Throw y)) exit_unknown (subst (λ z. exit_unknowns (Throw z) ≡ Some exit_unknown) (sym same) takes))))
      (λ k. Contains-append_right first rest (raised_flow program callee own x exit_unknown) (flows-there ys x exit_unknown k takes))
      (Contains-cons_cases y ys x h)

  flows-inner : (xs : List ℕ) (c : NamedConstraint) → Contains (call_flows program callee own exit_unknowns (thrown_exits xs)) c → IsTrue (is_inner is_inner_name c.right)
  flows-inner xs c h =
      let found = flows-only xs c h in
      ap (λ (z : NamedConstraint). is_inner is_inner_name z.right) found.is

-- ---- a call is what is kept of it, and then those of declared exceptions
append-five : {A : Type 0} (a b c d e f : List A) → a ++ (b ++ (c ++ (d ++ (e ++ f)))) ≡ (a ++ (b ++ (c ++ (d ++ e)))) ++ f
append-five a b c d e f =
    sym (append_assoc a (b ++ (c ++ (d ++ e))) f
    ∙ ap (λ xs. a ++ xs) (append_assoc b (c ++ (d ++ e)) f
    ∙ ap (λ xs. b ++ xs) (append_assoc c (d ++ e) f ∙ ap (λ xs. c ++ xs) (append_assoc d e f))))

declared_flows : Scope → (callee n : ℕ) → walk.ExitUnknowns → List NamedConstraint
declared_flows scope callee n exit_unknowns = call_flows scope.program callee n exit_unknowns (thrown_exits (declared_by (procedure_at scope.program callee).throws))

call-splits : (scope : Scope) (pc : NamedAtom) (exit_unknowns : walk.ExitUnknowns) (n at callee : ℕ) (arguments : List Expression) (target : Option Variable)
    → call_constraints scope pc exit_unknowns n at callee arguments target ≡ kept_call scope pc exit_unknowns n at callee arguments target ++ declared_flows scope callee n exit_unknowns
unfolding declared_flows
call-splits scope pc exit_unknowns n at callee arguments target =
    let program : Program = scope.program in
    let raised : List ℕ = raised_once (flat_map raises arguments) in
    let declared : List ℕ = declared_by (procedure_at program callee).throws in
    let a : List NamedConstraint = inner_constraint (pc ∷ named_atoms (raise_atoms_all scope arguments)) n in
    let b : List NamedConstraint = rule_constraint scope at 6 (inner_atom n ∷ []) (ToBegin callee) in
    let c : List NamedConstraint = argument_constraints scope at n callee 0 arguments in
    let d : List NamedConstraint = target_constraint scope at 6 (inner_atom n ∷ named_atoms (call_atoms program callee Normal ++ one (label_of program (ToValue callee)))) target in
    let e : List NamedConstraint = call_flows program callee n exit_unknowns (kept_exits arguments) in
    let f : List NamedConstraint = call_flows program callee n exit_unknowns (thrown_exits declared) in
    let ends : call_flows program callee n exit_unknowns (call_exits program callee arguments) ≡ e ++ f =
    ap (λ es. call_flows program callee n exit_unknowns (Normal ∷ es)) (thrown-append raised declared) ∙ flows-append program callee n exit_unknowns (kept_exits arguments) (thrown_exits declared) in
    ap (λ x. a ++ (b ++ (c ++ (d ++ x)))) ends ∙ append-five a b c d e f

-- ---- the entries at the next call
from-upto : (ms : List Moment) (last call : ℕ) (old : ExitUnknown) → AreUpTo last ms → last ≤ call → entry_from ms call old ≡ entry_from ms last old
from-upto [] last call old upto least = refl
from-upto (m ∷ ms) last call old upto least =
    let first : m.call ≤ last = upto m (Contains-first m ms) in
    let here : nat_le m.call call ≡ true = le-leb m.call call (omega (arith, first, least)) in
    let there : nat_le m.call last ≡ true = le-leb m.call last (omega (arith, first)) in
    ap (λ b. entry_from ms call (if b then m.entry else old)) here
    ∙ from-upto ms last call m.entry (λ y k. upto y (Contains-later m ms y k)) least
    ∙ sym (ap (λ b. entry_from ms last (if b then m.entry else old)) there)

module _ (core : Core) (table : List Label) (procedure : ℕ) (pc : NamedAtom) (exit_unknowns : ExitUnknowns) (thrown : List ExitUnknown) (number at callee : ℕ) (arguments : List Expression) (target : Option Variable) where
  abbrev called_at : (call : ℕ) → Called
  called_at call = record { callee = callee; barrier = exit_unknowns.ends.raised; own = number; call = call }

  call-thinned : (old new : List Stored) (before after : Journal)
      → AreAdded core table (kept_call (scope_of core procedure) pc (exit_unknowns_of exit_unknowns thrown) number at callee arguments target) old new
      → after.calls.items ≡ before.calls.items ++ called_at (length before.calls.items) ∷ [] → after.moments ≡ before.moments
      → IsUpToDate before thrown
      → ThinnedNow core table (call_constraints (scope_of core procedure) pc (exit_unknowns_of exit_unknowns thrown) number at callee arguments target) old new before after thrown
  unfolding declared_flows
  call-thinned old new before after added calls moments ready =
      let program : Program = program_of core in
      let scope : Scope = scope_of core procedure in
      let t : walk.ExitUnknowns = exit_unknowns_of exit_unknowns thrown in
      let last : ℕ = length before.calls.items in
      let declared : List ℕ = declared_by (procedure_at program callee).throws in
      let whole : List NamedConstraint = call_constraints scope pc t number at callee arguments target in
      let kept : List NamedConstraint = kept_call scope pc t number at callee arguments target in
      let flows : List NamedConstraint = call_flows program callee number t (thrown_exits declared) in
      let splits : whole ≡ kept ++ flows = call-splits scope pc t number at callee arguments target in
      let called : Called = called_at last in
      let count : length after.calls.items ≡ last + 1 = ap length calls ∙ length-append before.calls.items (called ∷ []) in
      let entries : (x c : ℕ) → entry_at after x c ≡ entry_at before x c = λ x c. ap (λ (v : Vec (Vec Moment Global) Global). entry_from (moments_at v.items x) c no_entry) moments in
      let there : Contains after.calls.items called =
      subst (λ list. Contains list called) (sym calls) (Contains-append_right before.calls.items (called ∷ []) called (Contains-first called [])) in
      let earlier : (other : Called) → Contains before.calls.items other → Contains after.calls.items other = λ other h.
      subst (λ list. Contains list other) (sym calls) (Contains-append_left before.calls.items (called ∷ []) other h) in
      let cases : (other : Called) → Contains after.calls.items other → Contains before.calls.items other ⊎ (called ≡ other) = λ other h.
      ⊎_elim (λ k. inl k) (λ k. ⊎_elim (λ same. inr same) (λ none. absurd (none_in_nil other none)) (Contains-cons_cases called [] other k))
      (Contains-append_cases before.calls.items (called ∷ []) other (subst (λ list. Contains list other) calls h)) in
      let now : (x : ℕ) → entry_at after x last ≡ slice_index_or thrown x no_entry = λ x. entries x last ∙ ready.now x in
      let rest : List NamedConstraint = rule_constraint scope at 6 (inner_atom number ∷ []) (ToBegin callee)
      ++ (argument_constraints scope at number callee 0 arguments
      ++ (target_constraint scope at 6 (inner_atom number ∷ named_atoms (call_atoms program callee Normal ++ one (label_of program (ToValue callee)))) target
      ++ call_flows program callee number t (call_exits program callee arguments))) in
      let own : NamedConstraint = record { at = 0; rule = 0; left = pc ∷ named_atoms (raise_atoms_all scope arguments); target = None; right = inner_atom number } in
      record {
        kept = kept;
        kept_added = added;
        outer_is = sym (ap (outer is_inner_name) splits ∙ outer-joined is_inner_name kept flows (λ c h. flows-inner program callee number t declared c h));
        stays = λ c h. subst (λ list. Contains list c) (sym splits) (Contains-append_left kept flows c h);
        rest = λ c h. ⊎_elim (λ k. inl k)
            (λ k.
            let found = flows-only program callee number t declared c k in
            let entry = contained_map_only (λ (e : ThrownEntry). e.exception) (procedure_at program callee).throws found.exception found.among in
            inr (record {
              called = called;
              among = there;
              entry = entry.0;
              declared = entry.1;
              exit_unknown = found.exit_unknown;
              takes = ap (exit_unknown_of exit_unknowns.ends.raised) (now entry.0.exception) ∙ (ap (λ x. t (Throw x)) entry.2 ∙ found.takes);
              is = found.is ∙ ap (λ x. raised_flow program callee number x found.exit_unknown) (sym entry.2);
            }))
            (Contains-append_cases kept flows c (subst (λ list. Contains list c) splits h));
        only = λ c raised. ⊎_elim
            (λ k. inl (record {
              called = raised.called;
              among = k;
              entry = raised.entry;
              declared = raised.declared;
              exit_unknown = raised.exit_unknown;
              takes = ap (exit_unknown_of raised.called.barrier) (sym (entries raised.entry.exception raised.called.call)) ∙ raised.takes;
              is = raised.is;
            }))
            (λ same.
            let x : ℕ = raised.entry.exception in
            let declares : Contains (procedure_at program callee).throws raised.entry = subst (λ (k : Called). Contains (procedure_at program k.callee).throws raised.entry) (sym same) raised.declared in
            let takes : t (Throw x) ≡ Some raised.exit_unknown =
            sym (ap (exit_unknown_of exit_unknowns.ends.raised) (now x)) ∙ subst (λ (k : Called). exit_unknown_of k.barrier (entry_at after x k.call) ≡ Some raised.exit_unknown) (sym same) raised.takes in
            let is : c ≡ raised_flow program callee number x raised.exit_unknown = subst (λ (k : Called). c ≡ raised_flow program k.callee k.own x raised.exit_unknown) (sym same) raised.is in
            inr (subst (λ list. Contains list c) (sym splits) (Contains-append_right kept flows c
            (subst (λ z. Contains flows z) (sym is)
            (flows-there program callee number t declared x raised.exit_unknown (contained_map (λ (e : ThrownEntry). e.exception) (procedure_at program callee).throws raised.entry declares) takes)))))
            (cases raised.called raised.among);
        keeps = λ c raised. raised-by core before after c (λ other h. (earlier other h, λ x. entries x other.call)) raised;
        owns = λ other h. ⊎_elim (λ k. inl k)
            (λ same. inr (record { by = own; among = Contains-first own rest; is = ap (λ (k : Called). inner_atom k.own) same }))
            (cases other h);
        few =
            let i : begins whole ≡ 0 + begins rest = refl in
            let j : begins rest ≡ 1 + begins (argument_constraints scope at number callee 0 arguments
            ++ (target_constraint scope at 6 (inner_atom number ∷ named_atoms (call_atoms program callee Normal ++ one (label_of program (ToValue callee)))) target
            ++ call_flows program callee number t (call_exits program callee arguments))) = refl in
            omega (arith, count, i, j);
        up_to_date = record {
          now = λ x. ap (entry_at after x) count ∙ (entries x (last + 1) ∙ (from-upto (moments_at before.moments.items x) last (last + 1) no_entry (ready.upto x) (omega arith) ∙ ready.now x));
          past = λ other h. ⊎_elim (λ k. let below = ready.past other k in omega (arith, below, count)) (λ same. let own_call : last ≡ other.call = ap (λ (k : Called). k.call) same in omega (arith, own_call, count)) (cases other h);
          upto = λ x m h. let below = ready.upto x m (subst (λ (v : Vec (Vec Moment Global) Global). Contains (moments_at v.items x) m) moments h) in omega (arith, below, count);
          ordered = λ x. subst (λ (v : Vec (Vec Moment Global) Global). AreOrdered (moments_at v.items x)) (sym moments) (ready.ordered x);
          wide = ap (λ (v : Vec (Vec Moment Global) Global). length v.items) moments ∙ ready.wide;
        };
      }

  pub call-walked : (old new : Progress) → thrown ≡ old.thrown.items → new.thrown.items ≡ old.thrown.items
      → AreAdded core table (kept_call (scope_of core procedure) pc (exit_unknowns_of exit_unknowns thrown) number at callee arguments target) old.constraints.items new.constraints.items
      → new.journal.calls.items ≡ old.journal.calls.items ++ called_at (length old.journal.calls.items) ∷ [] → new.journal.moments ≡ old.journal.moments
      → Thinned core table (call_constraints (scope_of core procedure) pc (exit_unknowns_of exit_unknowns thrown) number at callee arguments target) old new
  call-walked old new lent kept added calls moments ready =
      subst (ThinnedNow core table (call_constraints (scope_of core procedure) pc (exit_unknowns_of exit_unknowns thrown) number at callee arguments target)
      old.constraints.items new.constraints.items old.journal new.journal) (lent ∙ sym kept)
      (call-thinned old.constraints.items new.constraints.items old.journal new.journal added calls moments (subst (IsUpToDate old.journal) (sym lent) ready))
