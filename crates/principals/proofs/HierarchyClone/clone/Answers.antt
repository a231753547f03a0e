use Rattle.std.proofs.Common.{◌≡◌, ◌<◌, map, length, refl, sym, ap, subst, ◌∙◌}
use Rattle.std.specs.Prelude.{All, string_bytes}
use Rattle.std.proofs.lemmas.Slice.Zip.{AllZip-long}
use Rattle.principals.specs.ActsFor.{IsHierarchy, acts_for}
use Rattle.principals.specs.Inside.{hierarchy_of, IsStoredHierarchy}
use Rattle.principals.specs.Named.{IsKeptName}
use Rattle.principals.specs.Table.{related}
use Rattle.principals.specs.declared.Hierarchy.TheInside.{Inside}
use Rattle.principals.proofs.Names.{same_bytes}
use Rattle.principals.proofs.HierarchyClone.clone.Goals as goal
use Rattle.principals.proofs.HierarchyClone.clone.Goals.{In_ok-table}

-- what has the parts of a kept hierarchy is kept
kept : (old new : Inside) → hierarchy_of new ≡ hierarchy_of old → length new.names.keys ≡ length old.names.keys → new.table.items ≡ old.table.items →
    IsStoredHierarchy old → IsStoredHierarchy new
kept old new view keys table h =
    record {
      hierarchy = subst IsHierarchy (sym view) h.hierarchy;
      named = subst (λ x. All IsKeptName x.names) (sym view) h.named;
      rows = ap length table ∙ h.rows ∙ sym keys;
      answers = λ a b l.
          ap (λ x. related x a b) table ∙ h.answers a b (subst (λ x. a < x) keys l) ∙ ap (λ x. acts_for x.pairs a b) (sym view);
    }

-- the copy has the same names and pairs
same_view : (c : In_ok-table) (new : Inside) → new.names.keys ≡ c.in_ok-names.names.keys → new.pairs.items ≡ c.in_ok-pairs.pairs.items →
    hierarchy_of new ≡ hierarchy_of c.self.inside
same_view c new names pairs =
    let bytes : map (λ name. string_bytes name) new.names.keys ≡ map (λ name. string_bytes name) c.self.inside.names.keys =
    ap (λ x. map (λ name. string_bytes name) x) names ∙ same_bytes (λ name. string_bytes name) c.self.inside.names.keys c.in_ok-names.names.keys c.in_ok-names.ensures.cases in
    let written : new.pairs.items ≡ c.self.inside.pairs.items = pairs ∙ c.in_ok-pairs.ensures.items ∙ c.as_slice.ensures.value in
    λ i. record { names = bytes i; pairs = written i }

pub invariant_of-result : goal.invariant_of-result
invariant_of-result c =
    kept c.self.inside (record { names = c.in_ok-names.names; pairs = c.in_ok-pairs.pairs; table = c.in_ok-table.table })
    (same_view c (record { names = c.in_ok-names.names; pairs = c.in_ok-pairs.pairs; table = c.in_ok-table.table }) refl refl)
    (AllZip-long _ c.self.inside.names.keys c.in_ok-names.names.keys c.in_ok-names.ensures.cases)
    (c.in_ok-table.ensures.items ∙ c.as_slice-2.ensures.value)
    c.self.invariant

pub returns : goal.returns
returns c = record {
  cases = same_view c (record { names = c.in_ok-names.names; pairs = c.in_ok-pairs.pairs; table = c.in_ok-table.table }) refl refl ∙ c.self.view_is;
}
