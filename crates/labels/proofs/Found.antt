-- That nothing is found, as a test.
use Rattle.std.proofs.Common.{◌≡◌, refl, sym, Bool, true, false, not, Option, Some, None, ◌↔◌}
use Rattle.std.specs.Prelude.{IsTrue, is_some}
use Rattle.principals.specs.ActsFor.{PrincipalHierarchy}
use Rattle.labels.specs.Label.{FlowsTo, Label, flows}
use Rattle.labels.proofs.Tests.{flows-decides}

pub none_decides : {X : Type 0} (found : Option X) (none test : Bool) → is_some found ≡ not none → (found ≡ None) ↔ IsTrue test → none ≡ test
none_decides None true test is both = let yes : true ≡ test = sym (both.0 refl) in yes
none_decides None false test is both = absurd (cc)
none_decides (Some x) true test is both = absurd (cc)
none_decides (Some x) false true is both = absurd (let no = both.1 refl in cc)
none_decides (Some x) false false is both = refl

-- where no policy is found that is not covered, a label flows
pub flows-none : {X : Type 0} (h : PrincipalHierarchy) (from to : Label) (found : Option X) (none : Bool) → is_some found ≡ not none → (found ≡ None) ↔ FlowsTo h from to → none ≡ flows h from to
flows-none h from to found none is both =
    none_decides found none (flows h from to) is (
      λ e. (flows-decides h from to).1 (both.0 e),
      λ t. both.1 ((flows-decides h from to).0 t),
    )
