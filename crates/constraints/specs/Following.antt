-- Private: what is known of which inner unknowns flow on to which.
-- Source: our own.
use Rattle.std.specs.Prelude.{ℕ, List, slice_index_or}
use Rattle.solver.specs.declared.constraints.Atom.{Atom}
use Rattle.solver.specs.declared.constraints.Atom.TheVariants.{Unknown}
use Rattle.constraints.specs.Added.{Stored}
use Rattle.constraints.specs.Merging.{IsFollowed}
use Rattle.constraints.specs.declared.following.Following.{Following}
use Rattle.constraints.specs.declared.following.Onward.{Onward}
use Rattle.constraints.specs.declared.following.CallPath.{CallPath}

-- each unknown flows on to what stands for it, or is that itself
abbrev pub AreFollowed : (real : ℕ) → (base : List Stored) → (rows : List ℕ) → Type 0
AreFollowed real base rows = (u : ℕ) → IsFollowed real base (Unknown u) (Unknown (slice_index_or rows u u))

abbrev pub AreOnward : (real : ℕ) → (base : List Stored) → Onward → Type 0
AreOnward real base onward = AreFollowed real base onward.greatest.items × AreFollowed real base onward.least.items

abbrev pub IsCallPath : (real : ℕ) → (base : List Stored) → CallPath → Type 0
IsCallPath real base way = AreFollowed real base way.next.items × AreFollowed real base way.far.items

abbrev pub AreCallPaths : (real : ℕ) → (base : List Stored) → Following → Type 0
AreCallPaths real base following = IsCallPath real base following.last × IsCallPath real base following.first

-- a part flows on to another one, or is that itself, by whatever constraints the ways are of
abbrev pub IsOver : Following → (from to : Atom) → Type 0
IsOver following from to = (real : ℕ) (base : List Stored) → AreCallPaths real base following → IsFollowed real base from to
