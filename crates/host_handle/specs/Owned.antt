-- What a slot owns: nothing, or a box of a host on the heap.
-- Source: our own.
use mathlib.Core.Logic.{◌⊎◌, inl, inr}
use mathlib.Core.Path.{◌≡◌, refl, sym, ap, ◌∙◌}
use base.Fml.{Fml, ftrue}
use base.Stored.{Coded, coded_unit, coded⊎, coded_via}
use denote.RawPtr.{Ptr}
use Rattle.std.specs.Box.Ownership.{box_owns}
use Rattle.std.specs.Prelude.{Bool, Option, Some, None, false, true}
use Rattle.std.specs.contracts.impls.GlobalAllocator.TheImpl.{ghosts}
use Rattle.std.specs.declared.alloc.Global.{Global}
use Rattle.host.specs.Values.{HostRuns}
use Rattle.host.specs.contracts.hosts.Host.{the_row}

-- the heap, of which there is one
abbrev pub heap : Global
heap = record { memory = record { seal = tt } }

-- at a pointer there is nothing, or a host that the heap takes back
abbrev pub slot_owns : Ptr → Option HostRuns → Fml
slot_owns pointer None = ftrue
slot_owns pointer (Some host) = box_owns (ghosts.dealloc_token heap) the_row pointer host

abbrev pub is_held : Option HostRuns → Bool
is_held None = false
is_held (Some host) = true

-- ---- how the logic stores an option: as one of the two cases

abbrev pub as_case : {A : Type 0} → Option A → Unit {0} ⊎ A
as_case None = inl tt
as_case (Some value) = inr value

abbrev pub of_case : {A : Type 0} → Unit {0} ⊎ A → Option A
of_case (inl unit) = None
of_case (inr value) = Some value

pub of_case_as_case : {A : Type 0} (option : Option A) → of_case (as_case option) ≡ option
of_case_as_case None = refl
of_case_as_case (Some value) = refl

abbrev pub coded_option : {A : Type 0} → Coded A → Coded (Option A)
coded_option coded = coded_via (coded⊎ coded_unit coded) as_case
    (λ x y e. sym (of_case_as_case x) ∙ ap of_case e ∙ of_case_as_case y)
