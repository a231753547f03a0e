-- The machine value of a slot: a struct of one pointer. Assumes `Logic`.
use Rattle.std.proofs.Common.{◌≡◌, List, [], ◌∷◌, ◌++◌, refl, subst}
use Rattle.host.specs.Values.{HostRuns}
use Rattle.std.specs.Prelude.{Bool, Option, Some, None, false, true}
use seplogic.Ra.Ura.{Ura}
use mir.Val.{Val, vstruct, vcons, vnil, of_list}
use types.Logic.{Logic}
use types.Kit.{Item, Goal, Seq, Step, step, ‵, ◌$◌, drop, fsplit, fjoin, fpick, fpack, feq_i, feq_l}
use denote.RattleType.{Valss}
use denote.Builtin.{RawPtr}
use denote.RawPtr.{Ptr, ptr_val}
use denote.Steps.{nothing}
use denote.Struct.Struct.{within}
use denote.Struct.Owning.{shape}
use Rattle.host_handle.specs.Owned.{is_held, slot_owns}
use Rattle.host_handle.specs.contracts.HostSlot as slot

abbrev pub word : Ptr → Val
word p = vstruct (vcons (ptr_val p) vnil)

module _ {M : Type 1} {𝓤 : Ura M} {𝓛 : Logic 𝓤} {K : Type 0} {Γ : List (Item 𝓤)} {G : Goal 𝓤 𝓛.H} where
  pub slot_out : K → (d : (slot.the_row).Denot) (vs : List Val)
      → (vs ≡ word d.pointer ∷ [] → Seq K 𝓛 (‵ (slot_owns d.pointer d.held) ∷ Γ) G) → Seq K 𝓛 (‵ ((slot.the_row).own_val d vs) ∷ Γ) G
  slot_out t d vs k =
      fsplit t $ fpick t (λ vss. fsplit t $ feq_l t (λ ev. fsplit t $ feq_l t (λ ep. drop t $
      k (subst (λ (ps : List Val). vs ≡ vstruct (of_list (ps ++ [])) ∷ []) ep ev))))

  pub slot_in : K → (p : Ptr) (x : Option HostRuns)
      → Step K 𝓛 (‵ ((slot.the_row).own_val (record { pointer = p; held = x }) (word p ∷ [])) ∷ Γ) G (‵ (slot_owns p x) ∷ Γ) G
  slot_in t p x = step (λ s.
      nothing t $ feq_i t (List Val) (ptr_val p ∷ []) (ptr_val p ∷ []) refl $ fjoin t $ feq_i t (List Val) (word p ∷ []) (word p ∷ []) refl $ fjoin t $
      fpack t (Valss (RawPtr ∷ [])) (within (shape slot.the_type) (p, tt) (word p ∷ [])) (ptr_val p ∷ [], tt) $ fjoin t $ s)

pub found : (x : Option HostRuns) → is_held x ≡ true → (y : HostRuns) × (x ≡ Some y)
found (Some y) t = (y, refl)
found None t = absurd (subst (λ (b : Bool). apart b) t tt)
  where
    apart : Bool → Type 0
    apart true = ⊥
    apart false = Unit {0}
