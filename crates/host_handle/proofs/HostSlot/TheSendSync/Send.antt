-- A slot may go to another thread: its host may, and each thread may give a block back to the heap.
use Rattle.host.specs.Values.{HostRuns}
use Rattle.std.specs.Prelude.{Option, Some, None}
use mir.Raw.{raw}
use base.Fraction.{full_share}
use base.Shift.{Keyless}
use denote.Exit.{Exit, unchanged, leaves, hidden, under}
use denote.Memory.{lone}
use denote.RattleType.{RattleType}
use denote.RawPtr.{Ptr, block_ptr, null_ptr, lies_at}
use denote.Param.Send.{IsSend, AllSend, Quiet, part_keyless, owning_send, struct_send, sendable}
use denote.Struct.Struct.{exits_of}
use denote.Struct.Owning.{shape, fields, to}
use Rattle.std.proofs.Crossing as crossing
use Rattle.host.specs.contracts.hosts.Host as runs
use Rattle.host.proofs.hosts.Host.TheSendSync.{the_send as host_send}
use Rattle.host_handle.specs.Owned.{heap, slot_owns}
use Rattle.host_handle.specs.contracts.HostSlot.{the_row, the_type}

quiet : {D X : Type 0} (to : D → X) (e : Exit X) → Quiet e → Quiet (hidden (under to e))
quiet to unchanged q = λ x w. tt
quiet to (leaves L l S s r₀) q = λ d. q (to d)

lies : (R : RattleType) → IsSend R → (p : Ptr) (x : R.Denot) → Keyless (lies_at R full_share p x)
lies R s (block_ptr b o) x = part_keyless R s full_share x b o
lies R s null_ptr x = tt

keyless : (p : Ptr) (x : Option HostRuns) → Keyless (slot_owns p x)
keyless p None = tt
keyless p (Some x) = (lies runs.the_row host_send p x, crossing.frees.frees heap (raw (lone (runs.the_row).mir)) p)

pub send : IsSend the_row
send =
    let all : AllSend (fields the_type) = (search sendable, tt) in
    owning_send the_type all (λ d. keyless d.pointer d.held)
    (λ k. quiet (to the_type) (exits_of k (fields the_type)) ((struct_send (shape the_type) all).leaving k))
