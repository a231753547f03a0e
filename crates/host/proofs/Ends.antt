-- A machine that has ended, and what a status reports of one.
use Rattle.std.proofs.Common.{◌≡◌, ℕ, ◌+◌, ◌-◌, ◌≤◌, Some, sym, ap, ◌∙◌, subst, arith}
use Rattle.std.proofs.lemmas.Option.{none-some, same_Some}
use Rattle.modules.specs.Machine.{Machine, Ending, MachineCode, exec, sent_of}
use Rattle.machine.specs.Run.{HasEnded, ReportsStatus}
use Rattle.machine.specs.declared.status.Status.{Status}
use Rattle.machine.specs.declared.status.Status.TheVariants as status
use Rattle.modules.proofs.Executing.{exec_more, ended_stays}
use Rattle.host.specs.Laws.{ending_of}

pub same_at : (p : MachineCode) (i j : ℕ) (ending : Ending) (machine : Machine) → i ≤ j → HasEnded ending (exec p i machine)
    → exec p j machine ≡ exec p i machine
same_at p i j ending machine h ended =
    let whole : j ≡ i + (j - i) = omega (arith, h) in
    sym (exec_more p i (j - i) j machine whole) ∙ ap (exec p (j - i)) ended ∙ ended_stays p (j - i) ending (sent_of (exec p i machine)) ∙ sym ended

pub still_ended_at : (p : MachineCode) (i j : ℕ) (ending : Ending) (machine : Machine) → i ≤ j → HasEnded ending (exec p i machine)
    → HasEnded ending (exec p j machine)
still_ended_at p i j ending machine h ended = subst (HasEnded ending) (sym (same_at p i j ending machine h ended)) ended

-- what a status that reports an end says of a machine
pub end_of_status : (p : MachineCode) (n taken : ℕ) (reported : Status) (machine : Machine) (ending : Ending) → ending_of reported ≡ Some ending → ReportsStatus p n taken reported machine → HasEnded ending machine
end_of_status p n taken status.Running machine ending e h = absurd (none-some ending e)
end_of_status p n taken status.Finished machine ending e h = subst (λ x. HasEnded x machine) (same_Some _ _ e) h
end_of_status p n taken (status.Threw exception) machine ending e h = subst (λ x. HasEnded x machine) (same_Some _ _ e) h
end_of_status p n taken status.Deep machine ending e h = subst (λ x. HasEnded x machine) (same_Some _ _ e) h
end_of_status p n taken status.NoMemory machine ending e h = absurd (none-some ending e)
