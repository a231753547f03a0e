-- Runs of a machine put together, and what a run that ends has sent on its way.
use Rattle.std.proofs.Common.{◌≡◌, ℕ, zero, suc, ◌+◌, ◌≤◌, List, Option, Some, None, refl, sym, ap, ◌∙◌, subst, arith}
use Rattle.common.specs.declared.sent.Pair.{Pair}
use Rattle.labels.specs.Sent.{IsPrefix}
use Rattle.modules.specs.Machine.{State, Machine, Running, Ended, Stuck, Ending, MachineCode, sent_of, step, exec}
use Rattle.labels.proofs.Prefixes.{prefix-itself}
use Rattle.lowering.specs.Direct.{jump_of}
use Rattle.lowering.proofs.Sent.{exec-keeps}
use Rattle.modules.proofs.Executing.{ended_stays}

-- ---- steps that count: all but those at an unconditional jump, which threaded code may leave out
abbrev pub counted : (jump : Option ℕ) → ℕ
counted None = 1
counted (Some target) = 0

abbrev pub count : MachineCode → Machine → ℕ
count p (Running s) = counted (jump_of (p.fetch s.frame.procedure s.frame.position))
count p (Ended ending sent) = 1
count p (Stuck sent) = 1

abbrev pub counts : MachineCode → ℕ → Machine → ℕ
counts p zero m = 0
counts p (suc n) m = count p m + counts p n (step p m)

-- some steps lead from one machine to another
pub record Leads (p : MachineCode) (from to : Machine) : Type 0 where
  pub steps : ℕ
  pub reached : exec p steps from ≡ to

-- steps of which k count at least
pub record Counting (p : MachineCode) (k : ℕ) (from to : Machine) : Type 0 where
  pub steps : ℕ
  pub enough : k ≤ counts p steps from
  pub reached : exec p steps from ≡ to

-- steps of which one counts
abbrev pub Strides : MachineCode → Machine → Machine → Type 0
Strides p from to = Counting p 1 from to

-- after steps of which k count at least a machine still runs and has sent this
pub record Waits (p : MachineCode) (k : ℕ) (from : Machine) (sent : List Pair) : Type 0 where
  pub steps : ℕ
  pub enough : k ≤ counts p steps from
  pub state : State
  pub reached : exec p steps from ≡ Running state
  pub sent_is : state.sent ≡ sent

pub leads-itself : (p : MachineCode) (m : Machine) → Leads p m m
leads-itself p m = record { steps = 0; reached = refl }

pub leads-step : (p : MachineCode) (from to : Machine) → step p from ≡ to → Leads p from to
leads-step p from to e = record { steps = 1; reached = e }

pub strides-leads : (p : MachineCode) (from to : Machine) → Strides p from to → Leads p from to
strides-leads p from to h = record { steps = h.steps; reached = h.reached }

leads-after : (p : MachineCode) (n : ℕ) (from mid to : Machine) → exec p n from ≡ mid → Leads p mid to → Leads p from to
leads-after p zero from mid to e h = subst (λ m. Leads p m to) (sym e) h
leads-after p (suc n) from mid to e h =
    let rest : Leads p (step p from) to = leads-after p n (step p from) mid to e h in
    record { steps = suc rest.steps; reached = rest.reached }

pub leads-through : (p : MachineCode) (from mid to : Machine) → Leads p from mid → Leads p mid to → Leads p from to
leads-through p from mid to first second = leads-after p first.steps from mid to first.reached second

strides-after : (p : MachineCode) (n : ℕ) (from mid to : Machine) → exec p n from ≡ mid → Strides p mid to → Strides p from to
strides-after p zero from mid to e h = subst (λ m. Strides p m to) (sym e) h
strides-after p (suc n) from mid to e h =
    let rest : Strides p (step p from) to = strides-after p n (step p from) mid to e h in
    record { steps = suc rest.steps; enough = omega (arith, rest.enough); reached = rest.reached }

-- and then some more
counting-before : (p : MachineCode) (n : ℕ) (from mid to : Machine) → exec p n from ≡ mid → Leads p mid to → Counting p (counts p n from) from to
counting-before p zero from mid to e h =
    let same : Leads p from to = subst (λ m. Leads p m to) (sym e) h in
    record { steps = same.steps; enough = omega arith; reached = same.reached }
counting-before p (suc n) from mid to e h =
    let rest : Counting p (counts p n (step p from)) (step p from) to = counting-before p n (step p from) mid to e h in
    record { steps = suc rest.steps; enough = omega (arith, rest.enough); reached = rest.reached }

pub strides-on : (p : MachineCode) (from mid to : Machine) → Strides p from mid → Leads p mid to → Strides p from to
strides-on p from mid to first second =
    let all : Counting p (counts p first.steps from) from to = counting-before p first.steps from mid to first.reached second in
    record { steps = all.steps; enough = omega (arith, all.enough, first.enough); reached = all.reached }

pub strides-through : (p : MachineCode) (from mid to : Machine) → Leads p from mid → Strides p mid to → Strides p from to
strides-through p from mid to first second = strides-after p first.steps from mid to first.reached second

waits-after : (p : MachineCode) (n k : ℕ) (from mid : Machine) (sent : List Pair) → exec p n from ≡ mid → Waits p k mid sent → Waits p k from sent
waits-after p zero k from mid sent e h = subst (λ m. Waits p k m sent) (sym e) h
waits-after p (suc n) k from mid sent e h =
    let rest : Waits p k (step p from) sent = waits-after p n k (step p from) mid sent e h in
    record { steps = suc rest.steps; enough = omega (arith, rest.enough); state = rest.state; reached = rest.reached; sent_is = rest.sent_is }

pub waits-through : (p : MachineCode) (k : ℕ) (from mid : Machine) (sent : List Pair) → Leads p from mid → Waits p k mid sent → Waits p k from sent
waits-through p k from mid sent first second = waits-after p first.steps k from mid sent first.reached second

-- those on the way count too
waits-more : (p : MachineCode) (n k : ℕ) (from mid : Machine) (sent : List Pair) → exec p n from ≡ mid → Waits p k mid sent → Waits p (counts p n from + k) from sent
waits-more p zero k from mid sent e h =
    let same : Waits p k from sent = subst (λ m. Waits p k m sent) (sym e) h in
    record { steps = same.steps; enough = omega (arith, same.enough); state = same.state; reached = same.reached; sent_is = same.sent_is }
waits-more p (suc n) k from mid sent e h =
    let rest : Waits p (counts p n (step p from) + k) (step p from) sent = waits-more p n k (step p from) mid sent e h in
    record { steps = suc rest.steps; enough = omega (arith, rest.enough); state = rest.state; reached = rest.reached; sent_is = rest.sent_is }

pub waits-less : (p : MachineCode) (j k : ℕ) (from : Machine) (sent : List Pair) → j ≤ k → Waits p k from sent → Waits p j from sent
waits-less p j k from sent less h = record { steps = h.steps; enough = omega (arith, h.enough, less); state = h.state; reached = h.reached; sent_is = h.sent_is }

-- a stride more
pub waits-stride : (p : MachineCode) (k : ℕ) (from mid : Machine) (sent : List Pair) → Strides p from mid → Waits p k mid sent → Waits p (suc k) from sent
waits-stride p k from mid sent first second =
    waits-less p (suc k) (counts p first.steps from + k) from sent (omega (arith, first.enough)) (waits-more p first.steps k from mid sent first.reached second)

-- a run that ends has sent at each time a prefix of what it has sent in the end
pub sent-before : (p : MachineCode) (last n : ℕ) (m : Machine) (ending : Ending) (sent : List Pair) → exec p last m ≡ Ended ending sent → IsPrefix (sent_of (exec p n m)) sent
sent-before p zero n m ending sent e =
    let stays : exec p n m ≡ Ended ending sent = ap (exec p n) e ∙ ended_stays p n ending sent in
    subst (λ (x : Machine). IsPrefix (sent_of x) sent) (sym stays) (prefix-itself sent)
sent-before p (suc last) zero m ending sent e =
    subst (λ (x : Machine). IsPrefix (sent_of m) (sent_of x)) e (exec-keeps p (suc last) m)
sent-before p (suc last) (suc n) m ending sent e = sent-before p last n (step p m) ending sent e

-- a run ends in one way
pub ends-once : (p : MachineCode) (last n : ℕ) (m : Machine) (ending other : Ending) (sent more : List Pair) → exec p last m ≡ Ended ending sent → exec p n m ≡ Ended other more → ◌≡◌ {A = Machine} (Ended ending sent) (Ended other more)
ends-once p zero n m ending other sent more e f = sym (ended_stays p n ending sent) ∙ ap (exec p n) (sym e) ∙ f
ends-once p (suc last) zero m ending other sent more e f = sym e ∙ ap (exec p (suc last)) f ∙ ended_stays p (suc last) other more
ends-once p (suc last) (suc n) m ending other sent more e f = ends-once p last n (step p m) ending other sent more e f
