-- Typed code, which no verifier refuses: of each instruction what it names is there, and where it may jump an instruction begins; and
-- control comes to an offset with operands of the same kinds by every way, and to an instruction that finds its operands. That these are
-- the modules that are not refused is a law.
-- Source: our own; the type safety of bytecode, as that of the Java virtual machine.
use Rattle.std.specs.Prelude.{◌≡◌, ℕ, ◌+◌, ◌<◌, ◌≤◌, ◌&&◌, ◌++◌, List, [], Option, Some, None, All, IsTrue, is_some, nat_lt, true}
use Rattle.std.specs.List.{Contains}
use Rattle.std.specs.Option.{option_map, option_map_or}
use Rattle.common.specs.declared.base_type.BaseType.{BaseType}
use Rattle.modules.specs.Code.{instruction_at, width_of}
use Rattle.modules.specs.Contents.{ModuleContents, ProcedureContents}
use Rattle.modules.specs.Machine.{Rule, header_of, instruction_rule, machine_code, popped_by}
use Rattle.modules.specs.Opcodes.{entry_of}
use Rattle.modules.specs.declared.declaration.Handler.{Handler}
use Rattle.modules.specs.declared.instruction.Instruction.{Instruction}
use Rattle.verifier.specs.Fixed.{is_start, has_right_offsets}

module _ (m : ModuleContents) (procedure : ProcedureContents) where
  -- the rule of an instruction in the procedure
  abbrev pub rule_in : Instruction → Option Rule
  rule_in i = instruction_rule (machine_code m) (Some (header_of procedure)) i

  -- the kinds of the operands that an instruction leaves of others, the top first; none where it misses one or finds one of another kind
  abbrev pub kinds_left : Instruction → List BaseType → Option (List BaseType)
  kinds_left i kinds = option_map_or (λ rule. option_map (λ popped. rule.pushes ++ popped.1) (popped_by (λ kind. kind) rule kinds)) (rule_in i) None

  -- an instruction stands at an offset, and leaves these kinds of those that it finds
  abbrev pub Leaves : ℕ → List BaseType → Instruction → List BaseType → Type 0
  Leaves at kinds i after = (instruction_at procedure.code at ≡ Some i) × (kinds_left i kinds ≡ Some after)

  -- control may reach an offset with operands of some kinds: the start of the code with none; from an instruction, with those that it
  -- leaves, the next one and its target; and with none a handler whose range holds an offset that it reaches
  pub data Reaches : ℕ → List BaseType → Type 0 where
    starts : Reaches 0 []
    next : (at : ℕ) (kinds after : List BaseType) (i : Instruction) → Reaches at kinds → Leaves at kinds i after
        → (entry_of i).goes_on ≡ true → Reaches (at + width_of i) after
    jumps : (at to : ℕ) (kinds after : List BaseType) (i : Instruction) → Reaches at kinds → Leaves at kinds i after
        → (entry_of i).target ≡ Some to → Reaches to after
    caught : (at : ℕ) (kinds : List BaseType) (h : Handler) → Reaches at kinds → Contains procedure.handlers h
        → h.start ≤ at → at < h.end → Reaches h.target []

  -- the code is typed
  pub record IsTyped : Type 0 where
    pub instructions : All (λ i. IsTrue (option_map_or (is_start procedure) (entry_of i).target true && is_some (rule_in i))) procedure.code
    pub handlers : All (λ h. IsTrue (has_right_offsets procedure h && nat_lt h.exception (machine_code m).exceptions)) procedure.handlers
    pub finds : (at : ℕ) (kinds : List BaseType) → Reaches at kinds → (i : Instruction) × (after : List BaseType) × Leaves at kinds i after
    pub one : (at : ℕ) (kinds others : List BaseType) → Reaches at kinds → Reaches at others → kinds ≡ others
