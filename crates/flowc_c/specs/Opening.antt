-- How a session is opened from the bytes of a module and the text of a world, under the module's hierarchy or under that of a further
-- text, and for what that is refused.
-- Source: our own.
use Rattle.std.specs.Prelude.{◌≡◌, ℕ, List, Option, Some, None, Result, Ok, Err, IsUtf8, Contains}
use Rattle.acceptance.specs.Accepted.{HasHierarchy}
use Rattle.acceptance.specs.RefusalKinds.{refusal_message}
use Rattle.acceptance.specs.declared.kind.RefusalKind.TheVariants.{NotUtf8}
use Rattle.bytecode.specs.Decoded.{first_refusal}
use Rattle.channels.specs.RefusalKinds.{world_message}
use Rattle.channels.specs.World.{InputNumbers, input_names}
use Rattle.channels.specs.WorldText.{IsWorldRefusal, IsWorldText, lines_of, world_of}
use Rattle.checker.specs.Reported.{IsHierarchyFault}
use Rattle.common.specs.Answers.{IfRefused}
use Rattle.common.specs.Message.{MessageContents}
use Rattle.common.specs.declared.fault.OrNoMemory.{OrNoMemory}
use Rattle.common.specs.declared.fault.OrNoMemory.TheVariants as faults
use Rattle.host.specs.RefusalKinds.{host_message}
use Rattle.host.specs.Meaning.{HostContents, Open, Opened, Refused, MayAnswer}
use Rattle.host.specs.Values.{HostRuns, host_of}
use Rattle.host.specs.declared.hosts.TheConstants.{MAX_SESSIONS}
use Rattle.modules.specs.Contents.{ModuleContents}
use Rattle.modules.specs.RefusalKinds.{format_message}
use Rattle.modules.specs.ByteFormat.{Spells}
use Rattle.modules.specs.Format.{module_file}
use Rattle.principals.specs.ActsFor.{HasName, PrincipalHierarchy}
use Rattle.flowc_c.specs.Hosts.{GivesAnswer, SaysPlaceOfHost}
use Rattle.flowc_c.specs.Buffer.{IsPutIfFits}
use Rattle.flowc_c.specs.declared.opening.OpenRefusal.{OpenRefusal}
use Rattle.flowc_c.specs.declared.opening.OpenRefusal.TheVariants.{Bytes, Encoding, World, Hierarchy, Host}
use Rattle.flowc_c.specs.declared.outcome.TheConstants.{DONE, REFUSED, NO_MEMORY}
use Rattle.flowc_c.specs.declared.reply.Reply.{Reply}
use Rattle.flowc_c.specs.declared.reply.TheConstants.{NO_HOST}

-- numbers are the world that a text writes for the module that bytes spell
pub record IsWorldFor (bytes text : List ℕ) (world : List InputNumbers) : Type 0 where
  pub program : ModuleContents
  pub spelled : Spells module_file program bytes
  pub right : IsWorldText (input_names program) (lines_of text)
  pub exact : world ≡ world_of (input_names program) (lines_of text)

-- why bytes write no world for a module: they are no characters, or a line is wrong
abbrev pub IsNoWorld : ModuleContents → (text : List ℕ) → OpenRefusal → Type 0
IsNoWorld program text Encoding = ¬ IsUtf8 text
IsNoWorld program text (World refusal) = IsUtf8 text × IsWorldRefusal (input_names program) (lines_of text) refusal
IsNoWorld program text (Bytes refusal) = ⊥
IsNoWorld program text (Hierarchy refusal) = ⊥
IsNoWorld program text (Host refusal) = ⊥

-- why no world is read for bytes: they spell no module, or the text is no world for the module that they spell
abbrev pub CannotReadWorld : (bytes text : List ℕ) → OpenRefusal → Type 0
CannotReadWorld bytes text (Bytes refusal) = first_refusal bytes ≡ Some refusal
CannotReadWorld bytes text refusal =
    (program : ModuleContents) × Spells module_file program bytes × IsNoWorld program text refusal

-- why a host opens no session, under a hierarchy or under the module's own: there is no world for it, or the host refuses the event
abbrev pub CannotOpenOn : HostContents → (bytes text : List ℕ) → (under : Option PrincipalHierarchy) → OpenRefusal → Type 0
CannotOpenOn host bytes text under (Host refusal) =
    (world : List InputNumbers) × IsWorldFor bytes text world
    × MayAnswer MAX_SESSIONS host (Open bytes world under) (Refused (faults.Refused refusal)) host
CannotOpenOn host bytes text under refusal = CannotReadWorld bytes text refusal

-- a host opens a session of bytes on the world that a text writes for them, or is as it was
abbrev pub OpensOn : HostContents → (bytes text : List ℕ) → Result ℕ (OrNoMemory OpenRefusal) → HostContents → Type 0
OpensOn old bytes text (Ok id) new =
    (world : List InputNumbers) × IsWorldFor bytes text world × MayAnswer MAX_SESSIONS old (Open bytes world None) (Opened id) new
OpensOn old bytes text (Err fault) new = IfRefused (CannotOpenOn old bytes text None) fault × (new ≡ old)

-- the same of a handle that may hold no host
abbrev pub AskedToOpen : (old : Option HostRuns) → (bytes text : List ℕ) → Option (Result ℕ (OrNoMemory OpenRefusal)) → (new : Option HostRuns) → Type 0
AskedToOpen (Some old) bytes text (Some result) (Some new) = OpensOn (host_of old) bytes text result (host_of new)
AskedToOpen None bytes text None None = Unit {0}
AskedToOpen old bytes text result new = ⊥

-- the host of a handle has opened this session, under a hierarchy or under the module's own
pub record OpensSession (old : Option HostContents) (bytes text : List ℕ) (under : Option PrincipalHierarchy) (id : ℕ)
    (new : Option HostContents) : Type 0 where
  pub world : List InputNumbers
  pub world_for : IsWorldFor bytes text world
  pub answers : GivesAnswer old (Open bytes world under) (Opened id) new

-- ---- under the hierarchy of a text

-- why a text has no hierarchy
abbrev pub IsNoHierarchy : (text : List ℕ) → OpenRefusal → Type 0
IsNoHierarchy text (Hierarchy refusal) = IsHierarchyFault text refusal
IsNoHierarchy text refusal = ⊥

-- why a host opens no session under the hierarchy of a text: there is no world for it, or the text has no hierarchy, or the host
-- refuses the event
abbrev pub CannotOpenUnder : HostContents → (bytes text hierarchy : List ℕ) → OpenRefusal → Type 0
CannotOpenUnder host bytes text hierarchy (Hierarchy refusal) =
    (world : List InputNumbers) × IsWorldFor bytes text world × IsHierarchyFault hierarchy refusal
CannotOpenUnder host bytes text hierarchy (Host refusal) =
    (larger : PrincipalHierarchy) × HasHierarchy hierarchy larger × CannotOpenOn host bytes text (Some larger) (Host refusal)
CannotOpenUnder host bytes text hierarchy refusal = CannotReadWorld bytes text refusal

-- a host opens a session of bytes under the hierarchy of a text, or is as it was
abbrev pub OpensUnder : HostContents → (bytes text hierarchy : List ℕ) → Result ℕ (OrNoMemory OpenRefusal) → HostContents → Type 0
OpensUnder old bytes text hierarchy (Ok id) new =
    (larger : PrincipalHierarchy) × HasHierarchy hierarchy larger
    × ((world : List InputNumbers) × IsWorldFor bytes text world
    × MayAnswer MAX_SESSIONS old (Open bytes world (Some larger)) (Opened id) new)
OpensUnder old bytes text hierarchy (Err fault) new = IfRefused (CannotOpenUnder old bytes text hierarchy) fault × (new ≡ old)

-- the same of a handle that may hold no host
abbrev pub AskedToOpenUnder : (old : Option HostRuns) → (bytes text hierarchy : List ℕ) → Option (Result ℕ (OrNoMemory OpenRefusal))
    → (new : Option HostRuns) → Type 0
AskedToOpenUnder (Some old) bytes text hierarchy (Some result) (Some new) =
    OpensUnder (host_of old) bytes text hierarchy result (host_of new)
AskedToOpenUnder None bytes text hierarchy None None = Unit {0}
AskedToOpenUnder old bytes text hierarchy result new = ⊥

-- the host of a handle has opened this session
abbrev pub OpensSessionUnder : (old : Option HostContents) (bytes text hierarchy : List ℕ) (id : ℕ) (new : Option HostContents) → Type 0
OpensSessionUnder old bytes text hierarchy id new =
    (larger : PrincipalHierarchy) × HasHierarchy hierarchy larger × OpensSession old bytes text (Some larger) id new

-- ---- refusals

abbrev pub open_message : OpenRefusal → MessageContents
open_message (Bytes refusal) = format_message refusal.kind
open_message Encoding = refusal_message NotUtf8
open_message (World refusal) = world_message refusal.kind
open_message (Hierarchy refusal) = refusal_message refusal.kind
open_message (Host refusal) = host_message refusal

-- what is refused, and where: the bytes of the module from a byte on, the world at its first wrong line or at its first line where
-- it is no text, the text of the hierarchy at a line and a column, or what the host refuses
abbrev pub SaysPlaceOfOpen : OpenRefusal → Reply → Type 0
SaysPlaceOfOpen (Bytes refusal) reply = (reply.text ≡ 2) × (reply.offset ≡ refusal.at)
SaysPlaceOfOpen Encoding reply = (reply.text ≡ 4) × (reply.line ≡ 1)
SaysPlaceOfOpen (World refusal) reply = (reply.text ≡ 4) × (reply.line ≡ refusal.line)
SaysPlaceOfOpen (Hierarchy refusal) reply =
    (reply.text ≡ 0) × (reply.line ≡ refusal.at.line) × (reply.column ≡ refusal.at.column)
SaysPlaceOfOpen (Host refusal) reply = SaysPlaceOfHost refusal reply

pub record SaysOpenRefusal (refusal : OpenRefusal) (reply : Reply) : Type 0 where
  pub number : reply.number ≡ (open_message refusal).number
  pub place : SaysPlaceOfOpen refusal reply

-- the reply says why the host of a handle opens no session, and the buffer has the words
pub record TellsOpenRefusal (old : Option HostContents) (bytes text : List ℕ) (reply : Reply) (before after : List ℕ) : Type 0 where
  pub host : HostContents
  pub held : old ≡ Some host
  pub refusal : OpenRefusal
  pub cannot : CannotOpenOn host bytes text None refusal
  pub says : SaysOpenRefusal refusal reply
  pub words : IsPutIfFits (open_message refusal).words reply.length before after

-- the same of one under the hierarchy of a text
pub record TellsUnderRefusal (old : Option HostContents) (bytes text hierarchy : List ℕ) (reply : Reply) (before after : List ℕ)
    : Type 0 where
  pub host : HostContents
  pub held : old ≡ Some host
  pub refusal : OpenRefusal
  pub cannot : CannotOpenUnder host bytes text hierarchy refusal
  pub says : SaysOpenRefusal refusal reply
  pub words : IsPutIfFits (open_message refusal).words reply.length before after

-- what a reply says of an opening, and what the buffer of the words then holds
abbrev pub SaysOpening : Option (Result ℕ (OrNoMemory OpenRefusal)) → Reply → (before after : List ℕ) → Type 0
SaysOpening None reply before after = (reply.status ≡ NO_HOST) × (after ≡ before)
SaysOpening (Some (Ok id)) reply before after = (reply.status ≡ DONE) × (reply.id ≡ id) × (after ≡ before)
SaysOpening (Some (Err faults.NoMemory)) reply before after = (reply.status ≡ NO_MEMORY) × (after ≡ before)
SaysOpening (Some (Err (faults.Refused refusal))) reply before after =
    (reply.status ≡ REFUSED) × SaysOpenRefusal refusal reply
    × IsPutIfFits (open_message refusal).words reply.length before after

-- ---- principals

-- the principal of this number of the module that bytes spell has this name
pub record IsPrincipalOf (bytes name : List ℕ) (number : ℕ) : Type 0 where
  pub program : ModuleContents
  pub spelled : Spells module_file program bytes
  pub named : HasName program.hierarchy number name

-- no principal of a module that bytes spell has this name, if the name is one of characters
abbrev pub HasNoPrincipal : (bytes name : List ℕ) → Type 0
HasNoPrincipal bytes name =
    IsUtf8 name → (program : ModuleContents) → Spells module_file program bytes → ¬ Contains program.hierarchy.names name
