-- What a sink holds while a text goes out piece by piece.
use Rattle.std.proofs.Common.{◌≡◌, ◌∙◌, ap, arith, refl, sym, ℕ, ◌+◌, ◌<◌, List, [], ◌++◌, append_assoc, drop, get_or, length, Option}
use Rattle.std.proofs.KnownBytes.{Appends-nil, Appends-trans}
use Rattle.std.proofs.lemmas.List.{at_drop_more}
use Rattle.std.specs.Io.KnownBytes.{Appends}
use Rattle.std.specs.Prelude.{flat_map}
use Rattle.modules.specs.Code.{code_length, width_of}
use Rattle.modules.specs.Contents.{ProcedureContents}
use Rattle.modules.specs.declared.instruction.Instruction.{Instruction}
use Rattle.channels.specs.Sink.{AppendsPrefix}
use Rattle.listing.specs.Listing.{code_text, instruction_line, procedure_text, procedures_text}

-- the sink took a front of the listing, and this is left
pub record IsListed (old new : Option (List ℕ)) (left listing : List ℕ) : Type 0 where
  pub front : List ℕ
  pub split : front ++ left ≡ listing
  pub taken : Appends old new front

pub begun : (old : Option (List ℕ)) (listing : List ℕ) → IsListed old old listing listing
begun old listing = record { front = []; split = refl; taken = Appends-nil old }

-- the next piece went out
pub went_on : (old mid new : Option (List ℕ)) (left piece rest listing : List ℕ) → left ≡ piece ++ rest → IsListed old mid left listing
    → Appends mid new piece → IsListed old new rest listing
went_on old mid new left piece rest listing next before now = record {
  front = before.front ++ piece;
  split = append_assoc before.front piece rest ∙ ap (λ text. before.front ++ text) (sym next) ∙ before.split;
  taken = Appends-trans old mid new before.front piece before.taken now;
}

-- the next piece went out in part
pub cut : (old mid new : Option (List ℕ)) (left piece rest listing : List ℕ) → left ≡ piece ++ rest → IsListed old mid left listing
    → AppendsPrefix mid new piece → AppendsPrefix old new listing
cut old mid new left piece rest listing next before part = (
  before.front ++ part.0,
  (
    part.1.0 ++ rest,
    append_assoc before.front part.0 (part.1.0 ++ rest)
        ∙ ap (λ text. before.front ++ text) (sym (append_assoc part.0 part.1.0 rest) ∙ ap (λ text. text ++ rest) part.1.1 ∙ sym next)
        ∙ before.split,
  ),
  Appends-trans old mid new before.front part.0 before.taken part.2,
)

-- nothing more went out
pub stopped : (old new : Option (List ℕ)) (left listing : List ℕ) → IsListed old new left listing → AppendsPrefix old new listing
stopped old new left listing before = (before.front, (left, before.split), before.taken)

-- ---- what is left, as the next piece and the rest

pub lines_next : {X : Type 0} (line : X → List ℕ) (xs : List X) (k : ℕ) (d : X) (bytes : List ℕ) → k < length xs → bytes ≡ line (get_or xs k d)
    → flat_map line (drop k xs) ≡ bytes ++ flat_map line (drop (k + 1) xs)
lines_next line xs k d bytes small is =
    at_drop_more (flat_map line) xs k d small ∙ ap (λ text. text ++ flat_map line (drop (k + 1) xs)) (sym is)

pub code_next : (code : List Instruction) (k offset width : ℕ) (d : Instruction) (bytes : List ℕ) → k < length code
    → bytes ≡ instruction_line offset (get_or code k d) → width ≡ width_of (get_or code k d)
    → code_text offset (drop k code) ≡ bytes ++ code_text (offset + width) (drop (k + 1) code)
code_next code k offset width d bytes small is wide =
    at_drop_more (code_text offset) code k d small
    ∙ ap (λ text. text ++ code_text (offset + width_of (get_or code k d)) (drop (k + 1) code)) (sym is)
    ∙ ap (λ n. bytes ++ code_text (offset + n) (drop (k + 1) code)) (sym wide)

pub code_left : (code : List Instruction) (k offset width : ℕ) (d : Instruction) → k < length code → width ≡ width_of (get_or code k d)
    → offset + code_length (drop k code) ≡ code_length code → offset + width + code_length (drop (k + 1) code) ≡ code_length code
code_left code k offset width d small wide left = omega (arith, at_drop_more code_length code k d small, wide, left)

pub procedures_next : (procedures : List ProcedureContents) (k : ℕ) (d procedure : ProcedureContents) → k < length procedures
    → procedure ≡ get_or procedures k d
    → procedures_text k (drop k procedures) ≡ procedure_text k procedure ++ procedures_text (k + 1) (drop (k + 1) procedures)
procedures_next procedures k d procedure small is =
    at_drop_more (procedures_text k) procedures k d small
    ∙ ap (λ p. procedure_text k p ++ procedures_text (k + 1) (drop (k + 1) procedures)) (sym is)

-- ---- one text after another

pub cut_second : (old mid new : Option (List ℕ)) (bytes first second : List ℕ) → bytes ≡ first → Appends old mid bytes
    → AppendsPrefix mid new second → AppendsPrefix old new (first ++ second)
cut_second old mid new bytes first second is before part = (
  bytes ++ part.0,
  (part.1.0, append_assoc bytes part.0 part.1.0 ∙ ap (λ text. bytes ++ text) part.1.1 ∙ ap (λ text. text ++ second) is),
  Appends-trans old mid new bytes part.0 before part.2,
)
