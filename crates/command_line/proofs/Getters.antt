-- What the getters of the matches read, by the rows, and how an answer of the parser is passed on.
use Rattle.std.proofs.Common.{◌≡◌, ◌∙◌, [], Option, Some, None, true, refl, sym, ap, subst, true≢false, ⊎_elim}
use Rattle.std.specs.Prelude.{IsSome, is_some, option_map}
use Rattle.common.specs.Answers.{IfRefused}
use Rattle.common.specs.declared.fault.OrNoMemory.{OrNoMemory}
use Rattle.common.specs.declared.fault.OrNoMemory.TheVariants.{NoMemory, Refused}
use Rattle.clap.specs.Words.{HasKind, Kinds, Text, kind_of}
use Rattle.clap.specs.declared.error.Error.{Error}
use Rattle.clap.specs.declared.error.kind.ErrorKind.TheVariants.{OutOfMemory}

-- a getter finds what is given
pub given_read : {X : Type 0} (now : X → Text) (read : Option X) (word : Option Text) → option_map now read ≡ word → is_some word ≡ true → IsSome read
given_read now None word same given = absurd (true≢false (sym given ∙ sym (ap is_some same)))
given_read now (Some x) word same given = refl

-- a fault that is out of memory wherever P holds is a refusal only where it does not
pub refused_without : {R : Type 0} (P : Type 0) (fault : OrNoMemory R) → (P → fault ≡ NoMemory) → IfRefused (λ _. P → ⊥) fault
refused_without P NoMemory memory = tt
refused_without P (Refused r) memory = λ holds. let no : Refused r ≡ NoMemory = memory holds in absurd cc

-- an error where no kind comes is out of memory
pub memory_only : (kinds : Kinds) (error : Error) → HasKind kinds error → kinds ≡ [] → kind_of error ≡ OutOfMemory
memory_only kinds error has none = ⊎_elim (λ memory. memory) (λ among. absurd among) (subst (λ ks. HasKind ks error) none has)
