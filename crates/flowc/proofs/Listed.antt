-- What a listing has shown where a stream failed or memory ran out.
use Rattle.std.proofs.Common.{◌≡◌, ℕ, List, inr, subst, Option}
use Rattle.modules.specs.Contents.{ModuleContents}
use Rattle.modules.specs.ByteFormat.{Spells}
use Rattle.modules.specs.Format.{module_file}
use Rattle.channels.specs.Sink.{AppendsPrefix}
use Rattle.listing.specs.Listing.{listing_text}
use Rattle.verifier.specs.Refusals.{IsNotRefused}
use Rattle.flowc.specs.Stdout.{ListsSome}

-- a prefix of the listing of a module that was lent
pub listed_some : (code : List ℕ) (m lent : ModuleContents) (old new : Option (List ℕ)) → Spells module_file m code → IsNotRefused m → lent ≡ m
    → AppendsPrefix old new (listing_text lent) → ListsSome code old new
listed_some code m lent old new spelled not_refused is part =
    inr (m, record { spelled = spelled; not_refused = not_refused }, subst (λ (w : ModuleContents). AppendsPrefix old new (listing_text w)) is part)
