-- What the buffer of a caller holds where a call is done: the module of two texts, what an explanation or a listing shows.
-- Source: our own.
use Rattle.std.specs.Prelude.{ℕ, List, [], Some}
use Rattle.compiler.specs.Compiled.{IsCompiled}
use Rattle.flowc.specs.Explained.{Explains, ExplainsRefusal}
use Rattle.flowc.specs.Stdout.{Lists}
use Rattle.flowc_c.specs.Buffer.{IsPut, IsTooShort}

-- the bytes of a module of the two texts
abbrev pub PutsModule : (hierarchy source : List ℕ) (said : ℕ) (old new : List ℕ) → Type 0
PutsModule hierarchy source said old new = (code : List ℕ) × IsCompiled hierarchy source code × IsPut code said old new

-- the buffer is too short for the bytes of a module of the two texts, and how many they are was said
abbrev pub NeedsModule : (hierarchy source : List ℕ) (said : ℕ) (old : List ℕ) → Type 0
NeedsModule hierarchy source said old = (code : List ℕ) × IsCompiled hierarchy source code × IsTooShort code said old

-- the least labels of an accepted source
abbrev pub PutsLabels : (hierarchy source : List ℕ) (said : ℕ) (old new : List ℕ) → Type 0
PutsLabels hierarchy source said old new =
    (text : List ℕ) × Explains hierarchy source (Some []) (Some text) × IsPut text said old new

-- the chain of a flow that is refused, and nothing of another refusal
abbrev pub PutsChain : (hierarchy source : List ℕ) (said : ℕ) (old new : List ℕ) → Type 0
PutsChain hierarchy source said old new =
    (text : List ℕ) × ExplainsRefusal hierarchy source (Some []) (Some text) × IsPut text said old new

-- the listing of a module
abbrev pub PutsListing : (bytes : List ℕ) (said : ℕ) (old new : List ℕ) → Type 0
PutsListing bytes said old new = (text : List ℕ) × Lists bytes (Some []) (Some text) × IsPut text said old new

abbrev pub NeedsListing : (bytes : List ℕ) (said : ℕ) (old : List ℕ) → Type 0
NeedsListing bytes said old = (text : List ℕ) × Lists bytes (Some []) (Some text) × IsTooShort text said old
