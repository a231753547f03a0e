-- Private: the table of buckets by which the numbers of short names are looked up, and what is found by it.
-- Source: our own.
use Rattle.std.specs.Prelude.{◌≡◌, ℕ, ◌+◌, ◌*◌, ◌/◌, ◌%◌, ◌^◌, ◌≤◌, ◌==◌, List, get_or, Option, Some, None, Bool, true, false, not, if◌then◌else◌}
use Rattle.std.specs.BTreeMap.{BTreeMap, get}
use Rattle.std.specs.Ordering.{nat_cmp}
use Rattle.types.specs.declared.scope.Meaning.{Meaning}
use Rattle.types.specs.declared.short_names.Bucket.{Bucket}
use Rattle.types.specs.declared.short_names.Bucket.TheVariants as buckets
use Rattle.types.specs.declared.short_names.TheConstants.{NO_BUCKETS}

-- a hash of a number, of which the bucket is the upper bits
abbrev pub mixed : ℕ → ℕ
mixed number =
    number % 4294967296 * 1735445665
    + number / 4294967296 % 4294967296 * 878098363
    + number / 4294967296 / 4294967296 % 4294967296 * 599068319
    + number / 4294967296 / 4294967296 / 4294967296 * 943391325

abbrev pub bucket_of : (shift number : ℕ) → ℕ
bucket_of shift number = mixed number % 4294967296 / 2 ^ shift

-- the bucket at an index, also at one that the table does not have
abbrev pub bucket_at : List Bucket → ℕ → Bucket
bucket_at table at = get_or table at buckets.Shared

-- what is found of a number by its bucket and the map of the others
abbrev pub found_by : Bucket → ℕ → BTreeMap ℕ Meaning → Option Meaning
found_by buckets.Free number others = None
found_by (buckets.Alone kept meaning) number others = if kept == number then Some meaning else None
found_by (buckets.First kept meaning) number others = if kept == number then Some meaning else get nat_cmp others number
found_by buckets.Shared number others = get nat_cmp others number

abbrev pub found_short : (shift : ℕ) (table : List Bucket) (others : BTreeMap ℕ Meaning) (number : ℕ) → Option Meaning
found_short shift table others number = found_by (bucket_at table (bucket_of shift number)) number others

-- what a bucket tells of a number by itself, and else this
abbrev pub told_by : Bucket → ℕ → Option Meaning → Option Meaning
told_by buckets.Free number other = other
told_by (buckets.Alone kept meaning) number other = if kept == number then Some meaning else other
told_by (buckets.First kept meaning) number other = if kept == number then Some meaning else other
told_by buckets.Shared number other = other

-- what is found is the same but for one number, which stands for this now
abbrev pub Updates : ℕ → Option Meaning → (old new : ℕ → Option Meaning) → Type 0
Updates number now old new = (other : ℕ) → new other ≡ (if number == other then now else old other)

-- whether a number stands in a bucket, and whether it is left to the map
abbrev pub keeps : Bucket → ℕ → Bool
keeps buckets.Free number = false
keeps (buckets.Alone kept meaning) number = kept == number
keeps (buckets.First kept meaning) number = kept == number
keeps buckets.Shared number = false

abbrev pub leaves : Bucket → ℕ → Bool
leaves buckets.Free number = false
leaves (buckets.Alone kept meaning) number = false
leaves (buckets.First kept meaning) number = not (kept == number)
leaves buckets.Shared number = true

-- a number stands in the bucket to which it leads, and the map has only those that are left to it
pub record AreBuckets (shift : ℕ) (table : List Bucket) (others : BTreeMap ℕ Meaning) : Type 0 where
  pub few : shift ≤ NO_BUCKETS
  pub kept : (at number : ℕ) → keeps (bucket_at table at) number ≡ true → bucket_of shift number ≡ at
  pub left : (number : ℕ) → leaves (bucket_at table (bucket_of shift number)) number ≡ false → get nat_cmp others number ≡ None
