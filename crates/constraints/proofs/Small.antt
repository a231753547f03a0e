-- A program is small, so that the numbers of its unknowns fit.
use Rattle.std.proofs.Common.{◌≤◌, leb-true}
use Rattle.common.specs.declared.limits.TheConstants.{MAX_TEXT}
use Rattle.resolved.specs.CoreOf.{program_of}
use Rattle.resolved.specs.WellFormed.{program_nodes}
use Rattle.resolved.specs.declared.program.Core.{Core}
use Rattle.resolved.proofs.WellFormedParts.{program_parts}

pub program-small : (core : Core) → program_nodes (program_of core) ≤ MAX_TEXT
program-small core = leb-true (program_nodes (program_of core)) MAX_TEXT (program_parts (program_of core) core.well_formed).nodes_fit
