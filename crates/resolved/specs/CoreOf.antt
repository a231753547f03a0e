-- The program of the definitions that a whole program of the code stands for.
-- Source: our own.
use Rattle.resolved.specs.declared.program.Core.{Core}
use Rattle.resolved.specs.Program.{Program}
use Rattle.resolved.specs.ProgramOf.{program_from}

abbrev pub program_of : Core → Program
program_of core =
    program_from core.hierarchy core.labels core.channels.items core.exceptions.items core.globals.items core.procedures.items
    core.main
