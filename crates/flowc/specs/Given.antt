-- Private: the files of the code as those of the definitions.
-- Source: our own.
use Rattle.flowc.specs.Compiled.{NamedText}
use Rattle.flowc.specs.declared.reading.File.{File}

-- a file by its path and its bytes
abbrev pub text_of : File → NamedText
text_of file = record { path = file.path.now; bytes = file.bytes.now }
