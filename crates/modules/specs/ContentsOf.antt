-- The contents of a module as the code holds them, and as definitions speak of them: texts are lists of bytes.
-- Source: our own.
use Rattle.std.specs.Prelude.{map, string_bytes}
use Rattle.modules.specs.Contents.{ModuleContents}
use Rattle.modules.specs.declared.contents.Contents.{Contents}

abbrev pub contents_of : Contents → ModuleContents
contents_of contents = record {
  version = contents.version;
  hierarchy = contents.hierarchy;
  exceptions = map (λ name. string_bytes name) contents.exceptions.items;
  channels = contents.channels.items;
  globals = contents.globals.items;
  procedures = contents.procedures.items;
  main = contents.main;
}
