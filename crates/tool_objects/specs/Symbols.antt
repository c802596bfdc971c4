-- The sections of symbols (gABI chapter 4, "Symbol Table", st_shndx).
use Rattle.std.specs.Prelude.{ℕ, Option}
use Rattle.elf_types.specs.declared.records.Sym.{Sym}
use Rattle.gelf_view.specs.elf_object.Object.{Object}
use Rattle.gelf_view.specs.elf_object.SymbolSections.{place_of_symbol}
use Rattle.gelf_view.specs.declared.symbols.SymPlace.{SymPlace}
use Rattle.gelf_view.specs.declared.symbols.SymPlace.TheVariants.{Special, Section}
use Rattle.tool_objects.specs.Answers.{value_of}

-- the section of symbol i of section s, or none where its extended index can not be told
unfoldable pub told_symbol_place : Object → ℕ → ℕ → Sym → Option SymPlace
told_symbol_place o s i x = value_of (place_of_symbol Special Section o s i x)
