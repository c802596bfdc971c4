-- What a symbol's st_info says (gABI chapter 4, "Symbol Table": ELF64_ST_BIND, ELF64_ST_TYPE).
use Rattle.std.specs.Prelude.{ℕ, ◌/◌, ◌%◌, ◌==◌, Bool}
use Rattle.elf_types.specs.declared.records.Sym.{Sym}
use Rattle.elf_types.specs.declared.constants.TheConstants.{STB_LOCAL}

-- the symbol has this binding
abbrev pub has_bind : ℕ → Sym → Bool
has_bind binding x = x.info / 16 == binding

-- the symbol is of this type
abbrev pub has_type : ℕ → Sym → Bool
has_type kind x = x.info % 16 == kind

-- the symbol is not seen outside its file
abbrev pub is_local : Sym → Bool
is_local x = has_bind STB_LOCAL x
