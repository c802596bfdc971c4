-- Sections and symbols, as they are made, are those of the self test's image.
use Rattle.std.proofs.Common.{◌≡◌, ◌+◌, ◌*◌, ◌%◌, ℕ, List, replicate, refl}
use Rattle.std.specs.Prelude.{codes}
use Rattle.elf_types.specs.declared.records.Shdr.{Shdr}
use Rattle.elf_types.specs.declared.records.Sym.{Sym}
use Rattle.elf_xlate.specs.declared.content.Items.TheVariants as items
use Rattle.elf_ident.specs.Front.{zero_shdr}
use Rattle.strtab_build.specs.Table.{table, place_of}
use Rattle.rebuild_model.specs.Rebuilt.{made_section}
use Rattle.rebuild_model.specs.Generated.{numbered_name, generated_data, generated_sym, generated_symtab, generated_strtab, generated_symbol_names, generated_section_names}
use Rattle.elf_calls_generate.specs.Stages.{symbols_to}

-- a header with a name, a type, flags, links, an alignment and a size of its items
abbrev pub header_with : ℕ → ℕ → ℕ → ℕ → ℕ → ℕ → ℕ → Shdr
header_with name stype flags link info align entsize = record {
  name = name;
  stype = stype;
  flags = flags;
  addr = 0;
  offset = 0;
  size = 0;
  link = link;
  info = info;
  addralign = align;
  entsize = entsize;
}

pub made_data : (n i place : ℕ) (bytes : List ℕ)
    → place ≡ place_of (numbered_name (codes ".s") i) (generated_section_names n)
    → bytes ≡ replicate (i % 7 + 1) (i % 256)
    → made_section (header_with place 1 2 0 0 1 0) (items.Bytes bytes) ≡ generated_data n i
unfolding generated_data zero_shdr
made_data n i place bytes at are = rw (at, are) refl

pub made_symtab : (n place : ℕ) (symbols : List Sym)
    → place ≡ place_of (codes ".symtab") (generated_section_names n) → symbols ≡ symbols_to n n
    → made_section (header_with place 2 0 (n + 2) 1 8 24) (items.Sym symbols) ≡ generated_symtab n
unfolding generated_symtab zero_shdr
made_symtab n place symbols at are = rw (at, are) refl

pub made_strtab : (n place : ℕ) (own bytes : List ℕ) (strings : List (List ℕ))
    → place ≡ place_of own (generated_section_names n) → bytes ≡ table strings
    → made_section (header_with place 3 0 0 0 1 0) (items.Bytes bytes)
    ≡ generated_strtab n own strings
unfolding generated_strtab zero_shdr
made_strtab n place own bytes strings at are = rw (at, are) refl

pub made_symbol : (n i place : ℕ)
    → place ≡ place_of (numbered_name (codes "y") i) (generated_symbol_names n)
    → ◌≡◌ {A = Sym} (record {
      name = place;
      info = 17;
      other = 0;
      shndx = i;
      value = 3 * i;
      size = i % 7 + 1;
    }) (generated_sym n i)
unfolding generated_sym
made_symbol n i place at = rw at refl
