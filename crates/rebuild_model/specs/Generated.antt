-- The image of the self test: so many sections, each with a symbol.
use Rattle.std.specs.Prelude.{ℕ, ◌+◌, ◌*◌, ◌%◌, List, [], ◌∷◌, ◌++◌, length, map, codes, decimal, Option, Some, None, Result, Ok}
use Rattle.std.specs.List.{range_with_len, sum}
use Rattle.std.proofs.Math.ListN.{replicate}
use Rattle.elf_types.specs.Answers.{◌>>=◌}
use Rattle.elf_types.specs.declared.records.Class.TheVariants.{C64}
use Rattle.elf_types.specs.declared.records.Order.TheVariants.{Least}
use Rattle.elf_types.specs.declared.records.Shdr.{Shdr}
use Rattle.elf_types.specs.declared.records.Sym.{Sym}
use Rattle.elf_types.specs.declared.errors.ElfError.{ElfError}
use Rattle.elf_types.specs.declared.constants.TheConstants.{SHT_PROGBITS, SHT_SYMTAB, SHT_STRTAB, SHF_ALLOC, STB_GLOBAL, STT_OBJECT}
use Rattle.hash_model.specs.elf_xlate.declared.content.Items.TheVariants as items
use Rattle.hash_model.specs.elf_ident.Front.{zero_shdr}
use Rattle.hash_model.specs.strtab_build.Table.{table, place_of}
use Rattle.hash_model.specs.elf_object.Object.{Object, Section, new_section}
use Rattle.hash_model.specs.elf_object.Open.{created, new_ehdr}
use Rattle.hash_model.specs.elf_object.Steps.{with_ehdr, with_sections}
use Rattle.hash_model.specs.elf_object.Calls.{step}
use Rattle.hash_model.specs.elf_object.Runs.{addall}
use Rattle.hash_model.specs.elf_object.Answers.{items_at, syms_of}
use Rattle.rebuild_model.specs.Rebuilt.{made_section}
use Rattle.hash_model.specs.Listed.{find_linear_answer}

-- ---- Names

-- a letter or two, and a number
abbrev pub numbered_name : List ℕ → ℕ → List ℕ
numbered_name letters i = letters ++ decimal i

abbrev pub from_1_to : ℕ → List ℕ
from_1_to n = range_with_len 1 n

unfoldable pub generated_section_names : ℕ → List (List ℕ)
generated_section_names n =
    map (numbered_name (codes ".s")) (from_1_to n)
    ++ codes ".symtab" ∷ codes ".strtab" ∷ codes ".shstrtab" ∷ []

unfoldable pub generated_symbol_names : ℕ → List (List ℕ)
generated_symbol_names n = map (numbered_name (codes "y")) (from_1_to n)

-- ---- Sections

-- a header with a name of these; its other fields are 0
abbrev pub generated_header : ℕ → List ℕ → ℕ → Shdr
generated_header n name stype = record zero_shdr {
  name = place_of name (generated_section_names n);
  stype = stype;
  addralign = 1;
}

-- section i from 1 to n: i mod 7 + 1 bytes of the value i mod 256
unfoldable pub generated_data : ℕ → ℕ → Section
generated_data n i = made_section
    (record (generated_header n (numbered_name (codes ".s") i) SHT_PROGBITS) { flags = SHF_ALLOC })
    (items.Bytes (replicate (i % 7 + 1) (i % 256)))

abbrev pub zero_sym : Sym
zero_sym = record { name = 0; info = 0; other = 0; shndx = 0; value = 0; size = 0 }

-- symbol i: a global object in section i
unfoldable pub generated_sym : ℕ → ℕ → Sym
generated_sym n i = record {
  name = place_of (numbered_name (codes "y") i) (generated_symbol_names n);
  info = STB_GLOBAL * 16 + STT_OBJECT;
  other = 0;
  shndx = i;
  value = 3 * i;
  size = i % 7 + 1;
}

-- the symbol table, section n + 1
unfoldable pub generated_symtab : ℕ → Section
generated_symtab n = made_section
    (record (generated_header n (codes ".symtab") SHT_SYMTAB) {
      link = n + 2;
      info = 1;
      addralign = 8;
      entsize = 24;
    })
    (items.Sym (zero_sym ∷ map (generated_sym n) (from_1_to n)))

-- a table of strings: of the symbols' names, section n + 2, and of the sections' names, section
-- n + 3
unfoldable pub generated_strtab : ℕ → List ℕ → List (List ℕ) → Section
generated_strtab n name strings =
    made_section (generated_header n name SHT_STRTAB) (items.Bytes (table strings))

unfoldable pub generated_sections : ℕ → List Section
generated_sections n =
    new_section
    ∷ map (generated_data n) (from_1_to n)
    ++ generated_symtab n
    ∷ generated_strtab n (codes ".strtab") (generated_symbol_names n)
    ∷ generated_strtab n (codes ".shstrtab") (generated_section_names n)
    ∷ []

-- class 64, least byte first, ET_REL (1), EM_X86_64 (62)
unfoldable pub generated : ℕ → Object
generated n = with_ehdr
    (with_sections (created C64 Least) (generated_sections n))
    (record (new_ehdr C64 Least) { etype = 1; machine = 62; shstrndx = n + 3 })

-- with n added to the value of each symbol
unfoldable pub generated_and_shifted : ℕ → Object
generated_and_shifted n = step (addall (n + 1) 0 n) (generated n)

-- ---- The five lines, of the object that the file holds then

abbrev pub line_of : List ℕ → List ℕ → List ℕ
line_of word number = word ++ codes " " ++ number ++ codes "\n"

-- what a lookup found. In the image that was written it finds the symbol (`SelftestLaw` of
-- law_files); where somebody else changed the file since, it may find none.
abbrev pub found_text : Option ℕ → List ℕ
found_text (Some i) = decimal i
found_text None = codes "none"

unfoldable pub symbols_in : Object → ℕ → List Sym
symbols_in o n = syms_of (items_at o (n + 1) 0)

unfoldable pub five_lines : ℕ → Object → Option ℕ → List ℕ
five_lines n o found =
    line_of (codes "sections") (decimal (length o.sections))
    ++ line_of (codes "symbols") (decimal (length (symbols_in o n)))
    ++ line_of (codes "bytes") (decimal (length o.base))
    ++ line_of (codes "value sum") (decimal (sum (map (λ x. x.value) (symbols_in o n))))
    ++ line_of (codes "found") (found_text found)

-- a lookup of the last symbol's name, which is refused as a lend of the symbols is
abbrev pub last_found : ℕ → Object → Result (Option ℕ) ElfError
last_found n o = find_linear_answer o (n + 1) (numbered_name (codes "y") n)

-- the lines, or that refusal
unfoldable pub told_lines : ℕ → Object → Result (List ℕ) ElfError
told_lines n o = last_found n o >>= λ found. Ok (five_lines n o found)
