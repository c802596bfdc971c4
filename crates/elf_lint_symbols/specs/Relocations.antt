-- The rule 27: the symbols of relocations (gABI chapter 4, "Relocation").
use Rattle.std.specs.Prelude.{◌≡◌, ◌<◌, ℕ, ◌==◌, ◌&&◌, nat_le, Bool, true, false, List, [], map, flat_map, length, Option, Some, None, codes, if◌then◌else◌}
use Rattle.elf_types.specs.declared.constants.TheConstants.{SHN_UNDEF, SHT_RELA}
use Rattle.elf_types.specs.declared.records.Rel.{Rel}
use Rattle.elf_types.specs.declared.records.Rela.{Rela}
use Rattle.tool_objects.specs.elf_object.Object.{Object}
use Rattle.tool_objects.specs.elf_object.Due.{all_sections}
use Rattle.tool_objects.specs.elf_object.Sections.{header_at, is_relocations}
use Rattle.elf_lint_symbols.specs.declared.by_relocation.Relocations.{Relocations}
use Rattle.elf_lint_findings.specs.Findings.{Finding, at_items}
use Rattle.elf_lint_findings.specs.Looking.{is_plain, links_to_symbols, section_symbols, rels, relas}

-- ELF32_R_SYM or ELF64_R_SYM of each relocation of a section of type SHT_RELA or SHT_REL
unfoldable pub symbol_numbers : Object → ℕ → List ℕ
symbol_numbers o s =
    if (header_at o s).stype == SHT_RELA then map (λ (x : Rela). x.sym) (relas o s)
    else map (λ (x : Rel). x.sym) (rels o s)

-- whether a rule looks at those of a section
unfoldable pub has_relocations : Object → ℕ → Bool
has_relocations o s = is_plain o s && is_relocations (header_at o s)

unfoldable pub symbol_numbers_of : Object → ℕ → List ℕ
symbol_numbers_of o s = if has_relocations o s then symbol_numbers o s else []

-- How many symbols there are for the relocations of a section: without a symbol table one, symbol
-- 0, which stands for none (STN_UNDEF); else those of the table, where they can be told. What is
-- linked to anything else has no bound.
unfoldable pub symbol_bound : Object → ℕ → Option ℕ
symbol_bound o s =
    let link = (header_at o s).link in
    if link == SHN_UNDEF then Some 1
    else (if links_to_symbols o s then Some (length (section_symbols o link)) else None)

-- there is no such symbol
abbrev pub passes_bound : Option ℕ → ℕ → Bool
passes_bound None y = false
passes_bound (Some count) y = nat_le count y

unfoldable pub is_by_no_symbol : Object → ℕ → ℕ → Bool
is_by_no_symbol o s y = passes_bound (symbol_bound o s) y

-- ---- 27: a relocation names a symbol that is not there

-- those of a section, with the rule's number and text
unfoldable pub relocations_at : ℕ → List ℕ → Object → ℕ → List Finding
relocations_at number text o s =
    at_items number text s (λ i y. is_by_no_symbol o s y) (symbol_numbers_of o s)

unfoldable pub relocations_by_no_symbol : Object → List Finding
relocations_by_no_symbol o =
    flat_map (relocations_at 27 (codes "relocation by no symbol") o) (all_sections o)

-- ---- What the code looks for once a section

-- the rule looks at its relocations, and so many symbols there are for them
pub record AreRelocations (o : Object) (r : Relocations) : Type 0 where
  pub there : r.section.0 < length o.sections
  pub looked : has_relocations o r.section.0 ≡ true
  pub bound : r.bound ≡ symbol_bound o r.section.0
