-- What one look at a section's header tells of what it links to.
use Rattle.std.proofs.Common.{◌≡◌, ℕ, ◌==◌, Bool, true, false, refl, ap, ◌∙◌}
use Rattle.std.specs.Prelude.{◌&&◌, not}
use Rattle.elf_types.specs.declared.constants.TheConstants.{SHN_UNDEF, SHT_DYNAMIC}
use Rattle.elf_lint_findings.specs.elf_object.Object.{Object}
use Rattle.elf_lint_findings.specs.elf_object.Sections.{header_at, is_relocations}
use Rattle.elf_lint_findings.specs.Looking.{is_looked_at, is_symbol_table, is_string_table, linked_header}
use Rattle.elf_lint_links.specs.Links.{goes_by_symbols, symbols_lack_strings, relocations_lack_symbols, hashes_lack_symbols, dynamic_lacks_strings}

never : (a : Bool) → (a && false) ≡ false
never true = refl
never false = refl

-- a test that is asked first fails
fails_first : (a b c : Bool) → b ≡ false → (a && (b && c)) ≡ false
fails_first a b c is = ap (λ (t : Bool). a && (t && c)) is ∙ never a

-- a section of none of the types has no wrong link
module _ (o : Object) (s : ℕ) where
  pub no_symbols : is_symbol_table (header_at o s) ≡ false → symbols_lack_strings o s ≡ false
  unfolding symbols_lack_strings
  no_symbols none =
      fails_first (is_looked_at o s) (is_symbol_table (header_at o s))
      (not (is_string_table (linked_header o s))) none

  pub no_relocations : is_relocations (header_at o s) ≡ false
      → relocations_lack_symbols o s ≡ false
  unfolding relocations_lack_symbols
  no_relocations none =
      fails_first (is_looked_at o s) (is_relocations (header_at o s))
      (not ((header_at o s).link == SHN_UNDEF) && not (is_symbol_table (linked_header o s))) none

  pub no_hashes : goes_by_symbols (header_at o s) ≡ false → hashes_lack_symbols o s ≡ false
  unfolding hashes_lack_symbols
  no_hashes none =
      fails_first (is_looked_at o s) (goes_by_symbols (header_at o s))
      (not (is_symbol_table (linked_header o s))) none

  pub no_dynamic : ((header_at o s).stype == SHT_DYNAMIC) ≡ false
      → dynamic_lacks_strings o s ≡ false
  unfolding dynamic_lacks_strings
  no_dynamic none =
      fails_first (is_looked_at o s) ((header_at o s).stype == SHT_DYNAMIC)
      (not (is_string_table (linked_header o s))) none
