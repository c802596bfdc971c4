-- Hash reach: by a hash section of an image in which elflint finds nothing by its rule, a lookup
-- finds what a search among all symbols finds.
use Rattle.std.specs.Prelude.{◌≡◌, ◌<◌, ◌==◌, ◌&&◌, not, ℕ, Bool, true, false, List, Ok}
use Rattle.std.specs.List.{list_any}
use Rattle.elf_types.specs.declared.constants.TheConstants.{SHT_HASH, SHT_GNU_HASH}
use Rattle.elf_types.specs.declared.records.Kind.TheVariants as kinds
use Rattle.elf_types.specs.declared.records.Shdr.{Shdr}
use Rattle.elf_types.specs.Kinds.{is_compressed}
use Rattle.symbol_lookup.specs.elf_object.Object.{Object}
use Rattle.symbol_lookup.specs.elf_object.Open.{opened}
use Rattle.symbol_lookup.specs.elf_object.Sections.{header_at, is_of}
use Rattle.elf_lint_findings.specs.declared.places.Place.{Place}
use Rattle.elf_lint_findings.specs.declared.places.Place.TheVariants.{Section}
use Rattle.elf_lint_findings.specs.Findings.{Finding}
use Rattle.elf_lint_findings.specs.Looking.{is_intact, is_symbol_table, linked_header}
use Rattle.elf_lint.specs.Rules.{findings}
use Rattle.symbol_lookup.specs.Lookups.{find_linear, find_sysv, find_gnu}

-- ---- No finding at a section

abbrev pub is_section : ℕ → Place → Bool
is_section s (Section t) = t == s
is_section s _ = false

-- a finding of the rule of that number at a section
abbrev pub is_at : ℕ → ℕ → Finding → Bool
is_at number s f = f.number == number && is_section s f.place

-- there is none
abbrev pub finds_nothing_at : ℕ → Object → ℕ → Bool
finds_nothing_at number o s = not (list_any (is_at number s) (findings o))

-- ---- Hash sections

-- SHT_HASH, with words as its items
abbrev pub is_hash : Shdr → Bool
is_hash h = is_of SHT_HASH kinds.Word h

-- GNU's hash section, without SHF_COMPRESSED
abbrev pub is_gnu_hash : Shdr → Bool
is_gnu_hash h = h.stype == SHT_GNU_HASH && not (is_compressed h.flags)

-- a section from 1 on whose header passes a test, which links to a symbol table with symbols as its
-- items; neither is out of the file or ragged
pub record LinksIntact (test : Shdr → Bool) (o : Object) (h : ℕ) : Type 0 where
  pub later : 0 < h
  pub passes : test (header_at o h) ≡ true
  pub intact : is_intact o h ≡ true
  pub table : is_symbol_table (linked_header o h) ≡ true
  pub linked : is_intact o (header_at o h).link ≡ true

-- ---- The law

-- where no finding of rule 31 is at a hash section of an image, or none of rule 32 at a hash
-- section of GNU, the lookup by it answers for every name what a search among all symbols of the
-- table answers to which it links
pub record FoundAsListed : Type 0 where
  pub sysv : (image : List ℕ) (o : Object) (h : ℕ) (name : List ℕ) → opened image ≡ Ok o
      → LinksIntact is_hash o h → finds_nothing_at 31 o h ≡ true
      → (find_sysv h name).answer o ≡ (find_linear (header_at o h).link name).answer o
  pub gnu : (image : List ℕ) (o : Object) (h : ℕ) (name : List ℕ) → opened image ≡ Ok o
      → LinksIntact is_gnu_hash o h → finds_nothing_at 32 o h ≡ true
      → (find_gnu h name).answer o ≡ (find_linear (header_at o h).link name).answer o
