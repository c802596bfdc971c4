-- What size adds up: the sizes of the sections that a process has in memory (gABI chapter 4,
-- "Sections": sh_size, sh_flags, SHT_NOBITS).
use Rattle.std.specs.Prelude.{◌≡◌, ◌+◌, ◌*◌, ◌^◌, ◌≤◌, ◌++◌, ◌==◌, ◌&&◌, ◌||◌, ℕ, List, length, map, Bool, not, sum_by, if◌then◌else◌, Result, Ok}
use Rattle.elf_types.specs.declared.records.Shdr.{Shdr}
use Rattle.elf_types.specs.declared.constants.TheConstants.{SHT_NOBITS, SHF_WRITE, SHF_EXECINSTR}
use Rattle.elf_types.specs.declared.errors.ElfError.{ElfError}
use Rattle.elf_types.specs.Answers.{◌>>=◌}
use Rattle.elf_types.specs.Kinds.{has_flag}
use Rattle.elf_object.specs.Object.{Section}
use Rattle.elf_object.specs.Open.{opened}
use Rattle.elf_object.specs.Sections.{is_allocated}
use Rattle.size_tool.specs.declared.sums.Sums.{Sums}

-- in memory, but not in the file
unfoldable pub is_bss : Shdr → Bool
is_bss h = is_allocated h && h.stype == SHT_NOBITS

-- what a process does not write, or executes
unfoldable pub is_fixed : Shdr → Bool
is_fixed h = has_flag SHF_EXECINSTR h || not (has_flag SHF_WRITE h)

-- the others are text or data
unfoldable pub is_text : Shdr → Bool
is_text h = is_allocated h && not (h.stype == SHT_NOBITS) && is_fixed h

unfoldable pub is_data : Shdr → Bool
is_data h = is_allocated h && not (h.stype == SHT_NOBITS) && not (is_fixed h)

-- a section's size, where it counts
abbrev pub size_if : Bool → ℕ → ℕ
size_if counts size = if counts then size else 0

-- those of the sections with these headers that count, added up
unfoldable pub size_of : (Shdr → Bool) → List Shdr → ℕ
size_of counts headers = sum_by (λ h. size_if (counts h) h.size) headers

-- the sums over section headers, of any size
unfoldable pub header_sums : List Shdr → Sums
header_sums headers = record {
  text = size_of is_text headers;
  «data» = size_of is_data headers;
  bss = size_of is_bss headers;
}

-- the sums over sections, by their headers
unfoldable pub sums_of : List Section → Sums
sums_of sections = header_sums (map (λ s. s.header) sections)

-- the sums of the object of an image, or the first refusal of its front
unfoldable pub sums_in : List ℕ → Result Sums ElfError
sums_in image = do
  o ← opened image
  Ok (sums_of o.sections)

-- of all three
abbrev pub total_of : Sums → ℕ
total_of sums = sums.text + sums.«data» + sums.bss

-- no sum passes so many sections of the greatest size
pub record AreWithin (count : ℕ) (sums : Sums) : Type 0 where
  pub text : sums.text ≤ count * 2 ^ 64
  pub «data» : sums.«data» ≤ count * 2 ^ 64
  pub bss : sums.bss ≤ count * 2 ^ 64

-- ---- Headers one after another

-- sums, and those of one section more
abbrev pub sums_with_section : Sums → Shdr → Sums
sums_with_section sums h = record {
  text = sums.text + size_if (is_text h) h.size;
  «data» = sums.«data» + size_if (is_data h) h.size;
  bss = sums.bss + size_if (is_bss h) h.size;
}

-- Those of more headers were added: sums over some headers are then sums over these and the others.
pub record Adds (more : List Shdr) (old new : Sums) : Type 0 where
  pub sums : (headers : List Shdr) → old ≡ header_sums headers
      → new ≡ header_sums (headers ++ more)
  pub within : (n : ℕ) → AreWithin n old → AreWithin (n + length more) new
