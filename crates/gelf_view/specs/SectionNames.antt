-- The name of a section, as a call of the plain object (gABI chapter 4, "Section Header", sh_name).
-- Where it cannot be read there is none, so that nothing refuses it.
use Rattle.std.specs.Prelude.{ℕ, ◌==◌, ◌&&◌, not, Bool, true, false, List, [], Option, Result, Ok, if◌then◌else◌}
use Rattle.std.specs.Option.{option_copied}
use Rattle.std.specs.Borrow.{Bor}
use Rattle.elf_types.specs.declared.errors.ElfError.{ElfError}
use Rattle.elf_types.specs.declared.errors.ElfError.TheVariants.{Memory, Read, Write}
use Rattle.elf_descriptor.specs.elf_object.Words.{result_map}
use Rattle.elf_descriptor.specs.elf_object.Object.{Object, section_at}
use Rattle.elf_descriptor.specs.elf_object.Calls.{Call}
use Rattle.elf_descriptor.specs.elf_object.Strings as strings
use Rattle.gelf_view.specs.Records.{first_bytes_of}

-- the errors that a definition states
abbrev pub is_refusal : ElfError → Bool
is_refusal Memory = false
is_refusal Read = false
is_refusal Write = false
is_refusal e = true

-- a name that is a reference, as the value that stands there
abbrev pub seen_name : {A E : Type 0} → Result (Option (Bor A)) E → Result (Option A) E
seen_name answer = result_map option_copied answer

-- the string at an offset of a section, or none where elf_strptr refuses it
abbrev pub readable_string : ℕ → ℕ → Call (Option (List ℕ))
readable_string s offset = record {
  answer = λ o. Ok (strings.readable (strings.string_answer o s offset));
  after = λ o. o;
  reads = (strings.strptr s offset).reads;
  memory = (strings.strptr s offset).memory;
}

-- what the name of a section reads, and whether it may want memory
abbrev pub name_reads : ℕ → Object → List ℕ
name_reads s o =
    if o.header.shstrndx == 0 then []
    else (strings.strptr o.header.shstrndx (section_at o s).header.name).reads o

abbrev pub name_memory : ℕ → Object → List Bool → List Bool → Bool
name_memory s o loaded held =
    not (o.header.shstrndx == 0)
    && (strings.strptr o.header.shstrndx (section_at o s).header.name).memory o loaded held

abbrev pub read_section_name : ℕ → Call (Option (List ℕ))
read_section_name s = record {
  answer = λ o. Ok (strings.section_name o s);
  after = λ o. o;
  reads = name_reads s;
  memory = name_memory s;
}

-- the first bytes of a section's name, so many at most
abbrev pub section_name_front : ℕ → ℕ → Call (Option (List ℕ))
section_name_front s n = record {
  answer = λ o. Ok (first_bytes_of n (strings.section_name o s));
  after = λ o. o;
  reads = name_reads s;
  memory = name_memory s;
}

abbrev pub is_section_named : ℕ → List ℕ → Call Bool
is_section_named s name = record {
  answer = λ o. Ok (strings.is_name name (strings.section_name o s));
  after = λ o. o;
  reads = name_reads s;
  memory = name_memory s;
}
