-- The debug half of a program, whose allocated sections have no bytes, and what combines it with
-- the stripped half again (eu-strip(1) with -f, eu-unstrip(1)).
use Rattle.std.specs.Prelude.{ℕ, Bool, true, false, not, ◌==◌, ◌&&◌, nat_eq, List, [], ◌∷◌, length, map, filter, slice_get, if◌then◌else◌, Option, Some, None, Result, Ok, Err}
use Rattle.std.specs.Cmp.Lexicographic.{pointwise}
use Rattle.std.specs.List.{position}
use Rattle.std.specs.Option.{option_map}
use Rattle.elf_types.specs.Answers.{refused_if, first_refusal, answered, ◌>>=◌}
use Rattle.elf_types.specs.declared.records.Class.{Class}
use Rattle.elf_types.specs.declared.records.Class.TheVariants.{C32, C64}
use Rattle.elf_types.specs.declared.records.Order.{Order}
use Rattle.elf_types.specs.declared.records.Order.TheVariants.{Least, Greatest}
use Rattle.elf_types.specs.declared.records.Ehdr.{Ehdr}
use Rattle.elf_types.specs.declared.records.Phdr.{Phdr}
use Rattle.elf_types.specs.declared.records.Shdr.{Shdr}
use Rattle.elf_types.specs.declared.errors.ElfError.{ElfError}
use Rattle.elf_types.specs.declared.constants.TheConstants.{SHT_NOBITS}
use Rattle.hash_model.specs.elf_xlate.declared.content.Items.TheVariants as items
use Rattle.hash_model.specs.elf_object.Object.{Object, Section, section_at, new_section, occupies_file}
use Rattle.hash_model.specs.elf_object.Open.{created}
use Rattle.hash_model.specs.elf_object.Answers.{raw_refusal}
use Rattle.hash_model.specs.elf_object.Layout.{section_numbers}
use Rattle.hash_model.specs.elf_object.Due.{all_sections}
use Rattle.hash_model.specs.elf_object.Calls.{newphdr_refusal}
use Rattle.hash_model.specs.elf_object.Sections.{is_allocated, header_at, first_of}
use Rattle.rebuild_model.specs.Arranged.{Rebuilt, tail_of, over_base, arranged}
use Rattle.rebuild_model.specs.Rebuilt.{made_section, assembled, index_refusal}

-- ---- The debug half

-- the section's bytes are in the other half
unfoldable pub is_loaded_from_file : Shdr → Bool
is_loaded_from_file h = is_allocated h && occupies_file h

unfoldable pub debug_section : Object → ℕ → Section
debug_section o s =
    if s == 0 then new_section
    else (if is_loaded_from_file (header_at o s)
    then made_section (record (header_at o s) { stype = SHT_NOBITS }) (items.Bytes [])
    else made_section (header_at o s) (items.Bytes (section_at o s).raw))

abbrev pub debug_sections : Object → List Section
debug_sections o = map (debug_section o) (all_sections o)

-- all sections under their numbers, with the header and the program headers, without ELF_F_LAYOUT
unfoldable pub debug_half : Object → Object
debug_half o =
    assembled (created o.header.class o.header.order) o o.header.shstrndx (debug_sections o)

-- of a section that keeps its bytes
abbrev pub debug_raw_refusal : Object → ℕ → Option ElfError
debug_raw_refusal o s = if is_loaded_from_file (header_at o s) then None else raw_refusal o s

unfoldable pub debug_refusal : Object → Option ElfError
debug_refusal o = first_refusal
    (newphdr_refusal (length o.phdrs)
    ∷ first_refusal (map (debug_raw_refusal o) (section_numbers o))
    ∷ index_refusal o (debug_sections o) o.header.shstrndx
    ∷ [])

unfoldable pub debug_of : Object → Result Object ElfError
debug_of o = answered (debug_refusal o) (debug_half o)

-- the first removed section that is allocated: a debug half needs all of them in the other half
unfoldable pub removed_allocated : Object → List ℕ → Option ℕ
removed_allocated o removed = first_of (λ s. is_allocated (header_at o s)) removed

-- ---- Whether two files are halves of one

abbrev pub same_class : Class → Class → Bool
same_class C32 C32 = true
same_class C64 C64 = true
same_class _ _ = false

abbrev pub same_order : Order → Order → Bool
same_order Least Least = true
same_order Greatest Greatest = true
same_order _ _ = false

unfoldable pub same_header : Ehdr → Ehdr → Bool
same_header a b =
    same_class a.class b.class
    && same_order a.order b.order
    && a.osabi == b.osabi
    && a.abiversion == b.abiversion
    && a.etype == b.etype
    && a.machine == b.machine
    && a.entry == b.entry
    && a.flags == b.flags

unfoldable pub same_phdr : Phdr → Phdr → Bool
same_phdr a b =
    a.ptype == b.ptype
    && a.flags == b.flags
    && a.offset == b.offset
    && a.vaddr == b.vaddr
    && a.paddr == b.paddr
    && a.filesz == b.filesz
    && a.memsz == b.memsz
    && a.align == b.align

-- two allocated sections in one place of memory
unfoldable pub same_loaded : Shdr → Shdr → Bool
same_loaded a b =
    a.flags == b.flags
    && a.addr == b.addr
    && a.size == b.size
    && a.addralign == b.addralign
    && a.entsize == b.entsize

-- the allocated sections from 1 on
unfoldable pub allocated : Object → List ℕ
allocated o = filter (λ s. is_allocated (header_at o s)) (section_numbers o)

abbrev pub allocated_headers : Object → List Shdr
allocated_headers o = map (header_at o) (allocated o)

unfoldable pub matches : Object → Object → Bool
matches stripped debug =
    same_header stripped.header debug.header
    && pointwise same_phdr stripped.phdrs debug.phdrs
    && pointwise same_loaded (allocated_headers stripped) (allocated_headers debug)

-- ---- The two combined

pub data UnstripFault : Type 0 where
  Elf : ElfError → UnstripFault  -- a refusal on the stripped half, or on what is made
  Debug : ElfError → UnstripFault  -- a refusal on the debug half
  Mismatch : UnstripFault

-- the allocated section of the stripped half that stands at the place of one of the debug half
unfoldable pub counterpart : Object → Object → ℕ → Option ℕ
counterpart stripped debug s =
    elim (position (nat_eq s) (allocated debug)) [
      | None ↦ None
      | Some i ↦ slice_get (allocated stripped) i
    ]

-- the header of the debug half, with type and place of the stripped half
abbrev pub loaded_header : Shdr → Shdr → Shdr
loaded_header debug stripped = record debug { stype = stripped.stype; offset = stripped.offset }

unfoldable pub combined_section : Object → Object → ℕ → Section
combined_section stripped debug s =
    if s == 0 then new_section
    else (elim (counterpart stripped debug s) [
      | None ↦ made_section (header_at debug s) (items.Bytes (section_at debug s).raw)
      | Some t ↦ made_section
          (loaded_header (header_at debug s) (header_at stripped t))
          (items.Bytes (section_at stripped t).raw)
    ])

abbrev pub combined_sections : Object → Object → List Section
combined_sections stripped debug = map (combined_section stripped debug) (all_sections debug)

-- all sections of the stripped half count for the base
abbrev pub combined_tail : Object → Option ℕ
combined_tail stripped = tail_of stripped stripped.sections

unfoldable pub combined_object : Object → Object → Object
combined_object stripped debug = assembled
    (over_base stripped (combined_tail stripped))
    stripped
    debug.header.shstrndx
    (combined_sections stripped debug)

-- of a section's bytes, in the half that has them
unfoldable pub combined_raw_refusal : Object → Object → ℕ → Option UnstripFault
combined_raw_refusal stripped debug s = elim (counterpart stripped debug s) [
  | None ↦ option_map Debug (raw_refusal debug s)
  | Some t ↦ option_map Elf (raw_refusal stripped t)
]

unfoldable pub combine_fault : Object → Object → Option UnstripFault
combine_fault stripped debug = first_refusal
    (refused_if (not (matches stripped debug)) Mismatch
    ∷ option_map Elf (newphdr_refusal (length stripped.phdrs))
    ∷ first_refusal (map (combined_raw_refusal stripped debug) (section_numbers debug))
    ∷ option_map
    Debug
    (index_refusal stripped (combined_sections stripped debug) debug.header.shstrndx)
    ∷ [])

abbrev pub or_elf : {A : Type 0} → Result A ElfError → Result A UnstripFault
or_elf (Ok x) = Ok x
or_elf (Err e) = Err (Elf e)

-- what unstrip makes of the two halves
unfoldable pub unstripped : Object → Object → Result Rebuilt UnstripFault
unstripped stripped debug =
    answered
    (combine_fault stripped debug)
    (record { object = combined_object stripped debug; tail = combined_tail stripped })
    >>= λ r. or_elf (arranged r)
