-- copy: an image made anew with changes, in five kinds that come one after the other (objcopy(1)
-- has the like of them).
use Rattle.std.specs.Prelude.{ℕ, Bool, true, false, not, ◌==◌, ◌&&◌, List, [], ◌∷◌, ◌++◌, length, drop, map, slice_set, slice_index_or, if◌then◌else◌, Option, Some, None, Result, Ok, Err}
use Rattle.std.specs.List.{position, enumerate_from}
use Rattle.elf_types.specs.Answers.{refused_if, first_refusal, answered, or_refused, ◌>>=◌}
use Rattle.elf_types.specs.declared.records.Shdr.{Shdr}
use Rattle.elf_types.specs.declared.errors.ElfError.{ElfError}
use Rattle.elf_types.specs.declared.constants.TheConstants.{SHT_PROGBITS}
use Rattle.hash_model.specs.elf_xlate.declared.content.Items.TheVariants as items
use Rattle.hash_model.specs.elf_ident.Front.{zero_shdr}
use Rattle.hash_model.specs.strtab_build.Table.{table, place_of}
use Rattle.hash_model.specs.elf_object.Object.{Object, Section, occupies_file}
use Rattle.hash_model.specs.elf_object.Joined.{pieces_end}
use Rattle.hash_model.specs.elf_object.Layout.{section_numbers}
use Rattle.hash_model.specs.elf_object.Steps.{with_own, new_number}
use Rattle.hash_model.specs.elf_object.Calls.{newscn, newdata, update_shdr, replace}
use Rattle.hash_model.specs.elf_object.Sections.{is_allocated, is_program, header_at, edited, in_turn}
use Rattle.hash_model.specs.elf_object.Strings.{section_name, is_name, or_empty_name}
use Rattle.rebuild_model.specs.Removed.{removed_by_name}
use Rattle.rebuild_model.specs.Arranged.{Rebuilt, arranged}
use Rattle.rebuild_model.specs.Rebuilt.{rebuilt, renews_names, table_refusal}

-- ---- The changes, each kind in the order of the words

pub record Changes : Type 0 where
  pub remove : List (List ℕ)  -- the names of sections
  pub update : List (List ℕ × List ℕ)  -- the name of a section, and its new bytes
  pub rename : List (List ℕ × List ℕ)  -- the name of a section, and its new name
  pub flags : List (List ℕ × ℕ)  -- the name of a section, and its new sh_flags
  pub add : List (List ℕ × List ℕ)  -- the name of a new section, and its bytes

pub data CopyFault : Type 0 where
  NoSection : List ℕ → CopyFault  -- no section has the name
  NoBytes : List ℕ → CopyFault  -- a section without bytes in the file gets none
  Allocated : List ℕ → CopyFault  -- what is loaded keeps its length
  Fixed : List ℕ → CopyFault  -- what is loaded stays so, and what is not too
  NoTable : CopyFault  -- there is no section for new names
  Strip : ElfError → CopyFault  -- a refusal of a step

abbrev pub or_strip : {A : Type 0} → Result A ElfError → Result A CopyFault
or_strip (Ok x) = Ok x
or_strip (Err e) = Err (Strip e)

-- ---- Names

-- the name of each section; section 0 has none
unfoldable pub names_in : Object → List (Option (List ℕ))
names_in o = None ∷ map (section_name o) (section_numbers o)

-- the first section of a name
unfoldable pub section_named : List (Option (List ℕ)) → List ℕ → Result ℕ CopyFault
section_named names name = or_refused (position (is_name name) names) (NoSection name)

-- ---- Other bytes

unfoldable pub update_fault : Object → ℕ → List ℕ → List ℕ → Option CopyFault
update_fault o s name bytes = first_refusal
    (refused_if (not (occupies_file (header_at o s))) (NoBytes name)
    ∷ refused_if
    (is_program o && is_allocated (header_at o s) && not (length bytes == pieces_end o s))
    (Allocated name)
    ∷ [])

-- the names are those of the object as it stands
unfoldable pub with_bytes : Object → List ℕ × List ℕ → Result Object CopyFault
with_bytes o change =
    section_named (names_in o) change.0 >>= λ s.
    answered (update_fault o s change.0 change.1) s >>= λ s.
    or_strip (edited (replace s 0 (items.Bytes change.1)) o)

-- ---- Other names, which are stored at the end

unfoldable pub with_name :
    List (Option (List ℕ)) → List ℕ × List ℕ → Result (List (Option (List ℕ))) CopyFault
with_name names change =
    section_named names change.0 >>= λ s. Ok (slice_set names s (Some change.1))

-- ---- Other flags

abbrev pub differ : Bool → Bool → Bool
differ true b = not b
differ false b = b

abbrev pub with_bits : ℕ → Shdr → Shdr
with_bits bits h = record h { flags = bits }

-- a program's sections stay allocated or not
abbrev pub flags_fault : Object → ℕ → List ℕ → ℕ → Option CopyFault
flags_fault o s name bits = refused_if
    (is_program o
    && differ (is_allocated (header_at o s)) (is_allocated (with_bits bits (header_at o s))))
    (Fixed name)

unfoldable pub with_section_flags :
    List (Option (List ℕ)) → Object → List ℕ × ℕ → Result Object CopyFault
with_section_flags names o change =
    section_named names change.0 >>= λ s.
    answered (flags_fault o s change.0 change.1) s >>= λ s.
    or_strip (edited (update_shdr s (with_bits change.1 (header_at o s))) o)

-- ---- New sections

abbrev pub added_header : Shdr
added_header = record zero_shdr { stype = SHT_PROGBITS; addralign = 1 }

unfoldable pub with_added : Object → List ℕ × List ℕ → Result Object CopyFault
with_added o change =
    let s = new_number o in
    or_strip
    (edited newscn o >>= λ p.
    edited (update_shdr s added_header) p >>= λ q.
    edited (newdata s (items.Bytes change.1)) q)

-- ---- The table of the names, written anew

-- a section's header with the place of its name; it is marked, as gelf_update_shdr marks it
abbrev pub named_section : List (List ℕ) → ℕ → Section → Section
named_section names s c =
    let name = slice_index_or ([] ∷ names) s [] in
    if s == 0 then c
    else (record c { header = record c.header { name = place_of name names }; marked = true })

-- each section's name in the table, and the table in the section of the names
unfoldable pub with_names : Object → List (List ℕ) → Object
with_names o names = with_own
    (record o {
      sections =
          map (λ row. named_section names row.0 row.1) (enumerate_from 0 o.sections);
    })
    o.header.shstrndx
    0
    (items.Bytes (table names))

unfoldable pub named : Bool → Object → List (Option (List ℕ)) → Result Object CopyFault
named renewed o names =
    let texts = map or_empty_name (drop 1 names) in
    answered (first_refusal (refused_if (not renewed) NoTable ∷ [])) o >>= λ o.
    or_strip (answered (table_refusal texts) (with_names o texts))

-- ---- All changes

abbrev pub changes_names : Changes → Bool
changes_names c = not (length c.rename == 0 && length c.add == 0)

-- the changes of an object that was made anew
unfoldable pub with_changes : Changes → Bool → Object → Result Object CopyFault
with_changes c renewed o =
    in_turn with_bytes o c.update >>= λ updated.
    in_turn with_name (names_in updated) c.rename >>= λ names.
    in_turn (with_section_flags names) updated c.flags >>= λ flagged.
    in_turn with_added flagged c.add >>= λ added.
    if changes_names c
    then named renewed added (names ++ map (λ change. Some change.0) c.add)
    else Ok added

-- what copy makes of an object
unfoldable pub copied : Changes → Object → Result Rebuilt CopyFault
copied c o =
    let removed = removed_by_name c.remove o in
    or_strip (rebuilt o removed) >>= λ r.
    with_changes c (renews_names o removed) r.object >>= λ changed.
    or_strip (arranged (record r { object = changed }))
