-- What a step leaves of an object that is made (elf_newscn, gelf_update_shdr and elf_newdata of
-- elf(3E) and gelf(3E)).
use Rattle.std.specs.Prelude.{ℕ, false, not, List, [], ◌∷◌, ◌++◌, length, Option, None, Result, Ok, Err, if◌then◌else◌}
use Rattle.elf_types.specs.declared.records.Shdr.{Shdr}
use Rattle.elf_types.specs.declared.records.Part.TheVariants as part
use Rattle.elf_types.specs.declared.errors.ElfError.{ElfError}
use Rattle.elf_types.specs.declared.errors.ElfError.TheVariants.{Unfit}
use Rattle.elf_types.specs.Answers.{refused_if, first_refusal}
use Rattle.rebuild_model.specs.elf_xlate.declared.content.Items.{Items}
use Rattle.rebuild_model.specs.elf_xlate.Headers.{shdr_fits}
use Rattle.rebuild_model.specs.elf_object.Object.{Object, Section, new_section, occupies_file}
use Rattle.rebuild_model.specs.elf_object.Steps.{with_sections}
use Rattle.rebuild_model.specs.elf_object.Calls.{newscn_refusal, newdata_refusal, unfit_items}
use Rattle.rebuild_model.specs.elf_object.Calls as calls
use Rattle.elf_update_plan.specs.elf_descriptor.State.{State}
use Rattle.elf_update_plan.specs.elf_descriptor.Edits.{with_none, stepped}

-- ---- What is left

-- with sections at the end
abbrev pub with_more : Object → List Section → Object
with_more o sections = with_sections o (o.sections ++ sections)

abbrev pub with_last : Object → Section → Object
with_last o c = with_more o (c ∷ [])

-- a section with a header and no data
abbrev pub bare_section : Shdr → Section
bare_section h = record new_section { header = h }

-- the state with an object that has more sections: of those that are added nothing is held
abbrev pub grown_to : {S : Type 0} → State S → Object → State S
grown_to s o = record s {
  o = o;
  loaded = with_none (length o.sections) s.loaded;
  held = with_none (length o.sections) s.held;
  room = with_none (length o.sections) s.room;
  ready = false;
}

-- after elf_newdata on a section that has bytes in the file; any other one gets no data
abbrev pub with_new_data : {S : Type 0} → State S → ℕ → Shdr → Items → State S
with_new_data s n h items = if occupies_file h then stepped (calls.newdata n items) s else s

-- ---- Refusals

-- a refusal without the items that it hands back
abbrev pub refusal_alone : {A B E : Type 0} → Result A (B × E) → Result A E
refusal_alone (Ok x) = Ok x
refusal_alone (Err (items, e)) = Err e

-- of elf_newdata, where it is called
unfoldable pub new_data_refusal : Object → ℕ → Shdr → Items → Option ElfError
new_data_refusal o s h items = if occupies_file h then newdata_refusal o s items 1 else None

-- a header that does not fit, as that of the section with that number
unfoldable pub unfit_header : Object → ℕ → Shdr → Option ElfError
unfit_header o s h = refused_if (not (shdr_fits o.header.class h)) (Unfit (part.Section s) 0)

-- of a section without data that is added
unfoldable pub bare_refusal : Object → Shdr → Option ElfError
bare_refusal o h =
    first_refusal (newscn_refusal o ∷ unfit_header o (length o.sections) h ∷ [])

-- of the items of the new section, where it has bytes in the file
unfoldable pub unfit_data : Object → Shdr → Items → Option ElfError
unfit_data o h items =
    if occupies_file h then unfit_items o (length o.sections) 0 items else None

-- of a section that is added with items
unfoldable pub added_refusal : Object → Shdr → Items → Option ElfError
added_refusal o h items = first_refusal (bare_refusal o h ∷ unfit_data o h items ∷ [])
