-- Sections that are made, one for each of some numbers, and what may be read of an object for one.
use Rattle.std.specs.Prelude.{ℕ, List, map, Ok}
use Rattle.elf_types.specs.declared.records.Shdr.{Shdr}
use Rattle.rebuild_model.specs.elf_xlate.declared.content.Items.{Items}
use Rattle.rebuild_model.specs.elf_object.Object.{Object, Section}
use Rattle.rebuild_model.specs.elf_object.Calls.{Call, some_memory}
use Rattle.rebuild_model.specs.Rebuilt.{made_section}

-- the sections that are stated of some numbers
unfoldable pub sections_by : (ℕ → Shdr) → (ℕ → Items) → List ℕ → List Section
sections_by header items numbers = map (λ s. made_section (header s) (items s)) numbers

-- what may be read of an object's homes, by a step that leaves the object
abbrev pub reading_homes : (Object → List ℕ) → Call (Unit {0})
reading_homes reads = record {
  answer = λ o. Ok tt;
  after = λ o. o;
  reads = reads;
  memory = some_memory;
}
