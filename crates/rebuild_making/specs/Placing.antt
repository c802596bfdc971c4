-- Where sections stand behind the base of a program, found one after the other (gABI chapter 4,
-- "Section Header", sh_offset and sh_addralign).
use Rattle.std.specs.Prelude.{◌≡◌, ℕ, ◌-◌, ◌≤◌, Bool, true, false, not, ◌==◌, ◌&&◌, List, [], ◌∷◌, length, map, filter, Option, Some, None, if◌then◌else◌}
use Rattle.std.specs.List.{enumerate_from, range_with_len}
use Rattle.elf_types.specs.declared.errors.ElfError.{ElfError}
use Rattle.rebuild_model.specs.elf_layout.declared.parts.PartAt.{PartAt}
use Rattle.rebuild_model.specs.elf_layout.Layout.{place_of, end_after, in_order_from, some_above}
use Rattle.rebuild_model.specs.elf_object.Object.{Object, Section, is_null}
use Rattle.rebuild_model.specs.elf_object.Layout.{section_part}
use Rattle.rebuild_model.specs.elf_object.Steps.{with_shdr}
use Rattle.elf_update_plan.specs.elf_descriptor.State.{State}
use Rattle.rebuild_model.specs.elf_object.Sections.{is_allocated, header_at}
use Rattle.rebuild_model.specs.Arranged.{Rebuilt, section_from, placed_from, tail_refusal}

-- ---- Which sections are placed, and the ends after them

-- neither SHT_NULL nor allocated
abbrev pub is_movable : Object → ℕ → Bool
is_movable o s = not (is_null (header_at o s)) && not (is_allocated (header_at o s))

-- those of them from 1 on and below a number
unfoldable pub movable_below : Object → ℕ → List ℕ
movable_below o s = filter (is_movable o) (range_with_len 1 (s - 1))

-- the end after parts that stand one after the other, from an end on
unfoldable pub end_of_parts : ℕ → List PartAt → ℕ
end_of_parts end [] = end
end_of_parts end (p ∷ ps) = end_of_parts (end_after end p) ps

-- the end after the sections that are placed behind a tail and are below a number
unfoldable pub end_below : Object → ℕ → ℕ → ℕ
end_below o tail s = end_of_parts tail (map (section_part o) (movable_below o s))

-- the end after a section, where it is placed
unfoldable pub end_with : Object → ℕ → ℕ → ℕ
end_with o end s = if is_movable o s then end_after end (section_part o s) else end

-- ---- Limits

-- the place of a part behind an end, and the end after it, are not above a limit
abbrev pub FitsBehind : ℕ → ℕ → PartAt → Type 0
FitsBehind limit end p = (place_of end p ≤ limit) × (end_after end p ≤ limit)

-- so it is of a section, where it is placed
abbrev pub MayStand : Object → ℕ → ℕ → ℕ → Type 0
MayStand o limit end s = is_movable o s ≡ true → FitsBehind limit end (section_part o s)

-- the sections below a number stand behind a tail, none above a limit, and end there
pub record StandsBelow (o : Object) (tail limit end s : ℕ) : Type 0 where
  pub end_is : end ≡ end_below o tail s
  pub fits : some_above limit (in_order_from tail (map (section_part o) (movable_below o s)))
      ≡ false

-- ---- Places that are stored

-- with the place of a section behind an end, where it is placed
unfoldable pub with_place : Object → ℕ → ℕ → Object
with_place o end s =
    if is_movable o s
    then with_shdr o s (record (header_at o s) { offset = place_of end (section_part o s) })
    else o

-- the sections with their places
unfoldable pub sections_from : Object → ℕ → List Section
sections_from o tail = map (λ row. section_from o tail row.0 row.1) (enumerate_from 0 o.sections)

-- ---- The whole step

abbrev pub made_of : Object → Option ℕ → Rebuilt
made_of o tail = record { object = o; tail = tail }

-- without a tail nothing is placed
abbrev pub arranged_refusal : Object → Option ℕ → Option ElfError
arranged_refusal o None = None
arranged_refusal o (Some tail) = tail_refusal o tail

-- after the places were stored; without sections there are none
abbrev pub placed_state : {S : Type 0} → State S → ℕ → State S
placed_state s tail =
    if length s.o.sections == 0 then s
    else record s { o = placed_from s.o tail; ready = false }

abbrev pub arranged_state : {S : Type 0} → State S → Option ℕ → State S
arranged_state s None = s
arranged_state s (Some tail) = placed_state s tail
