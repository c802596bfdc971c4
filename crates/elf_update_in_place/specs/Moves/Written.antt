-- What an update in place writes, by its places (elf_update with ELF_C_WRITE): the parts that
-- change, and the fill between parts.
use Rattle.std.specs.Prelude.{ℕ, Bool, false, List, [], ◌∷◌, ◌++◌, map}
use Rattle.elf_types.specs.declared.records.Part.{Part}
use Rattle.elf_types.specs.declared.records.Part.TheVariants as part
use Rattle.elf_layout.specs.Meeting.{ranks_by_position}
use Rattle.elf_update_to.specs.elf_object.Blocks.{Block, block_end}
use Rattle.elf_update_to.specs.elf_object.Object.{Object}
use Rattle.elf_update_to.specs.elf_object.Layout.{placed_parts}
use Rattle.elf_update_to.specs.elf_object.Image.{kept_base, image_length}
use Rattle.elf_update_to.specs.elf_object.Changed.{when, header_changed, segments_changed, section_changed, table_changed}
use Rattle.elf_update_to.specs.law_object.Writing.Plan.{fill_block, block_of_rank, rank_changed}

-- whether a part changes
unfoldable pub part_changed : Object → Part → Bool
part_changed o part.Header = header_changed o
part_changed o part.Segments = segments_changed o
part_changed o part.Table = table_changed o
part_changed o (part.Section s) = section_changed o s
part_changed o _ = false

-- the parts of the plan, each with whether it changes
unfoldable pub planned_rows : Object → List (Bool × Block)
planned_rows o =
    map
    (λ rank. (rank_changed o rank, block_of_rank o rank))
    (ranks_by_position (placed_parts o))

-- what is written from a place to an end, of parts in a line: the fill of each gap, and the parts
-- that change
abbrev pub written_between : ℕ → ℕ → ℕ → ℕ → List (Bool × Block) → List Block
written_between kept fill end from [] = fill_block kept fill from end ∷ []
written_between kept fill end from (row ∷ rows) =
    fill_block kept fill from row.1.at
    ∷ (when row.0 row.1 ++ written_between kept fill end (block_end row.1) rows)

-- all that an update in place writes, by its places
unfoldable pub written_line : Object → List Block
written_line o = written_between (kept_base o) o.fill (image_length o) 0 (planned_rows o)
