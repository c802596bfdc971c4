-- The first pieces of a section, each of which holds bytes, and where they end (gABI chapter 4,
-- "Sections"; elf_newdata of elf(3E)).
use Rattle.std.specs.Prelude.{◌≡◌, ℕ, ◌≤◌, true, take}
use Rattle.std.specs.List.{list_all}
use Rattle.elf_types.specs.declared.records.Kind.TheVariants as kinds
use Rattle.section_table.specs.elf_object.Blocks.{stacked, last_end}
use Rattle.section_table.specs.elf_object.Object.{Object, section_at}
use Rattle.section_table.specs.elf_object.Answers.{piece_count, same_kind}
use Rattle.section_table.specs.elf_object.Joined.{aligned_pieces}
use Rattle.section_table.specs.elf_object.Strings.{kind_of_piece}

-- each of so many pieces, the first of a section, holds bytes, and the last of them ends there
pub record AreFirst (o : Object) (s count end : ℕ) : Type 0 where
  pub few : count ≤ piece_count o s
  pub bytes : list_all (λ p. same_kind (kind_of_piece (section_at o s) p) kinds.Bytes)
      (take count (section_at o s).pieces) ≡ true
  pub ends : last_end 0
      (stacked 0 (take count (aligned_pieces o.header.class o.header.order (section_at o s))))
      ≡ end
