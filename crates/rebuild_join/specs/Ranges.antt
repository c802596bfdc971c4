-- Where the bytes of a section of two halves are: in its home, which is a range of the bytes of the
-- stripped half followed by those of the debug half (gABI chapter 4, "Section Header", sh_offset
-- and sh_size).
use Rattle.std.specs.Prelude.{◌≡◌, ◌+◌, ℕ, Bool, false, List, None, Result, IsTrue, IfOk, IfErr, OnOk}
use Rattle.elf_types.specs.declared.errors.ElfError.{ElfError}
use Rattle.elf_object.specs.Answers.{raw_refusal}
use Rattle.elf_object.specs.Object.{Object, section_at, is_dirty}
use Rattle.elf_object.specs.Valid.{IsObject, IsTied}
use Rattle.rebuild_keep.specs.elf_descriptor.State.{State}
use Rattle.rebuild_keep.specs.rebuild_making.Refused.{RefusedBy}
use Rattle.rebuild_plan.specs.rebuild_image.declared.ranges.ranges.ByteRange.{ByteRange}
use Rattle.rebuild_plan.specs.Ranges.{IsRangeOf}

-- an object in which nothing is dirty, that of its base where the source tells its bytes
pub record IsUnchanged {S : Type 0} (s : State S) : Type 0 where
  pub object : IsObject s.o
  pub clean : is_dirty s.o ≡ false
  pub tied : IsTrue s.told → IsTied s.o

-- a range behind so many other bytes
abbrev pub moved_range : ℕ → ByteRange → ByteRange
moved_range n range = record { held = range.held; at = range.at + n; len = range.len }

-- a step finds the range of a section's home in a base, whatever is held, or refuses the section
pub record FindsRaw (told : Bool) (base : List ℕ) (o : Object) (n : ℕ)
    (result : Result ByteRange ElfError) : Type 0 where
  pub ok : IfOk result (λ range. (held : List ℕ)
      → IsRangeOf told base (section_at o n).raw held held range)
  pub passed : OnOk result (raw_refusal o n ≡ None)
  pub err : IfErr result (RefusedBy (raw_refusal o n))
