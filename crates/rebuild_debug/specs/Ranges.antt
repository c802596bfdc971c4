-- Where the bytes of a section of the debug half are: in the home of the section, which is a range
-- of the base (gABI chapter 4, "Section Header", sh_offset and sh_size).
use Rattle.std.specs.Prelude.{◌≡◌, ◌≤◌, ℕ, List, None, Result, IfOk, IfErr, OnOk}
use Rattle.elf_types.specs.declared.errors.ElfError.{ElfError}
use Rattle.rebuild_model.specs.Split.{debug_raw_refusal}
use Rattle.rebuild_object.specs.elf_descriptor.State.{State}
use Rattle.rebuild_object.specs.rebuild_making.Refused.{RefusedBy}
use Rattle.rebuild_object.specs.rebuild_image.declared.ranges.ranges.ByteRange.{ByteRange}
use Rattle.rebuild_object.specs.rebuild_image.Ranges.Ranges.{range_due}
use Rattle.rebuild_object.specs.rebuild_plan.Ranges.{IsRangeOf}
use Rattle.rebuild_debug.specs.Half.{debug_half_bytes, half_range_due}

-- a step finds their range, whatever is held, or refuses the section
pub record FindsHalf {S : Type 0} (s : State S) (n : ℕ) (result : Result ByteRange ElfError)
    : Type 0 where
  pub ok : IfOk result (λ range. (held : List ℕ)
      → IsRangeOf s.told s.o.base (debug_half_bytes s.o n) held held range)
  pub within : IfOk result (λ range. range_due range ≤ half_range_due s.o n)
  pub passed : OnOk result (debug_raw_refusal s.o n ≡ None)
  pub err : IfErr result (RefusedBy (debug_raw_refusal s.o n))
