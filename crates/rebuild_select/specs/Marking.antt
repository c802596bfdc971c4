-- Marks of the sections that are linked to, set one after another.
use Rattle.std.specs.Prelude.{◌≡◌, ℕ, ◌-◌, ◌<◌, Bool, true, false, List, length, slice_set, nat_lt, if◌then◌else◌}
use Rattle.std.specs.List.{range_with_len, list_any}
use Rattle.std.proofs.Math.ListN.{replicate}
use Rattle.rebuild_model.specs.elf_object.Object.{Object}
use Rattle.rebuild_select.specs.Sets.{is_marked}
use Rattle.rebuild_select.specs.Steps.{links_to}

abbrev pub no_marks : ℕ → List Bool
no_marks count = replicate count false

-- with a section marked, where there is a mark for it
unfoldable pub with_section_marked : List Bool → ℕ → List Bool
with_section_marked marks s = if nat_lt s (length marks) then slice_set marks s true else marks

-- of each section, whether one of the sections from 1 on and below a number links to it that passes
pub record AreLinked (o : Object) (passes : ℕ → Bool) (marks : List Bool) (below : ℕ) : Type 0 where
  pub long : length marks ≡ length o.sections
  pub marked : (t : ℕ) → t < length o.sections
      → is_marked marks t ≡ list_any (links_to o passes t) (range_with_len 1 (below - 1))
