-- A section that is removed, and whose bytes would be in neither half.
use Rattle.std.specs.Prelude.{ℕ, ◌&&◌, Bool, List}
use Rattle.elf_object.specs.Object.{Object}
use Rattle.elf_object.specs.Sections.{is_allocated, is_among, header_at}

unfoldable pub is_lost : Object → List ℕ → ℕ → Bool
is_lost o removed s = is_among removed s && is_allocated (header_at o s)
