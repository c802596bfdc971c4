-- What changes in an object in which something is dirty.
use Rattle.std.proofs.Common.{◌≡◌, ℕ, true, not, ◌&&◌, ◌||◌, List, refl}
use Rattle.std.specs.List.{list_any}
use Rattle.elf_types.specs.declared.records.Part.TheVariants as part
use Rattle.elf_object.specs.Object.{Object, section_at, has_file_bytes, some_piece_marked, is_dirty}
use Rattle.elf_object.specs.Layout.{places_of, placed}
use Rattle.elf_object.specs.Changed.{front_differs, header_changed, segments_changed, table_changed, is_at_home, section_changed, is_disturbed, is_moved, torn_over, torn}

pub header_changed-dirty : (o : Object) → is_dirty o ≡ true → header_changed o ≡ (o.marked || o.header_marked || front_differs (places_of o) o part.Header)
unfolding header_changed
header_changed-dirty o dirty = rw dirty refl

pub segments_changed-dirty : (o : Object) → is_dirty o ≡ true → segments_changed o ≡ (o.marked || o.segments_marked || front_differs (places_of o) o part.Segments)
unfolding segments_changed
segments_changed-dirty o dirty = rw dirty refl

pub table_changed-dirty : (o : Object) → is_dirty o ≡ true → table_changed o ≡ (o.marked || list_any (λ s. s.marked) o.sections || front_differs (places_of o) o part.Table)
unfolding table_changed
table_changed-dirty o dirty = rw dirty refl

pub section_changed-dirty : (o : Object) (s : ℕ) → is_dirty o ≡ true → section_changed o s ≡ (has_file_bytes s (section_at o s) && (some_piece_marked (section_at o s) || not (is_at_home o s)))
unfolding section_changed
section_changed-dirty o s dirty = rw dirty refl

pub is_moved-dirty : (o : Object) (s : ℕ) → is_dirty o ≡ true → is_moved o s ≡ (section_changed o s || is_disturbed o (section_at o s).home)
unfolding is_moved
is_moved-dirty o s dirty = rw dirty refl

pub torn-dirty : (o : Object) (bytes : List ℕ) → is_dirty o ≡ true → torn o bytes ≡ torn_over (is_moved o) bytes (placed o)
unfolding torn
torn-dirty o bytes dirty = rw dirty refl
