-- The object after an update in place: its sections are those of the image that was written.
use Rattle.std.specs.Prelude.{ℕ, Bool, false, List, [], ◌∷◌, length, map, if◌then◌else◌}
use Rattle.std.proofs.Math.ListN.{replicate}
use Rattle.std.specs.List.{enumerate_from}
use Rattle.elf_types.specs.declared.records.Shdr.{Shdr}
use Rattle.elf_object.specs.Object.{Object, Section, home_piece, is_dirty}
use Rattle.elf_object.specs.Open.{home_of}
use Rattle.elf_object.specs.Joined.{file_bytes}
use Rattle.elf_object.specs.Layout.{placed}
use Rattle.elf_object.specs.Image.{image, front_blocks}

-- a section with that header in an image of a length, and with these bytes
unfoldable pub settled_section : ℕ → List ℕ → Shdr → Section
settled_section len bytes h = record {
  header = h;
  home = home_of len h;
  raw = bytes;
  pieces = home_piece ∷ [];
  marked = false;
}

-- the object whose places are stored, over the image of it: one clean piece for each section, no
-- marks. ELF_F_LAYOUT and the fill byte stay.
unfoldable pub settled_over : List ℕ → Object → Object
settled_over bytes o = record o {
  sections = map
      (λ row. settled_section (length bytes) (file_bytes o row.0) row.1.header)
      (enumerate_from 0 o.sections);
  base = bytes;
  written_front = front_blocks o;
  marked = false;
  header_marked = false;
  segments_marked = false;
}

unfoldable pub settle : Object → Object
settle o = if is_dirty o then settled_over (image o) (placed o) else o

-- ---- Over a source that does not tell its bytes

-- as many zeros
abbrev pub blank : List ℕ → List ℕ
blank l = replicate (length l) 0

-- a section whose home's bytes are not told
abbrev pub untold_section : Section → Section
untold_section c = record c { raw = blank c.raw }

-- the object over a source that does not tell its bytes: the base and what homes hold count as
-- zeros, as many as there are
unfoldable pub untold : Object → Object
untold o = record o { base = blank o.base; sections = map untold_section o.sections }

-- what an update in place leaves: the settled object where the source tells its bytes. Else what
-- settling leaves over a source that tells nothing: the image that was written is the new base, of
-- which no byte is told.
unfoldable pub settled : Bool → Object → Object
settled told o = if told then settle o else untold (settle o)
