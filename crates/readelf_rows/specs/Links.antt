-- The sections that the rows of a table name (gABI chapter 4, "Sections", sh_link): the strings of
-- symbols and of dynamic entries stand in the linked section, and the symbols of relocations too.
use Rattle.std.specs.Prelude.{◌≡◌, ℕ, List, Option}
use Rattle.tool_objects.specs.elf_object.Object.{Object, section_at}
use Rattle.tool_objects.specs.elf_object.Strings.{string_answer, readable}
use Rattle.readelf_rows.specs.declared.links.SectionLinks.{SectionLinks}

-- those of a section are its link and the link of that one
pub record AreSectionLinks (o : Object) (s : ℕ) (links : SectionLinks) : Type 0 where
  pub linked : links.linked.0 ≡ (section_at o s).header.link
  pub strings : links.strings.0 ≡ (section_at o links.linked.0).header.link

-- the string at an offset of the linked section, where it can be read
unfoldable pub linked_string : Object → ℕ → ℕ → Option (List ℕ)
linked_string o s offset = readable (string_answer o (section_at o s).header.link offset)
