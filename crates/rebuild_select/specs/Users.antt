-- Steps 3 and 5 as they are looked at: by the sections to which others link.
use Rattle.std.specs.Prelude.{◌≡◌, ℕ, Bool, true, not, ◌==◌, ◌&&◌, ◌||◌, List}
use Rattle.elf_types.specs.declared.constants.TheConstants.{SHT_SYMTAB, SHT_STRTAB, SHT_GROUP}
use Rattle.rebuild_model.specs.elf_object.Object.{Object}
use Rattle.rebuild_model.specs.elf_object.Sections.{is_allocated, is_relocations, header_at, is_among}
use Rattle.rebuild_select.specs.Steps.{linked_by}

-- ---- Step 3

-- relocations or a group that is left
unfoldable pub needs_some : Object → List ℕ → ℕ → Bool
needs_some o removed s =
    (is_relocations (header_at o s) || (header_at o s).stype == SHT_GROUP)
    && not (is_among removed s)

-- a symbol table that is not among those that are needed
unfoldable pub is_unneeded_by : List ℕ → Object → ℕ → Bool
is_unneeded_by needed o s =
    (header_at o s).stype == SHT_SYMTAB
    && not (is_allocated (header_at o s))
    && not (is_among needed s)

-- ---- Step 5

-- the sections to which any links, and those to which one links that is left
pub record AreUsers (o : Object) (removed any left : List ℕ) : Type 0 where
  pub any_is : any ≡ linked_by o (λ s. true)
  pub left_is : left ≡ linked_by o (λ s. not (is_among removed s))

-- a string table to which some link, none of which is left
unfoldable pub is_left_by : List ℕ → List ℕ → Object → ℕ → Bool
is_left_by any left o s =
    (header_at o s).stype == SHT_STRTAB
    && not (is_allocated (header_at o s))
    && is_among any s
    && not (is_among left s)
