-- Words on what the program keeps: how a call is refused by it, and its marks.
use Rattle.std.specs.Prelude.{ℕ, Bool, ◌||◌, [], ◌∷◌, Option}
use Rattle.std.specs.List.{list_any}
use Rattle.elf_types.specs.declared.records.Kind.{Kind}
use Rattle.elf_types.specs.declared.errors.ElfError.{ElfError}
use Rattle.elf_types.specs.Answers.{first_refusal}
use Rattle.section_table.specs.section_data.Refused.{no_piece, home_out, items_refused, kind_refused}
use Rattle.section_table.specs.Sections.{SectionView as Scn}
use Rattle.elf_descriptor.specs.declared.body.Body.{Body}
use Rattle.elf_descriptor.specs.Views.{scn_at, no_scn}

-- there is no such section, or no such piece in it
unfoldable pub no_piece_in : Body → ℕ → ℕ → Option ElfError
no_piece_in b s p = first_refusal (no_scn b s ∷ no_piece (scn_at b s).cell p ∷ [])

-- there is no such section, or its home is out of the file
unfoldable pub no_raw_in : Body → ℕ → Option ElfError
no_raw_in b s = first_refusal (no_scn b s ∷ home_out (scn_at b s).cell ∷ [])

-- there is no such section or piece, or the clean home piece has no items
unfoldable pub no_items_in : Body → ℕ → ℕ → Option ElfError
no_items_in b s p =
    first_refusal (no_scn b s ∷ items_refused b.header.class (scn_at b s).cell p ∷ [])

-- the same of the items of a kind, where the piece holds another
unfoldable pub no_list_in : Body → Kind → ℕ → ℕ → Option ElfError
no_list_in b kind s p =
    first_refusal (no_scn b s ∷ kind_refused b.header.class (scn_at b s).cell kind p ∷ [])

-- whether a section or one of its pieces is marked
unfoldable pub is_scn_dirty : Scn → Bool
is_scn_dirty s = s.marked || list_any (λ p. p.marked) s.cell.pieces
