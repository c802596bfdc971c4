-- What an image that is made anew stores of a section that is taken as it is: the bytes of its home
-- in the image that was opened (gABI chapter 4, "Section Header", sh_offset and sh_size).
use Rattle.std.specs.Prelude.{◌≡◌, ℕ, true, false, [], ◌∷◌, take, drop}
use Rattle.elf_types.specs.declared.records.Class.{Class}
use Rattle.elf_types.specs.declared.records.Order.{Order}
use Rattle.elf_types.specs.declared.records.Shdr.{Shdr}
use Rattle.elf_xlate.specs.declared.content.Items.TheVariants as items
use Rattle.rebuild_model.specs.elf_object.Object.{Object, section_at, is_dirty, occupies_file}
use Rattle.rebuild_model.specs.elf_object.Valid.{IsObject, IsTied}
use Rattle.rebuild_model.specs.elf_object.Joined.{aligned_pieces}
use Rattle.rebuild_model.specs.Rebuilt.{made_section}

-- the home's bytes stand in the base, where nothing of the object is dirty
abbrev pub HomesStand : Type 0
HomesStand =
    (o : Object) (s : ℕ) → IsTied o → is_dirty o ≡ false → (section_at o s).home.out ≡ false
    → (section_at o s).raw ≡ take (section_at o s).home.len (drop (section_at o s).home.at o.base)

-- so a section that is made with its home's bytes is stored as a range of the base
abbrev pub HomesAreStored : Type 0
HomesAreStored =
    (o : Object) (s : ℕ) (class : Class) (order : Order) (h : Shdr) → IsObject o → IsTied o
    → is_dirty o ≡ false → (section_at o s).home.out ≡ false → occupies_file h ≡ true
    → aligned_pieces class order (made_section h (items.Bytes (section_at o s).raw))
    ≡ (1, take (section_at o s).home.len (drop (section_at o s).home.at o.base)) ∷ []
