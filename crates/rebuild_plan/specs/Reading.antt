-- As what the bytes of the sections that are kept are read: of which kind their items are, and how
-- many of the bytes are read from the base (gABI chapter 4, "Sections").
use Rattle.std.specs.Prelude.{◌≡◌, ℕ, ◌==◌, ◌+◌, ◌≤◌, ◌&&◌, List, [], ◌∷◌, ◌++◌, map, sum_by, if◌then◌else◌}
use Rattle.elf_types.specs.declared.records.Kind.{Kind}
use Rattle.elf_types.specs.declared.records.Kind.TheVariants as kinds
use Rattle.law_rebuild.specs.elf_object.Object.{Object}
use Rattle.law_rebuild.specs.rebuild_model.Followed.{kept_sections, symbols_follow}
use Rattle.law_rebuild.specs.rebuild_model.Rebuilt.{renews_names, items_follow}
use Rattle.rebuild_tables.specs.rebuild_image.declared.ranges.ranges.ByteRange.{ByteRange}
use Rattle.rebuild_tables.specs.rebuild_image.Ranges.Ranges.{range_due}
use Rattle.rebuild_plan.specs.declared.contents.Contents.{Contents}

-- ---- Contents

-- the bytes of all ranges of the base
abbrev pub ranges_due : List ByteRange → ℕ
ranges_due ranges = sum_by range_due ranges

-- a section was put behind the others, which is read as items of a kind, and has at most so many
-- bytes of the base
pub record IsReadAs (kind : Kind) (due : ℕ) (old new : Contents) : Type 0 where
  pub kinds_are : new.kinds ≡ old.kinds ++ kind ∷ []
  pub within : ranges_due new.ranges ≤ ranges_due old.ranges + due

-- section 0 is read as nothing, and those with these numbers so
pub record AreReadAs (kind : ℕ → Kind) (due : ℕ → ℕ) (numbers : List ℕ) (x : Contents) : Type 0
  where
    pub kinds_are : x.kinds ≡ kinds.Empty ∷ map kind numbers
    pub within : ranges_due x.ranges ≤ sum_by due numbers

-- section 0 alone
abbrev pub IsFirstRead : Contents → Type 0
IsFirstRead x = (kind : ℕ → Kind) (due : ℕ → ℕ) → AreReadAs kind due [] x

-- so many sections, section 0 among them: nothing where there are none
pub record IsReadOf (kind : ℕ → Kind) (due : ℕ → ℕ) (numbers : List ℕ) (count : ℕ) (x : Contents)
    : Type 0 where
  pub none : count ≡ 0 → (x.kinds ≡ []) × (x.ranges ≡ [])
  pub some : (count ≡ 0 → ⊥) → AreReadAs kind due numbers x

-- ---- Of an object

-- of which kind the items of a section are without the removed ones, by its number before
unfoldable pub rebuilt_kind : Object → List ℕ → ℕ → Kind
rebuilt_kind o removed s =
    if s == 0 then kinds.Empty
    else (if renews_names o removed && s == o.header.shstrndx then kinds.Bytes
    else (if symbols_follow o s then kinds.Sym
    else (if items_follow o removed s then kinds.Word else kinds.Bytes)))

-- those of all sections that are kept, by their new numbers
unfoldable pub rebuilt_kinds : Object → List ℕ → List Kind
rebuilt_kinds o removed = map (rebuilt_kind o removed) (kept_sections o removed)
