-- How edits change what was gathered.
use Rattle.std.specs.Prelude.{◌≡◌, ◌<◌, ◌^◌, ℕ, List, [], ◌∷◌, ◌++◌, length, slice_set, true, false}
use Rattle.elf_types.specs.declared.records.Kind.TheVariants as kinds
use Rattle.elf_types.specs.declared.records.Shdr.{Shdr}
use Rattle.elf_types.specs.Lists.{AreBytes}
use Rattle.elf_ident.specs.Front.{zero_shdr}
use Rattle.elf_object.specs.Object.{occupies_file}
use Rattle.rebuild_plan.specs.rebuild_image.declared.ranges.ranges.ByteRange.{ByteRange}
use Rattle.rebuild_plan.specs.declared.arranged.Arranged.{Arranged}
use Rattle.rebuild_plan.specs.rebuild_image.Fronts.{HoldsAppended}
use Rattle.rebuild_copy.specs.Rows.{gathered_header}

-- a section has other bytes, which were put behind those that are held and are read as bytes
pub record HasOtherBytes (s : ℕ) (bytes : List ℕ) (old new : Arranged) : Type 0 where
  pub range : ByteRange
  pub holds : HoldsAppended bytes old.held new.held range
  pub header : new.listed.header ≡ old.listed.header
  pub headers : new.listed.headers ≡ old.listed.headers
  pub sizes : new.listed.sizes ≡ slice_set old.listed.sizes s range.len
  pub ranges : new.ranges ≡ slice_set old.ranges s range
  pub kinds_are : new.kinds ≡ slice_set old.kinds s kinds.Bytes
  pub tail : new.tail ≡ old.tail
  pub are : AreBytes bytes
  pub small : length bytes < 2 ^ 64

-- where it has some in the file
pub record HasBytesIf (s : ℕ) (bytes : List ℕ) (old new : Arranged) : Type 0 where
  pub some : occupies_file (gathered_header old s) ≡ true → HasOtherBytes s bytes old new
  pub none : occupies_file (gathered_header old s) ≡ false → new ≡ old

-- a section has another header
abbrev pub HasOtherHeader : ℕ → Shdr → Arranged → Arranged → Type 0
HasOtherHeader s h old new =
    new ≡ record old { listed = record old.listed { headers = slice_set old.listed.headers s h } }

-- its name is at another place
abbrev pub IsNamedAs : ℕ → ℕ → Arranged → Arranged → Type 0
IsNamedAs s place old new =
    HasOtherHeader s (record (gathered_header old s) { name = place }) old new

-- a section was put behind the others, with bytes behind those that are held
pub record IsPushedLast (count : ℕ) (h : Shdr) (bytes : List ℕ) (old new : Arranged) : Type 0
  where
    pub range : ByteRange
    pub holds : HoldsAppended bytes old.held new.held range
    pub header : new.listed.header ≡ record old.listed.header { shnum = count }
    pub headers : new.listed.headers ≡ old.listed.headers ++ h ∷ []
    pub sizes : new.listed.sizes ≡ old.listed.sizes ++ range.len ∷ []
    pub ranges : new.ranges ≡ old.ranges ++ range ∷ []
    pub kinds_are : new.kinds ≡ old.kinds ++ kinds.Bytes ∷ []
    pub tail : new.tail ≡ old.tail
    pub are : AreBytes bytes
    pub small : length bytes < 2 ^ 64

-- section 0 was, where there was none
pub record HasFirstSection (old new : Arranged) : Type 0 where
  pub none : old.listed.header.shnum ≡ 0 → IsPushedLast 1 zero_shdr [] old new
  pub some : (old.listed.header.shnum ≡ 0 → ⊥) → new ≡ old
