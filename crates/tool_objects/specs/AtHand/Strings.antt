-- The strings of a section that is one table of them, by its bytes (gABI chapter 4, "String
-- Table").
use Rattle.std.specs.Prelude.{◌≡◌, ℕ, nat_le, nat_lt, Bool, List, drop, false, Option, Some, None, is_some, IsTrue}
use Rattle.elf_types.specs.declared.constants.TheConstants.{SHT_STRTAB}
use Rattle.elf_types.specs.declared.records.Kind.TheVariants as kinds
use Rattle.gelf_view.specs.elf_object.Object.{Object, section_at}
use Rattle.gelf_view.specs.elf_object.Answers.{no_section, piece_count, kind_at}
use Rattle.gelf_view.specs.elf_object.Strings.{string_answer, readable}
use Rattle.gelf_view.specs.elf_descriptor.State.{State}
use Rattle.gelf_view.specs.Records.{string_front}

-- ---- One table

-- a section of strings that is in the file and has one piece, which holds bytes
pub record IsOneTable (o : Object) (s : ℕ) : Type 0 where
  pub there : no_section o s ≡ None
  pub of_strings : (section_at o s).header.stype ≡ SHT_STRTAB
  pub inside : (section_at o s).home.out ≡ false
  pub alone : piece_count o s ≡ 1
  pub of_bytes : kind_at o s 0 ≡ kinds.Bytes

-- the strings of a section are those that begin in the bytes, where the source tells its bytes
abbrev pub HoldsStrings : {S : Type 0} → State S → ℕ → List ℕ → Type 0
HoldsStrings state s bytes = IsTrue state.told → (offset : ℕ)
    → readable (string_answer state.o s offset) ≡ string_front (drop offset bytes)

-- ---- Where strings end

-- a string of a section can be read exactly where it begins before an end
pub record EndsAt (o : Object) (s end : ℕ) : Type 0 where
  pub reads : (offset : ℕ) → is_some (readable (string_answer o s offset)) ≡ nat_lt offset end

-- a place is at an end or behind it, where that is known
abbrev pub is_past : Option ℕ → ℕ → Bool
is_past None at = false
is_past (Some end) at = nat_le end at
