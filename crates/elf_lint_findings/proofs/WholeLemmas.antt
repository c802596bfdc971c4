-- Sections of whole items: what tells that they are, and the order of the tests.
use Rattle.std.proofs.Common.{◌≡◌, ℕ, ◌%◌, Bool, true, false, refl, sym}
use Rattle.std.specs.Prelude.{◌&&◌, not}
use Rattle.std.proofs.lemmas.Bool.{eq-eqb}
use Rattle.std.proofs.Math.Nat.{mod-one}
use Rattle.elf_types.specs.declared.records.Class.{Class}
use Rattle.elf_types.specs.declared.records.Kind.TheVariants as kinds
use Rattle.tool_objects.specs.elf_xlate.Translation.{is_whole}

-- single bytes are whole items, however many they are
pub whole_bytes : (class : Class) (len : ℕ) → true ≡ is_whole kinds.Bytes class len
whole_bytes class len = sym (eq-eqb (len % 1) 0 (mod-one len))

-- the two tests of a ragged section may come in any order
pub ragged_first : (out whole : Bool) → (not whole && not out) ≡ (not out && not whole)
ragged_first true true = refl
ragged_first true false = refl
ragged_first false true = refl
ragged_first false false = refl

-- a section is neither out of the file nor ragged exactly where it is in the file and has whole items
pub intact_is : (out whole : Bool) → (not out && whole) ≡ (not out && not (not out && not whole))
intact_is true true = refl
intact_is true false = refl
intact_is false true = refl
intact_is false false = refl

-- nor does the order of any two
pub either_first : (a b : Bool) → (a && b) ≡ (b && a)
either_first true true = refl
either_first true false = refl
either_first false true = refl
either_first false false = refl
