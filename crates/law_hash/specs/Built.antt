-- What holds of a section whose data are a hash section as it is built (gABI chapter 5, "Hash
-- Table"; GNU's hash section).
use Rattle.std.specs.Prelude.{◌≡◌, ℕ, ◌<◌, ◌^◌, List, None, Ok}
use Rattle.elf_types.specs.declared.records.Kind.TheVariants as kinds
use Rattle.rebuild_model.specs.elf_object.Object.{Object}
use Rattle.rebuild_model.specs.elf_object.Answers.{bytes_of, words_of, items_at, lend_refusal}
use Rattle.rebuild_model.specs.hash_model.Listed.{find_linear_answer}
use Rattle.rebuild_model.specs.hash_model.BuiltHashes.{GnuShape, build_sysv_answer, build_gnu_answer}
use Rattle.rebuild_model.specs.Laws.{IsShape}
use Rattle.symbol_lookup.specs.Lookups.{link_of, find_sysv_answer, find_gnu_answer}

-- the words of section h are the hash section that is built for the symbol table to which it links
pub record HoldsSysv (o : Object) (h nbucket : ℕ) : Type 0 where
  pub some : 0 < nbucket
  pub few : nbucket < 2 ^ 32
  pub readable : lend_refusal o kinds.Word h 0 ≡ None
  pub built : build_sysv_answer o (link_of o h) nbucket ≡ Ok (words_of (items_at o h 0))

-- the same of its bytes and GNU's hash section
pub record HoldsGnu (o : Object) (h : ℕ) (shape : GnuShape) : Type 0 where
  pub usable : IsShape shape
  pub readable : lend_refusal o kinds.Bytes h 0 ≡ None
  pub built : build_gnu_answer o (link_of o h) shape ≡ Ok (bytes_of (items_at o h 0))

-- every name is found as among all symbols
pub record BuiltAreFound : Type 0 where
  pub sysv : (o : Object) (h nbucket : ℕ) (name : List ℕ) → HoldsSysv o h nbucket
      → find_sysv_answer o h name ≡ find_linear_answer o (link_of o h) name
  pub gnu : (o : Object) (h : ℕ) (shape : GnuShape) (name : List ℕ) → HoldsGnu o h shape
      → find_gnu_answer o h name ≡ find_linear_answer o (link_of o h) name
