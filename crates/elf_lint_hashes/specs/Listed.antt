-- The symbols that a hash section lists, one by one.
use Rattle.std.specs.Prelude.{◌≡◌, ℕ, List, length, slice_get, Option, Some, None}
use Rattle.std.specs.Option.{option_map}
use Rattle.elf_types.specs.declared.records.Kind.TheVariants as kinds
use Rattle.hash_model.specs.elf_object.Object.{Object}
use Rattle.hash_model.specs.elf_object.Answers.{lend_refusal}
use Rattle.hash_model.specs.elf_object.Sections.{header_at}
use Rattle.hash_model.specs.Listed.{listed_names}
use Rattle.hash_model.specs.Hashes.{elf_hash, gnu_hash}
use Rattle.elf_lint_hashes.specs.declared.listed.LinkedSymbolTable.{LinkedSymbolTable}
use Rattle.elf_lint_hashes.specs.declared.listed.NameHash.{NameHash}
use Rattle.elf_lint_hashes.specs.declared.listed.NameHash.TheVariants.{Sysv, Gnu}

-- the hash of a name by the kind of the section
abbrev pub hash_by : NameHash → List ℕ → ℕ
hash_by Sysv name = elf_hash name
hash_by Gnu name = gnu_hash name

abbrev pub if_there : {A : Type 0} → Option (Option A) → Option A
if_there None = None
if_there (Some x) = x

-- the hash of symbol i's name, where it is listed
unfoldable pub listed_hash : NameHash → Object → ℕ → ℕ → Option ℕ
listed_hash by o s i = option_map (hash_by by) (if_there (slice_get (listed_names o s) i))

-- a symbol table whose symbols can be told, with their number and the section of their names
pub record AreListed (o : Object) (l : LinkedSymbolTable) : Type 0 where
  pub passed : lend_refusal o kinds.Sym l.section.0 0 ≡ None
  pub count : l.count ≡ length (listed_names o l.section.0)
  pub strings : l.strings.0 ≡ (header_at o l.section.0).link
