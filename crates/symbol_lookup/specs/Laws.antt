-- Hash reach: in a hash section that is whole, a lookup finds what a search among all symbols
-- finds.
use Rattle.std.specs.Prelude.{◌≡◌, ℕ, List, true, None}
use Rattle.elf_types.specs.declared.records.Kind.TheVariants as kinds
use Rattle.hash_model.specs.elf_object.Object.{Object}
use Rattle.hash_model.specs.elf_object.Answers.{bytes_of, words_of, items_at, lend_refusal}
use Rattle.hash_model.specs.HashSections.{is_whole_sysv, is_whole_gnu}
use Rattle.hash_model.specs.Listed.{listed_names, find_linear_answer}
use Rattle.symbol_lookup.specs.Lookups.{link_of, find_sysv_answer, find_gnu_answer}

-- a hash section of words and the symbol table to which it links can be read, and it is whole
pub record IsWholeSysv (o : Object) (h : ℕ) : Type 0 where
  pub words : lend_refusal o kinds.Word h 0 ≡ None
  pub symbols : lend_refusal o kinds.Sym (link_of o h) 0 ≡ None
  pub whole :
      is_whole_sysv (words_of (items_at o h 0)) (listed_names o (link_of o h)) ≡ true

-- a section of bytes as GNU's hash section
pub record IsWholeGnu (o : Object) (h : ℕ) : Type 0 where
  pub bytes : lend_refusal o kinds.Bytes h 0 ≡ None
  pub symbols : lend_refusal o kinds.Sym (link_of o h) 0 ≡ None
  pub whole :
      is_whole_gnu o.header.class o.header.order (bytes_of (items_at o h 0))
      (listed_names o (link_of o h)) ≡ true

-- every name is found as among all symbols
pub record HashReach : Type 0 where
  pub sysv : (o : Object) (h : ℕ) (name : List ℕ) → IsWholeSysv o h
      → find_sysv_answer o h name ≡ find_linear_answer o (link_of o h) name
  pub gnu : (o : Object) (h : ℕ) (name : List ℕ) → IsWholeGnu o h
      → find_gnu_answer o h name ≡ find_linear_answer o (link_of o h) name
