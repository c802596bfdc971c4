-- Every step keeps the program headers of an object in the ranges of their types (gABI chapter 5,
-- "Program Header").
use Rattle.std.specs.Prelude.{ℕ, Bool, List, All}
use Rattle.elf_types.specs.declared.records.Ehdr.{Ehdr}
use Rattle.elf_types.specs.declared.records.Phdr.{Phdr}
use Rattle.elf_types.specs.declared.records.Shdr.{Shdr}
use Rattle.elf_types.specs.declared.records.Sym.{Sym}
use Rattle.elf_types.specs.declared.records.Rel.{Rel}
use Rattle.elf_types.specs.declared.records.Rela.{Rela}
use Rattle.elf_types.specs.declared.records.Dyn.{Dyn}
use Rattle.elf_types.specs.declared.records.Part.{Part}
use Rattle.elf_xlate.specs.declared.content.Items.{Items}
use Rattle.elf_xlate.specs.Headers.{IsPhdr}
use Rattle.elf_object.specs.Object.{Object}
use Rattle.elf_object.specs.Calls.{Call, step}
use Rattle.elf_object.specs.Calls as calls
use Rattle.elf_object.specs.Runs as runs

-- each program header is in the range of its types
abbrev pub HasPhdrs : Object → Type 0
HasPhdrs o = All IsPhdr o.phdrs

-- a call keeps it
abbrev pub KeepsPhdrs : {A : Type 0} → Call A → Type 0
KeepsPhdrs c = (o : Object) → HasPhdrs o → HasPhdrs (step c o)

-- every step does; a program header that is handed in is in the ranges of its types, and so is one
-- that a change makes of one that is
pub record EveryStepKeepsPhdrs : Type 0 where
  pub update_ehdr : (h : Ehdr) → KeepsPhdrs (calls.update_ehdr h)
  pub update_phdr : (i : ℕ) (p : Phdr) → IsPhdr p → KeepsPhdrs (calls.update_phdr i p)
  pub newphdr : (n : ℕ) → KeepsPhdrs (calls.newphdr n)
  pub phdrs_mut : (left : List Phdr) → All IsPhdr left → KeepsPhdrs (calls.phdrs_mut left)
  pub update_shdr : (s : ℕ) (h : Shdr) → KeepsPhdrs (calls.update_shdr s h)
  pub newscn : KeepsPhdrs calls.newscn
  pub newnull : KeepsPhdrs calls.newnull
  pub newdata : (s : ℕ) (items : Items) (align : ℕ)
      → KeepsPhdrs (calls.newdata_aligned s items align)
  pub set_fill : (byte : ℕ) → KeepsPhdrs (calls.set_fill byte)
  pub replace : (s p : ℕ) (items : Items) → KeepsPhdrs (calls.replace s p items)
  pub flag : (p : Part) (set : Bool) (bits : ℕ) → KeepsPhdrs (calls.flag p set bits)
  pub update_null : KeepsPhdrs calls.update_null
  pub lend : (s p : ℕ) (left : Items) → KeepsPhdrs (calls.lend s p left)
  pub update_half : (s p i v : ℕ) → KeepsPhdrs (calls.update_half s p i v)
  pub update_word : (s p i v : ℕ) → KeepsPhdrs (calls.update_word s p i v)
  pub update_addr : (s p i v : ℕ) → KeepsPhdrs (calls.update_addr s p i v)
  pub update_sym : (s p i : ℕ) (v : Sym) → KeepsPhdrs (calls.update_sym s p i v)
  pub update_rel : (s p i : ℕ) (v : Rel) → KeepsPhdrs (calls.update_rel s p i v)
  pub update_rela : (s p i : ℕ) (v : Rela) → KeepsPhdrs (calls.update_rela s p i v)
  pub update_dynent : (s p i : ℕ) (v : Dyn) → KeepsPhdrs (calls.update_dynent s p i v)
  pub addall : (s p n : ℕ) → KeepsPhdrs (runs.addall s p n)
  pub set_ehdr : (change : Ehdr → Ehdr) → KeepsPhdrs (runs.set_ehdr change)
  pub set_phdr : (i : ℕ) (change : Phdr → Phdr) → ((p : Phdr) → IsPhdr p → IsPhdr (change p))
      → KeepsPhdrs (runs.set_phdr i change)
  pub set_shdr : (s : ℕ) (change : Shdr → Shdr) → KeepsPhdrs (runs.set_shdr s change)
  pub set_half : (s p i : ℕ) (change : ℕ → ℕ)
      → KeepsPhdrs (runs.set_item (calls.half s p i) (calls.update_half s p i) change)
  pub set_word : (s p i : ℕ) (change : ℕ → ℕ)
      → KeepsPhdrs (runs.set_item (calls.word s p i) (calls.update_word s p i) change)
  pub set_addr : (s p i : ℕ) (change : ℕ → ℕ)
      → KeepsPhdrs (runs.set_item (calls.addr s p i) (calls.update_addr s p i) change)
  pub set_sym : (s p i : ℕ) (change : Sym → Sym)
      → KeepsPhdrs (runs.set_item (calls.sym s p i) (calls.update_sym s p i) change)
  pub set_rel : (s p i : ℕ) (change : Rel → Rel)
      → KeepsPhdrs (runs.set_item (calls.rel s p i) (calls.update_rel s p i) change)
  pub set_rela : (s p i : ℕ) (change : Rela → Rela)
      → KeepsPhdrs (runs.set_item (calls.rela s p i) (calls.update_rela s p i) change)
  pub set_dynent : (s p i : ℕ) (change : Dyn → Dyn)
      → KeepsPhdrs (runs.set_item (calls.dynent s p i) (calls.update_dynent s p i) change)
