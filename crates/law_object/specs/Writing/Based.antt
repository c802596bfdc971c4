-- What ties the base to an object in which something is dirty: what is not marked stands in the
-- base as it stood in the image that was opened or last written (elf_update, ELF_F_DIRTY).
use Rattle.std.specs.Prelude.{◌≡◌, ℕ, Bool, true, false, not, List, take, drop, All, None, Ok}
use Rattle.std.specs.List.{list_any}
use Rattle.elf_types.specs.declared.records.Class.{Class}
use Rattle.elf_types.specs.declared.records.Order.{Order}
use Rattle.elf_types.specs.declared.records.Ehdr.{Ehdr}
use Rattle.elf_types.specs.declared.records.Phdr.{Phdr}
use Rattle.elf_types.specs.declared.records.Shdr.{Shdr}
use Rattle.elf_types.specs.declared.records.Sym.{Sym}
use Rattle.elf_types.specs.declared.records.Rel.{Rel}
use Rattle.elf_types.specs.declared.records.Rela.{Rela}
use Rattle.elf_types.specs.declared.records.Dyn.{Dyn}
use Rattle.elf_types.specs.declared.records.Part.{Part}
use Rattle.elf_object.specs.elf_xlate.declared.content.Items.{Items}
use Rattle.elf_object.specs.Object.{Object, Section}
use Rattle.elf_object.specs.Open.{opened, created_over}
use Rattle.elf_object.specs.Refusal.{refusal}
use Rattle.elf_object.specs.Settled.{settle}
use Rattle.elf_object.specs.Changed.{torn}
use Rattle.elf_object.specs.Calls.{Call, step}
use Rattle.elf_object.specs.Calls as calls
use Rattle.elf_object.specs.Runs as runs
use Rattle.elf_types.specs.Lists.{AreBytes}
use Rattle.elf_object.specs.Valid.{IsObject}
use Rattle.law_object.specs.Laws.{IsTornImage}
use Rattle.law_object.specs.Writing.Lines.{HoldsBlock}
use Rattle.law_object.specs.Writing.Ready.{IsReady}

-- ---- The invariant

-- whether some piece of the section has no dirty mark
unfoldable pub some_unmarked : Section → Bool
some_unmarked c = list_any (λ p. not p.marked) c.pieces

-- where some piece of a section is not marked and its home lies in the file, the bytes of the home
-- are those of the base
abbrev pub HomeStands : List ℕ → Section → Type 0
HomeStands base c =
    some_unmarked c ≡ true → c.home.out ≡ false → take c.home.len (drop c.home.at base) ≡ c.raw

-- what is not written has its bytes in the base: the ELF header, the program header table and the
-- section header table as they were last written, where the object is not marked as a whole; and
-- each home that a piece still stands for
pub record IsBased (o : Object) : Type 0 where
  pub header : o.marked ≡ false → HoldsBlock o.base o.written_front.header
  pub segments : o.marked ≡ false → HoldsBlock o.base o.written_front.segments
  pub table : o.marked ≡ false → HoldsBlock o.base o.written_front.table
  pub homes : All (HomeStands o.base) o.sections

-- a call keeps it
abbrev pub KeepsBased : {A : Type 0} → Call A → Type 0
KeepsBased c = (o : Object) → IsBased o → IsBased (step c o)

-- ---- The laws

-- an image of bytes that is opened has it, and so does an object that is created over any base
pub record BeginningsAreBased : Type 0 where
  pub from_image : (image : List ℕ) (o : Object) → AreBytes image → opened image ≡ Ok o → IsBased o
  pub from_nothing : (class : Class) (order : Order) (base : List ℕ)
      → IsBased (created_over class order base)

-- every step keeps it
pub record EveryStepKeepsBased : Type 0 where
  pub update_ehdr : (h : Ehdr) → KeepsBased (calls.update_ehdr h)
  pub update_phdr : (i : ℕ) (p : Phdr) → KeepsBased (calls.update_phdr i p)
  pub newphdr : (n : ℕ) → KeepsBased (calls.newphdr n)
  pub phdrs_mut : (left : List Phdr) → KeepsBased (calls.phdrs_mut left)
  pub update_shdr : (s : ℕ) (h : Shdr) → KeepsBased (calls.update_shdr s h)
  pub newscn : KeepsBased calls.newscn
  pub newnull : KeepsBased calls.newnull
  pub newdata : (s : ℕ) (items : Items) (align : ℕ)
      → KeepsBased (calls.newdata_aligned s items align)
  pub set_fill : (byte : ℕ) → KeepsBased (calls.set_fill byte)
  pub replace : (s p : ℕ) (items : Items) → KeepsBased (calls.replace s p items)
  pub flag : (p : Part) (set : Bool) (bits : ℕ) → KeepsBased (calls.flag p set bits)
  pub update_null : KeepsBased calls.update_null
  pub lend : (s p : ℕ) (left : Items) → KeepsBased (calls.lend s p left)
  pub update_half : (s p i v : ℕ) → KeepsBased (calls.update_half s p i v)
  pub update_word : (s p i v : ℕ) → KeepsBased (calls.update_word s p i v)
  pub update_addr : (s p i v : ℕ) → KeepsBased (calls.update_addr s p i v)
  pub update_sym : (s p i : ℕ) (v : Sym) → KeepsBased (calls.update_sym s p i v)
  pub update_rel : (s p i : ℕ) (v : Rel) → KeepsBased (calls.update_rel s p i v)
  pub update_rela : (s p i : ℕ) (v : Rela) → KeepsBased (calls.update_rela s p i v)
  pub update_dynent : (s p i : ℕ) (v : Dyn) → KeepsBased (calls.update_dynent s p i v)
  pub addall : (s p n : ℕ) → KeepsBased (runs.addall s p n)
  pub set_ehdr : (change : Ehdr → Ehdr) → KeepsBased (runs.set_ehdr change)
  pub set_phdr : (i : ℕ) (change : Phdr → Phdr) → KeepsBased (runs.set_phdr i change)
  pub set_shdr : (s : ℕ) (change : Shdr → Shdr) → KeepsBased (runs.set_shdr s change)
  pub set_half : (s p i : ℕ) (change : ℕ → ℕ)
      → KeepsBased (runs.set_item (calls.half s p i) (calls.update_half s p i) change)
  pub set_word : (s p i : ℕ) (change : ℕ → ℕ)
      → KeepsBased (runs.set_item (calls.word s p i) (calls.update_word s p i) change)
  pub set_addr : (s p i : ℕ) (change : ℕ → ℕ)
      → KeepsBased (runs.set_item (calls.addr s p i) (calls.update_addr s p i) change)
  pub set_sym : (s p i : ℕ) (change : Sym → Sym)
      → KeepsBased (runs.set_item (calls.sym s p i) (calls.update_sym s p i) change)
  pub set_rel : (s p i : ℕ) (change : Rel → Rel)
      → KeepsBased (runs.set_item (calls.rel s p i) (calls.update_rel s p i) change)
  pub set_rela : (s p i : ℕ) (change : Rela → Rela)
      → KeepsBased (runs.set_item (calls.rela s p i) (calls.update_rela s p i) change)
  pub set_dynent : (s p i : ℕ) (change : Dyn → Dyn)
      → KeepsBased (runs.set_item (calls.dynent s p i) (calls.update_dynent s p i) change)

-- where it is not refused, an update in place leaves it, and so does one that failed
pub record UpdatesKeepBased (o : Object) : Type 0 where
  pub settled : IsObject o → IsBased o → refusal o ≡ None → IsBased (settle o)
  pub torn : (bytes : List ℕ) → IsReady o → IsBased o → IsTornImage o bytes → IsBased (torn o bytes)
