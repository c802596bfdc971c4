-- The entries of a table, from its bytes.
use Rattle.std.proofs.Common.{◌≡◌, ◌*◌, ◌<◌, ◌≤◌, ℕ, zero, suc, List, length, take, drop, Option, Some, None, IfSome, Result, Ok, Err, ap, subst, ◌∙◌, arith, lit<, lit≤}
use Rattle.std.specs.Prelude.{◌/◌, ◌%◌, IfOk}
use Rattle.elf_types.specs.declared.errors.ElfError.{ElfError}
use Rattle.std.proofs.Math.Nat.{mul-div_cancel, mul-mod_left}
use Rattle.elf_types.specs.declared.records.Class.{Class}
use Rattle.elf_types.specs.declared.records.Class.TheVariants.{C32, C64}
use Rattle.elf_types.specs.declared.records.Ehdr.{Ehdr}
use Rattle.elf_types.specs.declared.records.Phdr.{Phdr}
use Rattle.elf_types.specs.declared.records.Shdr.{Shdr}
use Rattle.elf_xlate.specs.Headers.{phdr_size, phdr_of, shdr_size, shdr_of}
use Rattle.elf_xlate.specs.Translation.{items_of}
use Rattle.elf_ident.specs.Front.{phdrs_at, shdrs_at}

pub phdr_size_some : (class : Class) → 0 < phdr_size class
phdr_size_some C32 = lit< tt
phdr_size_some C64 = lit< tt

pub phdr_size_most : (class : Class) → phdr_size class ≤ 56
phdr_size_most C32 = lit≤ tt
phdr_size_most C64 = lit≤ tt

pub shdr_size_some : (class : Class) → 0 < shdr_size class
shdr_size_some C32 = lit< tt
shdr_size_some C64 = lit< tt

pub shdr_size_most : (class : Class) → shdr_size class ≤ 64
shdr_size_most C32 = lit≤ tt
shdr_size_most C64 = lit≤ tt

-- a table that has bytes has entries
pub some_entries : (count size : ℕ) → 0 < count * size → 0 < count
some_entries zero size h = omega arith
some_entries (suc n) size h = omega arith

pub whole_entries : (n count size : ℕ) → n ≡ count * size → n % size ≡ 0
whole_entries n count size e = rw e (mul-mod_left count size)

pub entries_count : (n count size : ℕ) → 0 < size → n ≡ count * size → n / size ≡ count
entries_count n count size some e = rw e (mul-div_cancel count some)

-- the entries of the bytes that were read
entries_read : {X : Type 0} (holds : Option (List ℕ)) (item : List ℕ → X) (size count n at : ℕ) (bytes : List ℕ) (l : List X)
    → 0 < size → length bytes ≡ n → n ≡ count * size → l ≡ items_of item size (length bytes / size) bytes
    → IfSome holds (λ image. bytes ≡ take n (drop at image))
    → IfSome holds (λ image. l ≡ items_of item size count (take (count * size) (drop at image)))
entries_read None item size count n at bytes l some long whole is from = tt
entries_read (Some image) item size count n at bytes l some long whole is from =
    is
    ∙ ap (λ (k : ℕ). items_of item size k bytes) (entries_count (length bytes) count size some (long ∙ whole))
    ∙ ap (items_of item size count) (from ∙ ap (λ (k : ℕ). take k (drop at image)) whole)

pub phdrs_read : (holds : Option (List ℕ)) (h : Ehdr) (count n : ℕ) (bytes seen : List ℕ) (r : Result (List Phdr) ElfError)
    → seen ≡ bytes → length bytes ≡ n → n ≡ count * phdr_size h.class
    → IfOk r (λ l. l ≡ items_of (phdr_of h.class h.order) (phdr_size h.class) (length seen / phdr_size h.class) seen)
    → IfSome holds (λ image. bytes ≡ take n (drop h.phoff image)) → IfOk r (λ l. IfSome holds (λ image. l ≡ phdrs_at h count image))
unfolding phdrs_at
phdrs_read holds h count n bytes seen (Err e) same long whole is from = tt
phdrs_read holds h count n bytes seen (Ok l) same long whole is from =
    entries_read holds (phdr_of h.class h.order) (phdr_size h.class) count n h.phoff bytes l (phdr_size_some h.class) long whole
    (subst (λ (b : List ℕ). l ≡ items_of (phdr_of h.class h.order) (phdr_size h.class) (length b / phdr_size h.class) b) same is) from

pub shdrs_read : (holds : Option (List ℕ)) (h : Ehdr) (count n : ℕ) (bytes seen : List ℕ) (r : Result (List Shdr) ElfError)
    → seen ≡ bytes → length bytes ≡ n → n ≡ count * shdr_size h.class
    → IfOk r (λ l. l ≡ items_of (shdr_of h.class h.order) (shdr_size h.class) (length seen / shdr_size h.class) seen)
    → IfSome holds (λ image. bytes ≡ take n (drop h.shoff image)) → IfOk r (λ l. IfSome holds (λ image. l ≡ shdrs_at h count image))
unfolding shdrs_at
shdrs_read holds h count n bytes seen (Err e) same long whole is from = tt
shdrs_read holds h count n bytes seen (Ok l) same long whole is from =
    entries_read holds (shdr_of h.class h.order) (shdr_size h.class) count n h.shoff bytes l (shdr_size_some h.class) long whole
    (subst (λ (b : List ℕ). l ≡ items_of (shdr_of h.class h.order) (shdr_size h.class) (length b / shdr_size h.class) b) same is) from

-- what the same bytes tell
pub told_same : (P : List ℕ → Type 0) (left holds : Option (List ℕ)) → left ≡ holds → IfSome left P → IfSome holds P
told_same P left holds same h = subst (λ (o : Option (List ℕ)). IfSome o P) same h
