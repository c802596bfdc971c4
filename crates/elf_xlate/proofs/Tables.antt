-- The tables cover their records, each byte by one field.
use Rattle.std.proofs.Common.{◌≡◌, ◌≤◌, ◌+◌, ◌-◌, ℕ, List, [], ◌∷◌, ◌++◌, length, true, refl, sym, ◌∙◌, arith}
use Rattle.std.proofs.lemmas.List.{length-replicate, length-append, get_or_append_left}
use Rattle.std.proofs.Math.ListN.{replicate}
use Rattle.elf_types.specs.declared.records.Class.{Class}
use Rattle.elf_types.specs.declared.records.Class.TheVariants.{C32, C64}
use Rattle.elf_types.specs.declared.records.Order.{Order}
use Rattle.elf_types.specs.declared.records.Phdr.{Phdr}
use Rattle.elf_types.specs.declared.records.Shdr.{Shdr}
use Rattle.elf_xlate.specs.Fields.{laid}
use Rattle.elf_types.specs.declared.records.Ehdr.{Ehdr}
use Rattle.elf_types.specs.declared.records.Kind.TheVariants as kinds
use Rattle.elf_types.specs.declared.records.Sym.{Sym}
use Rattle.elf_types.specs.declared.records.Rel.{Rel}
use Rattle.elf_types.specs.declared.records.Rela.{Rela}
use Rattle.elf_types.specs.declared.records.Dyn.{Dyn}
use Rattle.elf_xlate.specs.Items.{item_size, half_fields, half_bytes, word_fields, word_bytes, addr_fields, addr_bytes, sym_fields, sym_numbers, sym_bytes, rel_fields, rel_numbers, rel_bytes, rela_fields, rela_numbers, rela_bytes, dyn_fields, dyn_numbers, dyn_bytes}
use Rattle.elf_xlate.specs.Headers.{ehdr_size, ehdr_fields, ehdr_numbers, ehdr_bytes, ident, phdr_size, phdr_fields, phdr_numbers, phdr_bytes, shdr_size, shdr_fields, shdr_numbers, shdr_bytes}
use Rattle.elf_xlate.proofs.Laid.{IsTable, cover, laid_from, laid_is_record}

pub ehdr_table : (class : Class) → IsTable class (ehdr_size class) ehdr_fields
unfolding ehdr_fields
ehdr_table C32 = record { within = refl; apart = refl }
ehdr_table C64 = record { within = refl; apart = refl }

-- the fields after the identification cover all that follows it
pub ehdr_covers : (class : Class) → cover class ehdr_fields 16 (ehdr_size class - 16) ≡ true
unfolding ehdr_fields
ehdr_covers C32 = refl
ehdr_covers C64 = refl

ehdr_past_ident : (class : Class) → 16 ≤ ehdr_size class
ehdr_past_ident C32 = omega arith
ehdr_past_ident C64 = omega arith

-- the fields laid over an identification and any other bytes
pub ehdr_laid : (h : Ehdr) (pad rest : List ℕ) → length pad ≡ 7 → 16 + length rest ≡ ehdr_size h.class
    → laid h.class h.order ehdr_fields (ehdr_numbers h) (ident h.class h.order pad ++ rest) ≡ ehdr_bytes h pad
unfolding ehdr_bytes
ehdr_laid h pad rest len len_rest =
    let front : List ℕ = ident h.class h.order pad in
    let len_front : length (ident h.class h.order pad) ≡ 16 = unfold ident in omega (arith, len) in
    let room = ehdr_past_ident h.class in
    let zeros : List ℕ = replicate (ehdr_size h.class - 16) 0 in
    let len_zeros : length (replicate {A = ℕ} (ehdr_size h.class - 16) 0) ≡ ehdr_size h.class - 16 = length-replicate (ehdr_size h.class - 16) 0 in
    let whole : length (ident h.class h.order pad ++ rest) ≡ ehdr_size h.class = omega (arith, length-append front rest) in
    let blank : length (ident h.class h.order pad ++ replicate {A = ℕ} (ehdr_size h.class - 16) 0) ≡ ehdr_size h.class = omega (arith, length-append front zeros) in
    laid_from h.class h.order (ehdr_size h.class) 16 ehdr_fields (ehdr_numbers h) (front ++ rest) (front ++ zeros) whole blank room
    (unfold ehdr_fields in refl) (ehdr_table h.class).within (ehdr_covers h.class)
    (λ k low. get_or_append_left front rest 0 k (omega (arith, low)) ∙ sym (get_or_append_left front zeros 0 k (omega (arith, low))))

pub phdr_table : (class : Class) → IsTable class (phdr_size class) phdr_fields
unfolding phdr_fields
phdr_table C32 = record { within = refl; apart = refl }
phdr_table C64 = record { within = refl; apart = refl }

pub phdr_covers : (class : Class) → cover class phdr_fields 0 (phdr_size class - 0) ≡ true
unfolding phdr_fields
phdr_covers C32 = refl
phdr_covers C64 = refl

pub phdr_laid : (class : Class) (order : Order) (p : Phdr) (bytes : List ℕ) → length bytes ≡ phdr_size class
    → laid class order phdr_fields (phdr_numbers p) bytes ≡ phdr_bytes class order p
unfolding phdr_bytes
phdr_laid class order p bytes len =
    laid_is_record class order (phdr_size class) phdr_fields (phdr_numbers p) bytes len (unfold phdr_fields in refl) (phdr_table class).within (phdr_covers class)

pub shdr_table : (class : Class) → IsTable class (shdr_size class) shdr_fields
unfolding shdr_fields
shdr_table C32 = record { within = refl; apart = refl }
shdr_table C64 = record { within = refl; apart = refl }

pub shdr_covers : (class : Class) → cover class shdr_fields 0 (shdr_size class - 0) ≡ true
unfolding shdr_fields
shdr_covers C32 = refl
shdr_covers C64 = refl

pub shdr_laid : (class : Class) (order : Order) (h : Shdr) (bytes : List ℕ) → length bytes ≡ shdr_size class
    → laid class order shdr_fields (shdr_numbers h) bytes ≡ shdr_bytes class order h
unfolding shdr_bytes
shdr_laid class order h bytes len =
    laid_is_record class order (shdr_size class) shdr_fields (shdr_numbers h) bytes len (unfold shdr_fields in refl) (shdr_table class).within (shdr_covers class)

pub half_table : (class : Class) → IsTable class (item_size kinds.Half class) half_fields
unfolding half_fields
half_table C32 = record { within = refl; apart = refl }
half_table C64 = record { within = refl; apart = refl }

pub half_covers : (class : Class) → cover class half_fields 0 (item_size kinds.Half class - 0) ≡ true
unfolding half_fields
half_covers C32 = refl
half_covers C64 = refl

pub half_laid : (class : Class) (order : Order) (n : ℕ) (bytes : List ℕ) → length bytes ≡ item_size kinds.Half class
    → laid class order half_fields (n ∷ []) bytes ≡ half_bytes class order n
unfolding half_bytes
half_laid class order n bytes len =
    laid_is_record class order (item_size kinds.Half class) half_fields (n ∷ []) bytes len (unfold half_fields in refl) (half_table class).within (half_covers class)

pub word_table : (class : Class) → IsTable class (item_size kinds.Word class) word_fields
unfolding word_fields
word_table C32 = record { within = refl; apart = refl }
word_table C64 = record { within = refl; apart = refl }

pub word_covers : (class : Class) → cover class word_fields 0 (item_size kinds.Word class - 0) ≡ true
unfolding word_fields
word_covers C32 = refl
word_covers C64 = refl

pub word_laid : (class : Class) (order : Order) (n : ℕ) (bytes : List ℕ) → length bytes ≡ item_size kinds.Word class
    → laid class order word_fields (n ∷ []) bytes ≡ word_bytes class order n
unfolding word_bytes
word_laid class order n bytes len =
    laid_is_record class order (item_size kinds.Word class) word_fields (n ∷ []) bytes len (unfold word_fields in refl) (word_table class).within (word_covers class)

pub addr_table : (class : Class) → IsTable class (item_size kinds.Addr class) addr_fields
unfolding addr_fields
addr_table C32 = record { within = refl; apart = refl }
addr_table C64 = record { within = refl; apart = refl }

pub addr_covers : (class : Class) → cover class addr_fields 0 (item_size kinds.Addr class - 0) ≡ true
unfolding addr_fields
addr_covers C32 = refl
addr_covers C64 = refl

pub addr_laid : (class : Class) (order : Order) (n : ℕ) (bytes : List ℕ) → length bytes ≡ item_size kinds.Addr class
    → laid class order addr_fields (n ∷ []) bytes ≡ addr_bytes class order n
unfolding addr_bytes
addr_laid class order n bytes len =
    laid_is_record class order (item_size kinds.Addr class) addr_fields (n ∷ []) bytes len (unfold addr_fields in refl) (addr_table class).within (addr_covers class)

pub sym_table : (class : Class) → IsTable class (item_size kinds.Sym class) sym_fields
unfolding sym_fields
sym_table C32 = record { within = refl; apart = refl }
sym_table C64 = record { within = refl; apart = refl }

pub sym_covers : (class : Class) → cover class sym_fields 0 (item_size kinds.Sym class - 0) ≡ true
unfolding sym_fields
sym_covers C32 = refl
sym_covers C64 = refl

pub sym_laid : (class : Class) (order : Order) (s : Sym) (bytes : List ℕ) → length bytes ≡ item_size kinds.Sym class
    → laid class order sym_fields (sym_numbers s) bytes ≡ sym_bytes class order s
unfolding sym_bytes
sym_laid class order s bytes len =
    laid_is_record class order (item_size kinds.Sym class) sym_fields (sym_numbers s) bytes len (unfold sym_fields in refl) (sym_table class).within (sym_covers class)

pub rel_table : (class : Class) → IsTable class (item_size kinds.Rel class) rel_fields
unfolding rel_fields
rel_table C32 = record { within = refl; apart = refl }
rel_table C64 = record { within = refl; apart = refl }

pub rel_covers : (class : Class) → cover class rel_fields 0 (item_size kinds.Rel class - 0) ≡ true
unfolding rel_fields
rel_covers C32 = refl
rel_covers C64 = refl

pub rel_laid : (class : Class) (order : Order) (r : Rel) (bytes : List ℕ) → length bytes ≡ item_size kinds.Rel class
    → laid class order rel_fields (rel_numbers class r) bytes ≡ rel_bytes class order r
unfolding rel_bytes
rel_laid class order r bytes len =
    laid_is_record class order (item_size kinds.Rel class) rel_fields (rel_numbers class r) bytes len (unfold rel_fields in refl) (rel_table class).within (rel_covers class)

pub rela_table : (class : Class) → IsTable class (item_size kinds.Rela class) rela_fields
unfolding rela_fields
rela_table C32 = record { within = refl; apart = refl }
rela_table C64 = record { within = refl; apart = refl }

pub rela_covers : (class : Class) → cover class rela_fields 0 (item_size kinds.Rela class - 0) ≡ true
unfolding rela_fields
rela_covers C32 = refl
rela_covers C64 = refl

pub rela_laid : (class : Class) (order : Order) (r : Rela) (bytes : List ℕ) → length bytes ≡ item_size kinds.Rela class
    → laid class order rela_fields (rela_numbers class r) bytes ≡ rela_bytes class order r
unfolding rela_bytes
rela_laid class order r bytes len =
    laid_is_record class order (item_size kinds.Rela class) rela_fields (rela_numbers class r) bytes len (unfold rela_fields in refl) (rela_table class).within (rela_covers class)

pub dyn_table : (class : Class) → IsTable class (item_size kinds.Dyn class) dyn_fields
unfolding dyn_fields
dyn_table C32 = record { within = refl; apart = refl }
dyn_table C64 = record { within = refl; apart = refl }

pub dyn_covers : (class : Class) → cover class dyn_fields 0 (item_size kinds.Dyn class - 0) ≡ true
unfolding dyn_fields
dyn_covers C32 = refl
dyn_covers C64 = refl

pub dyn_laid : (class : Class) (order : Order) (d : Dyn) (bytes : List ℕ) → length bytes ≡ item_size kinds.Dyn class
    → laid class order dyn_fields (dyn_numbers class d) bytes ≡ dyn_bytes class order d
unfolding dyn_bytes
dyn_laid class order d bytes len =
    laid_is_record class order (item_size kinds.Dyn class) dyn_fields (dyn_numbers class d) bytes len (unfold dyn_fields in refl) (dyn_table class).within (dyn_covers class)
