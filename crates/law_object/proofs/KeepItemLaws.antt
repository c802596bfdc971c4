-- Each step on items keeps what makes an object (`IsObject`).
use Rattle.std.proofs.Common.{◌≡◌, ℕ, Bool, true, length, set, sym, subst, arith}
use Rattle.elf_types.specs.declared.records.Class.{Class}
use Rattle.elf_types.specs.declared.records.Ehdr.{Ehdr}
use Rattle.elf_types.specs.declared.records.Phdr.{Phdr}
use Rattle.elf_types.specs.declared.records.Shdr.{Shdr}
use Rattle.elf_types.specs.declared.records.Sym.{Sym}
use Rattle.elf_types.specs.declared.records.Rel.{Rel}
use Rattle.elf_types.specs.declared.records.Rela.{Rela}
use Rattle.elf_types.specs.declared.records.Dyn.{Dyn}
use Rattle.elf_types.specs.declared.records.Kind.{Kind}
use Rattle.elf_types.specs.declared.records.Kind.TheVariants as kinds
use Rattle.elf_object.specs.elf_xlate.declared.content.Items.{Items}
use Rattle.elf_object.specs.elf_xlate.declared.content.Items.TheVariants as items
use Rattle.elf_object.specs.elf_xlate.Fields.{fits}
use Rattle.elf_object.specs.elf_xlate.Headers.{IsEhdr, IsShdr}
use Rattle.elf_object.specs.elf_xlate.Items.{sym_fits, rel_fits, rela_fits, dyn_fits}
use Rattle.elf_object.specs.elf_xlate.Translation.{items_count}
use Rattle.elf_object.specs.Runs.{addall, set_ehdr, set_phdr, set_shdr, set_item, added, or_same}
use Rattle.elf_object.specs.Object.{Object, header_of}
use Rattle.elf_object.specs.Steps.{with_own}
use Rattle.elf_object.specs.Calls.{Call, step, ehdr, phdr, shdr, update_ehdr, update_phdr, update_shdr, update_item, update_item_refusal, update_half, update_word, update_addr, update_sym, update_rel, update_rela, update_dynent}
use Rattle.elf_object.specs.Answers.{kind_at, halves_of, words_of, addrs_of, syms_of, rels_of, relas_of, dyns_of, lend_refusal, items_at}
use Rattle.elf_object.specs.Valid.{IsObject, KeepsObject}
use Rattle.elf_object.proofs.PassedLaws.{answered_keeps, looked_keeps}
use Rattle.elf_object.proofs.AnswerLaws.{shdr_value}
use Rattle.law_object.proofs.KeepLaws.{counted_is, section_at_is, with_own_is, update_ehdr_keeps, update_phdr_keeps, update_shdr_keeps}

-- ---- Items

update_item_keeps : (kind : Kind) (s p i : ℕ) (fitting : Class → Bool) (stored : Items → Items) → KeepsObject (update_item kind s p i fitting stored)
unfolding step
update_item_keeps kind s p i fitting stored o ok =
    answered_keeps IsObject (update_item_refusal o kind s p i (fitting o.header.class)) tt o (with_own o s p (stored (items_at o s p))) ok
    (λ passed. with_own_is o s p (stored (items_at o s p)) ok)

pub update_half_keeps : (s p i v : ℕ) → KeepsObject (update_half s p i v)
update_half_keeps s p i v = update_item_keeps kinds.Half s p i (λ c. true) (λ l. items.Half (set (halves_of l) i v))

pub update_word_keeps : (s p i v : ℕ) → KeepsObject (update_word s p i v)
update_word_keeps s p i v = update_item_keeps kinds.Word s p i (λ c. true) (λ l. items.Word (set (words_of l) i v))

pub update_addr_keeps : (s p i v : ℕ) → KeepsObject (update_addr s p i v)
update_addr_keeps s p i v = update_item_keeps kinds.Addr s p i (λ c. fits c v) (λ l. items.Addr (set (addrs_of l) i v))

pub update_sym_keeps : (s p i : ℕ) (v : Sym) → KeepsObject (update_sym s p i v)
update_sym_keeps s p i v = update_item_keeps kinds.Sym s p i (λ c. sym_fits c v) (λ l. items.Sym (set (syms_of l) i v))

pub update_rel_keeps : (s p i : ℕ) (v : Rel) → KeepsObject (update_rel s p i v)
update_rel_keeps s p i v = update_item_keeps kinds.Rel s p i (λ c. rel_fits c v) (λ l. items.Rel (set (rels_of l) i v))

pub update_rela_keeps : (s p i : ℕ) (v : Rela) → KeepsObject (update_rela s p i v)
update_rela_keeps s p i v = update_item_keeps kinds.Rela s p i (λ c. rela_fits c v) (λ l. items.Rela (set (relas_of l) i v))

pub update_dynent_keeps : (s p i : ℕ) (v : Dyn) → KeepsObject (update_dynent s p i v)
update_dynent_keeps s p i v = update_item_keeps kinds.Dyn s p i (λ c. dyn_fits c v) (λ l. items.Dyn (set (dyns_of l) i v))

-- ---- A number added to each item

or_same_is : (kind : Kind) (old stepped : Object) → IsObject old → IsObject stepped → IsObject (or_same kind old stepped)
or_same_is kinds.Empty old stepped a b = a
or_same_is _ old stepped a b = b

pub addall_keeps : (s p n : ℕ) → KeepsObject (addall s p n)
unfolding step
addall_keeps s p n o ok =
    answered_keeps IsObject (lend_refusal o (kind_at o s p) s p) (items_count (items_at o s p)) o (or_same (kind_at o s p) o (with_own o s p (added n (items_at o s p)))) ok
    (λ passed. or_same_is (kind_at o s p) o (with_own o s p (added n (items_at o s p))) ok (with_own_is o s p (added n (items_at o s p)) ok))

-- ---- A look and an edit

header_of_is : (o : Object) → IsObject o → IsEhdr (header_of o)
unfolding header_of
header_of_is o ok =
    let phdrs = ok.phdr_count in
    let sections = ok.section_count in
    counted_is o.header (length o.phdrs) (length o.sections) o.header.shstrndx ok.header (omega arith) (omega arith) ok.header.shstrndx

pub set_ehdr_keeps : (change : Ehdr → Ehdr) → ((h : Ehdr) → IsEhdr h → IsEhdr (change h)) → KeepsObject (set_ehdr change)
set_ehdr_keeps change holds = looked_keeps IsObject ehdr (λ h. update_ehdr (change h)) (λ h o ok e.
    let same : header_of o ≡ h = cc in
    update_ehdr_keeps (change h) (holds h (subst IsEhdr same (header_of_is o ok))) o ok)

pub set_phdr_keeps : (i : ℕ) (change : Phdr → Phdr) → KeepsObject (set_phdr i change)
set_phdr_keeps i change = looked_keeps IsObject (phdr i) (λ p. update_phdr i (change p)) (λ p o ok e. update_phdr_keeps i (change p) o ok)

pub set_shdr_keeps : (s : ℕ) (change : Shdr → Shdr) → ((h : Shdr) → IsShdr h → IsShdr (change h)) → KeepsObject (set_shdr s change)
set_shdr_keeps s change holds = looked_keeps IsObject (shdr s) (λ h. update_shdr s (change h)) (λ h o ok e.
    let value = shdr_value o s h e in
    update_shdr_keeps s (change h) (holds h (subst IsShdr (sym value.1) (section_at_is o s ok).header)) o ok)

pub set_item_keeps : {A : Type 0} (get : Call A) (update : A → Call (Unit {0})) (change : A → A) → ((x : A) → KeepsObject (update x)) → KeepsObject (set_item get update change)
set_item_keeps get update change keeps = looked_keeps IsObject get (λ x. update (change x)) (λ x o ok e. keeps (change x) o ok)
