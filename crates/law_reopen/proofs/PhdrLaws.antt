-- Each step keeps the program headers of an object in the ranges of their types: it leaves them, or
-- puts such headers in their place.
use Rattle.std.proofs.Common.{◌≡◌, ℕ, Bool, true, false, ◌&&◌, List, [], ◌∷◌, length, Some, None, Result, Ok, Err, refl, sym, ap, subst, lit<}
use Rattle.std.specs.Prelude.{All, slice_get, if◌then◌else◌, ◌==◌}
use Rattle.std.proofs.lemmas.List.Elements.{All-set, All-get_or, All-replicate}
use Rattle.std.proofs.lemmas.Option.{slice_get_within, get_or_from_slice_get}
use Rattle.elf_types.specs.declared.records.Ehdr.{Ehdr}
use Rattle.elf_types.specs.declared.records.Phdr.{Phdr}
use Rattle.elf_types.specs.declared.records.Shdr.{Shdr}
use Rattle.elf_types.specs.declared.records.Sym.{Sym}
use Rattle.elf_types.specs.declared.records.Rel.{Rel}
use Rattle.elf_types.specs.declared.records.Rela.{Rela}
use Rattle.elf_types.specs.declared.records.Dyn.{Dyn}
use Rattle.elf_types.specs.declared.records.Kind.{Kind}
use Rattle.elf_types.specs.declared.records.Kind.TheVariants as kinds
use Rattle.elf_types.specs.declared.records.Part.{Part}
use Rattle.elf_types.specs.declared.records.Part.TheVariants as part
use Rattle.elf_types.specs.declared.errors.ElfError.{ElfError}
use Rattle.elf_xlate.specs.declared.content.Items.{Items}
use Rattle.elf_xlate.specs.Headers.{IsPhdr}
use Rattle.elf_object.specs.Object.{Object, new_section, no_phdr, is_dirty}
use Rattle.elf_object.specs.Answers.{items_at, kind_at, has_dirty, has_layout}
use Rattle.elf_object.specs.Layout.{placed_by, placed}
use Rattle.elf_object.specs.Steps.{with_section, with_sections, with_piece_at, with_ehdr, with_phdrs, with_phdr, with_new_phdrs, with_shdr, with_new_section, with_null_section, with_new_piece, with_own, with_mark, with_layout, with_flags, with_fill, is_whole}
use Rattle.elf_object.specs.Calls as calls
use Rattle.elf_object.specs.Calls.{Call, step, after_answer, update_ehdr, update_phdr, update_phdr_refusal, newphdr_refusal, update_shdr, ehdr, phdr, shdr}
use Rattle.elf_object.specs.Runs as runs
use Rattle.elf_object.specs.Runs.{set_item, added, or_same}
use Rattle.elf_object.proofs.AnswerLaws.{phdr_value}
use Rattle.elf_object.proofs.PassedLaws.{edit_keeps, looked_keeps}
use Rattle.law_object.proofs.ImageLaws.{placed-dirty, placed-clean}
use Rattle.law_reopen.specs.Phdrs.{HasPhdrs, KeepsPhdrs, EveryStepKeepsPhdrs}

-- ---- Steps that leave them

abbrev LeavesPhdrs : Object → Object → Type 0
LeavesPhdrs o q = q.phdrs ≡ o.phdrs

leaving_keeps : {A : Type 0} (c : Call A) → ((o : Object) → LeavesPhdrs o (c.after o))
    → KeepsPhdrs c
unfolding step
leaving_keeps {A} c leaves o each = by_answer (c.answer o)
  where
    by_answer : (r : Result A ElfError) → HasPhdrs (after_answer r o (c.after o))
    by_answer (Ok x) = subst (λ (l : List Phdr). All IsPhdr l) (sym (leaves o)) each
    by_answer (Err e) = each

either_leaves : (test : Bool) (o a b : Object) → LeavesPhdrs o a → LeavesPhdrs o b
    → LeavesPhdrs o (if test then a else b)
either_leaves true o a b one other = one
either_leaves false o a b one other = other

ehdr_leaves : (h : Ehdr) (o : Object) → LeavesPhdrs o (with_ehdr o h)
unfolding with_ehdr
ehdr_leaves h o = refl

shdr_leaves : (s : ℕ) (h : Shdr) (o : Object) → LeavesPhdrs o (with_shdr o s h)
unfolding with_shdr with_section
shdr_leaves s h o = refl

section_leaves : (o : Object) → LeavesPhdrs o (with_new_section o)
unfolding with_new_section
section_leaves o = refl

null_leaves : (o : Object) → LeavesPhdrs o (with_null_section o)
unfolding with_null_section
null_leaves o =
    either_leaves (length o.sections == 0) o (with_sections o (new_section ∷ [])) o refl refl

piece_leaves : (s : ℕ) (l : Items) (align : ℕ) (o : Object)
    → LeavesPhdrs o (with_new_piece o s l align)
unfolding with_new_piece with_section
piece_leaves s l align o = refl

own_leaves : (o : Object) (s p : ℕ) (l : Items) → LeavesPhdrs o (with_own o s p l)
unfolding with_own with_piece_at with_section
own_leaves o s p l = refl

or_same_leaves : (o : Object) (kind : Kind) (after : Object) → LeavesPhdrs o after
    → LeavesPhdrs o (or_same kind o after)
or_same_leaves o kinds.Empty after leaves = refl
or_same_leaves o kinds.Bytes after leaves = leaves
or_same_leaves o kinds.Half after leaves = leaves
or_same_leaves o kinds.Word after leaves = leaves
or_same_leaves o kinds.Addr after leaves = leaves
or_same_leaves o kinds.Sym after leaves = leaves
or_same_leaves o kinds.Rel after leaves = leaves
or_same_leaves o kinds.Rela after leaves = leaves
or_same_leaves o kinds.Dyn after leaves = leaves

fill_leaves : (byte : ℕ) (o : Object) → LeavesPhdrs o (with_fill o byte)
unfolding with_fill
fill_leaves byte o = refl

mark_leaves : (o : Object) (p : Part) → LeavesPhdrs o (with_mark o p)
unfolding with_mark with_piece_at with_section
mark_leaves o part.Object = refl
mark_leaves o part.Table = refl
mark_leaves o part.Header = refl
mark_leaves o part.Segments = refl
mark_leaves o (part.Section s) = refl
mark_leaves o (part.Piece s p) = refl

flags_leave : (p : Part) (mark : Bool) (bits : ℕ) (o : Object)
    → LeavesPhdrs o (with_flags o p mark bits)
unfolding with_flags
flags_leave p mark bits o =
    let dirtied : Object = if mark && has_dirty bits then with_mark o p else o in
    let leaves : LeavesPhdrs o dirtied =
    either_leaves (mark && has_dirty bits) o (with_mark o p) o (mark_leaves o p) refl in
    either_leaves (is_whole p && has_layout bits) o (with_layout dirtied mark) dirtied leaves leaves

placed_leaves : (o : Object) → LeavesPhdrs o (placed o)
unfolding placed_by
placed_leaves o = by (is_dirty o) refl
  where
    by : (b : Bool) → is_dirty o ≡ b → LeavesPhdrs o (placed o)
    by true dirty = ap (λ (q : Object). q.phdrs) (placed-dirty o dirty)
    by false clean = ap (λ (q : Object). q.phdrs) (placed-clean o clean)

-- ---- Steps on headers

ehdr_keeps : (h : Ehdr) → KeepsPhdrs (calls.update_ehdr h)
ehdr_keeps h = leaving_keeps (calls.update_ehdr h) (ehdr_leaves h)

shdr_keeps : (s : ℕ) (h : Shdr) → KeepsPhdrs (calls.update_shdr s h)
shdr_keeps s h = leaving_keeps (calls.update_shdr s h) (shdr_leaves s h)

phdr_keeps : (i : ℕ) (p : Phdr) → IsPhdr p → KeepsPhdrs (calls.update_phdr i p)
unfolding with_phdr with_phdrs
phdr_keeps i p is =
    edit_keeps HasPhdrs _ (λ o. update_phdr_refusal o i p) (λ o. tt) (λ o. with_phdr o i p)
    (λ o each passed. All-set IsPhdr o.phdrs i p is each)

no_phdr_is : IsPhdr no_phdr
no_phdr_is = record {
  ptype = lit< tt;
  flags = lit< tt;
  offset = lit< tt;
  vaddr = lit< tt;
  paddr = lit< tt;
  filesz = lit< tt;
  memsz = lit< tt;
  align = lit< tt;
}

newphdr_keeps : (n : ℕ) → KeepsPhdrs (calls.newphdr n)
unfolding with_new_phdrs with_phdrs
newphdr_keeps n =
    edit_keeps HasPhdrs _ (λ o. newphdr_refusal n) (λ o. tt) (λ o. with_new_phdrs o n)
    (λ o each passed. All-replicate IsPhdr n no_phdr no_phdr_is)

lent_keeps : (left : List Phdr) → All IsPhdr left → KeepsPhdrs (calls.phdrs_mut left)
unfolding with_phdrs
lent_keeps left are =
    edit_keeps HasPhdrs _ (λ o. None) (λ o. tt) (λ o. with_phdrs o left)
    (λ o each passed. are)

-- one of them
phdr_at_is : (l : List Phdr) (i : ℕ) (p : Phdr) → All IsPhdr l → slice_get l i ≡ Some p → IsPhdr p
phdr_at_is l i p each at =
    subst IsPhdr (get_or_from_slice_get l i p no_phdr at)
    (All-get_or IsPhdr l i no_phdr (slice_get_within l i p at) each)

set_phdr_keeps : (i : ℕ) (change : Phdr → Phdr) → ((p : Phdr) → IsPhdr p → IsPhdr (change p))
    → KeepsPhdrs (runs.set_phdr i change)
set_phdr_keeps i change holds =
    looked_keeps HasPhdrs (phdr i) (λ p. update_phdr i (change p)) (λ p o each e.
    phdr_keeps i (change p) (holds p (phdr_at_is o.phdrs i p each (phdr_value o i p e))) o each)

-- ---- Steps on items

half_keeps : (s p i v : ℕ) → KeepsPhdrs (calls.update_half s p i v)
half_keeps s p i v =
    leaving_keeps (calls.update_half s p i v) (λ o. own_leaves o s p _)

word_keeps : (s p i v : ℕ) → KeepsPhdrs (calls.update_word s p i v)
word_keeps s p i v =
    leaving_keeps (calls.update_word s p i v) (λ o. own_leaves o s p _)

addr_keeps : (s p i v : ℕ) → KeepsPhdrs (calls.update_addr s p i v)
addr_keeps s p i v =
    leaving_keeps (calls.update_addr s p i v) (λ o. own_leaves o s p _)

sym_keeps : (s p i : ℕ) (v : Sym) → KeepsPhdrs (calls.update_sym s p i v)
sym_keeps s p i v =
    leaving_keeps (calls.update_sym s p i v) (λ o. own_leaves o s p _)

rel_keeps : (s p i : ℕ) (v : Rel) → KeepsPhdrs (calls.update_rel s p i v)
rel_keeps s p i v =
    leaving_keeps (calls.update_rel s p i v) (λ o. own_leaves o s p _)

rela_keeps : (s p i : ℕ) (v : Rela) → KeepsPhdrs (calls.update_rela s p i v)
rela_keeps s p i v =
    leaving_keeps (calls.update_rela s p i v) (λ o. own_leaves o s p _)

dyn_keeps : (s p i : ℕ) (v : Dyn) → KeepsPhdrs (calls.update_dynent s p i v)
dyn_keeps s p i v =
    leaving_keeps (calls.update_dynent s p i v) (λ o. own_leaves o s p _)

addall_keeps : (s p n : ℕ) → KeepsPhdrs (runs.addall s p n)
addall_keeps s p n =
    leaving_keeps (runs.addall s p n) (λ o.
    let left = added n (items_at o s p) in
    or_same_leaves o (kind_at o s p) (with_own o s p left) (own_leaves o s p left))

set_item_keeps : {A : Type 0} (get : Call A) (update : A → Call (Unit {0})) (change : A → A)
    → ((x : A) → KeepsPhdrs (update x)) → KeepsPhdrs (set_item get update change)
set_item_keeps get update change keeps =
    looked_keeps HasPhdrs get (λ x. update (change x)) (λ x o each e. keeps (change x) o each)

-- ---- The law

pub every_step_keeps_phdrs : EveryStepKeepsPhdrs
every_step_keeps_phdrs = record {
  update_ehdr = ehdr_keeps;
  update_phdr = phdr_keeps;
  newphdr = newphdr_keeps;
  phdrs_mut = lent_keeps;
  update_shdr = shdr_keeps;
  newscn = leaving_keeps calls.newscn section_leaves;
  newnull = leaving_keeps calls.newnull null_leaves;
  newdata = λ s l align.
      leaving_keeps (calls.newdata_aligned s l align) (piece_leaves s l align);
  set_fill = λ byte. leaving_keeps (calls.set_fill byte) (fill_leaves byte);
  replace = λ s p l. leaving_keeps (calls.replace s p l) (λ o. own_leaves o s p l);
  flag = λ p set bits. leaving_keeps (calls.flag p set bits) (flags_leave p set bits);
  update_null = leaving_keeps calls.update_null placed_leaves;
  lend = λ s p left. leaving_keeps (calls.lend s p left) (λ o. own_leaves o s p left);
  update_half = half_keeps;
  update_word = word_keeps;
  update_addr = addr_keeps;
  update_sym = sym_keeps;
  update_rel = rel_keeps;
  update_rela = rela_keeps;
  update_dynent = dyn_keeps;
  addall = addall_keeps;
  set_ehdr = λ change.
      looked_keeps HasPhdrs ehdr (λ h. update_ehdr (change h))
      (λ h o each e. ehdr_keeps (change h) o each);
  set_phdr = set_phdr_keeps;
  set_shdr = λ s change.
      looked_keeps HasPhdrs (shdr s) (λ h. update_shdr s (change h))
      (λ h o each e. shdr_keeps s (change h) o each);
  set_half = λ s p i change.
      set_item_keeps (calls.half s p i) (calls.update_half s p i) change (half_keeps s p i);
  set_word = λ s p i change.
      set_item_keeps (calls.word s p i) (calls.update_word s p i) change (word_keeps s p i);
  set_addr = λ s p i change.
      set_item_keeps (calls.addr s p i) (calls.update_addr s p i) change (addr_keeps s p i);
  set_sym = λ s p i change.
      set_item_keeps (calls.sym s p i) (calls.update_sym s p i) change (sym_keeps s p i);
  set_rel = λ s p i change.
      set_item_keeps (calls.rel s p i) (calls.update_rel s p i) change (rel_keeps s p i);
  set_rela = λ s p i change.
      set_item_keeps (calls.rela s p i) (calls.update_rela s p i) change (rela_keeps s p i);
  set_dynent = λ s p i change.
      set_item_keeps (calls.dynent s p i) (calls.update_dynent s p i) change (dyn_keeps s p i);
}
