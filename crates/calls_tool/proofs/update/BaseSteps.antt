-- No call of a script changes the base of an object.
use Rattle.std.proofs.Common.{◌≡◌, ℕ, Bool, true, false, ◌&&◌, if◌then◌else◌, List, [], ◌∷◌, Result, Ok, Err, refl, ap, ◌∙◌}
use Rattle.elf_types.specs.declared.records.Ehdr.{Ehdr}
use Rattle.elf_types.specs.declared.records.Phdr.{Phdr}
use Rattle.elf_types.specs.declared.records.Shdr.{Shdr}
use Rattle.elf_types.specs.declared.records.Kind.{Kind}
use Rattle.elf_types.specs.declared.records.Kind.TheVariants as kinds
use Rattle.elf_types.specs.declared.records.Part.{Part}
use Rattle.elf_types.specs.declared.records.Part.TheVariants as part
use Rattle.elf_types.specs.declared.errors.ElfError.{ElfError}
use Rattle.elf_xlate.specs.declared.content.Items.{Items}
use Rattle.elf_xlate.specs.declared.content.Items.TheVariants as items
use Rattle.elf_object.specs.Object.{Object, header_of, is_dirty}
use Rattle.elf_object.specs.Answers.{items_at, kind_at, has_dirty, has_layout}
use Rattle.elf_object.specs.Layout.{places_of, placed_by, placed}
use Rattle.elf_object.specs.Steps.{with_section, with_piece_at, with_ehdr, with_phdrs, with_phdr, with_new_phdrs, with_shdr, with_new_section, with_new_piece, with_own, with_mark, with_layout, with_flags, with_fill, is_whole}
use Rattle.elf_object.specs.Calls as calls
use Rattle.elf_object.specs.Calls.{step, after_answer, phdr_answer, shdr_answer}
use Rattle.elf_object.specs.Runs.{left_by, after_look, set_item, added, or_same}
use Rattle.law_object.proofs.ImageLaws.{placed-dirty, placed-clean}
use Rattle.elf_calls_script.specs.declared.calls.Call.{Call}
use Rattle.elf_calls_script.specs.declared.calls.Call.TheVariants as call
use Rattle.elf_calls_script.specs.declared.calls.ItemSet.{ItemSet}
use Rattle.elf_calls_script.specs.declared.calls.ItemSet.TheVariants as set
use Rattle.elf_calls_apply.specs.Fields.{ehdr_with, phdr_with, shdr_with}
use Rattle.elf_calls_apply.specs.Stated.{stated_call, item_set_call}
use Rattle.calls_tool.specs.Runs.{stated_calls}

abbrev HasBase : Object → Object → Type 0
HasBase o q = q.base ≡ o.base

either_has : (test : Bool) (o a b : Object) → HasBase o a → HasBase o b
    → HasBase o (if test then a else b)
either_has true o a b one other = one
either_has false o a b one other = other

look_has : {A : Type 0} (o : Object) (r : Result A ElfError) (after : A → Object)
    → ((x : A) → HasBase o (after x)) → HasBase o (after_look r after o)
look_has o (Ok x) after has = has x
look_has o (Err e) after has = refl

or_same_has : (o : Object) (kind : Kind) (after : Object) → HasBase o after
    → HasBase o (or_same kind o after)
or_same_has o kinds.Empty after has = refl
or_same_has o kinds.Bytes after has = has
or_same_has o kinds.Half after has = has
or_same_has o kinds.Word after has = has
or_same_has o kinds.Addr after has = has
or_same_has o kinds.Sym after has = has
or_same_has o kinds.Rel after has = has
or_same_has o kinds.Rela after has = has
or_same_has o kinds.Dyn after has = has

-- ---- Edits

ehdr_has : (o : Object) (h : Ehdr) → HasBase o (with_ehdr o h)
unfolding with_ehdr
ehdr_has o h = refl

phdr_has : (o : Object) (i : ℕ) (p : Phdr) → HasBase o (with_phdr o i p)
unfolding with_phdr with_phdrs
phdr_has o i p = refl

new_phdrs_has : (o : Object) (n : ℕ) → HasBase o (with_new_phdrs o n)
unfolding with_new_phdrs with_phdrs
new_phdrs_has o n = refl

shdr_has : (o : Object) (s : ℕ) (h : Shdr) → HasBase o (with_shdr o s h)
unfolding with_shdr with_section
shdr_has o s h = refl

new_section_has : (o : Object) → HasBase o (with_new_section o)
unfolding with_new_section
new_section_has o = refl

new_piece_has : (o : Object) (s : ℕ) (l : Items) (align : ℕ)
    → HasBase o (with_new_piece o s l align)
unfolding with_new_piece with_section
new_piece_has o s l align = refl

own_has : (o : Object) (s p : ℕ) (l : Items) → HasBase o (with_own o s p l)
unfolding with_own with_piece_at with_section
own_has o s p l = refl

fill_has : (o : Object) (byte : ℕ) → HasBase o (with_fill o byte)
unfolding with_fill
fill_has o byte = refl

mark_has : (o : Object) (p : Part) → HasBase o (with_mark o p)
unfolding with_mark with_piece_at with_section
mark_has o part.Object = refl
mark_has o part.Table = refl
mark_has o part.Header = refl
mark_has o part.Segments = refl
mark_has o (part.Section s) = refl
mark_has o (part.Piece s p) = refl

flags_has : (o : Object) (p : Part) (mark : Bool) (bits : ℕ)
    → HasBase o (with_flags o p mark bits)
unfolding with_flags
flags_has o p mark bits =
    let dirtied : Object = if mark && has_dirty bits then with_mark o p else o in
    let has : HasBase o dirtied =
    either_has (mark && has_dirty bits) o (with_mark o p) o (mark_has o p) refl in
    either_has (is_whole p && has_layout bits) o (with_layout dirtied mark) dirtied has has

placed_has : (o : Object) → HasBase o (placed o)
unfolding placed_by
placed_has o = by (is_dirty o) refl
  where
    by : (b : Bool) → is_dirty o ≡ b → HasBase o (placed o)
    by true dirty = ap (λ (q : Object). q.base) (placed-dirty o dirty)
    by false clean = ap (λ (q : Object). q.base) (placed-clean o clean)

set_has : {A : Type 0} (get : calls.Call A) (update : A → calls.Call (Unit {0})) (change : A → A)
    (o : Object) → ((x : A) → HasBase o ((update x).after o))
    → HasBase o ((set_item get update change).after o)
set_has get update change o has =
    look_has o (get.answer o) (λ x. (update (change x)).after o) (λ x. has (change x))

item_has : (v : ItemSet) (s p i : ℕ) (o : Object) → HasBase o ((item_set_call v s p i).after o)
unfolding item_set_call
item_has (set.Half v) s p i o =
    set_has (calls.half s p i) (calls.update_half s p i) _ o (λ x. own_has o s p _)
item_has (set.Word v) s p i o =
    set_has (calls.word s p i) (calls.update_word s p i) _ o (λ x. own_has o s p _)
item_has (set.Addr v) s p i o =
    set_has (calls.addr s p i) (calls.update_addr s p i) _ o (λ x. own_has o s p _)
item_has (set.SymName v) s p i o =
    set_has (calls.sym s p i) (calls.update_sym s p i) _ o (λ x. own_has o s p _)
item_has (set.SymValue v) s p i o =
    set_has (calls.sym s p i) (calls.update_sym s p i) _ o (λ x. own_has o s p _)
item_has (set.SymSize v) s p i o =
    set_has (calls.sym s p i) (calls.update_sym s p i) _ o (λ x. own_has o s p _)
item_has (set.SymInfo v) s p i o =
    set_has (calls.sym s p i) (calls.update_sym s p i) _ o (λ x. own_has o s p _)
item_has (set.SymOther v) s p i o =
    set_has (calls.sym s p i) (calls.update_sym s p i) _ o (λ x. own_has o s p _)
item_has (set.SymShndx v) s p i o =
    set_has (calls.sym s p i) (calls.update_sym s p i) _ o (λ x. own_has o s p _)
item_has (set.RelOffset v) s p i o =
    set_has (calls.rel s p i) (calls.update_rel s p i) _ o (λ x. own_has o s p _)
item_has (set.RelSym v) s p i o =
    set_has (calls.rel s p i) (calls.update_rel s p i) _ o (λ x. own_has o s p _)
item_has (set.RelType v) s p i o =
    set_has (calls.rel s p i) (calls.update_rel s p i) _ o (λ x. own_has o s p _)
item_has (set.RelaOffset v) s p i o =
    set_has (calls.rela s p i) (calls.update_rela s p i) _ o (λ x. own_has o s p _)
item_has (set.RelaSym v) s p i o =
    set_has (calls.rela s p i) (calls.update_rela s p i) _ o (λ x. own_has o s p _)
item_has (set.RelaType v) s p i o =
    set_has (calls.rela s p i) (calls.update_rela s p i) _ o (λ x. own_has o s p _)
item_has (set.RelaAddend v) s p i o =
    set_has (calls.rela s p i) (calls.update_rela s p i) _ o (λ x. own_has o s p _)
item_has (set.DynTag v) s p i o =
    set_has (calls.dynent s p i) (calls.update_dynent s p i) _ o (λ x. own_has o s p _)
item_has (set.DynVal v) s p i o =
    set_has (calls.dynent s p i) (calls.update_dynent s p i) _ o (λ x. own_has o s p _)

-- ---- Calls

after_has : (q : Call) (o : Object) → HasBase o ((stated_call q).after o)
unfolding stated_call
after_has call.Ehdr o = refl
after_has (call.Phdr i) o = refl
after_has (call.Shdr s) o = refl
after_has (call.Pieces s) o = refl
after_has (call.Data d) o = refl
after_has (call.Raw s) o = refl
after_has (call.Item d i) o = refl
after_has (call.Str s off) o = refl
after_has (call.Note d at) o = refl
after_has (call.Find s name) o = refl
after_has (call.SetEhdr v) o = ehdr_has o (ehdr_with v (header_of o))
after_has (call.SetPhdr i v) o =
    look_has o (phdr_answer o i) (λ x. (calls.update_phdr i (phdr_with v x)).after o)
    (λ x. phdr_has o i (phdr_with v x))
after_has (call.SetShdr s v) o =
    look_has o (shdr_answer o s.0) (λ x. (calls.update_shdr s.0 (shdr_with v x)).after o)
    (λ x. shdr_has o s.0 (shdr_with v x))
after_has (call.SetItem d i v) o = item_has v d.section d.piece i o
after_has (call.AddAll d n) o =
    let left = added n (items_at o d.section d.piece) in
    or_same_has o (kind_at o d.section d.piece) (with_own o d.section d.piece left)
    (own_has o d.section d.piece left)
after_has call.NewScn o = new_section_has o
after_has (call.NewPhdr n) o = new_phdrs_has o n
after_has (call.NewData s bytes) o = new_piece_has o s.0 (items.Bytes bytes) 1
after_has (call.NewDataAligned s bytes align) o = new_piece_has o s.0 (items.Bytes bytes) align
after_has (call.Fill byte) o = fill_has o byte
after_has (call.Replace d bytes) o = own_has o d.section d.piece (items.Bytes bytes)
after_has (call.Flag p mark bits) o = flags_has o p mark bits
after_has call.Null o = placed_has o

answer_has : {A : Type 0} (r : Result A ElfError) (o after : Object) → HasBase o after
    → HasBase o (after_answer r o after)
answer_has (Ok x) o after has = has
answer_has (Err e) o after has = refl

step_has : (q : Call) (o : Object) → HasBase o (step (stated_call q) o)
unfolding step
step_has q o = answer_has ((stated_call q).answer o) o ((stated_call q).after o) (after_has q o)

pub left_has_base : (cs : List Call) (o : Object) → (left_by (stated_calls cs) o).base ≡ o.base
unfolding left_by
left_has_base [] o = refl
left_has_base (q ∷ cs) o = left_has_base cs (step (stated_call q) o) ∙ step_has q o
