-- Each step keeps that what is not marked stands in the base (`IsBased`): it marks the pieces that it changes, and leaves
-- base, homes and the written front.
use Rattle.std.proofs.Common.{◌≡◌, ℕ, zero, suc, ◌<◌, Bool, true, false, not, ◌&&◌, ◌||◌, List, [], ◌∷◌, ◌++◌, ◌+◌, length, set, replicate, None, refl, sym, ap, ◌∙◌, subst, ⊎_elim}
use Rattle.std.specs.Prelude.{All, if◌then◌else◌, ◌==◌, map}
use Rattle.std.specs.List.{list_any, enumerate_from}
use Rattle.std.proofs.lemmas.Bool.{cases_lt}
use Rattle.std.proofs.lemmas.List.{set_past}
use Rattle.std.proofs.lemmas.List.Elements.{All-nil, All-cons, All-append, All-head, All-tail, All-set}
use Rattle.elf_types.specs.declared.records.Class.{Class}
use Rattle.elf_types.specs.declared.records.Kind.{Kind}
use Rattle.elf_types.specs.declared.records.Kind.TheVariants as kinds
use Rattle.elf_types.specs.declared.records.Ehdr.{Ehdr}
use Rattle.elf_types.specs.declared.records.Shdr.{Shdr}
use Rattle.elf_types.specs.declared.records.Phdr.{Phdr}
use Rattle.elf_types.specs.declared.records.Sym.{Sym}
use Rattle.elf_types.specs.declared.records.Rel.{Rel}
use Rattle.elf_types.specs.declared.records.Rela.{Rela}
use Rattle.elf_types.specs.declared.records.Dyn.{Dyn}
use Rattle.elf_types.specs.declared.records.Part.{Part}
use Rattle.elf_types.specs.declared.records.Part.TheVariants as part
use Rattle.elf_object.specs.elf_xlate.declared.content.Items.{Items}
use Rattle.elf_object.specs.elf_xlate.declared.content.Items.TheVariants as items
use Rattle.elf_object.specs.elf_xlate.Fields.{fits}
use Rattle.elf_object.specs.elf_xlate.Items.{sym_fits, rel_fits, rela_fits, dyn_fits}
use Rattle.elf_object.specs.elf_xlate.Translation.{items_count, items_kind}
use Rattle.elf_object.specs.Object.{Object, Section, Piece, section_at, piece_at, absent_section, new_section, no_phdr, is_dirty}
use Rattle.elf_object.specs.Answers.{kind_at, items_at, piece_count, flags_of, has_dirty, has_layout, lend_refusal, halves_of, words_of, addrs_of, syms_of, rels_of, relas_of, dyns_of}
use Rattle.elf_object.specs.Steps.{with_sections as other_sections, new_number, with_section, with_piece_at, with_ehdr, with_phdrs, with_phdr, with_new_phdrs, with_shdr, with_new_section, with_null_section, with_new_piece, own_piece, with_own, with_mark, with_layout, with_flags, is_whole, with_fill}
use Rattle.elf_object.specs.Layout.{places_of, placed_by, placed, placed_section}
use Rattle.elf_object.specs.Image.{image_length}
use Rattle.elf_object.specs.Refusal.{refusal}
use Rattle.elf_object.specs.Calls as calls
use Rattle.elf_object.specs.Calls.{Call, update_ehdr, update_phdr, update_shdr, step, update_ehdr_refusal, update_phdr_refusal, newphdr_refusal, update_shdr_refusal, newscn_refusal, newdata_refusal, set_fill, replace_refusal, flag, flag_refusal, lend, update_item, update_item_refusal}
use Rattle.elf_object.specs.Runs.{set_item, addall, added, or_same}
use Rattle.elf_object.proofs.PassedLaws.{answered_keeps, edit_keeps, looked_keeps}
use Rattle.std.proofs.Math.Bool.{or-true}
use Rattle.law_object.specs.Writing.Based.{some_unmarked, HomeStands, IsBased, KeepsBased, EveryStepKeepsBased}

-- ---- Homes

-- a new section has no pieces
new_stands : (base : List ℕ) → HomeStands base new_section
unfolding some_unmarked
new_stands base some inside = cc

-- the same home, and no more pieces that are not marked
home_kept : (base : List ℕ) (c d : Section) → d.home ≡ c.home → d.raw ≡ c.raw → (some_unmarked d ≡ true → some_unmarked c ≡ true) → HomeStands base c → HomeStands base d
home_kept base c d home raw fewer stands some inside =
    let was = stands (fewer some) (sym (ap (λ h. h.out) home) ∙ inside) in
    cc

-- ---- Objects with the same base and written front

with_sections : (o q : Object) → (q.marked ≡ false → o.marked ≡ false) → q.base ≡ o.base → q.written_front ≡ o.written_front → All (HomeStands q.base) q.sections → IsBased o → IsBased q
with_sections o q marks base written homes is = record {
  header = λ clean. let was = is.header (marks clean) in cc;
  segments = λ clean. let was = is.segments (marks clean) in cc;
  table = λ clean. let was = is.table (marks clean) in cc;
  homes = homes;
}

section_kept : (o : Object) (s : ℕ) (c : Section) → (s < length o.sections → HomeStands o.base (section_at o s) → HomeStands o.base c) → IsBased o → IsBased (with_section o s c)
unfolding with_section section_at
section_kept o s c kept is = record {
  header = is.header;
  segments = is.segments;
  table = is.table;
  homes = ⊎_elim
      (λ h. All-set (HomeStands o.base) o.sections s c (kept h (is.homes s absent_section h)) is.homes)
      (λ h. subst (All (HomeStands o.base)) (sym (set_past o.sections s c h)) is.homes)
      (cases_lt s (length o.sections));
}

-- ---- Marks on pieces

-- a test that an element fails which is put among others or behind them
any_set : {X : Type 0} (test : X → Bool) (l : List X) (i : ℕ) (x : X) → test x ≡ false → list_any test (set l i x) ≡ true → list_any test l ≡ true
any_set test [] i x fails h = h
any_set test (y ∷ l) zero x fails h =
    let rest : list_any test l ≡ true = sym (ap (λ (b : Bool). b || list_any test l) fails) ∙ h in
    rw rest (or-true (test y))
any_set test (y ∷ l) (suc i) x fails h = by_test (test y) h (any_set test l i x fails)
  where
    by_test : (b : Bool) → (b || list_any test (set l i x)) ≡ true → (list_any test (set l i x) ≡ true → list_any test l ≡ true) → (b || list_any test l) ≡ true
    by_test true e more = refl
    by_test false e more = more e

any_behind : {X : Type 0} (test : X → Bool) (l : List X) (x : X) → test x ≡ false → list_any test (l ++ x ∷ []) ≡ true → list_any test l ≡ true
any_behind test [] x fails h = sym (ap (λ (b : Bool). b || false) fails) ∙ h
any_behind test (y ∷ l) x fails h = by_test (test y) h (any_behind test l x fails)
  where
    by_test : (b : Bool) → (b || list_any test (l ++ x ∷ [])) ≡ true → (list_any test (l ++ x ∷ []) ≡ true → list_any test l ≡ true) → (b || list_any test l) ≡ true
    by_test true e more = refl
    by_test false e more = more e

-- a marked piece is put into a section
piece_kept : (o : Object) (s p : ℕ) (piece : Piece) → piece.marked ≡ true → IsBased o → IsBased (with_piece_at o s p piece)
unfolding with_piece_at some_unmarked
piece_kept o s p piece marked = section_kept o s (record (section_at o s) { pieces = set (section_at o s).pieces p piece })
    (λ inside. home_kept o.base (section_at o s) (record (section_at o s) { pieces = set (section_at o s).pieces p piece }) refl refl
    (any_set (λ x. not x.marked) (section_at o s).pieces p piece (ap not marked)))

new_piece_kept : (o : Object) (s : ℕ) (items : Items) (align : ℕ) → IsBased o → IsBased (with_new_piece o s items align)
unfolding with_new_piece some_unmarked
new_piece_kept o s items align = section_kept o s (record (section_at o s) { pieces = (section_at o s).pieces ++ own_piece items align ∷ [] })
    (λ inside. home_kept o.base (section_at o s) (record (section_at o s) { pieces = (section_at o s).pieces ++ own_piece items align ∷ [] }) refl refl
    (any_behind (λ x. not x.marked) (section_at o s).pieces (own_piece items align) refl))

own_kept : (o : Object) (s p : ℕ) (items : Items) → IsBased o → IsBased (with_own o s p items)
unfolding with_own
own_kept o s p items = piece_kept o s p (own_piece items (piece_at o s p).align) refl

-- ---- Edits of headers

header_kept : (o : Object) (s : ℕ) (h : Shdr) → IsBased o → IsBased (with_shdr o s h)
unfolding with_shdr some_unmarked
header_kept o s h = section_kept o s (record (section_at o s) { header = h; marked = true })
    (λ inside. home_kept o.base (section_at o s) (record (section_at o s) { header = h; marked = true }) refl refl (λ some. some))

ehdr_kept : (o : Object) (h : Ehdr) → IsBased o → IsBased (with_ehdr o h)
unfolding with_ehdr
ehdr_kept o h is = with_sections o (with_ehdr o h) (λ e. e) refl refl is.homes is

phdrs_kept : (o : Object) (phdrs : List Phdr) → IsBased o → IsBased (with_phdrs o phdrs)
unfolding with_phdrs
phdrs_kept o phdrs is = with_sections o (record o { header = record o.header { phnum = length phdrs }; phdrs = phdrs; segments_marked = true }) (λ e. e) refl refl is.homes is

-- ---- Sections

new_section_kept : (o : Object) → IsBased o → IsBased (with_new_section o)
unfolding with_new_section
new_section_kept o is =
    let new = new_stands o.base in
    with_sections o (with_new_section o) (λ e. e) refl refl
    (All-append (HomeStands o.base) o.sections (if length o.sections == 0 then new_section ∷ new_section ∷ [] else new_section ∷ []) is.homes (by_test (length o.sections == 0) new))
    is
  where
    by_test : (b : Bool) → HomeStands o.base new_section → All (HomeStands o.base) (if b then new_section ∷ new_section ∷ [] else new_section ∷ [])
    by_test true new = All-cons (HomeStands o.base) new_section (new_section ∷ []) new (All-cons (HomeStands o.base) new_section [] new (All-nil (HomeStands o.base)))
    by_test false new = All-cons (HomeStands o.base) new_section [] new (All-nil (HomeStands o.base))

null_kept : (b : Bool) (o : Object) → IsBased o → IsBased (if b then other_sections o (new_section ∷ []) else o)
null_kept true o is = with_sections o (other_sections o (new_section ∷ [])) (λ e. e) refl refl (All-cons (HomeStands o.base) new_section [] (new_stands o.base) (All-nil (HomeStands o.base))) is
null_kept false o is = is

-- ---- Items

lend_based : (s p : ℕ) (left : Items) → KeepsBased (lend s p left)
unfolding step
lend_based s p left o is = answered_keeps IsBased (lend_refusal o (items_kind left) s p) (items_at o s p) o (with_own o s p left) is (λ passed. own_kept o s p left is)

update_item_based : (kind : Kind) (s p i : ℕ) (fitting : Class → Bool) (stored : Items → Items) → KeepsBased (update_item kind s p i fitting stored)
unfolding step
update_item_based kind s p i fitting stored o is =
    answered_keeps IsBased (update_item_refusal o kind s p i (fitting o.header.class)) tt o (with_own o s p (stored (items_at o s p))) is
    (λ passed. own_kept o s p (stored (items_at o s p)) is)

or_same_based : (kind : Kind) (old stepped : Object) → IsBased old → IsBased stepped → IsBased (or_same kind old stepped)
or_same_based kinds.Empty old stepped a b = a
or_same_based _ old stepped a b = b

addall_based : (s p n : ℕ) → KeepsBased (addall s p n)
unfolding step
addall_based s p n o is =
    answered_keeps IsBased (lend_refusal o (kind_at o s p) s p) (items_count (items_at o s p)) o (or_same (kind_at o s p) o (with_own o s p (added n (items_at o s p)))) is
    (λ passed. or_same_based (kind_at o s p) o (with_own o s p (added n (items_at o s p))) is (own_kept o s p (added n (items_at o s p)) is))

-- ---- Flags, fill and places

layout_kept : (o : Object) (layout : Bool) → IsBased o → IsBased (with_layout o layout)
layout_kept o layout is = with_sections o (record o { layout = layout }) (λ e. e) refl refl is.homes is

marked_kept : (o : Object) → IsBased o → IsBased (record o { marked = true })
marked_kept o is = with_sections o (record o { marked = true }) (λ e. let clash : true ≡ false = e in cc) refl refl is.homes is

mark_kept : (o : Object) (p : Part) → IsBased o → IsBased (with_mark o p)
unfolding with_mark some_unmarked
mark_kept o part.Object is = marked_kept o is
mark_kept o part.Table is = marked_kept o is
mark_kept o part.Header is = with_sections o (record o { header_marked = true }) (λ e. e) refl refl is.homes is
mark_kept o part.Segments is = with_sections o (record o { segments_marked = true }) (λ e. e) refl refl is.homes is
mark_kept o (part.Section s) is = section_kept o s (record (section_at o s) { marked = true })
    (λ inside. home_kept o.base (section_at o s) (record (section_at o s) { marked = true }) refl refl (λ some. some)) is
mark_kept o (part.Piece s p) is = piece_kept o s p (record (piece_at o s p) { marked = true }) refl is

flagged_kept : (dirty layout set : Bool) (o : Object) (p : Part) → IsBased o → IsBased (if layout then with_layout (if dirty then with_mark o p else o) set else (if dirty then with_mark o p else o))
flagged_kept true true set o p is = layout_kept (with_mark o p) set (mark_kept o p is)
flagged_kept true false set o p is = mark_kept o p is
flagged_kept false true set o p is = layout_kept o set is
flagged_kept false false set o p is = is

flag_based : (p : Part) (set : Bool) (bits : ℕ) → KeepsBased (flag p set bits)
unfolding with_flags
flag_based p set bits = edit_keeps IsBased _ (λ o. flag_refusal o p set bits) (λ o. flags_of (with_flags o p set bits) p) (λ o. with_flags o p set bits)
    (λ o is passed. flagged_kept (set && has_dirty bits) (is_whole p && has_layout bits) set o p is)

set_fill_based : (byte : ℕ) → KeepsBased (set_fill byte)
unfolding with_fill
set_fill_based byte = edit_keeps IsBased _ (λ o. None) (λ o. tt) (λ o. with_fill o byte) (λ o is passed. with_sections o (record o { fill = byte }) (λ e. e) refl refl is.homes is)

rows_kept : (base : List ℕ) (g : ℕ → Section → Section) → ((i : ℕ) (c : Section) → HomeStands base c → HomeStands base (g i c)) → (n : ℕ) (l : List Section) → All (HomeStands base) l → All (HomeStands base) (map (λ row. g row.0 row.1) (enumerate_from n l))
rows_kept base g keeps n [] each = All-nil (HomeStands base)
rows_kept base g keeps n (c ∷ l) each =
    All-cons (HomeStands base) (g n c) (map (λ row. g row.0 row.1) (enumerate_from (n + 1) l)) (keeps n c (All-head (HomeStands base) c l each))
    (rows_kept base g keeps (n + 1) l (All-tail (HomeStands base) c l each))

pub placed_kept : (o : Object) → IsBased o → IsBased (placed o)
unfolding placed placed_by placed_section some_unmarked
placed_kept o is = by_test (is_dirty o)
  where
    by_test : (b : Bool) → IsBased (if b then placed_by (places_of o) o else o)
    by_test true = with_sections o (placed_by (places_of o) o) (λ e. e) refl refl
        (rows_kept o.base (placed_section (places_of o) o) (λ i c stands. home_kept o.base c (placed_section (places_of o) o i c) refl refl (λ some. some) stands) 0 o.sections is.homes) is
    by_test false = is

-- ---- Steps that look first

update_ehdr_based : (h : Ehdr) → KeepsBased (update_ehdr h)
update_ehdr_based h = edit_keeps IsBased _ (λ o. update_ehdr_refusal o h) (λ o. tt) (λ o. with_ehdr o h) (λ o is passed. ehdr_kept o h is)

update_phdr_based : (i : ℕ) (p : Phdr) → KeepsBased (update_phdr i p)
unfolding with_phdr
update_phdr_based i p = edit_keeps IsBased _ (λ o. update_phdr_refusal o i p) (λ o. tt) (λ o. with_phdr o i p) (λ o is passed. phdrs_kept o (set o.phdrs i p) is)

update_shdr_based : (s : ℕ) (h : Shdr) → KeepsBased (update_shdr s h)
update_shdr_based s h = edit_keeps IsBased _ (λ o. update_shdr_refusal o s h) (λ o. tt) (λ o. with_shdr o s h) (λ o is passed. header_kept o s h is)

set_item_based : {A : Type 0} (get : Call A) (update : A → Call (Unit {0})) (change : A → A) → ((x : A) → KeepsBased (update x)) → KeepsBased (set_item get update change)
set_item_based get update change keeps = looked_keeps IsBased get (λ x. update (change x)) (λ x o is e. keeps (change x) o is)

update_half_based : (s p i v : ℕ) → KeepsBased (calls.update_half s p i v)
update_half_based s p i v = update_item_based kinds.Half s p i (λ c. true) (λ l. items.Half (set (halves_of l) i v))

update_word_based : (s p i v : ℕ) → KeepsBased (calls.update_word s p i v)
update_word_based s p i v = update_item_based kinds.Word s p i (λ c. true) (λ l. items.Word (set (words_of l) i v))

update_addr_based : (s p i v : ℕ) → KeepsBased (calls.update_addr s p i v)
update_addr_based s p i v = update_item_based kinds.Addr s p i (λ c. fits c v) (λ l. items.Addr (set (addrs_of l) i v))

update_sym_based : (s p i : ℕ) (v : Sym) → KeepsBased (calls.update_sym s p i v)
update_sym_based s p i v = update_item_based kinds.Sym s p i (λ c. sym_fits c v) (λ l. items.Sym (set (syms_of l) i v))

update_rel_based : (s p i : ℕ) (v : Rel) → KeepsBased (calls.update_rel s p i v)
update_rel_based s p i v = update_item_based kinds.Rel s p i (λ c. rel_fits c v) (λ l. items.Rel (set (rels_of l) i v))

update_rela_based : (s p i : ℕ) (v : Rela) → KeepsBased (calls.update_rela s p i v)
update_rela_based s p i v = update_item_based kinds.Rela s p i (λ c. rela_fits c v) (λ l. items.Rela (set (relas_of l) i v))

update_dynent_based : (s p i : ℕ) (v : Dyn) → KeepsBased (calls.update_dynent s p i v)
update_dynent_based s p i v = update_item_based kinds.Dyn s p i (λ c. dyn_fits c v) (λ l. items.Dyn (set (dyns_of l) i v))

-- ---- The law

pub every_step_keeps_based : EveryStepKeepsBased
unfolding with_phdr with_new_phdrs with_null_section
every_step_keeps_based = record {
  update_ehdr = update_ehdr_based;
  update_phdr = update_phdr_based;
  newphdr = λ n. edit_keeps IsBased _ (λ o. newphdr_refusal n) (λ o. tt) (λ o. with_new_phdrs o n) (λ o is passed. phdrs_kept o (replicate n no_phdr) is);
  phdrs_mut = λ left. edit_keeps IsBased _ (λ o. None) (λ o. tt) (λ o. with_phdrs o left) (λ o is passed. phdrs_kept o left is);
  update_shdr = update_shdr_based;
  newscn = edit_keeps IsBased _ newscn_refusal new_number with_new_section (λ o is passed. new_section_kept o is);
  newnull = edit_keeps IsBased _ (λ o. None) (λ o. tt) with_null_section (λ o is passed. null_kept (length o.sections == 0) o is);
  newdata = λ s items align. edit_keeps IsBased _ (λ o. newdata_refusal o s items align) (λ o. (s, piece_count o s)) (λ o. with_new_piece o s items align) (λ o is passed. new_piece_kept o s items align is);
  set_fill = set_fill_based;
  replace = λ s p items. edit_keeps IsBased _ (λ o. replace_refusal o s p items) (λ o. tt) (λ o. with_own o s p items) (λ o is passed. own_kept o s p items is);
  flag = flag_based;
  update_null = edit_keeps IsBased _ refusal image_length placed (λ o is passed. placed_kept o is);
  lend = lend_based;
  update_half = update_half_based;
  update_word = update_word_based;
  update_addr = update_addr_based;
  update_sym = update_sym_based;
  update_rel = update_rel_based;
  update_rela = update_rela_based;
  update_dynent = update_dynent_based;
  addall = addall_based;
  set_ehdr = λ change. looked_keeps IsBased calls.ehdr (λ h. update_ehdr (change h)) (λ h o is e. update_ehdr_based (change h) o is);
  set_phdr = λ i change. looked_keeps IsBased (calls.phdr i) (λ p. update_phdr i (change p)) (λ p o is e. update_phdr_based i (change p) o is);
  set_shdr = λ s change. looked_keeps IsBased (calls.shdr s) (λ h. update_shdr s (change h)) (λ h o is e. update_shdr_based s (change h) o is);
  set_half = λ s p i change. set_item_based (calls.half s p i) (calls.update_half s p i) change (update_half_based s p i);
  set_word = λ s p i change. set_item_based (calls.word s p i) (calls.update_word s p i) change (update_word_based s p i);
  set_addr = λ s p i change. set_item_based (calls.addr s p i) (calls.update_addr s p i) change (update_addr_based s p i);
  set_sym = λ s p i change. set_item_based (calls.sym s p i) (calls.update_sym s p i) change (update_sym_based s p i);
  set_rel = λ s p i change. set_item_based (calls.rel s p i) (calls.update_rel s p i) change (update_rel_based s p i);
  set_rela = λ s p i change. set_item_based (calls.rela s p i) (calls.update_rela s p i) change (update_rela_based s p i);
  set_dynent = λ s p i change. set_item_based (calls.dynent s p i) (calls.update_dynent s p i) change (update_dynent_based s p i);
}
