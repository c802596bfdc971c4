-- Each step keeps that an object in which nothing is dirty is that of its base (`IsTied`): it marks what it changes, or it
-- changes nothing that opening gives.
use Rattle.std.proofs.Common.{◌≡◌, ℕ, ◌<◌, Bool, true, false, not, ◌&&◌, ◌||◌, List, [], ◌∷◌, ◌++◌, length, set, Option, None, Ok, Err, refl, sym, ap, ◌∙◌, subst, arith}
use Rattle.std.specs.Prelude.{All, if◌then◌else◌, ◌==◌, nat_le, Result}
use Rattle.std.specs.List.{list_any}
use Rattle.std.proofs.lemmas.Bool.{leb-false}
use Rattle.std.proofs.lemmas.List.{length-set, get_or-set_same}
use Rattle.elf_types.specs.declared.records.Class.{Class}
use Rattle.elf_types.specs.declared.records.Order.{Order}
use Rattle.elf_types.specs.declared.records.Kind.{Kind}
use Rattle.elf_types.specs.declared.records.Kind.TheVariants as kinds
use Rattle.elf_types.specs.declared.records.Ehdr.{Ehdr}
use Rattle.elf_types.specs.declared.records.Phdr.{Phdr}
use Rattle.elf_types.specs.declared.records.Shdr.{Shdr}
use Rattle.elf_types.specs.declared.records.Sym.{Sym}
use Rattle.elf_types.specs.declared.records.Rel.{Rel}
use Rattle.elf_types.specs.declared.records.Rela.{Rela}
use Rattle.elf_types.specs.declared.records.Dyn.{Dyn}
use Rattle.elf_types.specs.declared.records.Part.{Part}
use Rattle.elf_types.specs.declared.records.Part.TheVariants as part
use Rattle.elf_types.specs.declared.errors.ElfError.{ElfError}
use Rattle.elf_types.specs.declared.errors.ElfError.TheVariants.{NoData, NoSection, Reserved, Unfit}
use Rattle.elf_object.specs.elf_xlate.declared.content.Items.{Items}
use Rattle.elf_object.specs.elf_xlate.declared.content.Items.TheVariants as items
use Rattle.elf_object.specs.elf_xlate.Fields.{fits}
use Rattle.elf_object.specs.elf_xlate.Headers.{shdr_fits}
use Rattle.elf_object.specs.elf_xlate.Items.{sym_fits, rel_fits, rela_fits, dyn_fits}
use Rattle.elf_object.specs.elf_xlate.Headers.{IsPhdr}
use Rattle.elf_object.specs.elf_xlate.Translation.{items_count, items_kind}
use Rattle.elf_object.specs.elf_ident.declared.fronts.Front.{Front}
use Rattle.elf_object.specs.elf_ident.Front.{front}
use Rattle.elf_types.specs.Answers.{refused_if, first_refusal}
use Rattle.elf_object.specs.Object.{Object, Section, Piece, section_at, piece_at, new_section, home_piece, is_dirty, some_section_marked, some_piece_marked}
use Rattle.elf_object.specs.Open.{begun, begun_or_refused, opened, created_over}
use Rattle.elf_object.specs.Answers.{no_section, no_data, wrong_kind, no_content, no_entry, count_at, kind_at, items_at, piece_count, flags_of, has_dirty, has_layout, piece_refusal, part_refusal, lend_refusal, item_refusal, halves_of, words_of, addrs_of, syms_of, rels_of, relas_of, dyns_of}
use Rattle.elf_object.specs.Steps.{with_sections, new_number, with_section, with_piece_at, with_ehdr, with_phdrs, with_phdr, with_new_phdrs, with_shdr, with_new_section, with_null_section, with_new_piece, own_piece, with_own, with_mark, with_layout, with_flags, is_whole, with_fill}
use Rattle.elf_object.specs.Layout.{places_of, placed_by, placed}
use Rattle.elf_object.specs.Image.{image, image_length}
use Rattle.elf_object.specs.Refusal.{refusal}
use Rattle.elf_object.specs.Settled.{settled_over, settle}
use Rattle.elf_object.specs.Changed.{is_moved, torn_over, torn}
use Rattle.elf_object.specs.Calls as calls
use Rattle.elf_object.specs.Calls.{Call, ehdr, phdr, shdr, update_ehdr, update_phdr, newphdr, phdrs_mut, step, edit_with, update_ehdr_refusal, update_phdr_refusal, newphdr_refusal, update_shdr, update_shdr_refusal, newscn, newscn_refusal, newnull, newdata_aligned, newdata_refusal, unfit_items, set_fill, replace, replace_refusal, flag, flag_refusal, update_null, lend, update_item, update_item_refusal, update_half, update_word, update_addr, update_sym, update_rel, update_rela, update_dynent}
use Rattle.elf_object.specs.Runs.{addall, set_item, added, or_same}
use Rattle.elf_object.specs.Valid.{IsObject, IsTied, KeepsTied, as_opened}
use Rattle.law_object.specs.Laws.{BeginningsAreTied, EveryStepKeepsTied, ReopenLaw, UpdatesTie}
use Rattle.elf_object.proofs.PassedLaws.{none_first, none_rest, not_refused, answered_keeps, edit_keeps, looked_keeps}
use Rattle.elf_object.proofs.StepLaws.{last_true, section_count-with_section, section_at-with_section, dirty_by_section, marked_by_piece, dirty-with_own, dirty-with_shdr}
use Rattle.law_object.proofs.ImageLaws.{image-clean}
use Rattle.law_object.proofs.TornLaws.{dirty-placed}
use Rattle.law_object.proofs.SettledLaws.{settle-dirty, settle-clean}

-- ---- What ties

-- where something is dirty there is nothing to show
pub tied_dirty : (o : Object) → is_dirty o ≡ true → IsTied o
tied_dirty o dirty clean = let clash : true ≡ false = sym dirty ∙ clean in cc

-- the same marks and base, and what opening gives
tied_same : (o q : Object) → is_dirty q ≡ is_dirty o → q.base ≡ o.base → as_opened q ≡ as_opened o → IsTied o → IsTied q
tied_same o q marks base same tied clean = ap opened base ∙ tied (sym marks ∙ clean) ∙ ap Ok (sym same)

-- an edit that marks something
marking_ties : {A : Type 0} (memory : Object → List Bool → List Bool → Bool) (refusal : Object → Option ElfError) (value : Object → A) (after : Object → Object) → ((o : Object) → is_dirty (after o) ≡ true) → KeepsTied (edit_with memory refusal value after)
marking_ties memory refusal value after marks = edit_keeps IsTied memory refusal value after (λ o tied passed. tied_dirty (after o) (marks o))

-- ---- Marks

second_true : (a c d : Bool) → (a || true || c || d) ≡ true
second_true true c d = refl
second_true false c d = refl

third_true : (a b d : Bool) → (a || b || true || d) ≡ true
third_true true b d = refl
third_true false true d = refl
third_true false false d = refl

any_behind : {X : Type 0} (test : X → Bool) (l m : List X) → list_any test m ≡ true → list_any test (l ++ m) ≡ true
any_behind test [] m h = h
any_behind test (x ∷ l) m h = rw (any_behind test l m h) (last_true (test x))

dirty-with_section : (o : Object) (s : ℕ) (c : Section) → s < length o.sections → (c.marked || some_piece_marked c) ≡ true → is_dirty (with_section o s c) ≡ true
dirty-with_section o s c inside marked =
    let count = section_count-with_section o s c in
    dirty_by_section (with_section o s c) s (omega arith) (ap (λ (x : Section). x.marked || some_piece_marked x) (section_at-with_section o s c inside) ∙ marked)

-- sections that are appended are marked
dirty-with_sections : (o : Object) (l : List Section) → list_any (λ c. c.marked || some_piece_marked c) l ≡ true → is_dirty (with_sections o (o.sections ++ l)) ≡ true
unfolding is_dirty some_section_marked
dirty-with_sections o l marked =
    rw (any_behind (λ c. c.marked || some_piece_marked c) o.sections l marked) (last_true (o.marked || o.header_marked || o.segments_marked))

dirty-with_new_piece : (o : Object) (s : ℕ) (items : Items) (align : ℕ) → s < length o.sections → is_dirty (with_new_piece o s items align) ≡ true
unfolding with_new_piece some_piece_marked
dirty-with_new_piece o s items align inside =
    dirty-with_section o s (record (section_at o s) { pieces = (section_at o s).pieces ++ own_piece items align ∷ [] }) inside
    (rw (any_behind (λ p. p.marked) (section_at o s).pieces (own_piece items align ∷ []) refl) (last_true (section_at o s).marked))

dirty-with_piece_mark : (o : Object) (s p : ℕ) → s < length o.sections → p < piece_count o s → is_dirty (with_piece_at o s p (record (piece_at o s p) { marked = true })) ≡ true
unfolding with_piece_at piece_count
dirty-with_piece_mark o s p inside below =
    let left = set (section_at o s).pieces p (record (piece_at o s p) { marked = true }) in
    let count : length left ≡ length (section_at o s).pieces = length-set (section_at o s).pieces p (record (piece_at o s p) { marked = true }) in
    dirty-with_section o s (record (section_at o s) { pieces = left }) inside
    (marked_by_piece (record (section_at o s) { pieces = left }) p (omega arith)
    (ap (λ (x : Piece). x.marked) (get_or-set_same (section_at o s).pieces p (record (piece_at o s p) { marked = true }) home_piece below)))

-- ---- Indexes that were not refused

below_count : (o : Object) (s : ℕ) → no_section o s ≡ None → s < length o.sections
below_count o s passed = leb-false (length o.sections) s (not_refused (nat_le (length o.sections) s) (NoSection s (length o.sections)) passed)

section_inside : (o : Object) (s : ℕ) (rs : List (Option ElfError)) → first_refusal (no_section o s ∷ rs) ≡ None → s < length o.sections
section_inside o s rs passed = below_count o s (none_first (no_section o s) rs passed)

piece_inside : (o : Object) (s p : ℕ) (rs : List (Option ElfError)) → first_refusal (no_data o s p ∷ rs) ≡ None → p < piece_count o s
piece_inside o s p rs passed =
    leb-false (piece_count o s) p (not_refused (nat_le (piece_count o s) p) (NoData p (piece_count o s)) (none_first (no_data o s p) rs passed))

-- ---- Sections

update_shdr_ties : (s : ℕ) (h : Shdr) → KeepsTied (update_shdr s h)
unfolding update_shdr_refusal
update_shdr_ties s h = edit_keeps IsTied _ (λ o. update_shdr_refusal o s h) (λ o. tt) (λ o. with_shdr o s h) (λ o tied passed.
    let inside = section_inside o s (refused_if (s == 0) Reserved ∷ refused_if (not (shdr_fits o.header.class h)) (Unfit (part.Section s) 0) ∷ []) passed in
    tied_dirty (with_shdr o s h) (dirty-with_shdr o s h inside))

new_marked : (b : Bool) → list_any (λ c. c.marked || some_piece_marked c) (if b then new_section ∷ new_section ∷ [] else new_section ∷ []) ≡ true
new_marked true = refl
new_marked false = refl

newscn_ties : KeepsTied newscn
unfolding with_new_section
newscn_ties = edit_keeps IsTied _ newscn_refusal new_number with_new_section (λ o tied passed.
    tied_dirty (with_new_section o) (dirty-with_sections o (if length o.sections == 0 then new_section ∷ new_section ∷ [] else new_section ∷ []) (new_marked (length o.sections == 0))))

null_ties : (b : Bool) (o : Object) → IsTied o → IsTied (if b then with_sections o (new_section ∷ []) else o)
unfolding is_dirty some_section_marked
null_ties true o tied = tied_dirty (with_sections o (new_section ∷ [])) (last_true (o.marked || o.header_marked || o.segments_marked))
null_ties false o tied = tied

newnull_ties : KeepsTied newnull
unfolding with_null_section
newnull_ties = edit_keeps IsTied _ (λ o. None) (λ o. tt) with_null_section (λ o tied passed. null_ties (length o.sections == 0) o tied)

-- ---- Pieces and items

newdata_ties : (s : ℕ) (items : Items) (align : ℕ) → KeepsTied (newdata_aligned s items align)
unfolding newdata_refusal
newdata_ties s items align =
    edit_keeps IsTied _ (λ o. newdata_refusal o s items align) (λ o. (s, piece_count o s)) (λ o. with_new_piece o s items align) (λ o tied passed.
    let inside = section_inside o s _ passed in
    tied_dirty (with_new_piece o s items align) (dirty-with_new_piece o s items align inside))

replace_ties : (s p : ℕ) (items : Items) → KeepsTied (replace s p items)
unfolding replace_refusal
replace_ties s p items = edit_keeps IsTied _ (λ o. replace_refusal o s p items) (λ o. tt) (λ o. with_own o s p items) (λ o tied passed.
    let third = unfit_items o s p items ∷ [] in
    let second = no_data o s p ∷ third in
    let inside = section_inside o s (refused_if (s == 0) Reserved ∷ second) passed in
    let below = piece_inside o s p third (none_rest (refused_if (s == 0) Reserved) second (none_rest (no_section o s) (refused_if (s == 0) Reserved ∷ second) passed)) in
    tied_dirty (with_own o s p items) (dirty-with_own o s p items inside below))

-- a piece that is lent
own_ties : (o : Object) (kind : Kind) (s p : ℕ) (left : Items) → lend_refusal o kind s p ≡ None → IsTied (with_own o s p left)
unfolding lend_refusal
own_ties o kind s p left passed =
    let second = wrong_kind o kind s p ∷ no_content o s p ∷ [] in
    let inside = section_inside o s (no_data o s p ∷ second) passed in
    let below = piece_inside o s p second (none_rest (no_section o s) (no_data o s p ∷ second) passed) in
    tied_dirty (with_own o s p left) (dirty-with_own o s p left inside below)

lend_ties : (s p : ℕ) (left : Items) → KeepsTied (lend s p left)
unfolding step
lend_ties s p left o tied = answered_keeps IsTied (lend_refusal o (items_kind left) s p) (items_at o s p) o (with_own o s p left) tied (λ passed. own_ties o (items_kind left) s p left passed)

update_item_ties : (kind : Kind) (s p i : ℕ) (fitting : Class → Bool) (stored : Items → Items) → KeepsTied (update_item kind s p i fitting stored)
unfolding step update_item_refusal item_refusal
update_item_ties kind s p i fitting stored o tied =
    answered_keeps IsTied (update_item_refusal o kind s p i (fitting o.header.class)) tt o (with_own o s p (stored (items_at o s p))) tied
    (λ passed. own_ties o kind s p (stored (items_at o s p))
    (none_first (lend_refusal o kind s p) (no_entry i (count_at o s p) ∷ [])
    (none_first (item_refusal o kind s p i) (refused_if (not (fitting o.header.class)) (Unfit (part.Piece s p) i) ∷ []) passed)))

update_half_ties : (s p i v : ℕ) → KeepsTied (update_half s p i v)
update_half_ties s p i v = update_item_ties kinds.Half s p i (λ c. true) (λ l. items.Half (set (halves_of l) i v))

update_word_ties : (s p i v : ℕ) → KeepsTied (update_word s p i v)
update_word_ties s p i v = update_item_ties kinds.Word s p i (λ c. true) (λ l. items.Word (set (words_of l) i v))

update_addr_ties : (s p i v : ℕ) → KeepsTied (update_addr s p i v)
update_addr_ties s p i v = update_item_ties kinds.Addr s p i (λ c. fits c v) (λ l. items.Addr (set (addrs_of l) i v))

update_sym_ties : (s p i : ℕ) (v : Sym) → KeepsTied (update_sym s p i v)
update_sym_ties s p i v = update_item_ties kinds.Sym s p i (λ c. sym_fits c v) (λ l. items.Sym (set (syms_of l) i v))

update_rel_ties : (s p i : ℕ) (v : Rel) → KeepsTied (update_rel s p i v)
update_rel_ties s p i v = update_item_ties kinds.Rel s p i (λ c. rel_fits c v) (λ l. items.Rel (set (rels_of l) i v))

update_rela_ties : (s p i : ℕ) (v : Rela) → KeepsTied (update_rela s p i v)
update_rela_ties s p i v = update_item_ties kinds.Rela s p i (λ c. rela_fits c v) (λ l. items.Rela (set (relas_of l) i v))

update_dynent_ties : (s p i : ℕ) (v : Dyn) → KeepsTied (update_dynent s p i v)
update_dynent_ties s p i v = update_item_ties kinds.Dyn s p i (λ c. dyn_fits c v) (λ l. items.Dyn (set (dyns_of l) i v))

or_same_ties : (kind : Kind) (old stepped : Object) → IsTied old → IsTied stepped → IsTied (or_same kind old stepped)
or_same_ties kinds.Empty old stepped a b = a
or_same_ties _ old stepped a b = b

addall_ties : (s p n : ℕ) → KeepsTied (addall s p n)
unfolding step
addall_ties s p n o tied =
    answered_keeps IsTied (lend_refusal o (kind_at o s p) s p) (items_count (items_at o s p)) o (or_same (kind_at o s p) o (with_own o s p (added n (items_at o s p)))) tied
    (λ passed. or_same_ties (kind_at o s p) o (with_own o s p (added n (items_at o s p))) tied (own_ties o (kind_at o s p) s p (added n (items_at o s p)) passed))

-- ---- Flags, fill and places

layout_ties : (o : Object) (layout : Bool) → IsTied o → IsTied (with_layout o layout)
unfolding is_dirty some_section_marked
layout_ties o layout tied = tied_same o (with_layout o layout) refl refl refl tied

mark_ties : (o : Object) (p : Part) → part_refusal o p ≡ None → IsTied (with_mark o p)
unfolding with_mark part_refusal piece_refusal is_dirty some_piece_marked
mark_ties o part.Object passed = tied_dirty (record o { marked = true }) refl
mark_ties o part.Table passed = tied_dirty (record o { marked = true }) refl
mark_ties o part.Header passed = tied_dirty (record o { header_marked = true }) (second_true o.marked o.segments_marked (some_section_marked (record o { header_marked = true })))
mark_ties o part.Segments passed = tied_dirty (record o { segments_marked = true }) (third_true o.marked o.header_marked (some_section_marked (record o { segments_marked = true })))
mark_ties o (part.Section s) passed =
    let inside = below_count o s passed in
    tied_dirty (with_section o s (record (section_at o s) { marked = true })) (dirty-with_section o s (record (section_at o s) { marked = true }) inside refl)
mark_ties o (part.Piece s p) passed =
    let inside = section_inside o s (no_data o s p ∷ []) passed in
    let below = piece_inside o s p [] (none_rest (no_section o s) (no_data o s p ∷ []) passed) in
    tied_dirty (with_piece_at o s p (record (piece_at o s p) { marked = true })) (dirty-with_piece_mark o s p inside below)

flagged_ties : (dirty layout set : Bool) (o : Object) (p : Part) → part_refusal o p ≡ None → IsTied o → IsTied (if layout then with_layout (if dirty then with_mark o p else o) set else (if dirty then with_mark o p else o))
flagged_ties true true set o p passed tied = layout_ties (with_mark o p) set (mark_ties o p passed)
flagged_ties true false set o p passed tied = mark_ties o p passed
flagged_ties false true set o p passed tied = layout_ties o set tied
flagged_ties false false set o p passed tied = tied

flag_ties : (p : Part) (set : Bool) (bits : ℕ) → KeepsTied (flag p set bits)
unfolding with_flags flag_refusal
flag_ties p set bits = edit_keeps IsTied _ (λ o. flag_refusal o p set bits) (λ o. flags_of (with_flags o p set bits) p) (λ o. with_flags o p set bits)
    (λ o tied passed. flagged_ties (set && has_dirty bits) (is_whole p && has_layout bits) set o p (none_first (part_refusal o p) _ passed) tied)

set_fill_ties : (byte : ℕ) → KeepsTied (set_fill byte)
unfolding with_fill is_dirty some_section_marked
set_fill_ties byte = edit_keeps IsTied _ (λ o. None) (λ o. tt) (λ o. with_fill o byte) (λ o tied passed. tied_same o (record o { fill = byte }) refl refl refl tied)

placed_ties : (o : Object) → IsTied o → IsTied (placed o)
unfolding placed
placed_ties o tied = by_test (is_dirty o) refl
  where
    by_test : (b : Bool) → is_dirty o ≡ b → IsTied (if b then placed_by (places_of o) o else o)
    by_test true dirty = tied_dirty (placed_by (places_of o) o) (dirty-placed (places_of o) o ∙ dirty)
    by_test false clean = tied

update_null_ties : KeepsTied update_null
update_null_ties = edit_keeps IsTied _ refusal image_length placed (λ o tied passed. placed_ties o tied)

-- ---- Beginnings, and updates in place

begun_ties : (f : Front) (image : List ℕ) → front image ≡ Ok f → IsTied (begun f image)
unfolding opened begun
begun_ties f image known clean = ap (λ (r : Result Front ElfError). begun_or_refused r image) known

opened_ties : (image : List ℕ) (o : Object) → opened image ≡ Ok o → IsTied o
unfolding opened
opened_ties image o made = by_front (front image) refl made
  where
    by_front : (r : Result Front ElfError) → front image ≡ r → begun_or_refused r image ≡ Ok o → IsTied o
    by_front (Ok f) known e = let same : begun f image ≡ o = cc in subst IsTied same (begun_ties f image known)
    by_front (Err x) known e = cc

created_ties : (class : Class) (order : Order) (base : List ℕ) → IsTied (created_over class order base)
unfolding created_over is_dirty some_section_marked
created_ties class order base = tied_dirty (created_over class order base) refl

base_over : (bytes : List ℕ) (q : Object) → (settled_over bytes q).base ≡ bytes
unfolding settled_over
base_over bytes q = refl

settle_ties : (o : Object) → ReopenLaw o → IsObject o → All IsPhdr o.phdrs → IsTied o → refusal o ≡ None → IsTied (settle o)
settle_ties o reopens ok ranged tied passed clean = ap opened (base_settled (is_dirty o) refl) ∙ reopens ok ranged tied passed
  where
    base_settled : (b : Bool) → is_dirty o ≡ b → (settle o).base ≡ image o
    base_settled true dirty = ap (λ (q : Object). q.base) (settle-dirty o dirty) ∙ base_over (image o) (placed o)
    base_settled false still = ap (λ (q : Object). q.base) (settle-clean o still) ∙ sym (image-clean o still)

torn_over_ties : (moved : ℕ → Bool) (bytes : List ℕ) (q : Object) → IsTied (torn_over moved bytes q)
unfolding torn_over is_dirty
torn_over_ties moved bytes q = tied_dirty (torn_over moved bytes q) refl

torn_ties : (o : Object) (bytes : List ℕ) → IsTied o → IsTied (torn o bytes)
unfolding torn
torn_ties o bytes tied = by_test (is_dirty o)
  where
    by_test : (b : Bool) → IsTied (if b then torn_over (is_moved o) bytes (placed o) else o)
    by_test true = torn_over_ties (is_moved o) bytes (placed o)
    by_test false = tied

-- ---- The laws

update_ehdr_ties : (h : Ehdr) → KeepsTied (update_ehdr h)
unfolding is_dirty with_ehdr
update_ehdr_ties h = marking_ties _ (λ o. update_ehdr_refusal o h) (λ o. tt) (λ o. with_ehdr o h)
    (λ o. second_true o.marked o.segments_marked (some_section_marked (with_ehdr o h)))

update_phdr_ties : (i : ℕ) (p : Phdr) → KeepsTied (update_phdr i p)
unfolding is_dirty with_phdr with_phdrs
update_phdr_ties i p = marking_ties _ (λ o. update_phdr_refusal o i p) (λ o. tt) (λ o. with_phdr o i p)
    (λ o. third_true o.marked o.header_marked (some_section_marked (with_phdr o i p)))

newphdr_ties : (n : ℕ) → KeepsTied (newphdr n)
unfolding is_dirty with_new_phdrs with_phdrs
newphdr_ties n = marking_ties _ (λ o. newphdr_refusal n) (λ o. tt) (λ o. with_new_phdrs o n)
    (λ o. third_true o.marked o.header_marked (some_section_marked (with_new_phdrs o n)))

phdrs_mut_ties : (left : List Phdr) → KeepsTied (phdrs_mut left)
unfolding is_dirty with_phdrs
phdrs_mut_ties left = marking_ties _ (λ o. None) (λ o. tt) (λ o. with_phdrs o left)
    (λ o. third_true o.marked o.header_marked (some_section_marked (with_phdrs o left)))

set_item_ties : {A : Type 0} (get : Call A) (update : A → Call (Unit {0})) (change : A → A) → ((x : A) → KeepsTied (update x)) → KeepsTied (set_item get update change)
set_item_ties get update change keeps = looked_keeps IsTied get (λ x. update (change x)) (λ x o tied e. keeps (change x) o tied)

pub every_step_keeps_tied : EveryStepKeepsTied
every_step_keeps_tied = record {
  update_ehdr = update_ehdr_ties;
  update_phdr = update_phdr_ties;
  newphdr = newphdr_ties;
  phdrs_mut = phdrs_mut_ties;
  update_shdr = update_shdr_ties;
  newscn = newscn_ties;
  newnull = newnull_ties;
  newdata = newdata_ties;
  set_fill = set_fill_ties;
  replace = replace_ties;
  flag = flag_ties;
  update_null = update_null_ties;
  lend = lend_ties;
  update_half = update_half_ties;
  update_word = update_word_ties;
  update_addr = update_addr_ties;
  update_sym = update_sym_ties;
  update_rel = update_rel_ties;
  update_rela = update_rela_ties;
  update_dynent = update_dynent_ties;
  addall = addall_ties;
  set_ehdr = λ change. looked_keeps IsTied ehdr (λ h. update_ehdr (change h)) (λ h o tied e. update_ehdr_ties (change h) o tied);
  set_phdr = λ i change. looked_keeps IsTied (phdr i) (λ p. update_phdr i (change p)) (λ p o tied e. update_phdr_ties i (change p) o tied);
  set_shdr = λ s change. looked_keeps IsTied (shdr s) (λ h. update_shdr s (change h)) (λ h o tied e. update_shdr_ties s (change h) o tied);
  set_half = λ s p i change. set_item_ties (calls.half s p i) (calls.update_half s p i) change (λ x. update_half_ties s p i x);
  set_word = λ s p i change. set_item_ties (calls.word s p i) (calls.update_word s p i) change (λ x. update_word_ties s p i x);
  set_addr = λ s p i change. set_item_ties (calls.addr s p i) (calls.update_addr s p i) change (λ x. update_addr_ties s p i x);
  set_sym = λ s p i change. set_item_ties (calls.sym s p i) (calls.update_sym s p i) change (λ x. update_sym_ties s p i x);
  set_rel = λ s p i change. set_item_ties (calls.rel s p i) (calls.update_rel s p i) change (λ x. update_rel_ties s p i x);
  set_rela = λ s p i change. set_item_ties (calls.rela s p i) (calls.update_rela s p i) change (λ x. update_rela_ties s p i x);
  set_dynent = λ s p i change. set_item_ties (calls.dynent s p i) (calls.update_dynent s p i) change (λ x. update_dynent_ties s p i x);
}

pub beginnings_are_tied : BeginningsAreTied
beginnings_are_tied = record { from_image = opened_ties; from_nothing = created_ties }

pub updates_tie : ((o : Object) → ReopenLaw o) → (o : Object) → UpdatesTie o
updates_tie reopens o = record { settled = settle_ties o (reopens o); torn = torn_ties o }
