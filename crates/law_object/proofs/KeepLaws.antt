-- Each step on headers, sections and pieces keeps what makes an object (`IsObject`).
use Rattle.std.proofs.Common.{◌≡◌, ℕ, zero, suc, ◌+◌, ◌^◌, ◌<◌, ◌≤◌, Bool, true, false, not, ◌&&◌, List, [], ◌∷◌, ◌++◌, length, get_or, set, replicate, Option, Some, None, refl, sym, ap, ◌∙◌, subst, arith, lit<, lit≤, ⊎_elim}
use Rattle.std.specs.Prelude.{All, IfSome, IsTrue, nat_le, nat_lt, if◌then◌else◌, ◌==◌}
use Rattle.std.proofs.lemmas.Bool.{le-leb, leb-false, ltb-false, eqb-true, cases_lt}
use Rattle.std.proofs.lemmas.List.{length-set, length-append, length-replicate, get_or_past, set_past, nil_from_length, length_push}
use Rattle.std.proofs.lemmas.List.Elements.{All-nil, All-cons, All-set, All-append, All-push, All-get_or}
use Rattle.elf_types.specs.declared.records.Class.{Class}
use Rattle.elf_types.specs.declared.records.Class.TheVariants.{C32, C64}
use Rattle.elf_types.specs.declared.records.Ehdr.{Ehdr}
use Rattle.elf_types.specs.declared.records.Phdr.{Phdr}
use Rattle.elf_types.specs.declared.records.Shdr.{Shdr}
use Rattle.elf_types.specs.declared.records.Part.{Part}
use Rattle.elf_types.specs.declared.records.Part.TheVariants as part
use Rattle.elf_types.specs.declared.errors.ElfError.TheVariants.{BadAlign, NoSection, Reserved, TooMany, Unfit}
use Rattle.elf_object.specs.elf_xlate.declared.content.Items.{Items}
use Rattle.elf_object.specs.elf_xlate.Headers.{IsEhdr, IsShdr, ehdr_fits, shdr_fits}
use Rattle.elf_object.specs.elf_xlate.Translation.{items_kind}
use Rattle.elf_types.specs.Answers.{refused_if}
use Rattle.elf_object.specs.elf_ident.Front.{zero_shdr}
use Rattle.elf_object.specs.Object.{Object, Section, Piece, section_at, piece_at, absent_section, new_section, home_piece, no_phdr, no_home}
use Rattle.elf_object.specs.Steps.{with_sections, new_number, with_section, with_piece_at, with_ehdr, stored_ehdr, with_phdrs, with_phdr, with_new_phdrs, with_shdr, with_new_section, with_null_section, with_new_piece, own_piece, with_own, with_mark, with_layout, with_flags, is_whole, with_fill}
use Rattle.elf_object.specs.Calls.{step, update_ehdr, update_ehdr_refusal, update_phdr, update_phdr_refusal, newphdr, newphdr_refusal, phdrs_mut, update_shdr, update_shdr_refusal, newscn, newscn_refusal, newnull, newdata_aligned, newdata_refusal, unfit_items, flag_refusal, set_fill, replace, replace_refusal, flag, lend, is_piece_align}
use Rattle.elf_object.specs.Answers.{lend_refusal, items_at, piece_count, flags_of, has_dirty, has_layout}
use Rattle.elf_object.specs.Valid.{IsHome, IsPiece, OthersOwn, IsSection, IsObject, KeepsObject}
use Rattle.elf_object.proofs.PieceLaws.{IsOwn, others_set, others_push, own_piece_is, home_piece_is}
use Rattle.elf_object.proofs.PassedLaws.{not_refused, not_not, passed_two, passed_three, passed_one, answered_keeps, edit_keeps}

-- what holds of each item, and of what stands for none, holds of the item at any index
pub at_or : {X : Type 0} (P : X → Type 0) (l : List X) (i : ℕ) (d : X) → All P l → P d → P (get_or l i d)
at_or P l i d each none = ⊎_elim (λ h. All-get_or P l i d h each) (λ h. let same = get_or_past l i d h in subst P (sym same) none) (cases_lt i (length l))

-- ---- Headers

stored_ehdr_is : (old h : Ehdr) → IsEhdr old → IsEhdr h → IsEhdr (stored_ehdr old h)
unfolding stored_ehdr
stored_ehdr_is old h a b = record {
  osabi = b.osabi;
  abiversion = b.abiversion;
  etype = b.etype;
  machine = b.machine;
  version = a.version;
  entry = b.entry;
  phoff = b.phoff;
  shoff = b.shoff;
  flags = b.flags;
  ehsize = a.ehsize;
  phentsize = a.phentsize;
  phnum = a.phnum;
  shentsize = a.shentsize;
  shnum = a.shnum;
  shstrndx = b.shstrndx;
}

or_first : (b c : Bool) → (not b && c) ≡ false → c ≡ true → b ≡ true
or_first true c h k = refl
or_first false c h k = let clash : true ≡ false = sym k ∙ h in cc

zero_or_below : (x n : ℕ) → (not (x == 0) && nat_le n x) ≡ false → n ≡ 0 → x ≡ 0
zero_or_below x n h none = eqb-true x 0 (or_first (x == 0) (nat_le n x) h (le-leb n x (omega arith)))

ehdr_stored : (o : Object) (h : Ehdr) → IsObject o → IsEhdr h → update_ehdr_refusal o h ≡ None → IsObject (with_ehdr o h)
unfolding update_ehdr_refusal with_ehdr stored_ehdr
ehdr_stored o h ok is passed =
    let tests = passed_two (not (h.shstrndx == 0) && nat_le (length o.sections) h.shstrndx) (not (ehdr_fits (stored_ehdr o.header h))) (NoSection h.shstrndx (length o.sections)) (Unfit part.Header 0) passed in
    record {
      header = stored_ehdr_is o.header h ok.header is;
      fitting = not_not (ehdr_fits (stored_ehdr o.header h)) tests.1;
      phnum = ok.phnum;
      shnum = ok.shnum;
      pad = ok.pad;
      pad_bytes = ok.pad_bytes;
      phdr_count = ok.phdr_count;
      sections = ok.sections;
      section_count = ok.section_count;
      string_index = λ none. zero_or_below h.shstrndx (length o.sections) tests.0 (ap length none);
      base = ok.base;
      base_length = ok.base_length;
      fill = ok.fill;
    }

pub update_ehdr_keeps : (h : Ehdr) → IsEhdr h → KeepsObject (update_ehdr h)
update_ehdr_keeps h is = edit_keeps IsObject _ (λ o. update_ehdr_refusal o h) (λ o. tt) (λ o. with_ehdr o h) (λ o ok passed. ehdr_stored o h ok is passed)

-- ---- Program headers

-- a header with other counts and another string index
pub counted_is : (h : Ehdr) (m n index : ℕ) → IsEhdr h → m < 2 ^ 32 → n < 2 ^ 32 → index < 2 ^ 32 → IsEhdr (record h { phnum = m; shnum = n; shstrndx = index })
counted_is h m n index is phnum shnum shstrndx = record {
  osabi = is.osabi;
  abiversion = is.abiversion;
  etype = is.etype;
  machine = is.machine;
  version = is.version;
  entry = is.entry;
  phoff = is.phoff;
  shoff = is.shoff;
  flags = is.flags;
  ehsize = is.ehsize;
  phentsize = is.phentsize;
  phnum = phnum;
  shentsize = is.shentsize;
  shnum = shnum;
  shstrndx = shstrndx;
}

counted_fits : (h : Ehdr) (m n : ℕ) → IsTrue (ehdr_fits h) → IsTrue (ehdr_fits (record h { phnum = m; shnum = n }))
unfolding ehdr_fits
counted_fits h m n fitting = fitting

phdrs_kept : (o : Object) (l : List Phdr) → IsObject o → length l ≤ 2 ^ 20 → IsObject (with_phdrs o l)
unfolding with_phdrs
phdrs_kept o l ok count = record {
  header = counted_is o.header (length l) o.header.shnum o.header.shstrndx ok.header (omega arith) ok.header.shnum ok.header.shstrndx;
  fitting = counted_fits o.header (length l) o.header.shnum ok.fitting;
  phnum = refl;
  shnum = ok.shnum;
  pad = ok.pad;
  pad_bytes = ok.pad_bytes;
  phdr_count = count;
  sections = ok.sections;
  section_count = ok.section_count;
  string_index = ok.string_index;
  base = ok.base;
  base_length = ok.base_length;
  fill = ok.fill;
}

pub update_phdr_keeps : (i : ℕ) (p : Phdr) → KeepsObject (update_phdr i p)
unfolding with_phdr
update_phdr_keeps i p = edit_keeps IsObject _ (λ o. update_phdr_refusal o i p) (λ o. tt) (λ o. with_phdr o i p) (λ o ok passed.
    let count : length (set o.phdrs i p) ≤ 2 ^ 20 = rw length-set (ok.phdr_count) in
    phdrs_kept o (set o.phdrs i p) ok count)

pub phdrs_mut_keeps : (left : List Phdr) → length left ≤ 2 ^ 20 → KeepsObject (phdrs_mut left)
phdrs_mut_keeps left count = edit_keeps IsObject _ (λ o. None) (λ o. tt) (λ o. with_phdrs o left) (λ o ok passed. phdrs_kept o left ok count)

pub newphdr_keeps : (n : ℕ) → KeepsObject (newphdr n)
unfolding with_new_phdrs
newphdr_keeps n = edit_keeps IsObject _ (λ o. newphdr_refusal n) (λ o. tt) (λ o. with_new_phdrs o n) (λ o ok passed.
    let small = ltb-false 65534 n (not_refused (nat_lt 65534 n) TooMany passed) in
    let count : length (replicate n no_phdr) ≤ 2 ^ 20 = rw length-replicate (omega arith) in
    phdrs_kept o (replicate n no_phdr) ok count)

-- ---- Sections

nil_before : {X : Type 0} (l : List X) (i : ℕ) (x : X) → set l i x ≡ [] → l ≡ []
nil_before l i x h = nil_from_length l (sym (length-set l i x) ∙ ap length h)

section_kept : (o : Object) (s : ℕ) (c : Section) → IsObject o → IsSection o.header.class c → IsObject (with_section o s c)
unfolding with_section
section_kept o s c ok is = record {
  header = ok.header;
  fitting = ok.fitting;
  phnum = ok.phnum;
  shnum = ok.shnum ∙ sym (length-set o.sections s c);
  pad = ok.pad;
  pad_bytes = ok.pad_bytes;
  phdr_count = ok.phdr_count;
  sections = All-set (IsSection o.header.class) o.sections s c is ok.sections;
  section_count = rw length-set (ok.section_count);
  string_index = λ none. ok.string_index (nil_before o.sections s c none);
  base = ok.base;
  base_length = ok.base_length;
  fill = ok.fill;
}

pub zero_shdr_is : IsShdr zero_shdr
unfolding zero_shdr
zero_shdr_is = record {
  name = lit< tt;
  stype = lit< tt;
  flags = lit< tt;
  addr = lit< tt;
  offset = lit< tt;
  size = lit< tt;
  link = lit< tt;
  info = lit< tt;
  addralign = lit< tt;
  entsize = lit< tt;
}

zero_shdr_fits : (class : Class) → IsTrue (shdr_fits class zero_shdr)
unfolding shdr_fits zero_shdr
zero_shdr_fits C32 = refl
zero_shdr_fits C64 = refl

no_home_is : IsHome no_home []
no_home_is = record {
  at = lit< tt;
  len = lit< tt;
  inside = λ h. refl;
  outside = λ h. refl;
  empty = λ h. refl;
  bytes = All-nil (λ n. n < 2 ^ 8);
}

pub new_section_is : (class : Class) → IsSection class new_section
new_section_is class = record {
  header = zero_shdr_is;
  fitting = zero_shdr_fits class;
  home = no_home_is;
  pieces = All-nil IsPiece;
  others = tt;
  piece_count = lit≤ tt;
}

-- nor does its mark count
absent_section_is : (class : Class) → IsSection class absent_section
absent_section_is class =
    let is = new_section_is class in
    record { header = is.header; fitting = is.fitting; home = is.home; pieces = is.pieces; others = is.others; piece_count = is.piece_count }

-- a section of an object, and what stands where there is none
pub section_at_is : (o : Object) (s : ℕ) → IsObject o → IsSection o.header.class (section_at o s)
unfolding section_at
section_at_is o s ok = at_or (IsSection o.header.class) o.sections s absent_section ok.sections (absent_section_is o.header.class)

pub update_shdr_keeps : (s : ℕ) (h : Shdr) → IsShdr h → KeepsObject (update_shdr s h)
unfolding update_shdr_refusal with_shdr
update_shdr_keeps s h is = edit_keeps IsObject _ (λ o. update_shdr_refusal o s h) (λ o. tt) (λ o. with_shdr o s h) (λ o ok passed.
    let tests = passed_three (nat_le (length o.sections) s) (s == 0) (not (shdr_fits o.header.class h)) (NoSection s (length o.sections)) Reserved (Unfit (part.Section s) 0) passed in
    let old = section_at_is o s ok in
    section_kept o s (record (section_at o s) { header = h; marked = true }) ok (record {
      header = is;
      fitting = not_not (shdr_fits o.header.class h) tests.2;
      home = old.home;
      pieces = old.pieces;
      others = old.others;
      piece_count = old.piece_count;
    }))

-- other sections
sections_more : (o : Object) (l : List Section) → IsObject o → All (IsSection o.header.class) l → length l ≤ 2 ^ 20 → (l ≡ [] → o.header.shstrndx ≡ 0) → IsObject (with_sections o l)
sections_more o l ok each count index = record {
  header = counted_is o.header o.header.phnum (length l) o.header.shstrndx ok.header ok.header.phnum (omega arith) ok.header.shstrndx;
  fitting = counted_fits o.header o.header.phnum (length l) ok.fitting;
  phnum = ok.phnum;
  shnum = refl;
  pad = ok.pad;
  pad_bytes = ok.pad_bytes;
  phdr_count = ok.phdr_count;
  sections = each;
  section_count = count;
  string_index = index;
  base = ok.base;
  base_length = ok.base_length;
  fill = ok.fill;
}

nil_front : {X : Type 0} (l m : List X) → l ++ m ≡ [] → l ≡ []
nil_front [] m h = refl
nil_front (x ∷ l) m h = cc

-- what elf_newscn appends
abbrev added_sections : ℕ → List Section
added_sections n = if n == 0 then new_section ∷ new_section ∷ [] else new_section ∷ []

added_count : (n : ℕ) → n < 2 ^ 20 → n + length (added_sections n) ≤ 2 ^ 20
added_count n h = by_test (n == 0) refl
  where
    by_test : (b : Bool) → (n == 0) ≡ b → n + length (if n == 0 then new_section ∷ new_section ∷ [] else new_section ∷ []) ≤ 2 ^ 20
    by_test true e = let none = eqb-true n 0 e in rw e (omega arith)
    by_test false e = rw e (omega arith)

added_are : (class : Class) (b : Bool) → All (IsSection class) (if b then new_section ∷ new_section ∷ [] else new_section ∷ [])
added_are class true = All-cons (IsSection class) new_section (new_section ∷ []) (new_section_is class) (All-cons (IsSection class) new_section [] (new_section_is class) (All-nil (IsSection class)))
added_are class false = All-cons (IsSection class) new_section [] (new_section_is class) (All-nil (IsSection class))

pub newscn_keeps : KeepsObject newscn
unfolding with_new_section
newscn_keeps = edit_keeps IsObject _ newscn_refusal new_number with_new_section (λ o ok passed.
    let room = leb-false (2 ^ 20) (length o.sections) (not_refused (nat_le (2 ^ 20) (length o.sections)) TooMany passed) in
    let added = added_are o.header.class (length o.sections == 0) in
    sections_more o (o.sections ++ added_sections (length o.sections)) ok
    (All-append (IsSection o.header.class) o.sections (added_sections (length o.sections)) ok.sections added)
    (rw length-append (added_count (length o.sections) room))
    (λ none. ok.string_index (nil_front o.sections (added_sections (length o.sections)) none)))

null_keeps : (b : Bool) (o : Object) → IsObject o → IsObject (if b then with_sections o (new_section ∷ []) else o)
null_keeps true o ok =
    sections_more o (new_section ∷ []) ok (All-cons (IsSection o.header.class) new_section [] (new_section_is o.header.class) (All-nil (IsSection o.header.class))) (lit≤ tt) (λ h. cc)
null_keeps false o ok = ok

pub newnull_keeps : KeepsObject newnull
unfolding with_null_section
newnull_keeps = edit_keeps IsObject _ (λ o. None) (λ o. tt) with_null_section (λ o ok passed. null_keeps (length o.sections == 0) o ok)

-- ---- Pieces

-- a section with other pieces
pub pieces_kept : (class : Class) (c : Section) (l : List Piece) → IsSection class c → All IsPiece l → OthersOwn l → length l ≤ 2 ^ 20 → IsSection class (record c { pieces = l })
pieces_kept class c l is each others count = record {
  header = is.header;
  fitting = is.fitting;
  home = is.home;
  pieces = each;
  others = others;
  piece_count = count;
}

-- a piece of an object, and the home piece where there is none
pub piece_at_is : (o : Object) (s p : ℕ) → IsObject o → IsPiece (piece_at o s p)
unfolding piece_at
piece_at_is o s p ok = at_or IsPiece (section_at o s).pieces p home_piece (section_at_is o s ok).pieces home_piece_is

pub with_own_is : (o : Object) (s p : ℕ) (items : Items) → IsObject o → IsObject (with_own o s p items)
unfolding with_own with_piece_at
with_own_is o s p items ok =
    let old = section_at_is o s ok in
    let piece = own_piece_is items (piece_at o s p).align (piece_at_is o s p ok).align in
    section_kept o s (record (section_at o s) { pieces = set (section_at o s).pieces p (own_piece items (piece_at o s p).align) }) ok
    (pieces_kept o.header.class (section_at o s) (set (section_at o s).pieces p (own_piece items (piece_at o s p).align)) old
    (All-set IsPiece (section_at o s).pieces p (own_piece items (piece_at o s p).align) piece old.pieces)
    (others_set (section_at o s).pieces p (own_piece items (piece_at o s p).align) old.others refl)
    (rw length-set (old.piece_count)))

pub replace_keeps : (s p : ℕ) (items : Items) → KeepsObject (replace s p items)
replace_keeps s p items = edit_keeps IsObject _ (λ o. replace_refusal o s p items) (λ o. tt) (λ o. with_own o s p items) (λ o ok passed. with_own_is o s p items ok)

pub lend_keeps : (s p : ℕ) (left : Items) → KeepsObject (lend s p left)
unfolding step
lend_keeps s p left o ok = answered_keeps IsObject (lend_refusal o (items_kind left) s p) (items_at o s p) o (with_own o s p left) ok (λ passed. with_own_is o s p left ok)

with_new_piece_is : (o : Object) (s : ℕ) (items : Items) (align : ℕ) → IsObject o → IsTrue (is_piece_align align) → piece_count o s < 2 ^ 20 → IsObject (with_new_piece o s items align)
unfolding with_new_piece piece_count
with_new_piece_is o s items align ok aligned room =
    let old = section_at_is o s ok in
    let piece = own_piece_is items align aligned in
    section_kept o s (record (section_at o s) { pieces = (section_at o s).pieces ++ own_piece items align ∷ [] }) ok
    (pieces_kept o.header.class (section_at o s) ((section_at o s).pieces ++ own_piece items align ∷ []) old
    (All-push IsPiece (section_at o s).pieces (own_piece items align) old.pieces piece)
    (others_push (section_at o s).pieces (own_piece items align) old.others refl)
    (rw length_push (omega arith)))

pub newdata_keeps : (s : ℕ) (items : Items) (align : ℕ) → KeepsObject (newdata_aligned s items align)
unfolding newdata_refusal
newdata_keeps s items align =
    edit_keeps IsObject _ (λ o. newdata_refusal o s items align) (λ o. (s, piece_count o s)) (λ o. with_new_piece o s items align) (λ o ok passed.
    let fits = unfit_items o s (piece_count o s) items ∷ [] in
    let fourth = refused_if (not (is_piece_align align)) (BadAlign align) ∷ fits in
    let third = refused_if (nat_le (2 ^ 20) (piece_count o s)) TooMany ∷ fourth in
    let second = refused_if (s == 0) Reserved ∷ third in
    let there = passed_one (nat_le (length o.sections) s) (NoSection s (length o.sections)) second passed in
    let free = passed_one (s == 0) Reserved third there.1 in
    let room = passed_one (nat_le (2 ^ 20) (piece_count o s)) TooMany fourth free.1 in
    let aligned = passed_one (not (is_piece_align align)) (BadAlign align) fits room.1 in
    with_new_piece_is o s items align ok (not_not (is_piece_align align) aligned.0) (leb-false (2 ^ 20) (piece_count o s) room.0))

-- ---- Flags and fill

marked_own : (own : Option Items) → IfSome own (λ items. IsTrue true)
marked_own None = tt
marked_own (Some items) = refl

pub marked_is : (p : Piece) → IsPiece p → IsPiece (record p { marked = true })
marked_is p is = record { align = is.align; own = marked_own p.own }

others_marked : (l : List Piece) (i : ℕ) → OthersOwn l → OthersOwn (set l i (record (get_or l i home_piece) { marked = true }))
others_marked [] i others = tt
others_marked (x ∷ l) zero others = others
others_marked (x ∷ l) (suc i) others = ⊎_elim
    (λ h. All-set IsOwn l i (record (get_or l i home_piece) { marked = true }) (All-get_or IsOwn l i home_piece h others) others)
    (λ h. let same = set_past l i (record (get_or l i home_piece) { marked = true }) h in subst (All IsOwn) (sym same) others)
    (cases_lt i (length l))

-- an object with other marks, another layout and another fill byte
marks_kept : (o : Object) (header segments whole layout : Bool) (fill : ℕ) → fill < 2 ^ 8 → IsObject o
    → IsObject (record o { header_marked = header; segments_marked = segments; marked = whole; layout = layout; fill = fill })
marks_kept o header segments whole layout fill small ok = record {
  header = ok.header;
  fitting = ok.fitting;
  phnum = ok.phnum;
  shnum = ok.shnum;
  pad = ok.pad;
  pad_bytes = ok.pad_bytes;
  phdr_count = ok.phdr_count;
  sections = ok.sections;
  section_count = ok.section_count;
  string_index = ok.string_index;
  base = ok.base;
  base_length = ok.base_length;
  fill = small;
}

layout_kept : (o : Object) (layout : Bool) → IsObject o → IsObject (with_layout o layout)
layout_kept o layout ok = marks_kept o o.header_marked o.segments_marked o.marked layout o.fill ok.fill ok

with_mark_is : (o : Object) (p : Part) → IsObject o → IsObject (with_mark o p)
unfolding with_mark with_piece_at piece_at
with_mark_is o part.Object ok = marks_kept o o.header_marked o.segments_marked true o.layout o.fill ok.fill ok
with_mark_is o part.Table ok = marks_kept o o.header_marked o.segments_marked true o.layout o.fill ok.fill ok
with_mark_is o part.Header ok = marks_kept o true o.segments_marked o.marked o.layout o.fill ok.fill ok
with_mark_is o part.Segments ok = marks_kept o o.header_marked true o.marked o.layout o.fill ok.fill ok
with_mark_is o (part.Section s) ok =
    let old = section_at_is o s ok in
    section_kept o s (record (section_at o s) { marked = true }) ok (record {
      header = old.header;
      fitting = old.fitting;
      home = old.home;
      pieces = old.pieces;
      others = old.others;
      piece_count = old.piece_count;
    })
with_mark_is o (part.Piece s p) ok =
    let old = section_at_is o s ok in
    section_kept o s (record (section_at o s) { pieces = set (section_at o s).pieces p (record (get_or (section_at o s).pieces p home_piece) { marked = true }) }) ok
    (pieces_kept o.header.class (section_at o s) (set (section_at o s).pieces p (record (get_or (section_at o s).pieces p home_piece) { marked = true })) old
    (All-set IsPiece (section_at o s).pieces p (record (get_or (section_at o s).pieces p home_piece) { marked = true }) (marked_is (get_or (section_at o s).pieces p home_piece) (at_or IsPiece (section_at o s).pieces p home_piece old.pieces home_piece_is)) old.pieces)
    (others_marked (section_at o s).pieces p old.others)
    (rw length-set (old.piece_count)))

flagged : (dirty layout set : Bool) (o : Object) (p : Part) → IsObject o → IsObject (if layout then with_layout (if dirty then with_mark o p else o) set else (if dirty then with_mark o p else o))
flagged true true set o p ok = layout_kept (with_mark o p) set (with_mark_is o p ok)
flagged true false set o p ok = with_mark_is o p ok
flagged false true set o p ok = layout_kept o set ok
flagged false false set o p ok = ok

pub flag_keeps : (p : Part) (set : Bool) (bits : ℕ) → KeepsObject (flag p set bits)
unfolding with_flags
flag_keeps p set bits = edit_keeps IsObject _ (λ o. flag_refusal o p set bits) (λ o. flags_of (with_flags o p set bits) p) (λ o. with_flags o p set bits)
    (λ o ok passed. flagged (set && has_dirty bits) (is_whole p && has_layout bits) set o p ok)

pub set_fill_keeps : (byte : ℕ) → byte < 2 ^ 8 → KeepsObject (set_fill byte)
unfolding with_fill
set_fill_keeps byte small = edit_keeps IsObject _ (λ o. None) (λ o. tt) (λ o. with_fill o byte)
    (λ o ok passed. marks_kept o o.header_marked o.segments_marked o.marked o.layout byte small ok)
