-- A call that looks at the items of a piece: how it is refused, what it is due, and what it reads.
use Rattle.std.proofs.Common.{◌≡◌, ◌≢◌, ℕ, ◌<◌, Bool, true, false, not, List, [], ◌∷◌, length, Option, Some, None, Result, Ok, Err, refl, sym, ap, ◌∙◌, subst, inl, inr, arith}
use Rattle.std.specs.Prelude.{IfErr, OnOk, is_some, is_none, nat_lt, nat_le, unwrap_or, slice_get, ◌||◌, ◌⊎◌, if◌then◌else◌}
use Rattle.std.proofs.lemmas.Bool.{ltb-true, ltb-false}
use Rattle.std.proofs.lemmas.List.Elements.{All-get_or}
use Rattle.elf_types.specs.declared.records.Class.{Class}
use Rattle.elf_types.specs.declared.records.Order.{Order}
use Rattle.elf_types.specs.declared.records.Kind.{Kind}
use Rattle.elf_types.specs.declared.errors.ElfError.{ElfError}
use Rattle.elf_types.specs.declared.errors.ElfError.TheVariants.{Memory, NoSection, NoData, WrongKind, OutOfFile, Ragged}
use Rattle.elf_types.specs.Answers.{answered, refused_if, first_refusal, err_of}
use Rattle.section_table.specs.elf_xlate.declared.content.Items.{Items}
use Rattle.section_table.specs.elf_xlate.Translation.{decoded, is_whole}
use Rattle.section_table.proofs.elf_xlate.Decoded.{whole_is}
use Rattle.section_table.specs.elf_outside.declared.sources.Source.{Ghosts}
use Rattle.section_table.specs.elf_outside.Asks.{Asks}
use Rattle.section_table.specs.elf_object.Words.{Wants, Answers}
use Rattle.section_table.specs.elf_object.Object.{Object, Section, Piece, section_at, absent_section}
use Rattle.section_table.specs.elf_object.Answers.{content, no_section, no_data, wrong_kind, no_content, same_kind, data_refusal, lend_refusal}
use Rattle.section_table.specs.elf_object.Valid.{IsSection}
use Rattle.section_table.specs.elf_object.Calls.{reader}
use Rattle.section_table.specs.elf_object.Due.{is_loaded, holds_items, homes_due, unless_refused, when_piece_clean}
use Rattle.section_table.specs.section_data.Views.{CellView}
use Rattle.section_table.specs.section_data.Held.{piece_in, kind_in, cell_is_loaded, piece_holds_items, ready, is_ragged}
use Rattle.section_table.specs.section_data.Refused.{no_piece, wrong_piece_kind, no_home_items, items_refused, kind_refused, home_out, home_ragged, load_due, piece_due, due_unless}
use Rattle.section_table.specs.Sections.{SectionView as Scn, absent_scn}
use Rattle.elf_descriptor.specs.declared.body.Body.{Body}
use Rattle.elf_descriptor.specs.Views.{object_of, section_of, raw_of, scn_at, no_scn, loaded_of, held_of, state_of}
use Rattle.elf_descriptor.specs.Bodies.{no_items_in, no_list_in}
use Rattle.elf_descriptor.specs.Warmed.{Warmed}
use Rattle.elf_descriptor.specs.Sound.{IsElf}
use Rattle.elf_descriptor.specs.Reads.{Reads, Looks}
use Rattle.elf_descriptor.proofs.Refusals.{IsUnread, unread_if, unread_first}
use Rattle.elf_descriptor.proofs.Objects.{section_is, section_count_is, no_section_is, no_data_is, piece_is, kind_is}
use Rattle.elf_descriptor.proofs.Warming.{cell_at}
use Rattle.elf_descriptor.proofs.Loaded.{loaded_is, home_held_is, absent_at}
use Rattle.elf_descriptor.proofs.Reading.{object_over, left_object, reads_warmed, idle_one, settled_one, one_due, none_due}
use Rattle.elf_descriptor.proofs.RawCalls.{scn_missing, scn_there, home_due_is, absent_due}

-- ---- The content of a home

pub section_sound : (image : Option (List ℕ)) (size : ℕ) (b : Body) (s : ℕ) → IsElf image size b
    → s < length b.sections → IsSection b.header.class (section_of image (scn_at b s))
unfolding section_at object_of
section_sound image size b s is there =
    let count = section_count_is image size b in
    subst (λ (c : Section). IsSection b.header.class c) (section_is image size b s)
    (All-get_or (IsSection b.header.class) (object_of image size b).sections s absent_section (omega (arith, there, count)) is.sound.object.sections)

-- a home in the file has as many bytes as it is long
pub raw_length : (image : Option (List ℕ)) (size : ℕ) (b : Body) (s : ℕ) → IsElf image size b
    → s < length b.sections → (scn_at b s).cell.home.out ≡ false
    → length (raw_of image (scn_at b s).cell) ≡ (scn_at b s).cell.home.len
unfolding section_of
raw_length image size b s is there inside = (section_sound image size b s is there).home.inside inside

abbrev pub content_with : Class → Order → ℕ → Section → Result Items ElfError
content_with class order s c =
    if c.home.out then Err (OutOfFile s) else (elim (decoded c.home.kind class order c.raw) [ None ↦ Err (Ragged s) | Some items ↦ Ok items ])

pub content_is : (image : Option (List ℕ)) (size : ℕ) (b : Body) (s : ℕ) → content (object_of image size b) s ≡ content_with b.header.class b.header.order s (section_of image (scn_at b s))
unfolding content object_of
content_is image size b s = ap (λ (c : Section). content_with b.header.class b.header.order s c) (section_is image size b s)

content_refused : (image : Option (List ℕ)) (size : ℕ) (b : Body) (s : ℕ) → IsElf image size b
    → s < length b.sections
    → err_of (content (object_of image size b) s) ≡ first_refusal (home_out (scn_at b s).cell ∷ home_ragged b.header.class (scn_at b s).cell ∷ [])
unfolding section_of
content_refused image size b s is there = ap (λ (r : Result Items ElfError). err_of r) (content_is image size b s) ∙ by_out (scn_at b s).cell.home.out refl
  where
    number : (scn_at b s).cell.section ≡ s
    number = (cell_at image size b s is there).number

    by_made : (made : Option Items) (whole : Bool) → is_some made ≡ whole
        → err_of (elim made [ None ↦ Err (Ragged s) | Some items ↦ Ok items ]) ≡ first_refusal (refused_if (not whole) (Ragged (scn_at b s).cell.section) ∷ [])
    by_made None whole e = ap (λ (n : ℕ). Some (Ragged n)) (sym number) ∙ ap (λ (w : Bool). first_refusal (refused_if (not w) (Ragged (scn_at b s).cell.section) ∷ [])) e
    by_made (Some items) whole e = ap (λ (w : Bool). first_refusal (refused_if (not w) (Ragged (scn_at b s).cell.section) ∷ [])) e

    by_out : (out : Bool) → (scn_at b s).cell.home.out ≡ out
        → err_of (if out then Err (OutOfFile s) else (elim (decoded (scn_at b s).cell.home.kind b.header.class b.header.order (raw_of image (scn_at b s).cell)) [ None ↦ Err (Ragged s) | Some items ↦ Ok items ]))
        ≡ first_refusal (refused_if out (OutOfFile (scn_at b s).cell.section) ∷ home_ragged b.header.class (scn_at b s).cell ∷ [])
    by_out true e = ap (λ (n : ℕ). Some (OutOfFile n)) (sym number)
    by_out false e =
        by_made (decoded (scn_at b s).cell.home.kind b.header.class b.header.order (raw_of image (scn_at b s).cell)) (is_whole (scn_at b s).cell.home.kind b.header.class (scn_at b s).cell.home.len)
        (whole_is (scn_at b s).cell.home.kind b.header.class b.header.order (raw_of image (scn_at b s).cell)
        ∙ ap (λ (n : ℕ). is_whole (scn_at b s).cell.home.kind b.header.class n) (raw_length image size b s is there e))

no_content_is : (image : Option (List ℕ)) (size : ℕ) (b : Body) (s p : ℕ) → IsElf image size b
    → s < length b.sections
    → no_content (object_of image size b) s p ≡ no_home_items b.header.class (scn_at b s).cell p
unfolding no_content no_home_items
no_content_is image size b s p is there =
    ap (λ (q : Piece). elim (q.own) [ None ↦ err_of (content (object_of image size b) s) | Some items ↦ None ]) (piece_is image size b s p)
    ∙ ap (λ (r : Option ElfError). elim ((piece_in (scn_at b s).cell p).own) [ None ↦ r | Some items ↦ None ]) (content_refused image size b s is there)

wrong_kind_is : (image : Option (List ℕ)) (size : ℕ) (b : Body) (kind : Kind) (s p : ℕ) → wrong_kind (object_of image size b) kind s p ≡ wrong_piece_kind (scn_at b s).cell kind p
wrong_kind_is image size b kind s p = ap (λ (k : Kind). refused_if (not (same_kind k kind)) (WrongKind k)) (kind_is image size b s p)

-- ---- Refusals

first_one : (r : Option ElfError) → first_refusal (r ∷ []) ≡ r
first_one None = refl
first_one (Some e) = refl

first_nested : (a : Option ElfError) (later : List (Option ElfError)) → first_refusal (a ∷ later) ≡ first_refusal (a ∷ first_refusal later ∷ [])
first_nested None later = sym (first_one (first_refusal later))
first_nested (Some e) later = refl

-- where there is no section, what comes later is not looked at
by_section : (b : Body) (s : ℕ) (before : Option ElfError) (later now : List (Option ElfError)) → before ≡ no_scn b s
    → (s < length b.sections → first_refusal later ≡ first_refusal now)
    → first_refusal (before ∷ later) ≡ first_refusal (no_scn b s ∷ now)
by_section b s before later now is same = ap (λ (r : Option ElfError). first_refusal (r ∷ later)) is
    ∙ by_range (nat_lt s (length b.sections)) refl
  where
    by_range : (t : Bool) → nat_lt s (length b.sections) ≡ t
        → first_refusal (no_scn b s ∷ later) ≡ first_refusal (no_scn b s ∷ now)
    by_range true e =
        let there = ltb-true s (length b.sections) e in
        ap (λ (r : Option ElfError). first_refusal (r ∷ later)) (scn_there b s there) ∙ same there
        ∙ sym (ap (λ (r : Option ElfError). first_refusal (r ∷ now)) (scn_there b s there))
    by_range false e =
        let missing = scn_missing b s (ltb-false s (length b.sections) e) in
        ap (λ (r : Option ElfError). first_refusal (r ∷ later)) missing ∙ sym (ap (λ (r : Option ElfError). first_refusal (r ∷ now)) missing)

pub data_refusal_is : (image : Option (List ℕ)) (size : ℕ) (b : Body) (s p : ℕ) → IsElf image size b → data_refusal (object_of image size b) s p ≡ no_items_in b s p
unfolding data_refusal no_items_in items_refused
data_refusal_is image size b s p is =
    let o = object_of image size b in
    let c = (scn_at b s).cell in
    by_section b s (no_section o s) (no_data o s p ∷ no_content o s p ∷ []) (no_piece c p ∷ no_home_items b.header.class c p ∷ []) (no_section_is image size b s)
    (λ there.
    ap (λ (r : Option ElfError). first_refusal (r ∷ no_content o s p ∷ [])) (no_data_is image size b s p)
    ∙ ap (λ (r : Option ElfError). first_refusal (no_piece c p ∷ r ∷ [])) (no_content_is image size b s p is there))
    ∙ first_nested (no_scn b s) (no_piece c p ∷ no_home_items b.header.class c p ∷ [])

pub lend_refusal_is : (image : Option (List ℕ)) (size : ℕ) (b : Body) (kind : Kind) (s p : ℕ) → IsElf image size b → lend_refusal (object_of image size b) kind s p ≡ no_list_in b kind s p
unfolding lend_refusal no_list_in kind_refused
lend_refusal_is image size b kind s p is =
    let o = object_of image size b in
    let c = (scn_at b s).cell in
    by_section b s (no_section o s) (no_data o s p ∷ wrong_kind o kind s p ∷ no_content o s p ∷ [])
    (no_piece c p ∷ wrong_piece_kind c kind p ∷ no_home_items b.header.class c p ∷ []) (no_section_is image size b s)
    (λ there.
    ap (λ (r : Option ElfError). first_refusal (r ∷ wrong_kind o kind s p ∷ no_content o s p ∷ [])) (no_data_is image size b s p)
    ∙ ap (λ (r : Option ElfError). first_refusal (no_piece c p ∷ r ∷ no_content o s p ∷ [])) (wrong_kind_is image size b kind s p)
    ∙ ap (λ (r : Option ElfError). first_refusal (no_piece c p ∷ wrong_piece_kind c kind p ∷ r ∷ [])) (no_content_is image size b s p is there))
    ∙ first_nested (no_scn b s) (no_piece c p ∷ wrong_piece_kind c kind p ∷ no_home_items b.header.class c p ∷ [])

-- each of them comes before the home is read
home_unread : (class : Class) (c : CellView) (p : ℕ) → IsUnread (no_home_items class c p)
unfolding no_home_items
home_unread class c p = by_own (piece_in c p).own
  where
    by_own : (o : Option Items) → IsUnread (elim o [ None ↦ first_refusal (home_out c ∷ home_ragged class c ∷ []) | Some items ↦ None ])
    by_own (Some items) = inl refl
    by_own None =
        unread_first (home_out c) (home_ragged class c ∷ []) (unread_if c.home.out (OutOfFile c.section) refl)
        (unread_first (home_ragged class c) [] (unread_if (is_ragged class c) (Ragged c.section) refl) (inl refl))

pub items_unread : (class : Class) (c : CellView) (p : ℕ) → IsUnread (items_refused class c p)
unfolding items_refused
items_unread class c p =
    unread_first (no_piece c p) (no_home_items class c p ∷ []) (unread_if (nat_le (length c.pieces) p) (NoData p (length c.pieces)) refl)
    (unread_first (no_home_items class c p) [] (home_unread class c p) (inl refl))

pub kind_unread : (class : Class) (c : CellView) (kind : Kind) (p : ℕ) → IsUnread (kind_refused class c kind p)
unfolding kind_refused
kind_unread class c kind p =
    unread_first (no_piece c p) (wrong_piece_kind c kind p ∷ no_home_items class c p ∷ []) (unread_if (nat_le (length c.pieces) p) (NoData p (length c.pieces)) refl)
    (unread_first (wrong_piece_kind c kind p) (no_home_items class c p ∷ []) (unread_if (not (same_kind (kind_in c p) kind)) (WrongKind (kind_in c p)) refl)
    (unread_first (no_home_items class c p) [] (home_unread class c p) (inl refl)))

pub section_unread : (b : Body) (s : ℕ) (r : Option ElfError) → IsUnread r → IsUnread (first_refusal (no_scn b s ∷ r ∷ []))
unfolding no_scn
section_unread b s r unread =
    unread_first (no_scn b s) (r ∷ [])
    (unread_if (nat_le (length b.sections) s) (NoSection s (length b.sections)) refl)
    (unread_first r [] unread (inl refl))

-- ---- What is due

-- the section is read where the piece is clean
pub clean_list : (image : Option (List ℕ)) (size : ℕ) (b : Body) (s p : ℕ) → (own : Bool) → is_some (piece_in (scn_at b s).cell p).own ≡ own
    → when_piece_clean (object_of image size b) s p ≡ (if own then [] else s ∷ [])
unfolding when_piece_clean
clean_list image size b s p own is =
    ap (λ (q : Piece). if is_none q.own then s ∷ [] else []) (piece_is image size b s p) ∙ by_own (piece_in (scn_at b s).cell p).own own is
  where
    by_own : (o : Option Items) (own : Bool) → is_some o ≡ own → ◌≡◌ {A = List ℕ} (if is_none o then s ∷ [] else []) (if own then [] else s ∷ [])
    by_own None own e = ap (λ (t : Bool). if t then [] else s ∷ []) e
    by_own (Some items) own e = ap (λ (t : Bool). if t then [] else s ∷ []) e

clean_due : (image : Option (List ℕ)) (size : ℕ) (b : Body) (s p : ℕ) → homes_due (object_of image size b) (loaded_of b) (when_piece_clean (object_of image size b) s p) ≡ piece_due (scn_at b s).cell p
unfolding piece_due homes_due
clean_due image size b s p =
    ap (λ (l : List ℕ). homes_due (object_of image size b) (loaded_of b) l) (clean_list image size b s p (is_some (piece_in (scn_at b s).cell p).own) refl)
    ∙ by_own (is_some (piece_in (scn_at b s).cell p).own)
  where
    by_own : (own : Bool) → homes_due (object_of image size b) (loaded_of b) (if own then [] else s ∷ []) ≡ (if own then 0 else load_due (scn_at b s).cell)
    by_own true = refl
    by_own false = one_due (object_of image size b) (loaded_of b) s ∙ home_due_is image size b s

absent_piece_due : (p : ℕ) → piece_due absent_scn.cell p ≡ 0
unfolding piece_due
absent_piece_due p = by_own (is_some (piece_in absent_scn.cell p).own)
  where
    by_own : (own : Bool) → (if own then 0 else load_due absent_scn.cell) ≡ 0
    by_own true = refl
    by_own false = absent_due

no_due : (r : Option ElfError) → due_unless r 0 ≡ 0
no_due None = refl
no_due (Some e) = refl

pub reader_due : (image : Option (List ℕ)) (size : ℕ) (b : Body) (s p : ℕ) (r : Option ElfError) → IsUnread r
    → homes_due (object_of image size b) (loaded_of b) (unless_refused (first_refusal (no_scn b s ∷ r ∷ [])) (when_piece_clean (object_of image size b) s p)) ≡ due_unless r (piece_due (scn_at b s).cell p)
reader_due image size b s p r unread = by_range (nat_lt s (length b.sections)) refl
  where
    by_refusal : (q : Option ElfError) → IsUnread q
        → homes_due (object_of image size b) (loaded_of b) (unless_refused (first_refusal (q ∷ [])) (when_piece_clean (object_of image size b) s p)) ≡ due_unless q (piece_due (scn_at b s).cell p)
    by_refusal None h = clean_due image size b s p
    by_refusal (Some e) (inl none_named) = cc
    by_refusal (Some e) (inr h) = none_due (object_of image size b) (loaded_of b) (Some e) (when_piece_clean (object_of image size b) s p) h

    by_range : (t : Bool) → nat_lt s (length b.sections) ≡ t
        → homes_due (object_of image size b) (loaded_of b) (unless_refused (first_refusal (no_scn b s ∷ r ∷ [])) (when_piece_clean (object_of image size b) s p)) ≡ due_unless r (piece_due (scn_at b s).cell p)
    by_range true e =
        ap (λ (q : Option ElfError). homes_due (object_of image size b) (loaded_of b) (unless_refused (first_refusal (q ∷ r ∷ [])) (when_piece_clean (object_of image size b) s p)))
        (scn_there b s (ltb-true s (length b.sections) e))
        ∙ by_refusal r unread
    by_range false e =
        let past = ltb-false s (length b.sections) e in
        ap (λ (q : Option ElfError). homes_due (object_of image size b) (loaded_of b) (unless_refused (first_refusal (q ∷ r ∷ [])) (when_piece_clean (object_of image size b) s p))) (scn_missing b s past)
        ∙ none_due (object_of image size b) (loaded_of b) (Some (NoSection s (length b.sections)))
        (when_piece_clean (object_of image size b) s p) refl
        ∙ sym (ap (λ (x : Scn). due_unless r (piece_due x.cell p)) (absent_at b s past) ∙ ap (λ (n : ℕ). due_unless r n) (absent_piece_due p) ∙ no_due r)

-- ---- What is held

pub holds_is : (image : Option (List ℕ)) (size : ℕ) (b : Body) (s p : ℕ) → holds_items (object_of image size b) (held_of b) s p ≡ piece_holds_items (scn_at b s).cell p
unfolding holds_items ready
holds_is image size b s p =
    ap (λ (q : Piece). is_some q.own || unwrap_or (slice_get (held_of b) s) false) (piece_is image size b s p)
    ∙ ap (λ (t : Bool). is_some (piece_in (scn_at b s).cell p).own || t) (home_held_is b s)
    ∙ by_own (piece_in (scn_at b s).cell p).own
  where
    by_own : (o : Option Items) → (is_some o || is_some (scn_at b s).cell.held) ≡ is_some (elim o [ None ↦ (scn_at b s).cell.held | Some items ↦ Some items ])
    by_own None = refl
    by_own (Some items) = refl

-- ---- The call

-- a step of a call on a piece that is refused before it reads, or reads the home of a clean piece
pub reader_looks : {S A : Type 0} (g : Ghosts S) (answer : Object → Result A ElfError) (wants : Wants) (result : Result (Unit {0}) ElfError) (source left : S) (old new : Body) (s p : ℕ) (r : Option ElfError)
    → IsUnread r
    → unless_refused (err_of (answer (object_over g source old))) (when_piece_clean (object_over g source old) s p)
    ≡ unless_refused (first_refusal (no_scn old s ∷ r ∷ [])) (when_piece_clean (object_over g source old) s p)
    → Warmed (g.holds source) old new s
    → Answers true wants result (answered (first_refusal (no_scn old s ∷ r ∷ [])) (tt {0}))
    → IfErr result (λ e. e ≢ Memory → (scn_at new s).cell ≡ (scn_at old s).cell)
    → (is_some (piece_in (scn_at old s).cell p).own ≡ true → (scn_at new s).cell ≡ (scn_at old s).cell)
    → OnOk result (is_some (piece_in (scn_at old s).cell p).own ≡ false → cell_is_loaded (scn_at new s).cell ≡ true)
    → Asks g result source left (due_unless r (piece_due (scn_at old s).cell p))
    → Looks g (reader s p answer) result (state_of g source old) (state_of g left new)
reader_looks {S} {A} g answer wants result source left old new s p r unread same_list w came same own loaded asks =
    let o = object_over g source old in
    let list = unless_refused (first_refusal (no_scn old s ∷ r ∷ [])) (when_piece_clean o s p) in
    let due = reader_due (g.holds source) (g.size source) old s p r unread in
    let idle = idle_one true wants result (first_refusal (no_scn old s ∷ r ∷ [])) (when_piece_clean o s p) (scn_at old s).cell (scn_at new s).cell s (section_unread old s r unread) came same
    (cell_or_read (is_some (piece_in (scn_at old s).cell p).own) refl) in
    record {
      object = left_object g source left old new s asks.leaves w;
      reads = subst (λ (l : List ℕ). Reads g result (state_of g source old) (state_of g left new) l l (homes_due o (loaded_of old) l)) (sym same_list)
          (reads_warmed g result source left old new s list list w (subst (λ (n : ℕ). Asks g result source left n) (sym due) asks) idle
          (λ out. ap (λ (c : CellView). c.held) (idle out))
          (settled_one true wants result (first_refusal (no_scn old s ∷ r ∷ [])) (when_piece_clean o s p) o (loaded_of new) s (section_unread old s r unread) came
          (read_or_not (is_some (piece_in (scn_at old s).cell p).own) refl) (now_loaded (is_some (piece_in (scn_at old s).cell p).own) refl result loaded)));
    }
  where
    cell_or_read : (b : Bool) → is_some (piece_in (scn_at old s).cell p).own ≡ b
        → (when_piece_clean (object_over g source old) s p ≡ s ∷ []) ⊎ ((scn_at new s).cell ≡ (scn_at old s).cell)
    cell_or_read true e = inr (own e)
    cell_or_read false e = inl (clean_list (g.holds source) (g.size source) old s p false e)

    read_or_not : (b : Bool) → is_some (piece_in (scn_at old s).cell p).own ≡ b
        → (when_piece_clean (object_over g source old) s p ≡ s ∷ []) ⊎ (when_piece_clean (object_over g source old) s p ≡ [])
    read_or_not true e = inr (clean_list (g.holds source) (g.size source) old s p true e)
    read_or_not false e = inl (clean_list (g.holds source) (g.size source) old s p false e)

    now_loaded : (b : Bool) → is_some (piece_in (scn_at old s).cell p).own ≡ b → (q : Result (Unit {0}) ElfError)
        → OnOk q (is_some (piece_in (scn_at old s).cell p).own ≡ false → cell_is_loaded (scn_at new s).cell ≡ true)
        → OnOk q (when_piece_clean (object_over g source old) s p ≡ s ∷ [] → is_loaded (loaded_of new) s ≡ true)
    now_loaded b e (Err d) h = h
    now_loaded false e (Ok x) h = λ one. loaded_is new s ∙ h e
    now_loaded true e (Ok x) h = λ one. let empty = sym one ∙ clean_list (g.holds source) (g.size source) old s p true e in cc
