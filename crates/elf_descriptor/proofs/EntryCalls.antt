-- The call that gives one item of a piece of a kind: its answer, what it reads, and the item.
use Rattle.std.proofs.Common.{◌≡◌, ◌≢◌, ℕ, zero, suc, ◌/◌, ◌%◌, ◌<◌, ◌≤◌, Bool, true, false, not, cond, nat_eq, List, [], ◌∷◌, length, Option, Some, None, Result, Ok, Err, refl, sym, ap, ◌∙◌, subst, arith}
use Rattle.std.specs.Prelude.{IsTrue, IfErr, IfSome, OnErr, OnOk, IsOk, is_some, nat_lt, slice_get, ◌||◌, ◌&&◌, if◌then◌else◌}
use Rattle.std.specs.Option.{option_map, option_and_then}
use Rattle.std.proofs.lemmas.Option.{slice_get-get_or, slice_get_within, slice_get_past}
use Rattle.elf_types.specs.declared.records.Class.{Class}
use Rattle.elf_types.specs.declared.records.Order.{Order}
use Rattle.elf_types.specs.declared.records.Kind.{Kind}
use Rattle.elf_types.specs.declared.errors.ElfError.{ElfError}
use Rattle.elf_types.specs.declared.errors.ElfError.TheVariants.{Memory, Read, NoEntry}
use Rattle.elf_types.specs.Answers.{answered, first_refusal, err_of, IsRefusal}
use Rattle.section_table.specs.elf_xlate.declared.content.Items.{Items}
use Rattle.section_table.specs.elf_xlate.Translation.{decoded, listed, items_of, items_kind, is_whole}
use Rattle.section_table.proofs.elf_xlate.Pieces.{length_items_of}
use Rattle.section_table.proofs.elf_xlate.Decoded.{whole_is}
use Rattle.section_table.specs.elf_outside.declared.sources.Source.{Ghosts}
use Rattle.section_table.specs.elf_outside.Asks.{Asks, ReadRose}
use Rattle.section_table.proofs.elf_outside.AskLemmas.{read_rose_refused}
use Rattle.section_table.specs.elf_object.Words.{Wants, Answers, MayWant}
use Rattle.section_table.specs.elf_object.Object.{Piece, piece_at}
use Rattle.section_table.specs.elf_object.Answers.{content, items_at, entry_at, entry_answer, lend_refusal}
use Rattle.section_table.specs.elf_object.Answers as object
use Rattle.section_table.specs.elf_object.Calls.{Call, due, wants}
use Rattle.section_table.specs.elf_object.Due.{is_loaded, homes_due, unless_refused, when_piece_clean}
use Rattle.section_table.specs.section_data.Views.{CellView, IsCell}
use Rattle.section_table.specs.section_data.Held.{piece_in, kind_in, cell_is_loaded, is_ragged, is_at_hand, items_in, raw_items, piece_holds_items, ready, HeldIs, or_empty}
use Rattle.section_table.specs.section_data.Refused.{kind_refused, no_home_items, load_due, piece_due, due_unless, loading}
use Rattle.elf_descriptor.specs.declared.body.Body.{Body}
use Rattle.elf_descriptor.specs.State.{State}
use Rattle.elf_descriptor.specs.Views.{object_of, raw_of, scn_at, no_scn, loaded_of, held_of, state_of}
use Rattle.elf_descriptor.specs.Bodies.{no_list_in}
use Rattle.elf_descriptor.specs.Dues.{list_due, IsListed}
use Rattle.elf_descriptor.specs.Entries.{entry}
use Rattle.elf_descriptor.specs.Warmed.{Warmed}
use Rattle.elf_descriptor.specs.Sound.{IsElf}
use Rattle.elf_descriptor.specs.Reads.{Queries, Looks}
use Rattle.elf_descriptor.proofs.Refusals.{unless_entry, answers_wants}
use Rattle.elf_descriptor.proofs.ReadsLaws.{reads_then}
use Rattle.elf_descriptor.proofs.Objects.{piece_is}
use Rattle.elf_descriptor.proofs.Warming.{warmed_cell, items_held_at}
use Rattle.elf_descriptor.proofs.ListedCells.{warms_piece, home_whole, clean_or_own}
use Rattle.elf_descriptor.proofs.Loaded.{loaded_is}
use Rattle.elf_descriptor.proofs.RawCalls.{due_unloaded}
use Rattle.elf_descriptor.proofs.PieceCalls.{lend_refusal_is, kind_unread, reader_due, reader_looks, holds_is, raw_length}
use Rattle.elf_descriptor.proofs.DataCalls.{content_made, some_of, clean_items}

-- ---- What is read

entry_reads : {A : Type 0} (image : Option (List ℕ)) (size : ℕ) (b : Body) (kind : Kind) (list_of : Items → List A) (s p i : ℕ) (sections : List ℕ) → IsElf image size b
    → unless_refused (err_of (entry_answer (lend_refusal (object_of image size b) kind s p) (list_of (items_at (object_of image size b) s p)) i)) sections
    ≡ unless_refused (first_refusal (no_scn b s ∷ kind_refused b.header.class (scn_at b s).cell kind p ∷ [])) sections
unfolding no_list_in
entry_reads image size b kind list_of s p i sections is =
    unless_entry (lend_refusal (object_of image size b) kind s p) (list_of (items_at (object_of image size b) s p)) i sections
    ∙ ap (λ (r : Option ElfError). unless_refused r sections) (lend_refusal_is image size b kind s p is)

entry_due : {A : Type 0} (image : Option (List ℕ)) (size : ℕ) (b : Body) (kind : Kind) (list_of : Items → List A) (s p i : ℕ) → IsElf image size b
    → due (entry kind list_of s p i) (object_of image size b) (loaded_of b) ≡ list_due b.header.class (scn_at b s).cell kind p
unfolding list_due
entry_due image size b kind list_of s p i is =
    ap (λ (l : List ℕ). homes_due (object_of image size b) (loaded_of b) l) (entry_reads image size b kind list_of s p i (when_piece_clean (object_of image size b) s p) is)
    ∙ reader_due image size b s p (kind_refused b.header.class (scn_at b s).cell kind p) (kind_unread b.header.class (scn_at b s).cell kind p)

-- where something is due the piece does not hold its items
list_unheld : (class : Class) (order : Order) (c : CellView) (kind : Kind) (p : ℕ) → HeldIs class order c → IsTrue (nat_lt 0 (list_due class c kind p)) → piece_holds_items c p ≡ false
unfolding list_due piece_due ready
list_unheld class order c kind p is some = by_refusal (kind_refused class c kind p) some
  where
    by_held : (held : Option Items) (raw : Option (List ℕ)) → IfSome held (λ items. option_and_then (decoded c.home.kind class order) raw ≡ Some items) → is_some raw ≡ false → is_some held ≡ false
    by_held None raw is unread = refl
    by_held (Some items) None is unread = cc
    by_held (Some items) (Some bytes) is unread = cc

    by_own : (o : Option Items) → nat_lt 0 (if is_some o then 0 else load_due c) ≡ true → is_some (elim o [ None ↦ c.held | Some items ↦ Some items ]) ≡ false
    by_own None some = by_held c.held c.raw is (due_unloaded c some)
    by_own (Some items) some = cc

    by_refusal : (r : Option ElfError) → nat_lt 0 (due_unless r (if is_some (piece_in c p).own then 0 else load_due c)) ≡ true → piece_holds_items c p ≡ false
    by_refusal None some = by_own (piece_in c p).own some
    by_refusal (Some e) some = cc

pub entry_answers : {A : Type 0} (image : Option (List ℕ)) (size : ℕ) (b : Body) (kind : Kind) (list_of : Items → List A) (s p i : ℕ) (result : Result (Unit {0}) ElfError) → IsElf image size b
    → Answers true (loading (list_due b.header.class (scn_at b s).cell kind p)) result (answered (no_list_in b kind s p) (tt {0}))
    → Answers true (wants (entry kind list_of s p i) (object_of image size b) (loaded_of b) (held_of b)) result (answered (lend_refusal (object_of image size b) kind s p) (tt {0}))
entry_answers image size b kind list_of s p i result is came =
    let before = loading (list_due b.header.class (scn_at b s).cell kind p) in
    answers_wants true before (wants (entry kind list_of s p i) (object_of image size b) (loaded_of b) (held_of b)) result (answered (lend_refusal (object_of image size b) kind s p) (tt {0}))
    (λ some. ap not (holds_is image size b s p ∙ list_unheld b.header.class b.header.order (scn_at b s).cell kind p (items_held_at image size b s is) some))
    (λ some. ap (λ (n : ℕ). nat_lt 0 n) (entry_due image size b kind list_of s p i is) ∙ some)
    (subst (λ (r : Option ElfError). Answers true before result (answered r (tt {0}))) (sym (lend_refusal_is image size b kind s p is)) came)

hand_read : (class : Class) (c : CellView) (p : ℕ) → is_some (piece_in c p).own ≡ false → IsTrue (is_at_hand class c p) → cell_is_loaded c ≡ true
unfolding is_at_hand
hand_read class c p clean hand = by_tests (is_some (piece_in c p).own) (cell_is_loaded c) (is_ragged class c) clean hand
  where
    by_tests : (own loaded ragged : Bool) → own ≡ false → IsTrue (own || (loaded && not ragged)) → loaded ≡ true
    by_tests true loaded ragged e h = cc
    by_tests false true ragged e h = refl
    by_tests false false ragged e h = cc

pub entry_looks : {S A : Type 0} (g : Ghosts S) (kind : Kind) (list_of : Items → List A) (result : Result (Unit {0}) ElfError) (source left : S) (old new : Body) (s p i : ℕ)
    → IsElf (g.holds source) (g.size source) old → Warmed (g.holds source) old new s
    → Answers true (loading (list_due old.header.class (scn_at old s).cell kind p)) result (answered (no_list_in old kind s p) (tt {0}))
    → OnOk result (IsListed new s p kind) → OnErr result ((scn_at new s).cell ≡ (scn_at old s).cell)
    → (is_some (piece_in (scn_at old s).cell p).own ≡ true → (scn_at new s).cell ≡ (scn_at old s).cell)
    → Asks g result source left (list_due old.header.class (scn_at old s).cell kind p)
    → Looks g (entry kind list_of s p i) result (state_of g source old) (state_of g left new)
unfolding no_list_in list_due
entry_looks g kind list_of result source left old new s p i is w came hand same own asks =
    reader_looks g (λ o. entry_answer (lend_refusal o kind s p) (list_of (items_at o s p)) i) (loading (list_due old.header.class (scn_at old s).cell kind p)) result source left old new s p
    (kind_refused old.header.class (scn_at old s).cell kind p) (kind_unread old.header.class (scn_at old s).cell kind p)
    (entry_reads (g.holds source) (g.size source) old kind list_of s p i (when_piece_clean (object_of (g.holds source) (g.size source) old) s p) is) w came (weaker result same) own
    (now_loaded result hand) asks
  where
    weaker : (r : Result (Unit {0}) ElfError) → OnErr r ((scn_at new s).cell ≡ (scn_at old s).cell) → IfErr r (λ e. e ≢ Memory → (scn_at new s).cell ≡ (scn_at old s).cell)
    weaker (Ok x) h = h
    weaker (Err e) h = λ other. h

    now_loaded : (q : Result (Unit {0}) ElfError) → OnOk q (IsListed new s p kind)
        → OnOk q (is_some (piece_in (scn_at old s).cell p).own ≡ false → cell_is_loaded (scn_at new s).cell ≡ true)
    now_loaded (Err e) h = h
    now_loaded (Ok x) h = λ clean.
        let there = warms_piece (g.holds source) (scn_at old s).cell (scn_at new s).cell p (warmed_cell (g.holds source) old new s s w) in
        hand_read new.header.class (scn_at new s).cell p (ap (λ (q : Piece). is_some q.own) there ∙ clean) h.hand

-- the piece is own, or its section is loaded
pub entry_hand : (image : Option (List ℕ)) (size : ℕ) (b : Body) (kind : Kind) (s p : ℕ) (result : Result (Unit {0}) ElfError) → OnOk result (IsListed b s p kind)
    → OnOk result (IsTrue (is_some (piece_at (object_of image size b) s p).own || is_loaded (loaded_of b) s))
unfolding is_at_hand
entry_hand image size b kind s p (Err e) h = h
entry_hand image size b kind s p (Ok x) h =
    rw (piece_is image size b s p, loaded_is b s) (by_tests (is_some (piece_in (scn_at b s).cell p).own) (cell_is_loaded (scn_at b s).cell) (is_ragged b.header.class (scn_at b s).cell) h.hand)
  where
    by_tests : (own loaded ragged : Bool) → IsTrue (own || (loaded && not ragged)) → IsTrue (own || loaded)
    by_tests true loaded ragged h = refl
    by_tests false true ragged h = refl
    by_tests false false ragged h = cc

pub hand_there : (image : Option (List ℕ)) (size : ℕ) (b : Body) (s p : ℕ) → no_home_items b.header.class (scn_at b s).cell p ≡ None
    → IsTrue (is_some (piece_at (object_of image size b) s p).own || is_loaded (loaded_of b) s) → IsTrue (is_at_hand b.header.class (scn_at b s).cell p)
unfolding is_at_hand
hand_there image size b s p passed hand =
    let c = (scn_at b s).cell in
    by_own (is_some (piece_in c p).own) refl
    (subst (λ (t : Bool). IsTrue (is_some (piece_in c p).own || t)) (loaded_is b s) (subst (λ (q : Piece). IsTrue (is_some q.own || is_loaded (loaded_of b) s)) (piece_is image size b s p) hand))
  where
    by_own : (own : Bool) → is_some (piece_in (scn_at b s).cell p).own ≡ own → IsTrue (own || cell_is_loaded (scn_at b s).cell)
        → IsTrue (own || (cell_is_loaded (scn_at b s).cell && not (is_ragged b.header.class (scn_at b s).cell)))
    by_own true e h = refl
    by_own false e h =
        let whole = (home_whole b.header.class (scn_at b s).cell p passed (clean_or_own (scn_at b s).cell p false e refl)).1 in
        rw (h, whole) refl

-- ---- An entry of a list that is like another

none_past : {X : Type 0} (l : List X) (i : ℕ) → slice_get l i ≡ None → length l ≤ i
none_past [] i e = omega arith
none_past (x ∷ l) zero e = cc
none_past (x ∷ l) (suc i) e = omega (arith, none_past l i e)

pub entry_stated : {X : Type 0} (told : Bool) (wants : Wants) (l stated : List X) (i : ℕ) (result : Result X ElfError) → result ≡ entry_at l i → (IsTrue told → l ≡ stated) → length l ≡ length stated
    → Answers told wants result (entry_at stated i)
entry_stated {X} told wants l stated i result is same long = subst (λ (r : Result X ElfError). Answers told wants r (entry_at stated i)) (sym is) (by_there (slice_get l i) refl)
  where
    by_there : (o : Option X) → slice_get l i ≡ o → Answers told wants (elim o [ None ↦ Err (NoEntry i (length l)) | Some x ↦ Ok x ]) (entry_at stated i)
    by_there (Some x) e =
        let inside = slice_get_within l i x e in
        let there = slice_get-get_or stated i x (omega (arith, inside, long)) in (
          subst (λ (o : Option X). IsOk {T = X} {E = ElfError} (elim o [ None ↦ Err (NoEntry i (length stated)) | Some y ↦ Ok y ])) (sym there) refl,
          (λ t. ap (λ (m : List X). entry_at m i) (sym (same t)) ∙ ap (λ (o : Option X). elim o [ None ↦ Err (NoEntry i (length l)) | Some y ↦ Ok y ]) e),
        )
    by_there None e =
        let past = none_past l i e in
        let none_there = slice_get_past stated i (omega (arith, past, long)) in
        ap (λ (o : Option X). elim o [ None ↦ Err (NoEntry i (length stated)) | Some y ↦ Ok y ]) none_there ∙ ap (λ (n : ℕ). Err (NoEntry i n)) (sym long)

pub entry_refusal : {X : Type 0} (l : List X) (i : ℕ) (result : Result X ElfError) → result ≡ entry_at l i → IfErr result IsRefusal
entry_refusal {X} l i result is = subst (λ (r : Result X ElfError). IfErr r IsRefusal) (sym is) (by_there (slice_get l i))
  where
    by_there : (o : Option X) → IfErr {T = X} {E = ElfError} (elim o [ None ↦ Err (NoEntry i (length l)) | Some x ↦ Ok x ]) IsRefusal
    by_there None = tt
    by_there (Some x) = tt

-- ---- The items of a kind, as a list

list_made : {X : Type 0} (variant : List X → Items) (list_of : Items → List X) → ((l : List X) → list_of (variant l) ≡ l) → (item : List ℕ → X) (size : ℕ) (bytes : List ℕ) (items : Items)
    → option_map variant (listed item size bytes) ≡ Some items → length (list_of items) ≡ length bytes / size
unfolding listed
list_made {X} variant list_of back item size bytes items given = by_test (nat_eq (length bytes % size) 0) given
  where
    by_test : (b : Bool) → option_map variant (cond b (Some (items_of item size (length bytes / size) bytes)) None) ≡ Some items → length (list_of items) ≡ length bytes / size
    by_test false is = cc
    by_test true is =
        let same : variant (items_of item size (length bytes / size) bytes) ≡ items = cc in
        ap (λ (i : Items). length (list_of i)) (sym same)
        ∙ ap length (back (items_of item size (length bytes / size) bytes))
        ∙ length_items_of item size (length bytes / size) bytes

-- the items that are at hand are those of the object where the source tells it, and as many in any case
pub lists_alike : {X : Type 0} (image : Option (List ℕ)) (size : ℕ) (b : Body) (kind : Kind) (variant : List X → Items) (list_of : Items → List X) → ((l : List X) → list_of (variant l) ≡ l)
    → (item : List ℕ → X) (width s p : ℕ) → ((bytes : List ℕ) → decoded kind b.header.class b.header.order bytes ≡ option_map variant (listed item width bytes))
    → IsElf image size b → s < length b.sections → IsCell (scn_at b s).cell
    → kind_in (scn_at b s).cell p ≡ kind → no_home_items b.header.class (scn_at b s).cell p ≡ None
    → IsTrue (is_at_hand b.header.class (scn_at b s).cell p)
    → (IsTrue (is_some image) → list_of (items_in b.header.class b.header.order (scn_at b s).cell p) ≡ list_of (items_at (object_of image size b) s p))
    × (length (list_of (items_in b.header.class b.header.order (scn_at b s).cell p)) ≡ length (list_of (items_at (object_of image size b) s p)))
unfolding items_in items_at kind_in
lists_alike {X} image size b kind variant list_of back item width s p listed_in is there cell right passed hand = by_own (piece_in (scn_at b s).cell p).own refl
  where
    c : CellView
    c = (scn_at b s).cell

    Alike : Items → Items → Type 0
    Alike x y = (IsTrue (is_some image) → list_of x ≡ list_of y) × (length (list_of x) ≡ length (list_of y))

    stated : (o : Option Items) → (piece_in (scn_at b s).cell p).own ≡ o
        → items_at (object_of image size b) s p ≡ elim o [ None ↦ object.or_empty (content (object_of image size b) s) | Some i ↦ i ]
    stated o e = ap (λ (q : Option Items). elim q [ None ↦ object.or_empty (content (object_of image size b) s) | Some i ↦ i ]) (ap (λ (q : Piece). q.own) (piece_is image size b s p) ∙ e)

    by_raw : (raw : Option (List ℕ)) → (scn_at b s).cell.raw ≡ raw → is_some raw ≡ true → (piece_in (scn_at b s).cell p).own ≡ None
        → (IsTrue (is_some image) → list_of (or_empty (option_and_then (decoded (scn_at b s).cell.home.kind b.header.class b.header.order) raw)) ≡ list_of (object.or_empty (content (object_of image size b) s)))
        × (length (list_of (or_empty (option_and_then (decoded (scn_at b s).cell.home.kind b.header.class b.header.order) raw))) ≡ length (list_of (object.or_empty (content (object_of image size b) s))))
    by_raw None e some clean = cc
    by_raw (Some bytes) e some clean =
        let inside = (home_whole b.header.class (scn_at b s).cell p passed clean).0 in
        let whole = (home_whole b.header.class (scn_at b s).cell p passed clean).1 in
        let home_kind : (scn_at b s).cell.home.kind ≡ kind = sym (ap (λ (o : Option Items). elim o [ None ↦ (scn_at b s).cell.home.kind | Some items ↦ items_kind items ]) clean) ∙ right in
        let sized : length bytes ≡ (scn_at b s).cell.home.len = subst (λ (o : Option (List ℕ)). IfSome o (λ l. length l ≡ (scn_at b s).cell.home.len)) e cell.sized in
        let long = raw_length image size b s is there inside in
        let made = some_of (decoded (scn_at b s).cell.home.kind b.header.class b.header.order bytes)
        (whole_is (scn_at b s).cell.home.kind b.header.class b.header.order bytes ∙ ap (λ (n : ℕ). is_whole (scn_at b s).cell.home.kind b.header.class n) sized ∙ not_ragged whole) in
        let known = some_of (decoded (scn_at b s).cell.home.kind b.header.class b.header.order (raw_of image (scn_at b s).cell))
        (whole_is (scn_at b s).cell.home.kind b.header.class b.header.order (raw_of image (scn_at b s).cell) ∙ ap (λ (n : ℕ). is_whole (scn_at b s).cell.home.kind b.header.class n) long ∙ not_ragged whole) in
        let value = content_made image size b s known.0 inside known.1 in
        let are = clean_items image size b s p made.0 (Some bytes) is there cell inside e made.1 in
        let first = ap (λ (o : Option Items). or_empty o) made.1 in
        let many = length_of bytes made.0 home_kind made.1 in
        let others = length_of (raw_of image (scn_at b s).cell) known.0 home_kind known.1 in (
          (λ told. ap list_of (first ∙ are.exact told)),
          ap (λ (i : Items). length (list_of i)) first ∙ many ∙ ap (λ (n : ℕ). n / width) (sized ∙ sym long) ∙ sym others ∙ ap (λ (i : Items). length (list_of i)) (sym value),
        )
      where
        not_ragged : is_ragged b.header.class (scn_at b s).cell ≡ false → is_whole (scn_at b s).cell.home.kind b.header.class (scn_at b s).cell.home.len ≡ true
        not_ragged h = by_whole (is_whole (scn_at b s).cell.home.kind b.header.class (scn_at b s).cell.home.len) h
          where
            by_whole : (w : Bool) → not w ≡ false → w ≡ true
            by_whole true e = refl
            by_whole false e = cc

        length_of : (bytes : List ℕ) (items : Items) → (scn_at b s).cell.home.kind ≡ kind → decoded (scn_at b s).cell.home.kind b.header.class b.header.order bytes ≡ Some items
            → length (list_of items) ≡ length bytes / width
        length_of bytes items k e =
            list_made variant list_of back item width bytes items (sym (listed_in bytes) ∙ ap (λ (q : Kind). decoded q b.header.class b.header.order bytes) (sym k) ∙ e)

    by_own : (o : Option Items) → (piece_in (scn_at b s).cell p).own ≡ o
        → (IsTrue (is_some image) → list_of (items_in b.header.class b.header.order (scn_at b s).cell p) ≡ list_of (items_at (object_of image size b) s p))
        × (length (list_of (items_in b.header.class b.header.order (scn_at b s).cell p)) ≡ length (list_of (items_at (object_of image size b) s p)))
    by_own (Some i) e =
        let first : items_in b.header.class b.header.order (scn_at b s).cell p ≡ i = ap (λ (o : Option Items). elim o [ None ↦ raw_items b.header.class b.header.order (scn_at b s).cell | Some j ↦ j ]) e in
        let same = first ∙ sym (stated (Some i) e) in
        ((λ told. ap list_of same), ap (λ (j : Items). length (list_of j)) same)
    by_own None e =
        let first : items_in b.header.class b.header.order (scn_at b s).cell p ≡ raw_items b.header.class b.header.order (scn_at b s).cell =
        ap (λ (o : Option Items). elim o [ None ↦ raw_items b.header.class b.header.order (scn_at b s).cell | Some j ↦ j ]) e in
        let loaded = hand_read b.header.class (scn_at b s).cell p (ap (λ (o : Option Items). is_some o) e) hand in
        let both = by_raw (scn_at b s).cell.raw refl loaded e in (
          (λ told. ap list_of first ∙ both.0 told ∙ ap list_of (sym (stated None e))),
          ap (λ (j : Items). length (list_of j)) first ∙ both.1 ∙ ap (λ (j : Items). length (list_of j)) (sym (stated None e)),
        )

-- ---- A step, and then the entry

may_entry : {X : Type 0} (l : List X) (i : ℕ) → MayWant (entry_at l i)
may_entry {X} l i = by_there (slice_get l i)
  where
    by_there : (o : Option X) → MayWant {A = X} (elim o [ None ↦ Err (NoEntry i (length l)) | Some x ↦ Ok x ])
    by_there None = refl
    by_there (Some x) = tt

pub refused_entry : {X : Type 0} (told : Bool) (wants : Wants) (refusal : Option ElfError) (l : List X) (i : ℕ) (e : ElfError) → Answers true wants (Err e) (answered refusal (tt {0}))
    → Answers told wants (Err e) (entry_answer refusal l i)
refused_entry told wants (Some d) l i Memory came = came
refused_entry told wants (Some d) l i Read came = came
refused_entry told wants (Some d) l i e came = let same : d ≡ e = cc in ap Err same
refused_entry told wants None l i Memory came = (came.0, may_entry l i)
refused_entry told wants None l i Read came = (came.0, may_entry l i)
refused_entry told wants None l i e came = cc

-- an entry that is given where nothing is refused before
pub given_entry : {X : Type 0} (told : Bool) (wants : Wants) (refusal : Option ElfError) (l : List X) (i : ℕ) (result : Result X ElfError) → refusal ≡ None → Answers told wants result (entry_at l i)
    → Answers told wants result (entry_answer refusal l i)
given_entry told wants None l i result passed came = came
given_entry told wants (Some e) l i result passed came = cc

read_rose_by : {T : Type 0} (r : Result T ElfError) (a b : ℕ) → IfErr r IsRefusal → ReadRose r a b
read_rose_by (Ok x) a b h = tt
read_rose_by {T} (Err e) a b h = read_rose_refused T e a b h

pub queries_then : {S A T U : Type 0} (g : Ghosts S) (c : Call A) (holding : List ℕ) (x : T) (r : Result U ElfError) (old new : State S) → IfErr r IsRefusal → Queries g c holding (Ok x) old new → Queries g c holding r old new
queries_then g c holding x r old new refusal q = record {
  object = q.object;
  reads = reads_then g (Ok x) r old new (c.reads old.o) holding (due c old.o old.loaded) (λ h. tt) (read_rose_by r (g.faults old.source) (g.faults new.source) refusal) q.reads;
}
