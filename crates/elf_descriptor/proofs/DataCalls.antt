-- The call that gives a piece's items: its answer, what it reads, and what it hands out.
use Rattle.std.proofs.Common.{◌≡◌, ◌≢◌, ℕ, ◌/◌, ◌<◌, Bool, true, false, not, List, [], ◌∷◌, length, Option, Some, None, Result, Ok, Err, refl, sym, ap, ◌∙◌, subst}
use Rattle.std.specs.Prelude.{IsTrue, IfErr, IfSome, OnOk, is_some, nat_lt, if◌then◌else◌}
use Rattle.std.specs.Option.{option_and_then}
use Rattle.elf_types.specs.declared.records.Class.{Class}
use Rattle.elf_types.specs.declared.records.Order.{Order}
use Rattle.elf_types.specs.declared.records.Kind.{Kind}
use Rattle.elf_types.specs.declared.errors.ElfError.{ElfError}
use Rattle.elf_types.specs.declared.errors.ElfError.TheVariants.{Memory, OutOfFile, Ragged}
use Rattle.elf_types.specs.Answers.{answered, first_refusal, err_of}
use Rattle.section_table.specs.elf_xlate.declared.content.Items.{Items}
use Rattle.section_table.specs.elf_xlate.Items.{item_size}
use Rattle.section_table.specs.elf_xlate.Translation.{decoded, is_whole, items_kind, items_count}
use Rattle.section_table.proofs.elf_xlate.Decoded.{whole_is, decoded_kind}
use Rattle.section_table.proofs.elf_xlate.Decoded as counts
use Rattle.section_table.specs.elf_outside.declared.sources.Source.{Ghosts}
use Rattle.section_table.specs.elf_outside.Asks.{Asks}
use Rattle.section_table.specs.elf_object.Words.{Answers, AlikeItems}
use Rattle.section_table.specs.elf_object.Object.{Piece, piece_at}
use Rattle.section_table.specs.elf_object.Answers.{content, items_at, data_refusal}
use Rattle.section_table.specs.elf_object.Answers as object
use Rattle.section_table.specs.elf_object.Calls.{data_answer, wants}
use Rattle.section_table.specs.elf_object.Calls as calls
use Rattle.section_table.specs.elf_object.Due.{is_loaded, homes_due, unless_refused, when_piece_clean}
use Rattle.section_table.specs.section_data.Views.{CellView, IsCell}
use Rattle.section_table.specs.section_data.Held.{piece_in, cell_is_loaded, piece_holds_items, ready, HeldIs}
use Rattle.section_table.specs.section_data.Refused.{items_refused, no_home_items, items_due, preparing}
use Rattle.elf_descriptor.specs.declared.body.Body.{Body}
use Rattle.elf_descriptor.specs.Views.{object_of, section_of, raw_of, scn_at, no_scn, loaded_of, held_of, state_of}
use Rattle.elf_descriptor.specs.Bodies.{no_items_in}
use Rattle.elf_descriptor.specs.Warmed.{Warmed}
use Rattle.elf_descriptor.specs.Sound.{IsElf}
use Rattle.elf_descriptor.specs.Reads.{Looks}
use Rattle.elf_descriptor.proofs.Refusals.{err_of_answered, answers_wants}
use Rattle.elf_descriptor.proofs.Objects.{piece_is}
use Rattle.elf_descriptor.proofs.Warming.{warmed_cell, items_held_at}
use Rattle.elf_descriptor.proofs.ListedCells.{warms_piece, home_whole, clean_or_own}
use Rattle.elf_descriptor.proofs.Loaded.{loaded_is, raw_exact}
use Rattle.elf_descriptor.proofs.PieceCalls.{data_refusal_is, items_unread, reader_due, reader_looks, holds_is, content_is, raw_length}

data_reads : (image : Option (List ℕ)) (size : ℕ) (b : Body) (s p : ℕ) (sections : List ℕ) → IsElf image size b
    → unless_refused (err_of (data_answer (object_of image size b) s p)) sections
    ≡ unless_refused (first_refusal (no_scn b s ∷ items_refused b.header.class (scn_at b s).cell p ∷ [])) sections
unfolding data_answer no_items_in
data_reads image size b s p sections is =
    ap (λ (r : Option ElfError). unless_refused r sections)
    (err_of_answered (data_refusal (object_of image size b) s p) (items_at (object_of image size b) s p) ∙ data_refusal_is image size b s p is)

data_due : (image : Option (List ℕ)) (size : ℕ) (b : Body) (s p : ℕ) → IsElf image size b
    → homes_due (object_of image size b) (loaded_of b) (unless_refused (err_of (data_answer (object_of image size b) s p)) (when_piece_clean (object_of image size b) s p))
    ≡ items_due b.header.class (scn_at b s).cell p
unfolding items_due
data_due image size b s p is =
    ap (λ (l : List ℕ). homes_due (object_of image size b) (loaded_of b) l) (data_reads image size b s p (when_piece_clean (object_of image size b) s p) is)
    ∙ reader_due image size b s p (items_refused b.header.class (scn_at b s).cell p) (items_unread b.header.class (scn_at b s).cell p)

pub data_answers : (image : Option (List ℕ)) (size : ℕ) (b : Body) (s p : ℕ) (result : Result (Unit {0}) ElfError) → IsElf image size b
    → Answers true (preparing (scn_at b s).cell p (items_due b.header.class (scn_at b s).cell p)) result (answered (no_items_in b s p) (tt {0}))
    → Answers true (wants (calls.section_data s p) (object_of image size b) (loaded_of b) (held_of b)) result (answered (data_refusal (object_of image size b) s p) (tt {0}))
data_answers image size b s p result is came =
    let cell = (scn_at b s).cell in
    answers_wants true (preparing cell p (items_due b.header.class cell p)) (wants (calls.section_data s p) (object_of image size b) (loaded_of b) (held_of b)) result
    (answered (data_refusal (object_of image size b) s p) (tt {0}))
    (λ unheld. ap not (holds_is image size b s p) ∙ unheld)
    (λ some. ap (λ (n : ℕ). nat_lt 0 n) (data_due image size b s p is) ∙ some)
    (subst (λ (r : Option ElfError). Answers true (preparing cell p (items_due b.header.class cell p)) result (answered r (tt {0}))) (sym (data_refusal_is image size b s p is)) came)

-- a clean piece that holds its items has them from loaded bytes
pub held_loaded : (class : Class) (order : Order) (c : CellView) (p : ℕ) → HeldIs class order c → (piece_in c p).own ≡ None → piece_holds_items c p ≡ true → cell_is_loaded c ≡ true
unfolding ready
held_loaded class order c p is clean holds = by_held c.held c.raw is (sym (ap (λ (o : Option Items). is_some (elim o [ None ↦ c.held | Some items ↦ Some items ])) clean) ∙ holds)
  where
    by_held : (held : Option Items) (raw : Option (List ℕ)) → IfSome held (λ items. option_and_then (decoded c.home.kind class order) raw ≡ Some items) → is_some held ≡ true → is_some raw ≡ true
    by_held None raw is some = cc
    by_held (Some items) None is some = cc
    by_held (Some items) (Some bytes) is some = refl

pub data_loaded : (image : Option (List ℕ)) (size : ℕ) (b : Body) (s p : ℕ)
    (result : Result (Unit {0}) ElfError) → IsElf image size b
    → OnOk result (IsTrue (piece_holds_items (scn_at b s).cell p))
    → OnOk result ((piece_at (object_of image size b) s p).own ≡ None
    → IsTrue (is_loaded (loaded_of b) s))
data_loaded image size b s p (Err e) is holds = holds
data_loaded image size b s p (Ok x) is holds = λ clean.
    loaded_is b s
    ∙ held_loaded b.header.class b.header.order (scn_at b s).cell p
    (items_held_at image size b s is)
    (ap (λ (q : Piece). q.own) (sym (piece_is image size b s p)) ∙ clean) holds

pub data_looks : {S : Type 0} (g : Ghosts S) (result : Result (Unit {0}) ElfError) (source left : S) (old new : Body) (s p : ℕ)
    → IsElf (g.holds source) (g.size source) old → IsElf (g.holds left) (g.size left) new → Warmed (g.holds source) old new s
    → Answers true (preparing (scn_at old s).cell p (items_due old.header.class (scn_at old s).cell p)) result (answered (no_items_in old s p) (tt {0}))
    → OnOk result (IsTrue (piece_holds_items (scn_at new s).cell p))
    → IfErr result (λ e. e ≢ Memory → (scn_at new s).cell ≡ (scn_at old s).cell)
    → (is_some (piece_in (scn_at old s).cell p).own ≡ true → (scn_at new s).cell ≡ (scn_at old s).cell)
    → Asks g result source left (items_due old.header.class (scn_at old s).cell p)
    → Looks g (calls.section_data s p) result (state_of g source old) (state_of g left new)
unfolding no_items_in items_due
data_looks g result source left old new s p is after w came holds same own asks =
    reader_looks g (λ o. data_answer o s p) (preparing (scn_at old s).cell p (items_due old.header.class (scn_at old s).cell p)) result source left old new s p
    (items_refused old.header.class (scn_at old s).cell p) (items_unread old.header.class (scn_at old s).cell p)
    (data_reads (g.holds source) (g.size source) old s p (when_piece_clean (object_of (g.holds source) (g.size source) old) s p) is) w came same own
    (now_loaded result holds) asks
  where
    now_loaded : (q : Result (Unit {0}) ElfError) → OnOk q (IsTrue (piece_holds_items (scn_at new s).cell p))
        → OnOk q (is_some (piece_in (scn_at old s).cell p).own ≡ false → cell_is_loaded (scn_at new s).cell ≡ true)
    now_loaded (Err e) h = h
    now_loaded (Ok x) h = λ clean.
        let there = warms_piece (g.holds source) (scn_at old s).cell (scn_at new s).cell p (warmed_cell (g.holds source) old new s s w) in
        held_loaded new.header.class new.header.order (scn_at new s).cell p (items_held_at (g.holds left) (g.size left) new s after)
        (ap (λ (q : Piece). q.own) there ∙ clean_or_own (scn_at old s).cell p false clean refl) h

-- ---- The items that are handed out

pub some_of : {X : Type 0} (o : Option X) → is_some o ≡ true → (x : X) × (o ≡ Some x)
some_of None h = cc
some_of (Some x) h = (x, refl)

-- the items of the object's content, where the home lies in the file and its bytes hold them
pub content_made : (image : Option (List ℕ)) (size : ℕ) (b : Body) (s : ℕ) (items : Items) → (scn_at b s).cell.home.out ≡ false
    → decoded (scn_at b s).cell.home.kind b.header.class b.header.order (raw_of image (scn_at b s).cell) ≡ Some items
    → object.or_empty (content (object_of image size b) s) ≡ items
unfolding section_of
content_made image size b s items inside made =
    ap (λ (r : Result Items ElfError). object.or_empty r) (content_is image size b s)
    ∙ ap (λ (out : Bool). object.or_empty (if out then Err (OutOfFile s) else (elim (decoded (scn_at b s).cell.home.kind b.header.class b.header.order (raw_of image (scn_at b s).cell)) [ None ↦ Err (Ragged s) | Some i ↦ Ok i ]))) inside
    ∙ ap (λ (o : Option Items). object.or_empty (elim o [ None ↦ Err (Ragged s) | Some i ↦ Ok i ])) made

-- bytes of one length hold as many items of a kind
decoded_alike : (kind : Kind) (class : Class) (order : Order) (bytes others : List ℕ) (items stated : Items) → length bytes ≡ length others
    → decoded kind class order bytes ≡ Some items → decoded kind class order others ≡ Some stated → AlikeItems items stated
decoded_alike kind class order bytes others items stated same made known = (
  decoded_kind kind class order bytes items made ∙ sym (decoded_kind kind class order others stated known),
  counts.items_count kind class order bytes items made ∙ ap (λ (n : ℕ). n / item_size kind class) same ∙ sym (counts.items_count kind class order others stated known),
)

-- items that are held of a clean piece
pub record AreItems (image : Option (List ℕ)) (items stated : Items) : Type 0 where
  pub exact : IsTrue (is_some image) → items ≡ stated
  pub alike : AlikeItems items stated

pub clean_items : (image : Option (List ℕ)) (size : ℕ) (b : Body) (s p : ℕ) (items : Items)
    (raw : Option (List ℕ)) → IsElf image size b → s < length b.sections → IsCell (scn_at b s).cell
    → (scn_at b s).cell.home.out ≡ false → (scn_at b s).cell.raw ≡ raw → option_and_then (decoded (scn_at b s).cell.home.kind b.header.class b.header.order) raw ≡ Some items
    → AreItems image items (object.or_empty (content (object_of image size b) s))
clean_items image size b s p items None is there cell inside same made = cc
clean_items image size b s p items (Some bytes) is there cell inside same made =
    let c = (scn_at b s).cell in
    let sized : length bytes ≡ c.home.len = subst (λ (o : Option (List ℕ)). IfSome o (λ l. length l ≡ c.home.len)) same cell.sized in
    let long = sized ∙ sym (raw_length image size b s is there inside) in
    let whole : is_some (decoded c.home.kind b.header.class b.header.order (raw_of image c)) ≡ true =
    whole_is c.home.kind b.header.class b.header.order (raw_of image c) ∙ ap (λ (n : ℕ). is_whole c.home.kind b.header.class n) (sym long)
    ∙ sym (whole_is c.home.kind b.header.class b.header.order bytes) ∙ ap (λ (o : Option Items). is_some o) made in
    let stated = some_of (decoded c.home.kind b.header.class b.header.order (raw_of image c)) whole in
    let value = content_made image size b s stated.0 inside stated.1 in
    record {
      exact = λ told.
          let known : Some items ≡ Some stated.0 = sym made ∙ ap (λ (l : List ℕ). decoded c.home.kind b.header.class b.header.order l) (raw_exact image c bytes same told) ∙ stated.1 in
          one_some items stated.0 known ∙ sym value;
      alike = subst (λ (i : Items). AlikeItems items i) (sym value) (decoded_alike c.home.kind b.header.class b.header.order bytes (raw_of image c) items stated.0 long made stated.1);
    }
  where
    one_some : (x y : Items) → Some x ≡ Some y → x ≡ y
    one_some x y e = cc

pub ready_items : (image : Option (List ℕ)) (size : ℕ) (b : Body) (s p : ℕ) (items : Items)
    → IsElf image size b → s < length b.sections → IsCell (scn_at b s).cell
    → no_home_items b.header.class (scn_at b s).cell p ≡ None → ready (scn_at b s).cell p ≡ Some items
    → (IsTrue (is_some image) → items ≡ items_at (object_of image size b) s p) × AlikeItems items (items_at (object_of image size b) s p)
unfolding items_at ready
ready_items image size b s p items is there cell passed stands = by_own (piece_in (scn_at b s).cell p).own refl stands
  where
    stated : (o : Option Items) → (piece_in (scn_at b s).cell p).own ≡ o
        → items_at (object_of image size b) s p ≡ elim o [ None ↦ object.or_empty (content (object_of image size b) s) | Some i ↦ i ]
    stated o e = ap (λ (q : Option Items). elim q [ None ↦ object.or_empty (content (object_of image size b) s) | Some i ↦ i ]) (ap (λ (q : Piece). q.own) (piece_is image size b s p) ∙ e)

    by_own : (o : Option Items) → (piece_in (scn_at b s).cell p).own ≡ o → elim o [ None ↦ (scn_at b s).cell.held | Some i ↦ Some i ] ≡ Some items
        → (IsTrue (is_some image) → items ≡ items_at (object_of image size b) s p) × AlikeItems items (items_at (object_of image size b) s p)
    by_own (Some i) e stands =
        let same : items ≡ items_at (object_of image size b) s p = (let one : i ≡ items = cc in sym one) ∙ sym (stated (Some i) e) in
        ((λ told. same), (ap items_kind same, ap items_count same))
    by_own None e stands =
        let held = subst (λ (o : Option Items). IfSome o (λ i. option_and_then (decoded (scn_at b s).cell.home.kind b.header.class b.header.order) (scn_at b s).cell.raw ≡ Some i)) stands (items_held_at image size b s is) in
        let are = clean_items image size b s p items (scn_at b s).cell.raw is there cell (home_whole b.header.class (scn_at b s).cell p passed e).0 refl held in
        ((λ told. are.exact told ∙ sym (stated None e)), subst (λ (j : Items). AlikeItems items j) (sym (stated None e)) are.alike)
