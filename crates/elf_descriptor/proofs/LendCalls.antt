-- The items of an own piece, lent for writing: whatever the borrower leaves, the descriptor stays sound, and its object is stepped.
use Rattle.std.proofs.Common.{◌≡◌, ◌≢◌, ℕ, ◌<◌, Bool, true, false, not, List, [], ◌∷◌, length, get_or, set, Option, Some, None, Result, Ok, Err, refl, sym, ap, ◌∙◌, subst}
use Rattle.std.specs.Prelude.{IsTrue, IfErr, IfSome, OnOk, OnErr, is_some, slice_get, unwrap_or, ◌==◌, ◌||◌}
use Rattle.std.proofs.lemmas.Bool.{eqb-true, lt-leb}
use Rattle.std.proofs.lemmas.List.{set-set}
use Rattle.std.proofs.lemmas.List.Elements.{All-get_or}
use Rattle.elf_types.specs.declared.records.Kind.{Kind}
use Rattle.elf_types.specs.declared.errors.ElfError.{ElfError}
use Rattle.elf_types.specs.declared.errors.ElfError.TheVariants.{Memory, NoSection, NoData, WrongKind}
use Rattle.elf_types.specs.Answers.{answered, refused_if, first_refusal, IsRefusal}
use Rattle.section_table.specs.elf_xlate.declared.content.Items.{Items}
use Rattle.section_table.specs.elf_xlate.Translation.{items_kind, items_count}
use Rattle.section_table.specs.elf_outside.declared.sources.Source.{Ghosts}
use Rattle.section_table.specs.elf_outside.Asks.{Asks, Leaves, ReadRose}
use Rattle.section_table.specs.elf_object.Words.{Answers}
use Rattle.section_table.specs.elf_object.Object.{Object, Section, Piece, section_at, piece_at, home_piece}
use Rattle.elf_types.specs.Answers.{err_of}
use Rattle.section_table.proofs.elf_outside.AskLemmas.{asks_then}
use Rattle.section_table.specs.elf_object.Answers.{content, lend_refusal, items_at, kind_at, piece_count, no_data, wrong_kind, no_content}
use Rattle.section_table.specs.elf_object.Steps.{BecomesOwn, with_own, with_piece_at, with_section, own_piece}
use Rattle.section_table.specs.elf_object.Calls.{due, wants}
use Rattle.section_table.specs.elf_object.Calls as calls
use Rattle.section_table.specs.elf_object.Due.{holds_items, homes_due}
use Rattle.section_table.specs.elf_object.Valid.{IsPiece, KeepsObject, KeepsTied}
use Rattle.section_table.proofs.elf_object.StepLaws.{same_kind-same, section_count-with_own, piece_count-with_own, section_at-with_own, section_at-with_own_other, piece_at-with_own, piece_at-with_own_other}
use Rattle.law_object.specs.Writing.Based.{KeepsBased}
use Rattle.section_table.specs.section_data.Views.{CellView}
use Rattle.section_table.specs.section_data.Held.{piece_in}
use Rattle.section_table.specs.section_data.Leaves.{OwnsKind, replaced}
use Rattle.section_table.specs.section_data.Lends.{with_items}
use Rattle.section_table.specs.section_data.Refused.{lend_due, preparing}
use Rattle.elf_descriptor.specs.declared.body.Body.{Body}
use Rattle.elf_descriptor.specs.State.{State}
use Rattle.elf_descriptor.specs.Views.{object_of, section_of, scn_at, loaded_of, held_of, state_of, ready_of}
use Rattle.elf_descriptor.specs.Bodies.{no_list_in}
use Rattle.elf_descriptor.specs.Sound.{IsElf}
use Rattle.elf_descriptor.specs.Edits.{IsStepped}
use Rattle.elf_descriptor.specs.Warmed.{Warmed}
use Rattle.elf_descriptor.specs.Owned.{IsOwned, IsOwnPiece, with_left}
use Rattle.elf_descriptor.specs.Reads.{Queries}
use Rattle.elf_descriptor.specs.Lends.{ReadsToOwn}
use Rattle.elf_descriptor.proofs.Objects.{section_count_is, piece_is}
use Rattle.elf_descriptor.proofs.Warming.{warmed_left, other_number}
use Rattle.elf_descriptor.proofs.Reading.{object_over}
use Rattle.elf_descriptor.proofs.EditLaws.{stepped_elf, state_stepped}
use Rattle.elf_descriptor.proofs.EditPieces.{piece_replaced}
use Rattle.elf_descriptor.proofs.PieceCalls.{section_sound}
use Rattle.elf_descriptor.proofs.OwnedCells.{owned_items, owned_elf}
use Rattle.elf_descriptor.proofs.OwnedCalls.{lend_reads, lend_answers, lend_refused, piece_count_is, left_same, becomes_own, own_piece_there, own_reads, passed_first}

-- ---- A piece that became own, by the answer of the call

module _ {S : Type 0} (g : Ghosts S) (source left : S) (old new : Body) (kind : Kind) (s p : ℕ) where
  pub own_elf : (r : Result (Unit {0}) ElfError) → ((l : Items) → KeepsObject (calls.lend s p l)) → ((l : Items) → KeepsTied (calls.lend s p l)) → ((l : Items) → KeepsBased (calls.lend s p l))
      → Answers true (preparing (scn_at old s).cell p (lend_due old.header.class (scn_at old s).cell kind p)) r (answered (no_list_in old kind s p) (tt {0}))
      → OnOk r (IsOwned (g.holds source) kind false old new s p) → OnErr r (Warmed (g.holds source) old new s) → Leaves g source left
      → IsElf (g.holds source) (g.size source) old → IsElf (g.holds left) (g.size left) new
  own_elf (Err e) keeps ties bases came x w leaves is = warmed_left g source left old new s leaves w is
  own_elf (Ok v) keeps ties bases came x w leaves is =
      let items = owned_items (g.holds source) (g.size source) kind false old new s p x in
      subst (λ (image : Option (List ℕ)). IsElf image (g.size left) new) (sym leaves.same_bytes)
      (subst (λ (size : ℕ). IsElf (g.holds source) size new) (sym leaves.same_len)
      (owned_elf (g.holds source) (g.size source) kind false old new s p x (keeps items) (ties items) (bases items) (passed_first g source left old new kind s p v x is came) is))

  pub own_object : (r : Result (Unit {0}) ElfError)
      → Answers true (preparing (scn_at old s).cell p (lend_due old.header.class (scn_at old s).cell kind p)) r (answered (no_list_in old kind s p) (tt {0}))
      → OnOk r (IsOwned (g.holds source) kind false old new s p) → Leaves g source left → IsElf (g.holds source) (g.size source) old
      → OnOk r (BecomesOwn (is_some (g.holds source)) (object_over g source old) (object_over g left new) s p (items_at (object_over g source old) s p))
  own_object (Err e) came x leaves is = tt
  own_object (Ok v) came x leaves is =
      subst (λ (o : Object). BecomesOwn (is_some (g.holds source)) (object_over g source old) o s p (items_at (object_over g source old) s p)) (sym (left_same g source left new leaves))
      (becomes_own (g.holds source) (g.size source) kind old new s p x is (passed_first g source left old new kind s p v x is came))

  pub own_there : (r : Result (Unit {0}) ElfError)
      → Answers true (preparing (scn_at old s).cell p (lend_due old.header.class (scn_at old s).cell kind p)) r (answered (no_list_in old kind s p) (tt {0}))
      → OnOk r (IsOwned (g.holds source) kind false old new s p) → Leaves g source left → IsElf (g.holds source) (g.size source) old
      → OnOk r (IsOwnPiece (object_over g left new) kind s p)
  own_there (Err e) came x leaves is = tt
  own_there (Ok v) came x leaves is =
      subst (λ (o : Object). IsOwnPiece o kind s p) (sym (left_same g source left new leaves))
      (own_piece_there (g.holds source) (g.size source) kind old new s p x is (passed_first g source left old new kind s p v x is came))

  pub own_asks : (r : Result (Unit {0}) ElfError)
      → Answers true (preparing (scn_at old s).cell p (lend_due old.header.class (scn_at old s).cell kind p)) r (answered (no_list_in old kind s p) (tt {0}))
      → OnOk r (IsOwned (g.holds source) kind false old new s p) → Asks g r source left (lend_due old.header.class (scn_at old s).cell kind p) → IsElf (g.holds source) (g.size source) old
      → OnOk r (ReadsToOwn g r (state_of g source old) (state_of g left new) (lend_reads (object_over g source old) kind s p) (homes_due (object_over g source old) (loaded_of old) (lend_reads (object_over g source old) kind s p)))
  own_asks (Err e) came x asks is = tt
  own_asks (Ok v) came x asks is = own_reads g source left old new kind s p v x is came asks

-- ---- The call whose kind is that of what is left

module _ (kind : Kind) (lent : Items) (same : items_kind lent ≡ kind) where
  pub kind_answers : (image : Option (List ℕ)) (size : ℕ) (b : Body) (s p : ℕ) (r : Result (Unit {0}) ElfError) → IsElf image size b
      → Answers true (preparing (scn_at b s).cell p (lend_due b.header.class (scn_at b s).cell kind p)) r (answered (no_list_in b kind s p) (tt {0}))
      → Answers true (wants (calls.lend s p lent) (object_of image size b) (loaded_of b) (held_of b)) r (answered (lend_refusal (object_of image size b) kind s p) (tt {0}))
  kind_answers image size b s p r is =
      subst
      (λ (k : Kind). Answers true (preparing (scn_at b s).cell p (lend_due b.header.class (scn_at b s).cell k p)) r (answered (no_list_in b k s p) (tt {0}))
      → Answers true (wants (calls.lend s p lent) (object_of image size b) (loaded_of b) (held_of b)) r (answered (lend_refusal (object_of image size b) k s p) (tt {0})))
      same (lend_answers image size b lent s p r is)

  pub kind_refused_queries : {S : Type 0} (g : Ghosts S) (r : Result (Unit {0}) ElfError) (source left : S) (old new : Body) (s p : ℕ) → IsElf (g.holds source) (g.size source) old
      → Answers true (preparing (scn_at old s).cell p (lend_due old.header.class (scn_at old s).cell kind p)) r (answered (no_list_in old kind s p) (tt {0}))
      → OnErr r (Warmed (g.holds source) old new s) → OnErr r ((scn_at new s).cell.held ≡ (scn_at old s).cell.held) → IfErr r (λ e. e ≢ Memory → (scn_at new s).cell ≡ (scn_at old s).cell)
      → Asks g r source left (lend_due old.header.class (scn_at old s).cell kind p) → OnErr r (Queries g (calls.lend s p lent) [] r (state_of g source old) (state_of g left new))
  kind_refused_queries g r source left old new s p is came w held unchanged =
      subst (λ (k : Kind). Asks g r source left (lend_due old.header.class (scn_at old s).cell k p) → OnErr r (Queries g (calls.lend s p lent) [] r (state_of g source old) (state_of g left new))) same
      (lend_refused g r source left old new lent s p is
      (subst (λ (k : Kind). Answers true (preparing (scn_at old s).cell p (lend_due old.header.class (scn_at old s).cell k p)) r (answered (no_list_in old k s p) (tt {0}))) (sym same) came) w held unchanged)

  pub kind_reads : {S T : Type 0} (g : Ghosts S) (r : Result T ElfError) (old new : State S) (s p : ℕ)
      → OnOk r (ReadsToOwn g r old new (lend_reads old.o kind s p) (homes_due old.o old.loaded (lend_reads old.o kind s p)))
      → OnOk r (ReadsToOwn g r old new ((calls.lend s p lent).reads old.o) (due (calls.lend s p lent) old.o old.loaded))
  kind_reads g r old new s p = subst (λ (k : Kind). OnOk r (ReadsToOwn g r old new (lend_reads old.o k s p) (homes_due old.o old.loaded (lend_reads old.o k s p)))
      → OnOk r (ReadsToOwn g r old new (lend_reads old.o (items_kind lent) s p) (homes_due old.o old.loaded (lend_reads old.o (items_kind lent) s p)))) same (λ reads. reads)

-- ---- An own piece

-- a lend of it is not refused
pub own_passed : (o : Object) (kind : Kind) (s p : ℕ) → IsOwnPiece o kind s p → lend_refusal o kind s p ≡ None
unfolding lend_refusal kind_at no_content
own_passed o kind s p x =
    let own = x.own.own in
    let held : kind_at o s p ≡ kind = ap (λ (q : Option Items). elim q [ None ↦ (section_at o s).home.kind | Some items ↦ items_kind items ]) own ∙ x.own.of_kind in
    ap (λ (b : Bool). first_refusal (refused_if b (NoSection s (length o.sections)) ∷ no_data o s p ∷ wrong_kind o kind s p ∷ no_content o s p ∷ [])) (lt-leb (length o.sections) s x.section)
    ∙ ap (λ (b : Bool). first_refusal (refused_if b (NoData p (piece_count o s)) ∷ wrong_kind o kind s p ∷ no_content o s p ∷ [])) (lt-leb (piece_count o s) p x.piece)
    ∙ ap (λ (b : Bool). first_refusal (refused_if (not b) (WrongKind (kind_at o s p)) ∷ no_content o s p ∷ [])) (same_kind-same (kind_at o s p) kind held)
    ∙ ap (λ (q : Option Items). first_refusal (elim q [ None ↦ err_of (content o s) | Some items ↦ None ] ∷ [])) own

-- a piece of what the program keeps, which is own of a kind
pub piece_own : (image : Option (List ℕ)) (size : ℕ) (b : Body) (kind : Kind) (s p : ℕ) → IsOwnPiece (object_of image size b) kind s p → OwnsKind kind (piece_in (scn_at b s).cell p)
piece_own image size b kind s p x = subst (λ (q : Piece). OwnsKind kind q) (piece_is image size b s p) x.own

pub own_section : (image : Option (List ℕ)) (size : ℕ) (b : Body) (kind : Kind) (s p : ℕ)
    → IsOwnPiece (object_of image size b) kind s p → s < length b.sections
own_section image size b kind s p x = subst (λ (n : ℕ). s < n) (section_count_is image size b) x.section

pub own_piece_count : (image : Option (List ℕ)) (size : ℕ) (b : Body) (kind : Kind) (s p : ℕ) → IsOwnPiece (object_of image size b) kind s p → p < length (scn_at b s).cell.pieces
own_piece_count image size b kind s p x = subst (λ (n : ℕ). p < n) (piece_count_is image size b s) x.piece

-- it is marked
own_marked : (image : Option (List ℕ)) (size : ℕ) (b : Body) (kind : Kind) (s p : ℕ) → IsElf image size b → IsOwnPiece (object_of image size b) kind s p → (piece_in (scn_at b s).cell p).marked ≡ true
unfolding section_of piece_in
own_marked image size b kind s p is x =
    let piece : IsPiece (get_or (scn_at b s).cell.pieces p home_piece) =
    All-get_or IsPiece (scn_at b s).cell.pieces p home_piece (own_piece_count image size b kind s p x) (section_sound image size b s is (own_section image size b kind s p x)).pieces in
    let own = piece_own image size b kind s p x in
    subst (λ (o : Option Items). IfSome o (λ items. IsTrue (get_or (scn_at b s).cell.pieces p home_piece).marked)) own.own piece.own

-- ---- What the borrower leaves

abbrev piece_of : Items → ℕ → Bool → Piece
piece_of items align marked = record { own = Some items; align = align; marked = marked }

left_cell : (c : CellView) (p : ℕ) (items : Items) → (piece_in c p).marked ≡ true → with_items c p items ≡ replaced c p items
left_cell c p items marked = ap (λ (m : Bool). record c { pieces = set c.pieces p (piece_of items (piece_in c p).align m) }) marked

module _ (image : Option (List ℕ)) (size : ℕ) (b : Body) (kind : Kind) (s p : ℕ) (left : Items) (is : IsElf image size b) (x : IsOwnPiece (object_of image size b) kind s p) where
  pub left_stepped : IsStepped (λ o. with_own o s p left) (ready_of b) b (with_left b s p left)
  left_stepped =
      piece_replaced b (with_left b s p left) s p left (scn_at b s) refl refl
      (ap (λ (c : CellView). set b.sections s (record (scn_at b s) { cell = c }))
      (left_cell (scn_at b s).cell p left (own_marked image size b kind s p is x)))

  pub left_elf : ((l : Items) → KeepsObject (calls.lend s p l)) → ((l : Items) → KeepsTied (calls.lend s p l)) → ((l : Items) → KeepsBased (calls.lend s p l)) → items_kind left ≡ kind → IsElf image size (with_left b s p left)
  left_elf keeps ties bases same =
      let o = object_of image size b in
      let answer : answered (lend_refusal o (items_kind left) s p) (items_at o s p) ≡ Ok (items_at o s p) =
      ap (λ (k : Kind). answered (lend_refusal o k s p) (items_at o s p)) same ∙ ap (λ (r : Option ElfError). answered r (items_at o s p)) (own_passed o kind s p x) in
      stepped_elf (calls.lend s p left) image size (items_at o s p) (ready_of b) b (with_left b s p left) (keeps left) (ties left) (bases left) answer left_stepped is

pub left_state : {S : Type 0} (g : Ghosts S) (source : S) (b : Body) (kind : Kind) (s p : ℕ) (left : Items) → IsElf (g.holds source) (g.size source) b → IsOwnPiece (object_over g source b) kind s p
    → state_of g source (with_left b s p left) ≡ record (state_of g source b) { o = with_own (object_over g source b) s p left }
left_state g source b kind s p left is x =
    state_stepped g source (λ o. with_own o s p left) (ready_of b) b (with_left b s p left) (left_stepped (g.holds source) (g.size source) b kind s p left is x)

-- ---- An own piece is given items again

with_twice : (o : Object) (s p : ℕ) (first items : Items) → s < length o.sections → p < piece_count o s → with_own (with_own o s p first) s p items ≡ with_own o s p items
unfolding with_own with_piece_at with_section piece_count
with_twice o s p first items there within =
    let c = section_at o s in
    let mid = with_own o s p first in
    let again : Section → Piece → Object = λ d q. with_section mid s (record d { pieces = set d.pieces p (own_piece items q.align) }) in
    ap (λ (d : Section). again d (piece_at mid s p)) (section_at-with_own o s p first there)
    ∙ ap (λ (q : Piece). again (record c { pieces = set c.pieces p (own_piece first (piece_at o s p).align) }) q) (piece_at-with_own o s p first there within)
    ∙ ap (λ (l : List Piece). with_section mid s (record c { pieces = l })) (set-set c.pieces p (own_piece first (piece_at o s p).align) (own_piece items (piece_at o s p).align))
    ∙ ap (λ (l : List Section). record o { sections = l })
    (set-set o.sections s (record c { pieces = set c.pieces p (own_piece first (piece_at o s p).align) }) (record c { pieces = set c.pieces p (own_piece items (piece_at o s p).align) }))

-- a piece that holds its items holds them still
holds_owned : (o : Object) (held : List Bool) (s p t i : ℕ) (items : Items) → s < length o.sections → p < piece_count o s → IsTrue (holds_items o held t i) → IsTrue (holds_items (with_own o s p items) held t i)
unfolding holds_items piece_at
holds_owned o held s p t i items there within holds = by_section (t == s) refl
  where
    Holds : Piece → ℕ → Type 0
    Holds q n = IsTrue (is_some q.own || unwrap_or (slice_get held n) false)

    by_piece : (b : Bool) → (i == p) ≡ b → Holds (piece_at o s i) s → Holds (piece_at (with_own o s p items) s i) s
    by_piece true e before =
        subst (λ (n : ℕ). Holds (piece_at (with_own o s p items) s n) s) (sym (eqb-true i p e)) (subst (λ (q : Piece). Holds q s) (sym (piece_at-with_own o s p items there within)) refl)
    by_piece false e before = subst (λ (q : Piece). Holds q s) (sym (piece_at-with_own_other o s p i items there (other_number i p e))) before

    by_section : (b : Bool) → (t == s) ≡ b → Holds (piece_at (with_own o s p items) t i) t
    by_section true e =
        let same = eqb-true t s e in
        subst (λ (n : ℕ). Holds (piece_at (with_own o s p items) n i) n) (sym same) (by_piece (i == p) refl (subst (λ (n : ℕ). Holds (piece_at o n i) n) same holds))
    by_section false e = other_piece (other_number t s e) holds
      where
        other_piece : t ≢ s → Holds (piece_at o t i) t → Holds (piece_at (with_own o s p items) t i) t
        other_piece other before = subst (λ (c : Section). Holds (get_or c.pieces i home_piece) t) (sym (section_at-with_own_other o s t p items other)) before

-- ---- The lend, and what is left in the end

module _ (told : Bool) (old mid : Object) (kind : Kind) (s p : ℕ) (stated : Items) (x : BecomesOwn told old mid s p stated) (y : IsOwnPiece mid kind s p) where
  there_before : s < length old.sections
  there_before = subst (λ (n : ℕ). s < n) (section_count-with_own old s p x.left) (subst (λ (o : Object). s < length o.sections) x.object y.section)

  within_before : p < piece_count old s
  within_before = subst (λ (n : ℕ). p < n) (piece_count-with_own old s p x.left there_before) (subst (λ (o : Object). p < piece_count o s) x.object y.piece)

  -- the piece holds what the borrower left
  pub lent_object : (items : Items) → with_own mid s p items ≡ with_own old s p items
  lent_object items = ap (λ (o : Object). with_own o s p items) x.object ∙ with_twice old s p x.left items there_before within_before

  own_left : (piece_at mid s p).own ≡ Some x.left
  own_left = ap (λ (o : Object). (piece_at o s p).own) x.object ∙ ap (λ (q : Piece). q.own) (piece_at-with_own old s p x.left there_before within_before)

  -- what was lent is what stood there, where the source tells it, and as many in any case
  pub lent_value : {X : Type 0} (list_of : Items → X) (l : X) → IfSome (piece_at mid s p).own (λ items. l ≡ list_of items) → IsTrue told → l ≡ list_of stated
  lent_value list_of l is known = subst (λ (o : Option Items). IfSome o (λ items. l ≡ list_of items)) own_left is ∙ ap list_of (x.exact known)

  pub lent_count : (n : ℕ) → IfSome (piece_at mid s p).own (λ items. n ≡ items_count items) → n ≡ items_count stated
  lent_count n is = subst (λ (o : Option Items). IfSome o (λ items. n ≡ items_count items)) own_left is ∙ x.count

-- an answer after a step that was Ok, or that was refused as the answer is
pub to_own_then : {S T U : Type 0} (g : Ghosts S) (v : Result T ElfError) (r : Result U ElfError) (old new : State S) (sections : List ℕ) (due : ℕ)
    → (IfErr r IsRefusal → IfErr v IsRefusal) → ReadRose r (g.faults old.source) (g.faults new.source) → ReadsToOwn g v old new sections due → ReadsToOwn g r old new sections due
to_own_then g v r old new sections due settled rose reads = record {
  source = asks_then g v r old.source new.source due reads.source rose;
  told = reads.told;
  ready = reads.ready;
  loads = reads.loads;
  stays = reads.stays;
  holds = reads.holds;
  holds_on = reads.holds_on;
  room = reads.room;
  first_use = λ refused. reads.first_use (settled refused);
}

-- what was read for it, once the borrower left other items
pub lent_reads : {S T : Type 0} (g : Ghosts S) (r : Result T ElfError) (old mid : State S) (kind : Kind) (s p : ℕ) (items : Items) (sections others : List ℕ) → IsOwnPiece mid.o kind s p → sections ≡ others
    → ReadsToOwn g r old mid sections (homes_due old.o old.loaded sections) → ReadsToOwn g r old (record mid { o = with_own mid.o s p items }) others (homes_due old.o old.loaded others)
lent_reads g r old mid kind s p items sections others y same reads =
    subst (λ (l : List ℕ). ReadsToOwn g r old (record mid { o = with_own mid.o s p items }) l (homes_due old.o old.loaded l)) same (record {
      source = reads.source;
      told = reads.told;
      ready = reads.ready;
      loads = reads.loads;
      stays = reads.stays;
      holds = reads.holds;
      holds_on = λ t i below holds. holds_owned mid.o mid.held s p t i items y.section y.piece (reads.holds_on t i below holds);
      room = reads.room;
      first_use = reads.first_use;
    })
