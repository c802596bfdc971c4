-- A call that makes a piece own: how it is refused, what it is due, what it reads, and what the piece holds then.
use Rattle.std.proofs.Common.{◌≡◌, ◌≢◌, ℕ, ◌+◌, ◌<◌, ◌≤◌, Bool, true, false, not, List, [], ◌∷◌, length, set, map, Option, Some, None, Result, Ok, Err, refl, sym, ap, ◌∙◌, subst, arith}
use Rattle.std.specs.Prelude.{IsTrue, IfErr, OnOk, OnErr, Contains, is_some, nat_lt, ◌==◌}
use Rattle.std.proofs.lemmas.Bool.{eqb-true}
use Rattle.std.proofs.lemmas.List.{length-set}
use Rattle.std.proofs.Math.Seq.{map-set}
use Rattle.elf_types.specs.declared.records.Class.{Class}
use Rattle.elf_types.specs.declared.records.Kind.{Kind}
use Rattle.elf_types.specs.declared.errors.ElfError.{ElfError}
use Rattle.elf_types.specs.declared.errors.ElfError.TheVariants.{Memory}
use Rattle.elf_types.specs.Answers.{answered, first_refusal}
use Rattle.section_table.specs.elf_xlate.declared.content.Items.{Items}
use Rattle.section_table.specs.elf_xlate.Translation.{items_kind}
use Rattle.section_table.specs.elf_outside.declared.sources.Source.{Ghosts}
use Rattle.section_table.specs.elf_outside.Asks.{Asks, Leaves}
use Rattle.section_table.specs.elf_object.Words.{Answers, AlikeItems}
use Rattle.section_table.specs.elf_object.Object.{Object, Section, Piece}
use Rattle.section_table.specs.elf_object.Answers.{lend_refusal, items_at, piece_count}
use Rattle.section_table.specs.elf_object.Steps.{BecomesOwn}
use Rattle.section_table.specs.elf_object.Calls.{due, wants, reader}
use Rattle.section_table.specs.elf_object.Calls as calls
use Rattle.section_table.specs.elf_object.Due.{is_loaded, homes_due, unless_refused, when_piece_clean}
use Rattle.section_table.specs.section_data.Views.{CellView, IsCell}
use Rattle.section_table.specs.section_data.Held.{piece_in, cell_is_loaded, piece_holds_items, ready}
use Rattle.section_table.specs.section_data.Leaves.{Warms, OwnsKind}
use Rattle.section_table.specs.section_data.Refused.{kind_refused, no_home_items, lend_due, preparing}
use Rattle.section_table.specs.Sections.{SectionView as Scn}
use Rattle.elf_descriptor.specs.declared.body.Body.{Body}
use Rattle.elf_descriptor.specs.Views.{object_of, section_of, scn_at, no_scn, loaded_of, held_of, state_of, ready_of}
use Rattle.elf_descriptor.specs.Bodies.{no_list_in}
use Rattle.elf_descriptor.specs.Sound.{IsElf}
use Rattle.elf_descriptor.specs.Warmed.{Warmed}
use Rattle.elf_descriptor.specs.Reads.{Reads, Queries, Looks}
use Rattle.elf_descriptor.specs.Owned.{IsOwned, IsOwnPiece}
use Rattle.elf_descriptor.specs.Lends.{ReadsToOwn}
use Rattle.elf_descriptor.proofs.Refusals.{err_of_answered, answers_wants, answers_passed}
use Rattle.elf_descriptor.proofs.Objects.{section_count_is, section_is, piece_is}
use Rattle.elf_descriptor.proofs.Warming.{warmed_object, warmed_elf, other_number, scn_written}
use Rattle.elf_descriptor.proofs.ListedCells.{warms_piece, clean_or_own, list_passed}
use Rattle.elf_descriptor.proofs.Reading.{object_over, contains_one, home_held, held_there}
use Rattle.elf_descriptor.proofs.PieceCalls.{lend_refusal_is, kind_unread, reader_due, reader_looks, holds_is, clean_list, section_sound}
use Rattle.elf_descriptor.proofs.DataCalls.{held_loaded, ready_items}
use Rattle.elf_descriptor.proofs.OwnedCells.{owns_cell, owned_items, owned_object, owned_here, owned_other, owned_count, owns_same, owns_hold, before_own, before_warmed, before_cell}
use Rattle.elf_descriptor.proofs.Loaded.{room_is}

-- ---- The answer

-- the homes that a lend of items of a kind may read
abbrev pub lend_reads : Object → Kind → ℕ → ℕ → List ℕ
lend_reads o kind s p = unless_refused (lend_refusal o kind s p) (when_piece_clean o s p)

lend_reads_is : (image : Option (List ℕ)) (size : ℕ) (b : Body) (kind : Kind) (s p : ℕ) → IsElf image size b
    → lend_reads (object_of image size b) kind s p
    ≡ unless_refused (first_refusal (no_scn b s ∷ kind_refused b.header.class (scn_at b s).cell kind p ∷ [])) (when_piece_clean (object_of image size b) s p)
unfolding no_list_in
lend_reads_is image size b kind s p is =
    ap (λ (r : Option ElfError). unless_refused r (when_piece_clean (object_of image size b) s p)) (lend_refusal_is image size b kind s p is)

lend_due_is : (image : Option (List ℕ)) (size : ℕ) (b : Body) (kind : Kind) (s p : ℕ) → IsElf image size b
    → homes_due (object_of image size b) (loaded_of b) (lend_reads (object_of image size b) kind s p) ≡ lend_due b.header.class (scn_at b s).cell kind p
unfolding lend_due
lend_due_is image size b kind s p is =
    ap (λ (l : List ℕ). homes_due (object_of image size b) (loaded_of b) l) (lend_reads_is image size b kind s p is)
    ∙ reader_due image size b s p (kind_refused b.header.class (scn_at b s).cell kind p) (kind_unread b.header.class (scn_at b s).cell kind p)

pub lend_answers : (image : Option (List ℕ)) (size : ℕ) (b : Body) (left : Items) (s p : ℕ) (result : Result (Unit {0}) ElfError) → IsElf image size b
    → Answers true (preparing (scn_at b s).cell p (lend_due b.header.class (scn_at b s).cell (items_kind left) p)) result (answered (no_list_in b (items_kind left) s p) (tt {0}))
    → Answers true (wants (calls.lend s p left) (object_of image size b) (loaded_of b) (held_of b)) result (answered (lend_refusal (object_of image size b) (items_kind left) s p) (tt {0}))
lend_answers image size b left s p result is came =
    let cell = (scn_at b s).cell in
    let before = preparing cell p (lend_due b.header.class cell (items_kind left) p) in
    answers_wants true before (wants (calls.lend s p left) (object_of image size b) (loaded_of b) (held_of b)) result
    (answered (lend_refusal (object_of image size b) (items_kind left) s p) (tt {0}))
    (λ unheld. ap not (holds_is image size b s p) ∙ unheld)
    (λ some. ap (λ (n : ℕ). nat_lt 0 n) (lend_due_is image size b (items_kind left) s p is) ∙ some)
    (subst (λ (r : Option ElfError). Answers true before result (answered r (tt {0}))) (sym (lend_refusal_is image size b (items_kind left) s p is)) came)

-- ---- What is read

abbrev Lending : ℕ → ℕ → Kind → Object → Result (Unit {0}) ElfError
Lending s p kind o = answered (lend_refusal o kind s p) (tt {0})

-- what is read and translated at first use, whether or not the piece becomes own then
warm_looks : {S : Type 0} (g : Ghosts S) (result : Result (Unit {0}) ElfError) (source left : S) (old new : Body) (kind : Kind) (s p : ℕ)
    → IsElf (g.holds source) (g.size source) old → Warmed (g.holds source) old new s
    → Answers true (preparing (scn_at old s).cell p (lend_due old.header.class (scn_at old s).cell kind p)) result (answered (no_list_in old kind s p) (tt {0}))
    → IfErr result (λ e. e ≢ Memory → (scn_at new s).cell ≡ (scn_at old s).cell)
    → (is_some (piece_in (scn_at old s).cell p).own ≡ true → (scn_at new s).cell ≡ (scn_at old s).cell)
    → OnOk result (is_some (piece_in (scn_at old s).cell p).own ≡ false → cell_is_loaded (scn_at new s).cell ≡ true)
    → Asks g result source left (lend_due old.header.class (scn_at old s).cell kind p)
    → Looks g (reader s p (Lending s p kind)) result (state_of g source old) (state_of g left new)
unfolding no_list_in lend_due
warm_looks g result source left old new kind s p is w came same own loaded asks =
    reader_looks g (Lending s p kind) (preparing (scn_at old s).cell p (lend_due old.header.class (scn_at old s).cell kind p)) result source left old new s p
    (kind_refused old.header.class (scn_at old s).cell kind p) (kind_unread old.header.class (scn_at old s).cell kind p)
    (ap (λ (r : Option ElfError). unless_refused r (when_piece_clean (object_over g source old) s p)) (err_of_answered (lend_refusal (object_over g source old) kind s p) (tt {0}))
    ∙ lend_reads_is (g.holds source) (g.size source) old kind s p is)
    w came same own loaded asks

lending_reads : (o : Object) (kind : Kind) (s p : ℕ) → (reader s p (Lending s p kind)).reads o ≡ lend_reads o kind s p
lending_reads o kind s p = ap (λ (r : Option ElfError). unless_refused r (when_piece_clean o s p)) (err_of_answered (lend_refusal o kind s p) (tt {0}))

warm_reads : {S : Type 0} (g : Ghosts S) (result : Result (Unit {0}) ElfError) (source left : S) (old new : Body) (kind : Kind) (s p : ℕ)
    → Looks g (reader s p (Lending s p kind)) result (state_of g source old) (state_of g left new)
    → Reads g result (state_of g source old) (state_of g left new) (lend_reads (object_over g source old) kind s p) (lend_reads (object_over g source old) kind s p)
    (homes_due (object_over g source old) (loaded_of old) (lend_reads (object_over g source old) kind s p))
warm_reads g result source left old new kind s p looks =
    subst (λ (l : List ℕ). Reads g result (state_of g source old) (state_of g left new) l l (homes_due (object_over g source old) (loaded_of old) l)) (lending_reads (object_over g source old) kind s p) looks.reads

-- ---- A refusal

-- a call on an own piece wants no memory
own_unwanted : (class : Class) (c : CellView) (kind : Kind) (p : ℕ) (e : ElfError) (stated : Result (Unit {0}) ElfError) (same : Type 0)
    → Answers true (preparing c p (lend_due class c kind p)) (Err e) stated → (e ≢ Memory → same) → is_some (piece_in c p).own ≡ true → same
unfolding ready
own_unwanted class c kind p Memory stated same came other own = by_own (piece_in c p).own own came.0
  where
    by_own : (o : Option Items) → is_some o ≡ true → IsTrue (not (is_some (elim o [ None ↦ c.held | Some items ↦ Some items ]))) → same
    by_own None own memory = cc
    by_own (Some items) own memory = cc
own_unwanted class c kind p e stated same came other own = other (λ is. cc)

pub lend_refused : {S : Type 0} (g : Ghosts S) (result : Result (Unit {0}) ElfError) (source left : S) (old new : Body) (lent : Items) (s p : ℕ)
    → IsElf (g.holds source) (g.size source) old
    → Answers true (preparing (scn_at old s).cell p (lend_due old.header.class (scn_at old s).cell (items_kind lent) p)) result (answered (no_list_in old (items_kind lent) s p) (tt {0}))
    → OnErr result (Warmed (g.holds source) old new s) → OnErr result ((scn_at new s).cell.held ≡ (scn_at old s).cell.held)
    → IfErr result (λ e. e ≢ Memory → (scn_at new s).cell ≡ (scn_at old s).cell)
    → Asks g result source left (lend_due old.header.class (scn_at old s).cell (items_kind lent) p)
    → OnErr result (Queries g (calls.lend s p lent) [] result (state_of g source old) (state_of g left new))
lend_refused g (Ok x) source left old new lent s p is came w held same asks = tt
lend_refused g (Err e) source left old new lent s p is came w held same asks =
    let kind = items_kind lent in
    let looks = warm_looks g (Err e) source left old new kind s p is w came same
    (own_unwanted old.header.class (scn_at old s).cell kind p e (answered (no_list_in old kind s p) (tt {0})) ((scn_at new s).cell ≡ (scn_at old s).cell) came same) tt asks in
    let reads = warm_reads g (Err e) source left old new kind s p looks in
    record {
      object = looks.object;
      reads = record {
        source = reads.source;
        told = reads.told;
        ready = reads.ready;
        loads = reads.loads;
        stays = reads.stays;
        holds = λ i out. home_held new i ∙ ap (λ (o : Option Items). is_some o) (held_there (g.holds source) old new s [] w (λ none. held) i out) ∙ sym (home_held old i);
        holds_on = reads.holds_on;
        room = reads.room;
        first_use = reads.first_use;
      };
    }

-- ---- The piece became own

-- the number of a section's pieces
pub piece_count_is : (image : Option (List ℕ)) (size : ℕ) (b : Body) (s : ℕ) → piece_count (object_of image size b) s ≡ length (scn_at b s).cell.pieces
unfolding piece_count section_of
piece_count_is image size b s = ap (λ (c : Section). length c.pieces) (section_is image size b s)

-- it does not rest on the source that the call leaves
pub left_same : {S : Type 0} (g : Ghosts S) (source left : S) (b : Body) → Leaves g source left → object_over g left b ≡ object_over g source b
left_same g source left b leaves =
    ap (λ (image : Option (List ℕ)). object_of image (g.size left) b) leaves.same_bytes ∙ ap (λ (size : ℕ). object_of (g.holds source) size b) leaves.same_len

home_stays : (image : Option (List ℕ)) (class : Class) (c warm : CellView) (p : ℕ) → Warms image c warm → no_home_items class warm p ≡ no_home_items class c p
unfolding no_home_items piece_in
home_stays image class c warm p warms = ap (λ (n : CellView). no_home_items class n p) warms.cell

module _ (image : Option (List ℕ)) (size : ℕ) (kind : Kind) (old new : Body) (s p : ℕ) (x : IsOwned image kind false old new s p) (is : IsElf image size old)
    (passed : lend_refusal (object_of image size old) kind s p ≡ None) where
  before : Body
  before = before_own image size kind false old new s p x

  before_here : scn_at before s ≡ record (scn_at old s) { cell = x.owns.warm }
  unfolding before before_own
  before_here = scn_written old before s (record (scn_at old s) { cell = x.owns.warm }) x.there refl

  warmed : Warmed image old before s
  unfolding before
  warmed = before_warmed image size kind false old new s p x

  count_there : p < length (scn_at old s).cell.pieces
  count_there = (list_passed old kind s p (sym (lend_refusal_is image size old kind s p is) ∙ passed)).1

  -- its items are those that were stated, of their kind and as many in any case
  owned_stated : (IsTrue (is_some image) → owned_items image size kind false old new s p x ≡ items_at (object_of image size old) s p)
      × AlikeItems (owned_items image size kind false old new s p x) (items_at (object_of image size old) s p)
  unfolding owned_items before before_own
  owned_stated =
      let home = (list_passed old kind s p (sym (lend_refusal_is image size old kind s p is) ∙ passed)).3 in
      subst (λ (o : Object). (IsTrue (is_some image) → x.owns.claims.items ≡ items_at o s p) × AlikeItems x.owns.claims.items (items_at o s p)) (warmed_object image size old before s warmed)
      (ready_items image size before s p x.owns.claims.items (warmed_elf image size old before s warmed is)
      (let there = x.there in
      let same = length-set old.sections s (record (scn_at old s) { cell = x.owns.warm }) in
      omega (arith, there, same))
      (subst (λ (y : Scn). IsCell y.cell) (sym before_here) (before_cell image size kind false old new s p x is))
      (subst (λ (y : Scn). no_home_items old.header.class y.cell p ≡ None) (sym before_here) (home_stays image old.header.class (scn_at old s).cell x.owns.warm p x.owns.warms ∙ home))
      (subst (λ (y : Scn). ready y.cell p ≡ Some x.owns.claims.items) (sym before_here) x.owns.claims.stood))

  pub becomes_own : BecomesOwn (is_some image) (object_of image size old) (object_of image size new) s p (items_at (object_of image size old) s p)
  becomes_own = record {
    left = owned_items image size kind false old new s p x;
    object = owned_object image size kind false old new s p x;
    kind = owned_stated.1.0;
    count = owned_stated.1.1;
    exact = owned_stated.0;
  }

  pub own_piece_there : IsOwnPiece (object_of image size new) kind s p
  own_piece_there =
      let here = owned_here image size kind false old new s p x in
      record {
        section = let there = x.there in let first = section_count_is image size new in let same = owned_count image size kind false old new s p x in omega (arith, there, first, same);
        piece = subst (λ (n : ℕ). p < n) (sym (piece_count_is image size new s ∙ ap (λ (y : Scn). length y.cell.pieces) here)) x.piece;
        own = subst (λ (q : Piece). OwnsKind kind q) (sym (piece_is image size new s p ∙ ap (λ (y : Scn). piece_in y.cell p) here)) x.own;
      }

  -- what is loaded is what was read
  loaded_same : loaded_of new ≡ loaded_of before
  unfolding loaded_of before before_own
  loaded_same =
      let f : Scn → Bool = λ y. cell_is_loaded y.cell in
      ap (λ (l : List Scn). map f l) x.sections
      ∙ map-set f old.sections s (record (scn_at old s) { cell = x.cell })
      ∙ ap (λ (c : CellView). set (map f old.sections) s (cell_is_loaded c)) x.owns.claims.cell
      ∙ sym (map-set f old.sections s (record (scn_at old s) { cell = x.owns.warm }))

  -- where the home is not read the section is as before
  unread_same : ¬ Contains (lend_reads (object_of image size old) kind s p) s → (scn_at new s).cell ≡ (scn_at old s).cell
  unread_same out = by_own (is_some (piece_in (scn_at old s).cell p).own) refl
    where
      by_own : (b : Bool) → is_some (piece_in (scn_at old s).cell p).own ≡ b → (scn_at new s).cell ≡ (scn_at old s).cell
      by_own true own = ap (λ (y : Scn). y.cell) (owned_here image size kind false old new s p x) ∙ owns_same image _ _ (scn_at old s).cell x.cell p x.owns own
      by_own false clean =
          let list : lend_reads (object_of image size old) kind s p ≡ s ∷ [] =
          ap (λ (r : Option ElfError). unless_refused r (when_piece_clean (object_of image size old) s p)) passed ∙ clean_list image size old s p false clean in
          absurd (out (subst (λ (l : List ℕ). Contains l s) (sym list) (contains_one s)))

  held_same : (i : ℕ) → ¬ Contains (lend_reads (object_of image size old) kind s p) i → is_loaded (held_of new) i ≡ is_loaded (held_of old) i
  held_same i out = home_held new i ∙ ap (λ (c : CellView). is_some c.held) (by_number (i == s) refl) ∙ sym (home_held old i)
    where
      by_number : (b : Bool) → (i == s) ≡ b → (scn_at new i).cell ≡ (scn_at old i).cell
      by_number true e =
          let same = eqb-true i s e in
          subst (λ (n : ℕ). (scn_at new n).cell ≡ (scn_at old n).cell) (sym same)
          (unread_same (subst (λ (n : ℕ). ¬ Contains (lend_reads (object_of image size old) kind s p) n) same out))
      by_number false e = ap (λ (y : Scn). y.cell) (owned_other image size kind false old new s p x i (other_number i s e))

  -- memory that is kept aside stays
  owned_room : (i : ℕ) → (scn_at new i).cell.room ≡ (scn_at old i).cell.room
  owned_room i = by_number (i == s) refl
    where
      by_number : (b : Bool) → (i == s) ≡ b → (scn_at new i).cell.room ≡ (scn_at old i).cell.room
      by_number true e =
          let same = eqb-true i s e in
          subst (λ (n : ℕ). (scn_at new n).cell.room ≡ (scn_at old n).cell.room) (sym same)
          (ap (λ (y : Scn). y.cell.room) (owned_here image size kind false old new s p x) ∙ ap (λ (c : CellView). c.room) (owns_cell image _ _ (scn_at old s).cell x.cell p x.owns))
      by_number false e = ap (λ (y : Scn). y.cell.room) (owned_other image size kind false old new s p x i (other_number i s e))

  held_on : (t i : ℕ) → i < length (scn_at old t).cell.pieces → piece_holds_items (scn_at old t).cell i ≡ true → piece_holds_items (scn_at new t).cell i ≡ true
  unfolding section_of
  held_on t i within holds = by_number (t == s) refl
    where
      by_number : (b : Bool) → (t == s) ≡ b → piece_holds_items (scn_at new t).cell i ≡ true
      by_number true e =
          let same = eqb-true t s e in
          let others = (section_sound image size old s is x.there).others in
          ap (λ (n : ℕ). piece_holds_items (scn_at new n).cell i) same
          ∙ ap (λ (y : Scn). piece_holds_items y.cell i) (owned_here image size kind false old new s p x)
          ∙ owns_hold image _ _ (scn_at old s).cell x.cell p i x.owns others count_there (subst (λ (n : ℕ). i < length (scn_at old n).cell.pieces) same within)
          (subst (λ (n : ℕ). piece_holds_items (scn_at old n).cell i ≡ true) same holds)
      by_number false e = ap (λ (y : Scn). piece_holds_items y.cell i) (owned_other image size kind false old new s p x t (other_number t s e)) ∙ holds

-- ---- What the call does to the source, and what is held

module _ {S : Type 0} (g : Ghosts S) (source left : S) (old new : Body) (kind : Kind) (s p : ℕ) (v : Unit {0}) (x : IsOwned (g.holds source) kind false old new s p)
    (is : IsElf (g.holds source) (g.size source) old) (came : Answers true (preparing (scn_at old s).cell p (lend_due old.header.class (scn_at old s).cell kind p)) (Ok v) (answered (no_list_in old kind s p) (tt {0}))) where
  abbrev answer : Result (Unit {0}) ElfError
  answer = Ok v

  pub passed_first : lend_refusal (object_of (g.holds source) (g.size source) old) kind s p ≡ None
  passed_first = lend_refusal_is (g.holds source) (g.size source) old kind s p is ∙ answers_passed true (preparing (scn_at old s).cell p (lend_due old.header.class (scn_at old s).cell kind p)) (no_list_in old kind s p) (tt {0}) v came

  pub own_reads : Asks g answer source left (lend_due old.header.class (scn_at old s).cell kind p)
      → ReadsToOwn g answer (state_of g source old) (state_of g left new) (lend_reads (object_over g source old) kind s p)
      (homes_due (object_over g source old) (loaded_of old) (lend_reads (object_over g source old) kind s p))
  own_reads asks =
      let c = (scn_at old s).cell in
      let passed = passed_first in
      let mid = before (g.holds source) (g.size source) kind old new s p x is passed in
      let here = before_here (g.holds source) (g.size source) kind old new s p x is passed in
      let w = warmed (g.holds source) (g.size source) kind old new s p x is passed in
      let same = loaded_same (g.holds source) (g.size source) kind old new s p x is passed in
      let list = lend_reads (object_over g source old) kind s p in
      let looks = warm_looks g (Ok v) source left old mid kind s p is w came tt
      (λ own. ap (λ (y : Scn). y.cell) here ∙ x.owns.stays own)
      (λ clean. ap (λ (y : Scn). cell_is_loaded y.cell) here
      ∙ held_loaded old.header.class old.header.order x.owns.warm p x.owns.items (ap (λ (q : Piece). q.own) (warms_piece (g.holds source) c x.owns.warm p x.owns.warms) ∙ clean_or_own c p false clean refl)
      (ap (λ (o : Option Items). is_some o) x.owns.claims.stood))
      asks in
      let reads = warm_reads g (Ok v) source left old mid kind s p looks in
      record {
        source = reads.source;
        told = reads.told;
        ready = ap ready_of x.rest;
        loads = λ i out. ap (λ (l : List Bool). is_loaded l i) same ∙ reads.loads i out;
        stays = λ i loaded. ap (λ (l : List Bool). is_loaded l i) same ∙ reads.stays i loaded;
        holds = held_same (g.holds source) (g.size source) kind old new s p x is passed;
        holds_on = λ t i there holds.
            holds_is (g.holds left) (g.size left) new t i
            ∙ held_on (g.holds source) (g.size source) kind old new s p x is passed t i (subst (λ (n : ℕ). i < n) (piece_count_is (g.holds source) (g.size source) old t) there)
            (sym (holds_is (g.holds source) (g.size source) old t i) ∙ holds);
        room = λ i unread. room_is new i ∙ owned_room (g.holds source) (g.size source) kind old new s p x is passed i ∙ sym (room_is old i);
        first_use = λ settled. subst (λ (l : List Bool). g.taken left + homes_due (object_over g source old) l list ≤ g.taken source + homes_due (object_over g source old) (loaded_of old) list) (sym same)
            (reads.first_use settled);
      }
