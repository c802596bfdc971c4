-- The call that stores one item: how it is refused, and what it leaves.
use Rattle.std.proofs.Common.{◌≡◌, ℕ, ◌/◌, ◌<◌, Bool, true, false, not, List, [], ◌∷◌, length, set, Option, Some, None, Result, Err, refl, sym, ap, ◌∙◌, subst}
use Rattle.std.specs.Prelude.{IsTrue, IfErr, is_some, nat_le, nat_lt}
use Rattle.std.proofs.lemmas.Bool.{leb-false}
use Rattle.std.proofs.lemmas.List.{length-set}
use Rattle.elf_types.specs.declared.records.Class.{Class}
use Rattle.elf_types.specs.declared.records.Kind.{Kind}
use Rattle.elf_types.specs.declared.records.Part.TheVariants as part
use Rattle.elf_types.specs.declared.errors.ElfError.{ElfError}
use Rattle.elf_types.specs.declared.errors.ElfError.TheVariants.{NoEntry, Unfit}
use Rattle.elf_types.specs.Answers.{answered, refused_if, first_refusal, IsRefusal}
use Rattle.section_table.specs.elf_xlate.declared.content.Items.{Items}
use Rattle.section_table.specs.elf_xlate.Items.{item_size}
use Rattle.section_table.specs.elf_xlate.Translation.{decoded, items_kind, items_count, is_whole}
use Rattle.section_table.proofs.elf_xlate.Decoded.{whole_is}
use Rattle.section_table.proofs.elf_xlate.Decoded as counts
use Rattle.section_table.specs.elf_outside.declared.sources.Source.{Ghosts}
use Rattle.section_table.specs.elf_outside.Asks.{ReadRose}
use Rattle.section_table.specs.elf_object.Words.{Answers}
use Rattle.section_table.specs.elf_object.Object.{Object, Piece}
use Rattle.section_table.specs.elf_object.Answers.{content, items_at, count_at, no_entry, lend_refusal, item_refusal}
use Rattle.section_table.specs.elf_object.Answers as object
use Rattle.section_table.specs.elf_object.Calls.{update_item_refusal}
use Rattle.section_table.specs.elf_object.Calls as calls
use Rattle.section_table.specs.elf_object.Due.{homes_due}
use Rattle.section_table.specs.elf_object.Steps.{with_own}
use Rattle.section_table.proofs.elf_object.PassedLaws.{none_first, none_rest, not_refused}
use Rattle.section_table.proofs.elf_object.AnswerLaws.{lend_kind}
use Rattle.section_table.specs.section_data.Held.{piece_in, count_in}
use Rattle.section_table.specs.section_data.Refused.{kind_refused, no_home_items, store_refused}
use Rattle.section_table.proofs.section_data.Holdings.{count_own, count_clean}
use Rattle.elf_descriptor.specs.declared.body.Body.{Body}
use Rattle.elf_descriptor.specs.Views.{object_of, raw_of, scn_at, no_scn}
use Rattle.elf_descriptor.specs.Bodies.{no_list_in}
use Rattle.elf_descriptor.specs.Sound.{IsElf}
use Rattle.elf_descriptor.specs.State.{State}
use Rattle.elf_descriptor.specs.Reads.{wanted}
use Rattle.elf_descriptor.specs.Lends.{IsLent, ReadsToOwn}
use Rattle.elf_descriptor.specs.Stores.{store, EditsItems, no_store_in}
use Rattle.elf_descriptor.proofs.Objects.{piece_is}
use Rattle.elf_descriptor.proofs.Warming.{cell_at}
use Rattle.elf_descriptor.proofs.ListedCells.{home_whole, list_passed}
use Rattle.elf_descriptor.proofs.PieceCalls.{lend_refusal_is, raw_length}
use Rattle.elf_descriptor.proofs.DataCalls.{content_made, some_of}
use Rattle.elf_descriptor.proofs.Refusals.{answers_wants}
use Rattle.elf_descriptor.proofs.OwnedCalls.{lend_reads}
use Rattle.elf_descriptor.proofs.LendCalls.{to_own_then}

-- ---- The number of items

module _ (image : Option (List ℕ)) (size : ℕ) (b : Body) (s p : ℕ) (is : IsElf image size b)
    (there : s < length b.sections)
    (passed : no_home_items b.header.class (scn_at b s).cell p ≡ None) where
  stated : (o : Option Items) → (piece_in (scn_at b s).cell p).own ≡ o → items_at (object_of image size b) s p ≡ elim o [ None ↦ object.or_empty (content (object_of image size b) s) | Some i ↦ i ]
  unfolding items_at
  stated o e = ap (λ (q : Option Items). elim q [ None ↦ object.or_empty (content (object_of image size b) s) | Some i ↦ i ]) (ap (λ (q : Piece). q.own) (piece_is image size b s p) ∙ e)

  not_ragged : (w : Bool) → not w ≡ false → w ≡ true
  not_ragged true e = refl
  not_ragged false e = cc

  pub count_is : count_at (object_of image size b) s p ≡ count_in b.header.class (scn_at b s).cell p
  unfolding count_at
  count_is = by_own (piece_in (scn_at b s).cell p).own refl
    where
      by_own : (o : Option Items) → (piece_in (scn_at b s).cell p).own ≡ o → items_count (items_at (object_of image size b) s p) ≡ count_in b.header.class (scn_at b s).cell p
      by_own (Some i) e = ap items_count (stated (Some i) e) ∙ sym (count_own b.header.class (scn_at b s).cell p i e)
      by_own None e =
          let c = (scn_at b s).cell in
          let whole = home_whole b.header.class c p passed e in
          let long = raw_length image size b s is there whole.0 in
          let known = some_of (decoded c.home.kind b.header.class b.header.order (raw_of image c))
          (whole_is c.home.kind b.header.class b.header.order (raw_of image c) ∙ ap (λ (n : ℕ). is_whole c.home.kind b.header.class n) long ∙ not_ragged (is_whole c.home.kind b.header.class c.home.len) whole.1) in
          ap items_count (stated None e ∙ content_made image size b s known.0 whole.0 known.1)
          ∙ counts.items_count c.home.kind b.header.class b.header.order (raw_of image c) known.0 known.1
          ∙ ap (λ (n : ℕ). n / item_size c.home.kind b.header.class) long
          ∙ sym (count_clean b.header.class c p (ap (λ (o : Option Items). is_some o) e))

-- ---- Refusals

-- what is looked at once a section and its items passed
stores_alike : (section items entry : Option ElfError) (unfit : Option ElfError) → first_refusal (first_refusal (first_refusal (section ∷ items ∷ []) ∷ entry ∷ []) ∷ unfit ∷ []) ≡ first_refusal (section ∷ first_refusal (items ∷ entry ∷ unfit ∷ []) ∷ [])
stores_alike (Some e) items entry unfit = refl
stores_alike None (Some e) entry unfit = refl
stores_alike None None (Some e) unfit = refl
stores_alike None None None (Some e) = refl
stores_alike None None None None = refl

-- where something is refused before, what comes later is not looked at
later_same : (before : Option ElfError) (a b c d : Option ElfError) → (before ≡ None → (a ≡ b) × (c ≡ d)) → first_refusal (first_refusal (before ∷ a ∷ []) ∷ c ∷ []) ≡ first_refusal (first_refusal (before ∷ b ∷ []) ∷ d ∷ [])
later_same (Some e) a b c d same = refl
later_same None a b c d same = ap (λ (r : Option ElfError). first_refusal (first_refusal (r ∷ []) ∷ c ∷ [])) (same refl).0 ∙ ap (λ (r : Option ElfError). first_refusal (first_refusal (b ∷ []) ∷ r ∷ [])) (same refl).1

pub store_refusal_is : (image : Option (List ℕ)) (size : ℕ) (b : Body) (kind : Kind) (s p i : ℕ) (fitting : Bool) → IsElf image size b
    → update_item_refusal (object_of image size b) kind s p i fitting ≡ no_store_in b kind s p i fitting
unfolding update_item_refusal item_refusal no_store_in store_refused no_list_in
store_refusal_is image size b kind s p i fitting is =
    let o = object_of image size b in
    let c = (scn_at b s).cell in
    let unfit : ℕ → Option ElfError = λ n. refused_if (not fitting) (Unfit (part.Piece n p) i) in
    later_same (lend_refusal o kind s p) (no_entry i (count_at o s p)) (no_entry i (count_in b.header.class c p)) (unfit s) (unfit c.section)
    (λ passed.
    let list = sym (lend_refusal_is image size b kind s p is) ∙ passed in
    let past = list_passed b kind s p list in (
      ap (λ (n : ℕ). no_entry i n) (count_is image size b s p is past.0 past.3),
      ap unfit (sym (cell_at image size b s is past.0).number),
    ))
    ∙ ap (λ (r : Option ElfError). first_refusal (first_refusal (r ∷ no_entry i (count_in b.header.class c p) ∷ []) ∷ unfit c.section ∷ [])) (lend_refusal_is image size b kind s p is)
    ∙ stores_alike (no_scn b s) (kind_refused b.header.class c kind p) (no_entry i (count_in b.header.class c p)) (unfit c.section)

-- ---- Nothing is refused

pub store_passed : (o : Object) (kind : Kind) (s p i : ℕ) (fitting : Bool) → update_item_refusal o kind s p i fitting ≡ None → (lend_refusal o kind s p ≡ None) × (i < count_at o s p)
unfolding update_item_refusal item_refusal
store_passed o kind s p i fitting passed =
    let entry = none_first (item_refusal o kind s p i) (refused_if (not fitting) (Unfit (part.Piece s p) i) ∷ []) passed in
    let rest = none_rest (lend_refusal o kind s p) (no_entry i (count_at o s p) ∷ []) entry in (
      none_first (lend_refusal o kind s p) (no_entry i (count_at o s p) ∷ []) entry,
      leb-false (count_at o s p) i (not_refused (nat_le (count_at o s p) i) (NoEntry i (count_at o s p)) (none_first (no_entry i (count_at o s p)) [] rest)),
    )

-- ---- The call, by the lend

module _ {S A : Type 0} (g : Ghosts S) (kind : Kind) (variant : List A → Items) (list_of : Items → List A) (fitting : Class → A → Bool) (of_kind : (l : List A) → items_kind (variant l) ≡ kind) where
  -- what a lend wants, it wants
  pub store_wants : (old : State S) (s p i : ℕ) (item : A) (l : List A) (e : ElfError) → update_item_refusal old.o kind s p i (fitting old.o.header.class item) ≡ None
      → Answers true (wanted (calls.lend s p (variant l)) old) (Err e) (answered (lend_refusal old.o kind s p) (tt {0}))
      → Answers true (wanted (store kind variant list_of fitting s p i item) old) (Err e) (answered (update_item_refusal old.o kind s p i (fitting old.o.header.class item)) (tt {0}))
  store_wants old s p i item l e passed came =
      subst (λ (r : Option ElfError). Answers true (wanted (store kind variant list_of fitting s p i item) old) (Err e) (answered r (tt {0})))
      ((store_passed old.o kind s p i (fitting old.o.header.class item) passed).0 ∙ sym passed)
      (answers_wants true (wanted (calls.lend s p (variant l)) old) (wanted (store kind variant list_of fitting s p i item) old) (Err e) (answered (lend_refusal old.o kind s p) (tt {0}))
      (λ memory. memory)
      (λ read. ap (λ (k : Kind). nat_lt 0 (homes_due old.o old.loaded (lend_reads old.o k s p))) (sym (of_kind l)) ∙ read)
      came)

  -- what the borrower left is the list with the item stored
  pub store_edits : {T : Type 0} (v : Result T ElfError) (r : Result (Unit {0}) ElfError) (old new : State S) (s p i : ℕ) (item : A) (lent left : List A) → ((l : List A) → items_count (variant l) ≡ length l) → lend_refusal old.o kind s p ≡ None
      → IsLent g v old new s p (variant left) → (IfErr r IsRefusal → IfErr v IsRefusal) → ReadRose r (g.faults old.source) (g.faults new.source) → left ≡ set lent i item → (IsTrue old.told → lent ≡ list_of (items_at old.o s p)) → length lent ≡ count_at old.o s p
      → EditsItems g (store kind variant list_of fitting s p i item) s p r old new
  unfolding count_at
  store_edits v r old new s p i item lent left counted passed is settled rose left_is value sized = record {
    own = record {
      left = variant left;
      object = is.object;
      kind = of_kind left ∙ sym (lend_kind old.o kind s p passed);
      count = counted left ∙ ap length left_is ∙ length-set lent i item ∙ sized;
      exact = λ told. cc;
    };
    object = λ told. is.object ∙ ap (λ (l : List A). with_own old.o s p (variant l)) (left_is ∙ ap (λ (l : List A). set l i item) (value told));
    reads = subst (λ (k : Kind). ReadsToOwn g r old new (lend_reads old.o k s p) (homes_due old.o old.loaded (lend_reads old.o k s p))) (of_kind left) (to_own_then g v r old new _ _ settled rose is.reads);
  }
