-- One field of an item: the item's getter, and then the update with what it gave, one field changed.
use Rattle.std.proofs.Common.{◌≡◌, ℕ, ◌<◌, Bool, true, false, not, List, [], ◌∷◌, ◌++◌, length, Option, Some, None, Result, Ok, Err, refl, sym, ap, ◌∙◌, subst, inl, inr, eq-eqb}
use Rattle.std.specs.Prelude.{IsTrue, OnOk, OnErr, ◌==◌, ◌||◌, filter, slice_get, is_none, if◌then◌else◌}
use Rattle.std.specs.List.{list_any}
use Rattle.std.proofs.lemmas.Bool.{lt-leb}
use Rattle.std.proofs.lemmas.List.Sums.{sum_by-append}
use Rattle.std.proofs.lemmas.Option.{slice_get_within}
use Rattle.elf_types.specs.declared.records.Class.{Class}
use Rattle.elf_types.specs.declared.records.DataId.{DataId}
use Rattle.elf_types.specs.declared.records.Kind.{Kind}
use Rattle.elf_types.specs.declared.records.Part.TheVariants as part
use Rattle.elf_types.specs.declared.errors.ElfError.{ElfError}
use Rattle.elf_types.specs.declared.errors.ElfError.TheVariants.{Memory, Read, NoEntry, Unfit}
use Rattle.elf_types.specs.Answers.{answered, err_of, first_refusal, refused_if, ◌>>=◌}
use Rattle.elf_xlate.specs.declared.content.Items.{Items}
use Rattle.elf_xlate.specs.Translation.{items_kind, items_count}
use Rattle.elf_outside.specs.declared.sources.Source.{Ghosts}
use Rattle.symbol_lookup.specs.elf_object.Object.{Object, piece_at}
use Rattle.symbol_lookup.specs.elf_object.Answers.{no_entry, count_at, items_at, lend_refusal, item_refusal, entry_answer}
use Rattle.symbol_lookup.specs.elf_object.Words.{Wants, Answers, AnswersRead}
use Rattle.symbol_lookup.specs.elf_object.Calls as calls
use Rattle.symbol_lookup.specs.elf_object.Calls.{due, update_item_refusal}
use Rattle.symbol_lookup.specs.elf_object.Due.{home_due, homes_due, unless_refused, when_piece_clean, with_others}
use Rattle.symbol_lookup.specs.elf_object.Runs.{looked, after_look}
use Rattle.symbol_lookup.specs.elf_object.Steps.{BecomesOwn}
use Rattle.symbol_lookup.proofs.elf_object.AnswerLaws.{entry_value, lend_kind}
use Rattle.elf_update_plan.specs.elf_descriptor.State.{State}
use Rattle.elf_update_plan.specs.elf_descriptor.Entries.{entry}
use Rattle.elf_update_plan.specs.elf_descriptor.Reads.{Reads, Queries, Looks}
use Rattle.elf_update_plan.specs.elf_descriptor.Stores.{store, EditsItems}
use Rattle.elf_update_plan.specs.elf_descriptor.Lends.{ReadsToOwn}
use Rattle.elf_update_plan.proofs.elf_descriptor.Refusals.{IsUnread}
use Rattle.elf_update_plan.proofs.elf_descriptor.ReadsLaws.{reads_wider}
use Rattle.symbol_lookup.proofs.gelf_view.LendLemmas.{lend_unread}
use Rattle.elf_calls_apply.specs.Applies.{Sets, LeavesObject, ReadsAtFirst, set_refusals, all_early, at_any_step, unless_unfit}
use Rattle.elf_calls_apply.proofs.Answered.{by_itself}
use Rattle.elf_calls_apply.proofs.ReadLaws.{error_read, owned_read, two_read, none_in}

-- ---- How a getter of items is refused

-- never as an item that does not fit
entry_fits : {A : Type 0} (refusal : Option ElfError) (l : List A) (i : ℕ) (e : ElfError) → IsUnread refusal → entry_answer refusal l i ≡ Err e → unless_unfit (Some e) ≡ Some e
entry_fits {A} None l i e unread is = by_entry (slice_get l i) is
  where
    by_entry : (there : Option A) → ◌≡◌ {A = Result A ElfError} (elim there [ None ↦ Err (NoEntry i (length l)) | Some x ↦ Ok x ]) (Err e) → unless_unfit (Some e) ≡ Some e
    by_entry None is = let same : NoEntry i (length l) ≡ e = cc in subst (λ (d : ElfError). unless_unfit (Some d) ≡ Some d) same refl
    by_entry (Some x) is = cc
entry_fits (Some d) l i e unread is = let same : d ≡ e = cc in subst (λ (d : ElfError). unless_unfit (Some d) ≡ Some d) same (by_unread d unread)
  where
    by_unread : (d : ElfError) → IsUnread (Some d) → unless_unfit (Some d) ≡ Some d
    by_unread (Unfit q j) (inl none) = cc
    by_unread (Unfit q j) (inr is) = cc
    by_unread d unread = refl

-- ---- How both calls are answered

single : (r : Option ElfError) → first_refusal (r ∷ []) ≡ r
single None = refl
single (Some e) = refl

-- the getter is refused
refused_answers : {A : Type 0} (told exact keeps : Bool) (d : DataId) (i : ℕ) (w : Wants) (e : ElfError) (first : Result A ElfError) (next : A → Result (Unit {0}) ElfError)
    → ((f : ElfError) → first ≡ Err f → unless_unfit (Some f) ≡ Some f) → Answers told w (Err e) first
    → AnswersRead exact at_any_step (set_refusals keeps d i (first >>= next)) (Err e) (first >>= next)
refused_answers told exact true d i w Memory first next fits came = (refl, refl)
refused_answers told exact false d i w Memory first next fits came = (refl, refl)
refused_answers told exact true d i w Read first next fits came = (refl, refl)
refused_answers told exact false d i w Read first next fits came = (refl, refl)
refused_answers {A} told exact false d i w e first next fits came =
    inl (ap (λ (s : Result A ElfError). err_of (s >>= next)) came, ap (λ (s : Result A ElfError). s >>= next) came)
refused_answers {A} told exact true d i w e first next fits came =
    inl (ap (λ (s : Result A ElfError). unless_unfit (err_of (s >>= next))) came ∙ fits e came, ap (λ (s : Result A ElfError). s >>= next) came)

unfit : DataId → ℕ → Bool → Result (Unit {0}) ElfError
unfit d i fits = answered (refused_if (not fits) (Unfit (part.Piece d.section d.piece) i)) (tt {0})

-- the update of a record: whether it fits may rest on bytes that are not told
fitting_answers : (told : Bool) (d : DataId) (i : ℕ) (w : Wants) (came_fits stated_fits : Bool) (r : Result (Unit {0}) ElfError)
    → (IsTrue told → stated_fits ≡ came_fits) → Answers true w r (unfit d i came_fits)
    → AnswersRead told at_any_step (set_refusals true d i (unfit d i stated_fits)) r (unfit d i stated_fits)
unfolding unfit
fitting_answers told d i w true true (Ok x) same came = (refl, λ t. refl)
fitting_answers told d i w true false (Ok x) same came = (refl, λ t. let differ = same t in cc)
fitting_answers told d i w false stated (Ok x) same came = cc
fitting_answers told d i w came_fits stated (Err Memory) same came = (refl, refl)
fitting_answers told d i w came_fits stated (Err Read) same came = (refl, refl)
fitting_answers told d i w true stated (Err e) same came = cc
fitting_answers told d i w false true (Err e) same came = inr (refl, cc, λ t. let differ = same t in cc)
fitting_answers told d i w false false (Err e) same came = inr (refl, cc, λ t. came)

-- ---- The calls

abbrev pub set_by : {A : Type 0} → Kind → (List A → Items) → (Items → List A) → (Class → A → Bool) → (A → A) → DataId → ℕ → calls.Call (Unit {0})
set_by kind variant list_of fitting change d i =
    looked (entry kind list_of d.section d.piece i) (λ x. store kind variant list_of fitting d.section d.piece i (change x))

-- the sections of one list, each once
with_itself : (o : Object) (s p : ℕ) → with_others (when_piece_clean o s p) (when_piece_clean o s p) ≡ when_piece_clean o s p
unfolding with_others when_piece_clean
with_itself o s p = by_own (is_none (piece_at o s p).own)
  where
    by_same : (same : Bool) → IsTrue same → (s ∷ []) ++ (if not (same || false) then s ∷ [] else []) ≡ s ∷ []
    by_same true is = refl
    by_same false is = cc

    by_own : (own : Bool) → (if own then s ∷ [] else []) ++ filter (λ t. not (list_any (λ u. u == t) (if own then s ∷ [] else []))) (if own then s ∷ [] else []) ≡ (if own then s ∷ [] else [])
    by_own true = by_same (s == s) (eq-eqb s s refl)
    by_own false = refl

module _ {S A : Type 0} (g : Ghosts S) (kind : Kind) (variant : List A → Items) (list_of : Items → List A) (fitting : Class → A → Bool) (change : A → A) (counted : (l : Items) → items_kind l ≡ kind → length (list_of l) ≡ items_count l) (d : DataId) (i : ℕ) where
  -- where the getter gives an item, the update is refused at most as unfit
  there : (o : Object) (x : A) → (entry kind list_of d.section d.piece i).answer o ≡ Ok x → (lend_refusal o kind d.section d.piece ≡ None) × (item_refusal o kind d.section d.piece i ≡ None)
  unfolding item_refusal count_at
  there o x is =
      let s = d.section in
      let p = d.piece in
      let l = items_at o s p in
      let value = entry_value (lend_refusal o kind s p) (list_of l) i x is in
      let inside = subst (λ (n : ℕ). i < n) (counted l (lend_kind o kind s p value.0)) (slice_get_within (list_of l) i x value.1) in (
        value.0,
        ap (λ (r : Option ElfError). first_refusal (r ∷ no_entry i (items_count l) ∷ [])) value.0
            ∙ ap (λ (b : Bool). first_refusal (refused_if b (NoEntry i (items_count l)) ∷ [])) (lt-leb (items_count l) i inside),
      )

  put_answer : (o : Object) (x y : A) → (entry kind list_of d.section d.piece i).answer o ≡ Ok y
      → (store kind variant list_of fitting d.section d.piece i x).answer o ≡ unfit d i (fitting o.header.class x)
  unfolding update_item_refusal unfit
  put_answer o x y is =
      let u = refused_if (not (fitting o.header.class x)) (Unfit (part.Piece d.section d.piece) i) in
      ap (λ (r : Option ElfError). answered (first_refusal (r ∷ u ∷ [])) (tt {0})) (there o y is).1 ∙ ap (λ (r : Option ElfError). answered r (tt {0})) (single u)

  both_answer : (o : Object) (y : A) → (entry kind list_of d.section d.piece i).answer o ≡ Ok y
      → (set_by kind variant list_of fitting change d i).answer o ≡ unfit d i (fitting o.header.class (change y))
  both_answer o y is =
      ap (λ (r : Result A ElfError). r >>= λ x. (store kind variant list_of fitting d.section d.piece i (change x)).answer o) is ∙ put_answer o (change y) y is

  -- an Ok of the getter is stated
  stated_item : (told : Bool) (w : Wants) (x : A) (first : Result A ElfError) → Answers told w (Ok x) first → (y : A) × (first ≡ Ok y) × (IsTrue told → y ≡ x)
  stated_item told w x (Ok y) came = (y, refl, λ t. let same = came.1 t in cc)
  stated_item told w x (Err e) came = cc

  -- ---- What is read

  -- the homes that both calls may read
  get_reads : (o : Object) (y : A) → (entry kind list_of d.section d.piece i).answer o ≡ Ok y → (entry kind list_of d.section d.piece i).reads o ≡ when_piece_clean o d.section d.piece
  get_reads o y is = ap (λ (r : Result A ElfError). unless_refused (err_of r) (when_piece_clean o d.section d.piece)) is

  put_reads : (o : Object) (x y : A) → (entry kind list_of d.section d.piece i).answer o ≡ Ok y → (store kind variant list_of fitting d.section d.piece i x).reads o ≡ when_piece_clean o d.section d.piece
  put_reads o x y is = ap (λ (r : Option ElfError). unless_refused r (when_piece_clean o d.section d.piece)) (there o y is).0

  both_reads : (o : Object) (y : A) → (entry kind list_of d.section d.piece i).answer o ≡ Ok y → (set_by kind variant list_of fitting change d i).reads o ≡ when_piece_clean o d.section d.piece
  both_reads o y is =
      ap (λ (l : List ℕ). with_others l (after_look ((entry kind list_of d.section d.piece i).answer o) (λ x. (store kind variant list_of fitting d.section d.piece i (change x)).reads o) [])) (get_reads o y is)
      ∙ ap (λ (r : Result A ElfError). with_others (when_piece_clean o d.section d.piece) (after_look r (λ x. (store kind variant list_of fitting d.section d.piece i (change x)).reads o) [])) is
      ∙ ap (λ (l : List ℕ). with_others (when_piece_clean o d.section d.piece) l) (put_reads o (change y) y is)
      ∙ with_itself o d.section d.piece

  -- the getter is refused, and no update is made
  get_wider : (old new : State S) (r : Result A ElfError) → Looks g (entry kind list_of d.section d.piece i) r old new
      → Reads g r old new ((set_by kind variant list_of fitting change d i).reads old.o) ((set_by kind variant list_of fitting change d i).reads old.o) (due (set_by kind variant list_of fitting change d i) old.o old.loaded)
  unfolding with_others homes_due
  get_wider old new r looks =
      let first = (entry kind list_of d.section d.piece i).reads old.o in
      let others = filter (λ s. not (list_any (λ t. t == s) first)) (after_look ((entry kind list_of d.section d.piece i).answer old.o) (λ x. (store kind variant list_of fitting d.section d.piece i (change x)).reads old.o) []) in
      subst (λ (n : ℕ). Reads g r old new (first ++ others) (first ++ others) n) (sym (sum_by-append (home_due old.o old.loaded) first others))
      (reads_wider g r old new first others first others (homes_due old.o old.loaded first) (homes_due old.o old.loaded others) looks.reads)

  pub set_refused : (keeps : Bool) (old new : State S) (w : Wants) (r : Result A ElfError) (e : ElfError) → r ≡ Err e → Answers old.told w (Err e) ((entry kind list_of d.section d.piece i).answer old.o)
      → Looks g (entry kind list_of d.section d.piece i) r old new → Sets g (set_by kind variant list_of fitting change d i) keeps d i (Err e) old new
  set_refused keeps old new w r e is came looks = record {
    answers = refused_answers old.told _ keeps d i w e ((entry kind list_of d.section d.piece i).answer old.o) (λ x. (store kind variant list_of fitting d.section d.piece i (change x)).answer old.o)
        (λ f refused. entry_fits (lend_refusal old.o kind d.section d.piece) (list_of (items_at old.o d.section d.piece)) i f (lend_unread old.o kind d.section d.piece) refused) came;
    leaves = looks.object;
    reads = error_read g old new ((set_by kind variant list_of fitting change d i).reads old.o) ((set_by kind variant list_of fitting change d i).reads old.o) ((set_by kind variant list_of fitting change d i).reads old.o)
        (λ s within. within) r e (due (set_by kind variant list_of fitting change d i) old.o old.loaded) is (get_wider old new r looks);
  }

  -- ---- The update

  put_own : (old mid new : State S) (x y : A) (r : Result (Unit {0}) ElfError) (v : Unit {0}) → (entry kind list_of d.section d.piece i).answer old.o ≡ Ok y → mid.o ≡ old.o → r ≡ Ok v
      → EditsItems g (store kind variant list_of fitting d.section d.piece i (change x)) d.section d.piece r mid new
      → ReadsAtFirst {T = Unit {0}} g (Ok v) mid new (when_piece_clean old.o d.section d.piece) (when_piece_clean old.o d.section d.piece) (homes_due mid.o mid.loaded (when_piece_clean old.o d.section d.piece))
  put_own old mid new x y r v is same ok edits =
      let put = store kind variant list_of fitting d.section d.piece i (change x) in
      let reads = ap (λ (o : Object). put.reads o) same ∙ put_reads old.o (change x) y is in
      owned_read g mid new (when_piece_clean old.o d.section d.piece) (when_piece_clean old.o d.section d.piece) r v v (homes_due mid.o mid.loaded (when_piece_clean old.o d.section d.piece)) ok
      (subst (λ (l : List ℕ). ReadsToOwn g r mid new l (homes_due mid.o mid.loaded l)) reads edits.reads)

  put_none : (old mid new : State S) (x y : A) (r : Result (Unit {0}) ElfError) (e : ElfError) → (entry kind list_of d.section d.piece i).answer old.o ≡ Ok y → mid.o ≡ old.o → r ≡ Err e
      → Queries g (store kind variant list_of fitting d.section d.piece i (change x)) [] r mid new
      → ReadsAtFirst {T = Unit {0}} g (Err e) mid new (when_piece_clean old.o d.section d.piece) (when_piece_clean old.o d.section d.piece) (homes_due mid.o mid.loaded (when_piece_clean old.o d.section d.piece))
  put_none old mid new x y r e is same err query =
      let put = store kind variant list_of fitting d.section d.piece i (change x) in
      let reads = ap (λ (o : Object). put.reads o) same ∙ put_reads old.o (change x) y is in
      error_read g mid new (when_piece_clean old.o d.section d.piece) (when_piece_clean old.o d.section d.piece) [] (none_in (when_piece_clean old.o d.section d.piece)) r e (homes_due mid.o mid.loaded (when_piece_clean old.o d.section d.piece)) err
      (subst (λ (l : List ℕ). Reads g r mid new l [] (homes_due mid.o mid.loaded l)) reads query.reads)

  -- what both leave and read, by what the update answers
  put_leaves : (old mid new : State S) (w : Wants) (x : A) (r : Result (Unit {0}) ElfError) → Answers old.told w (Ok x) ((entry kind list_of d.section d.piece i).answer old.o) → mid.o ≡ old.o → mid.told ≡ old.told
      → OnOk r (EditsItems g (store kind variant list_of fitting d.section d.piece i (change x)) d.section d.piece r mid new)
      → OnErr r (Queries g (store kind variant list_of fitting d.section d.piece i (change x)) [] r mid new)
      → LeavesObject old.told (set_by kind variant list_of fitting change d i) (Some d) r old.o new.o
  put_leaves old mid new w x (Err e) came same told edits query = query.object ∙ same
  put_leaves old mid new w x (Ok v) came same told edits query =
      let get = entry kind list_of d.section d.piece i in
      let put = store kind variant list_of fitting d.section d.piece i (change x) in (
        (λ t.
            edits.object (told ∙ t) ∙ ap (λ (o : Object). put.after o) same
            ∙ sym (ap (λ (s : Result A ElfError). after_look s (λ z. (store kind variant list_of fitting d.section d.piece i (change z)).after old.o) old.o) (came.1 t))),
        subst (λ (o : Object). BecomesOwn false o new.o d.section d.piece (items_at o d.section d.piece)) same edits.own,
      )

  put_reading : (old mid new : State S) (x y : A) (first : Result A ElfError) (r : Result (Unit {0}) ElfError) → first ≡ Ok x → (entry kind list_of d.section d.piece i).answer old.o ≡ Ok y
      → Looks g (entry kind list_of d.section d.piece i) first old mid
      → OnOk r (EditsItems g (store kind variant list_of fitting d.section d.piece i (change x)) d.section d.piece r mid new)
      → OnErr r (Queries g (store kind variant list_of fitting d.section d.piece i (change x)) [] r mid new)
      → ReadsAtFirst g r old new (when_piece_clean old.o d.section d.piece) (when_piece_clean old.o d.section d.piece) (homes_due old.o old.loaded (when_piece_clean old.o d.section d.piece))
  put_reading old mid new x y first r was is looks edits query =
      let early = subst (λ (l : List ℕ). Reads g first old mid l l (homes_due old.o old.loaded l)) (get_reads old.o y is) looks.reads in
      two_read g old mid new (when_piece_clean old.o d.section d.piece) first x r was looks.object early (by_answer r edits query)
    where
      by_answer : (r : Result (Unit {0}) ElfError) → OnOk r (EditsItems g (store kind variant list_of fitting d.section d.piece i (change x)) d.section d.piece r mid new)
          → OnErr r (Queries g (store kind variant list_of fitting d.section d.piece i (change x)) [] r mid new)
          → ReadsAtFirst g r mid new (when_piece_clean old.o d.section d.piece) (when_piece_clean old.o d.section d.piece) (homes_due mid.o mid.loaded (when_piece_clean old.o d.section d.piece))
      by_answer (Ok v) edits query = put_own old mid new x y (Ok v) v is looks.object refl edits
      by_answer (Err e) edits query = put_none old mid new x y (Err e) e is looks.object refl query

  module _ (old mid new : State S) (w v : Wants) (x : A) (first : Result A ElfError) (r : Result (Unit {0}) ElfError) (was : first ≡ Ok x) (came : Answers old.told w (Ok x) ((entry kind list_of d.section d.piece i).answer old.o))
      (looks : Looks g (entry kind list_of d.section d.piece i) first old mid)
      (update : Answers true v r ((store kind variant list_of fitting d.section d.piece i (change x)).answer mid.o))
      (edits : OnOk r (EditsItems g (store kind variant list_of fitting d.section d.piece i (change x)) d.section d.piece r mid new))
      (query : OnErr r (Queries g (store kind variant list_of fitting d.section d.piece i (change x)) [] r mid new)) where
    reading : (y : A) → (entry kind list_of d.section d.piece i).answer old.o ≡ Ok y
        → ReadsAtFirst g r old new ((set_by kind variant list_of fitting change d i).reads old.o) ((set_by kind variant list_of fitting change d i).reads old.o)
        (due (set_by kind variant list_of fitting change d i) old.o old.loaded)
    reading y is =
        subst (λ (l : List ℕ). ReadsAtFirst g r old new l l (homes_due old.o old.loaded l)) (sym (both_reads old.o y is)) (put_reading old mid new x y first r was is looks edits query)

    stated_put : (y : A) → (entry kind list_of d.section d.piece i).answer old.o ≡ Ok y → Answers true v r (unfit d i (fitting old.o.header.class (change x)))
    stated_put y is =
        subst (λ (s : Result (Unit {0}) ElfError). Answers true v r s)
        (ap (λ (o : Object). (store kind variant list_of fitting d.section d.piece i (change x)).answer o) looks.object ∙ put_answer old.o (change x) y is) update

    -- a field of a record
    pub set_field : Sets g (set_by kind variant list_of fitting change d i) true d i r old new
    set_field =
        let item = stated_item old.told w x ((entry kind list_of d.section d.piece i).answer old.o) came in record {
          answers = subst (λ (s : Result (Unit {0}) ElfError). AnswersRead old.told at_any_step (set_refusals true d i s) r s) (sym (both_answer old.o item.0 item.1))
              (fitting_answers old.told d i v (fitting old.o.header.class (change x)) (fitting old.o.header.class (change item.0)) r
              (λ t. ap (λ (z : A). fitting old.o.header.class (change z)) (item.2 t)) (stated_put item.0 item.1));
          leaves = put_leaves old mid new w x r came looks.object looks.reads.told edits query;
          reads = reading item.0 item.1;
        }

    -- a number, which does not rest on the one that was there
    pub set_number : ((y z : A) → change y ≡ change z) → Sets g (set_by kind variant list_of fitting change d i) false d i r old new
    set_number fixed =
        let item = stated_item old.told w x ((entry kind list_of d.section d.piece i).answer old.o) came in record {
          answers = subst (λ (s : Result (Unit {0}) ElfError). AnswersRead true at_any_step (all_early s) r s)
              (ap (λ (z : A). unfit d i (fitting old.o.header.class z)) (fixed x item.0) ∙ sym (both_answer old.o item.0 item.1))
              (by_itself true v r (unfit d i (fitting old.o.header.class (change x))) (stated_put item.0 item.1));
          leaves = put_leaves old mid new w x r came looks.object looks.reads.told edits query;
          reads = reading item.0 item.1;
        }
