-- A number that is added to each item of a piece, by the lend of the kind that it holds.
use Rattle.std.proofs.Common.{◌≡◌, ℕ, ◌+◌, ◌<◌, Bool, true, false, not, List, [], ◌∷◌, ◌++◌, length, map, take, drop, get_or, set, Option, Some, None, Result, Ok, Err, refl, sym, ap, ◌∙◌, subst, inl}
use Rattle.std.specs.Prelude.{IsTrue}
use Rattle.std.proofs.lemmas.List.{length-map}
use Rattle.std.proofs.lemmas.List.Edits.{map_over_more}
use Rattle.elf_types.specs.declared.records.DataId.{DataId}
use Rattle.elf_types.specs.declared.records.Kind.{Kind}
use Rattle.elf_types.specs.declared.records.Kind.TheVariants as kinds
use Rattle.elf_types.specs.declared.errors.ElfError.{ElfError}
use Rattle.elf_types.specs.declared.errors.ElfError.TheVariants.{Memory, Read, WrongKind}
use Rattle.elf_types.specs.Answers.{answered, first_refusal, refused_if, IsRefusal}
use Rattle.elf_xlate.specs.declared.content.Items.{Items}
use Rattle.elf_xlate.specs.Translation.{items_kind, items_count}
use Rattle.elf_outside.specs.declared.sources.Source.{Ghosts}
use Rattle.elf_outside.proofs.AskLemmas.{read_rose_refused}
use Rattle.symbol_lookup.specs.elf_object.Object.{Object}
use Rattle.symbol_lookup.specs.elf_object.Answers.{kind_at, count_at, same_kind, items_at, lend_refusal, piece_refusal, data_refusal, no_section, no_data, wrong_kind, no_content}
use Rattle.symbol_lookup.specs.elf_object.Words.{Wants, Answers, AnswersRead, IsLike, AlikeItems, result_map}
use Rattle.symbol_lookup.specs.elf_object.Calls as calls
use Rattle.symbol_lookup.specs.elf_object.Calls.{due, data_answer, piece_kind_answer}
use Rattle.symbol_lookup.specs.elf_object.Due.{unless_refused, when_piece_clean, homes_due}
use Rattle.symbol_lookup.specs.elf_object.Runs.{mapped, addall, added, or_same}
use Rattle.symbol_lookup.specs.elf_object.Steps.{with_own}
use Rattle.symbol_lookup.proofs.elf_object.AnswerLaws.{lend_kind}
use Rattle.symbol_lookup.proofs.elf_object.StepLaws.{same_kind-same}
use Rattle.elf_update_plan.proofs.elf_descriptor.Refusals.{err_of_answered}
use Rattle.elf_update_plan.specs.elf_descriptor.State.{State}
use Rattle.elf_update_plan.specs.elf_descriptor.Reads.{Reads, Queries}
use Rattle.elf_update_plan.specs.elf_descriptor.Lends.{IsLent, ReadsToOwn}
use Rattle.elf_calls_apply.specs.declared.answers.Answer.{Answer}
use Rattle.elf_calls_apply.specs.declared.answers.Answer.TheVariants as answer
use Rattle.elf_calls_apply.specs.Applies.{Meets, all_early, at_any_step, piece_unless_empty}
use Rattle.elf_calls_apply.proofs.Answered.{by_equal, by_error, by_refusal}
use Rattle.elf_calls_apply.proofs.ReadLaws.{owned_read, error_read, value_read, nothing_read, none_in}

-- one item more that a number was added to
pub one_more : {A : Type 0} (plus : A → A) (items there : List A) (i : ℕ) (old new : A) → i < length items → there ≡ map plus (take i items) ++ drop i items → old ≡ get_or there i old
    → new ≡ plus old → set there i new ≡ map plus (take (i + 1) items) ++ drop (i + 1) items
one_more plus items there i old new within so_far is added = ap (λ x. set there i x) added ∙ map_over_more plus items there i old within so_far is

-- of a kind that has items the stepped object counts, and the piece is changed
filled : (kind : Kind) (old stepped : Object) → same_kind kind kinds.Empty ≡ false → or_same kind old stepped ≡ stepped
filled kinds.Empty old stepped some = cc
filled kind old stepped some = refl

changes : (test : Bool) (d : DataId) → test ≡ false → piece_unless_empty test d ≡ Some d
changes true d some = cc
changes false d some = refl

-- an Ok of a lend is one that nothing refuses
lent_passed : (w : Wants) (refusal : Option ElfError) → Answers true w (Ok (tt {0})) (answered refusal (tt {0})) → refusal ≡ None
lent_passed w None came = refl
lent_passed w (Some e) came = cc

-- an error where none is stated is want of memory or a read that failed
module _ {A : Type 0} (w : Wants) (v : A) where
  no_error : (e : ElfError) → ◌≡◌ {A = Result (Unit {0}) ElfError} (Ok (tt {0})) (Err e) → ⊥
  no_error e is = cc

  none_answers : (e : ElfError) → Answers {A = Unit {0}} true w (Err e) (Ok (tt {0}))
      → AnswersRead true at_any_step (all_early (Ok v)) (Err e) (Ok v)
  none_answers Memory came = (refl, refl)
  none_answers Read came = (refl, refl)
  none_answers e came = absurd (no_error e came)

-- and else the stated one
module _ (A : Type 0) (w : Wants) (c : ElfError) where
  same_error : (e : ElfError) → ◌≡◌ {A = Result (Unit {0}) ElfError} (Err c) (Err e)
      → (◌≡◌ {A = Option ElfError} (Some c) (Some e))
      × (◌≡◌ {A = Result A ElfError} (Err c) (Err e))
  same_error e is = let same : c ≡ e = cc in (ap Some same, ap Err same)

  error_answers : (e : ElfError) → Answers {A = Unit {0}} true w (Err e) (Err c)
      → AnswersRead {A = A} true at_any_step (all_early {A = A} (Err c)) (Err e) (Err c)
  error_answers Memory came = (refl, refl)
  error_answers Read came = (refl, refl)
  error_answers e came = inl (same_error e came)

refused_answers : {A : Type 0} (f : A → Answer) (w : Wants) (e : ElfError)
    (refusal : Option ElfError) (v : A)
    → Answers {A = Unit {0}} true w (Err e) (answered refusal (tt {0}))
    → AnswersRead true at_any_step (all_early (result_map f (answered refusal v))) (Err e)
    (result_map f (answered refusal v))
refused_answers f w e None v came = none_answers w (f v) e came
refused_answers f w e (Some c) v came = error_answers Answer w c e came

-- a call that adds, to a piece of a kind that is known
abbrev pub Adds : {S : Type 0} → Ghosts S → Option DataId → DataId → ℕ → Result Answer ElfError → State S → State S → Type 0
Adds g changed d n result old new =
    Meets g (mapped answer.Changed (addall d.section d.piece n)) (all_early ((mapped answer.Changed (addall d.section d.piece n)).answer old.o)) true changed
    ((mapped answer.Changed (addall d.section d.piece n)).reads old.o) result old new

module _ {S A : Type 0} (g : Ghosts S) (kind : Kind) (variant : List A → Items) (list_of : Items → List A) (plus : A → A) (n : ℕ) (of_kind : (l : List A) → items_kind (variant l) ≡ kind) (counted : (l : List A) → items_count (variant l) ≡ length l)
    (all : (l : Items) → items_kind l ≡ kind → added n l ≡ variant (map plus (list_of l))) (some : same_kind kind kinds.Empty ≡ false) (d : DataId) (old new : State S) (is_kind : kind_at old.o d.section d.piece ≡ kind) where
  changed_is : piece_unless_empty (same_kind (kind_at old.o d.section d.piece) kinds.Empty) d ≡ Some d
  changed_is = changes (same_kind (kind_at old.o d.section d.piece) kinds.Empty) d (ap (λ (k : Kind). same_kind k kinds.Empty) is_kind ∙ some)

  refusal_is : lend_refusal old.o (kind_at old.o d.section d.piece) d.section d.piece ≡ lend_refusal old.o kind d.section d.piece
  refusal_is = ap (λ (k : Kind). lend_refusal old.o k d.section d.piece) is_kind

  -- the homes that the lend reads
  reads_are : (left : List A) → (calls.lend d.section d.piece (variant left)).reads old.o ≡ (addall d.section d.piece n).reads old.o
  reads_are left = ap (λ (k : Kind). unless_refused (lend_refusal old.o k d.section d.piece) (when_piece_clean old.o d.section d.piece)) (of_kind left ∙ sym is_kind)

  -- it is lent, and the number was added to what was lent
  pub added_all : {T : Type 0} (w : Wants) (r : Result T ElfError) (x : T) (lent left : List A) → r ≡ Ok x → Answers true w (Ok (tt {0})) (answered (lend_refusal old.o kind d.section d.piece) (tt {0}))
      → IsLent g r old new d.section d.piece (variant left) → left ≡ map plus lent → (IsTrue old.told → lent ≡ list_of (items_at old.o d.section d.piece)) → length lent ≡ count_at old.o d.section d.piece
      → Adds g (piece_unless_empty (same_kind (kind_at old.o d.section d.piece) kinds.Empty) d) d n (Ok (answer.Changed (length lent))) old new
  unfolding count_at
  added_all w r x lent left was came lent_so sums told sized =
      let passed = lent_passed w (lend_refusal old.o kind d.section d.piece) came in
      let of_items = lend_kind old.o kind d.section d.piece passed in
      let stated : answered (lend_refusal old.o (kind_at old.o d.section d.piece) d.section d.piece) (items_count (items_at old.o d.section d.piece)) ≡ Ok (length lent) =
      ap (λ (q : Option ElfError). answered q (items_count (items_at old.o d.section d.piece))) (refusal_is ∙ passed) ∙ ap Ok (sym sized) in
      subst (λ (c : Option DataId). Adds g c d n (Ok (answer.Changed (length lent))) old new) (sym changed_is) (record {
        answers = by_equal answer.Changed true (Ok (length lent)) (answered (lend_refusal old.o (kind_at old.o d.section d.piece) d.section d.piece) (items_count (items_at old.o d.section d.piece))) stated;
        leaves = (
          λ t.
              lent_so.object
              ∙ ap (λ (l : List A). with_own old.o d.section d.piece (variant l)) (sums ∙ ap (λ (l : List A). map plus l) (told t))
              ∙ ap (λ (l : Items). with_own old.o d.section d.piece l) (sym (all (items_at old.o d.section d.piece) of_items))
              ∙ sym (filled (kind_at old.o d.section d.piece) old.o (with_own old.o d.section d.piece (added n (items_at old.o d.section d.piece))) (ap (λ (k : Kind). same_kind k kinds.Empty) is_kind ∙ some)),
          record {
            left = variant left;
            object = lent_so.object;
            kind = of_kind left ∙ sym of_items;
            count = counted left ∙ ap length sums ∙ length-map lent plus ∙ sized;
            exact = λ t. cc;
          },
        );
        reads = owned_read g old new ((addall d.section d.piece n).reads old.o) ((addall d.section d.piece n).reads old.o) r x (answer.Changed (length lent)) (due (addall d.section d.piece n) old.o old.loaded) was
            (subst (λ (l : List ℕ). ReadsToOwn g r old new l (homes_due old.o old.loaded l)) (reads_are left) lent_so.reads);
      })

  -- the lend is refused
  pub added_none : {T : Type 0} (w : Wants) (r : Result T ElfError) (e : ElfError) → r ≡ Err e → Answers {A = Unit {0}} true w (Err e) (answered (lend_refusal old.o kind d.section d.piece) (tt {0}))
      → Queries g (calls.lend d.section d.piece (variant [])) [] r old new
      → Adds g (piece_unless_empty (same_kind (kind_at old.o d.section d.piece) kinds.Empty) d) d n (Err e) old new
  added_none w r e was came query = record {
    answers = refused_answers answer.Changed w e (lend_refusal old.o (kind_at old.o d.section d.piece) d.section d.piece) (items_count (items_at old.o d.section d.piece))
        (subst (λ (q : Option ElfError). Answers {A = Unit {0}} true w (Err e) (answered q (tt {0}))) (sym refusal_is) came);
    leaves = query.object;
    reads = error_read g old new ((addall d.section d.piece n).reads old.o) ((addall d.section d.piece n).reads old.o) [] (none_in ((addall d.section d.piece n).reads old.o)) r e (due (addall d.section d.piece n) old.o old.loaded) was
        (subst (λ (l : List ℕ). Reads g r old new l [] (homes_due old.o old.loaded l)) (reads_are []) query.reads);
  }

-- ---- A piece of kind Empty

past_none : (a b c d : Option ElfError) → c ≡ None → first_refusal (a ∷ b ∷ c ∷ d ∷ []) ≡ first_refusal (a ∷ b ∷ d ∷ [])
past_none (Some e) b c d is = refl
past_none None (Some e) c d is = refl
past_none None None c d is = ap (λ (r : Option ElfError). first_refusal (r ∷ d ∷ [])) is

-- a lend of the kind that a piece holds is refused as data
lend_as_data : (o : Object) (s p : ℕ) → lend_refusal o (kind_at o s p) s p ≡ data_refusal o s p
unfolding lend_refusal data_refusal
lend_as_data o s p =
    past_none (no_section o s) (no_data o s p) (wrong_kind o (kind_at o s p) s p) (no_content o s p)
    (ap (λ (b : Bool). refused_if (not b) (WrongKind (kind_at o s p))) (same_kind-same (kind_at o s p) (kind_at o s p) refl))

empty_same : (kind : Kind) (d : DataId) → kind ≡ kinds.Empty → piece_unless_empty (same_kind kind kinds.Empty) d ≡ None
empty_same kind d is = ap (λ (b : Bool). piece_unless_empty b d) (same_kind-same kind kinds.Empty is)

-- it leaves the object and answers that nothing is changed
module _ {S T : Type 0} (g : Ghosts S) (d : DataId) (n : ℕ) (old new : State S) (r : Result T ElfError) (is_kind : kind_at old.o d.section d.piece ≡ kinds.Empty) (same : new.o ≡ old.o)
    (reads : Reads g r old new ((calls.section_data d.section d.piece).reads old.o) ((calls.section_data d.section d.piece).reads old.o) (homes_due old.o old.loaded ((calls.section_data d.section d.piece).reads old.o))) where
  stays : (addall d.section d.piece n).after old.o ≡ old.o
  stays = ap (λ (k : Kind). or_same k old.o (with_own old.o d.section d.piece (added n (items_at old.o d.section d.piece)))) is_kind

  reads_alike : (calls.section_data d.section d.piece).reads old.o ≡ (addall d.section d.piece n).reads old.o
  unfolding data_answer
  reads_alike =
      ap (λ (q : Option ElfError). unless_refused q (when_piece_clean old.o d.section d.piece))
      (err_of_answered (data_refusal old.o d.section d.piece) (items_at old.o d.section d.piece) ∙ sym (lend_as_data old.o d.section d.piece))

  added_reads : Reads g r old new ((addall d.section d.piece n).reads old.o) ((addall d.section d.piece n).reads old.o) (due (addall d.section d.piece n) old.o old.loaded)
  added_reads = subst (λ (l : List ℕ). Reads g r old new l l (homes_due old.o old.loaded l)) reads_alike reads

  -- what data answers is what is answered of its count
  stated_count : (stated : Result Items ElfError) → stated ≡ data_answer old.o d.section d.piece → (addall d.section d.piece n).answer old.o ≡ result_map items_count stated
  unfolding data_answer
  stated_count stated is =
      ap (λ (q : Option ElfError). answered q (items_count (items_at old.o d.section d.piece))) (lend_as_data old.o d.section d.piece)
      ∙ counted_answer (data_refusal old.o d.section d.piece) ∙ ap (λ (s : Result Items ElfError). result_map items_count s) (sym is)
    where
      counted_answer : (q : Option ElfError) → answered q (items_count (items_at old.o d.section d.piece)) ≡ result_map items_count (answered q (items_at old.o d.section d.piece))
      counted_answer None = refl
      counted_answer (Some e) = refl

  pub empty_added : (told : Bool) (w : Wants) (x : T) (items : Items) → r ≡ Ok x → Answers told w (Ok items) (data_answer old.o d.section d.piece) → IsLike AlikeItems (Ok items) (data_answer old.o d.section d.piece)
      → Adds g (piece_unless_empty (same_kind (kind_at old.o d.section d.piece) kinds.Empty) d) d n (Ok (answer.Changed (items_count items))) old new
  empty_added told w x items was came like =
      subst (λ (c : Option DataId). Adds g c d n (Ok (answer.Changed (items_count items))) old new) (sym (empty_same (kind_at old.o d.section d.piece) d is_kind)) (record {
        answers = by_equal answer.Changed true (Ok (items_count items)) ((addall d.section d.piece n).answer old.o) (by_like (data_answer old.o d.section d.piece) refl came like);
        leaves = same ∙ sym stays;
        reads = value_read g old new ((addall d.section d.piece n).reads old.o) ((addall d.section d.piece n).reads old.o) r x (Ok (answer.Changed (items_count items))) (due (addall d.section d.piece n) old.o old.loaded) was tt added_reads;
      })
    where
      by_like : (stated : Result Items ElfError) → stated ≡ data_answer old.o d.section d.piece → Answers told w (Ok items) stated → IsLike AlikeItems (Ok items) stated → (addall d.section d.piece n).answer old.o ≡ Ok (items_count items)
      by_like (Ok y) is came like = stated_count (Ok y) is ∙ ap Ok (sym like.1)
      by_like (Err e) is came like = absurd like

  pub empty_refused : (told : Bool) (w : Wants) (e : ElfError) → r ≡ Err e → Answers told w (Err e) (data_answer old.o d.section d.piece)
      → Adds g (piece_unless_empty (same_kind (kind_at old.o d.section d.piece) kinds.Empty) d) d n (Err e) old new
  empty_refused told w e was came = record {
    answers = subst (λ (a : Result ℕ ElfError). AnswersRead true at_any_step (all_early (result_map answer.Changed a)) (Err e) (result_map answer.Changed a)) (sym (stated_count (data_answer old.o d.section d.piece) refl))
        (counted_refused (data_answer old.o d.section d.piece) came);
    leaves = same;
    reads = error_read g old new ((addall d.section d.piece n).reads old.o) ((addall d.section d.piece n).reads old.o) ((addall d.section d.piece n).reads old.o) (λ i within. within) r e (due (addall d.section d.piece n) old.o old.loaded) was added_reads;
  }
    where
      counted_refused : (stated : Result Items ElfError) → Answers told w (Err e) stated
          → AnswersRead true at_any_step (all_early (result_map answer.Changed (result_map items_count stated))) (Err e) (result_map answer.Changed (result_map items_count stated))
      counted_refused (Ok y) came = by_error (λ (i : Items). answer.Changed (items_count i)) true told w e (Ok y) came
      counted_refused (Err c) came = by_error (λ (i : Items). answer.Changed (items_count i)) true told w e (Err c) came

-- a piece that is not there
pub piece_missing : {S : Type 0} (g : Ghosts S) (d : DataId) (n : ℕ) (e : ElfError) (s : State S) → IsRefusal e → piece_kind_answer s.o d.section d.piece ≡ Err e
    → Adds g (piece_unless_empty (same_kind (kind_at s.o d.section d.piece) kinds.Empty) d) d n (Err e) s s
unfolding piece_kind_answer piece_refusal lend_refusal
piece_missing {S} g d n e s settled is = record {
  answers = by_refusal true e (result_map answer.Changed ((addall d.section d.piece n).answer s.o)) (ap (λ (a : Result ℕ ElfError). result_map answer.Changed a)
      (refused_first (no_section s.o d.section) (no_data s.o d.section d.piece) (wrong_kind s.o (kind_at s.o d.section d.piece) d.section d.piece ∷ no_content s.o d.section d.piece ∷ []) (kind_at s.o d.section d.piece)
      (items_count (items_at s.o d.section d.piece)) is));
  leaves = refl;
  reads = nothing_read g s s ((addall d.section d.piece n).reads s.o) ((addall d.section d.piece n).reads s.o) (Err e) (due (addall d.section d.piece n) s.o s.loaded)
      (read_rose_refused Answer e (g.faults s.source) (g.faults s.source) settled) refl refl (λ i. refl) (λ i. refl) refl;
}
  where
    refused_first : {A B : Type 0} (a b : Option ElfError) (rest : List (Option ElfError)) (v : A) (w : B) → answered (first_refusal (a ∷ b ∷ [])) v ≡ Err e → answered (first_refusal (a ∷ b ∷ rest)) w ≡ Err e
    refused_first (Some c) b rest v w is = let same : c ≡ e = cc in ap Err same
    refused_first None (Some c) rest v w is = let same : c ≡ e = cc in ap Err same
    refused_first None None rest v w is = cc
