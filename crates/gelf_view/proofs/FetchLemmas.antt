-- Making the bytes of a piece be at hand, by reading its home.
use Rattle.std.proofs.Common.{◌≡◌, ◌≢◌, ℕ, Bool, true, false, not, ◌&&◌, List, [], ◌∷◌, length, Option, Some, None, Result, Ok, Err, is_some, refl, sym, ap, ◌∙◌, subst}
use Rattle.std.specs.Prelude.{IsTrue, OnOk, ◌||◌, is_none, nat_lt, nat_le, if◌then◌else◌}
use Rattle.std.proofs.lemmas.Bool.{or_right}
use Rattle.elf_types.specs.declared.records.Kind.{Kind}
use Rattle.elf_types.specs.declared.records.Kind.TheVariants as kinds
use Rattle.elf_types.specs.declared.errors.ElfError.{ElfError}
use Rattle.elf_types.specs.declared.errors.ElfError.TheVariants.{Memory, Read, NoSection, NoData, WrongKind}
use Rattle.elf_types.specs.Answers.{answered, refused_if, first_refusal, IsRefusal}
use Rattle.elf_descriptor.specs.elf_xlate.declared.content.Items.{Items}
use Rattle.elf_descriptor.specs.elf_outside.declared.sources.Source.{Ghosts}
use Rattle.elf_descriptor.specs.elf_outside.Asks.{ReadRose}
use Rattle.elf_descriptor.specs.elf_object.Words.{Wants, Answers}
use Rattle.elf_descriptor.specs.elf_object.Object.{Object, section_at, piece_at}
use Rattle.elf_descriptor.specs.elf_object.Answers.{no_section, no_data, wrong_kind, same_kind, no_content, out_of_file, piece_count, kind_at, piece_refusal, lend_refusal, raw_refusal, bytes_of, items_at}
use Rattle.elf_descriptor.specs.elf_object.Due.{is_loaded, homes_due, unless_refused, when_piece_clean}
use Rattle.elf_descriptor.specs.elf_object.Calls.{Call, due, raw_answer, piece_kind_answer}
use Rattle.elf_descriptor.specs.elf_object.Calls as calls
use Rattle.elf_descriptor.proofs.elf_object.PassedLaws.{none_first, none_rest, not_refused, not_not}
use Rattle.elf_descriptor.proofs.elf_object.StepLaws.{same_kind-true}
use Rattle.elf_descriptor.proofs.elf_object.AnswerLaws.{answered_value, answered_refusal, read_passed}
use Rattle.elf_descriptor.specs.State.{State}
use Rattle.elf_descriptor.specs.Reads.{Reads, Queries, wanted}
use Rattle.elf_descriptor.proofs.Refusals.{err_of_answered, answers_wants}
use Rattle.elf_descriptor.proofs.ReadsLaws.{reads_nothing}
use Rattle.gelf_view.specs.Calls.{bytes, kind_refusal}
use Rattle.gelf_view.proofs.PieceBytes.{lend_then, clean_content, own_content}

-- ---- A call whose value is not looked at

pub passed_alone : {A B : Type 0} (told : Bool) (wants : Wants) (refusal : Option ElfError) (v x : A) (w : B) → Answers told wants (Ok x) (answered refusal v) → Answers true wants (Ok w) (answered refusal w)
passed_alone told wants None v x w came = (refl, λ is. refl)
passed_alone told wants (Some e) v x w came = cc

pub refused_alone : {A B : Type 0} (told : Bool) (wants : Wants) (refusal : Option ElfError) (v : A) (w : B) (e : ElfError) → Answers told wants (Err e) (answered refusal v) → Answers true wants (Err e) (answered refusal w)
refused_alone told wants refusal v w Memory came = read_passed true wants refusal v w Memory came
refused_alone told wants refusal v w Read came = read_passed true wants refusal v w Read came
refused_alone told wants refusal v w e came = read_passed true wants refusal v w e came

-- ---- The kind

-- a piece that the kind does not refuse is there, and holds bytes
pub kind_passed : (o : Object) (s p : ℕ) → kind_refusal o kinds.Bytes s p ≡ None → (no_section o s ≡ None) × (kind_at o s p ≡ kinds.Bytes)
unfolding kind_refusal
kind_passed o s p passed =
    let last = wrong_kind o kinds.Bytes s p ∷ [] in
    let later = none_rest (no_section o s) (no_data o s p ∷ last) passed in
    let right = not_refused _ _ (none_first (wrong_kind o kinds.Bytes s p) [] (none_rest (no_data o s p) last later)) in (
      none_first (no_section o s) (no_data o s p ∷ last) passed,
      same_kind-true (kind_at o s p) kinds.Bytes (not_not _ right),
    )

-- what the kind refuses a lend refuses
pub kind_refuses : (o : Object) (s p : ℕ) (e : ElfError) → kind_refusal o kinds.Bytes s p ≡ Some e → lend_refusal o kinds.Bytes s p ≡ Some e
kind_refuses o s p e refused = lend_then o s p ∙ ap (λ (r : Option ElfError). first_refusal (r ∷ no_content o s p ∷ [])) refused

-- two tests and then one
two_then : {E : Type 0} (a b c : Option E) → first_refusal (a ∷ b ∷ c ∷ []) ≡ first_refusal (first_refusal (a ∷ b ∷ []) ∷ c ∷ [])
two_then (Some e) b c = refl
two_then None (Some e) c = refl
two_then None None c = refl

kind_by_piece : (o : Object) (s p : ℕ) → kind_refusal o kinds.Bytes s p ≡ first_refusal (piece_refusal o s p ∷ wrong_kind o kinds.Bytes s p ∷ [])
unfolding kind_refusal piece_refusal
kind_by_piece o s p = two_then (no_section o s) (no_data o s p) (wrong_kind o kinds.Bytes s p)

other_kind : (kind : Kind) → kind ≢ kinds.Bytes → same_kind kind kinds.Bytes ≡ false
other_kind kinds.Empty other = refl
other_kind kinds.Bytes other = absurd (other refl)
other_kind kinds.Half other = refl
other_kind kinds.Word other = refl
other_kind kinds.Addr other = refl
other_kind kinds.Sym other = refl
other_kind kinds.Rel other = refl
other_kind kinds.Rela other = refl
other_kind kinds.Dyn other = refl

test_is_refusal : (test : Bool) (d e : ElfError) → IsRefusal d → refused_if test d ≡ Some e → IsRefusal e
test_is_refusal true d e is refused = let same : d ≡ e = cc in subst IsRefusal same is
test_is_refusal false d e is refused = cc

-- a piece that is not there is refused by its numbers
pub piece_is_refusal : (o : Object) (s p : ℕ) (e : ElfError) → piece_refusal o s p ≡ Some e → IsRefusal e
unfolding piece_refusal
piece_is_refusal o s p e refused = by_section (nat_le (length o.sections) s) refused
  where
    by_section : (t : Bool) → first_refusal (refused_if t (NoSection s (length o.sections)) ∷ no_data o s p ∷ []) ≡ Some e → IsRefusal e
    by_section true refused = test_is_refusal true (NoSection s (length o.sections)) e tt refused
    by_section false refused = by_piece (nat_le (piece_count o s) p) refused
      where
        by_piece : (t : Bool) → first_refusal (refused_if t (NoData p (piece_count o s)) ∷ []) ≡ Some e → IsRefusal e
        by_piece true refused = test_is_refusal true (NoData p (piece_count o s)) e tt refused
        by_piece false refused = cc

module _ (o : Object) (s p : ℕ) (own : Bool) where
  missing : (e : ElfError) → piece_refusal o s p ≡ Some e → answered (kind_refusal o kinds.Bytes s p) own ≡ Err e
  missing e refused =
      ap (λ (r : Option ElfError). answered r own) (kind_by_piece o s p ∙ ap (λ (r : Option ElfError). first_refusal (r ∷ wrong_kind o kinds.Bytes s p ∷ [])) refused)

  there : piece_refusal o s p ≡ None → answered (kind_refusal o kinds.Bytes s p) own ≡ answered (wrong_kind o kinds.Bytes s p) own
  there passed =
      ap (λ (r : Option ElfError). answered r own) (kind_by_piece o s p ∙ ap (λ (r : Option ElfError). first_refusal (r ∷ wrong_kind o kinds.Bytes s p ∷ [])) passed)
      ∙ by_kind (wrong_kind o kinds.Bytes s p)
    where
      by_kind : (r : Option ElfError) → answered (first_refusal (r ∷ [])) own ≡ answered r own
      by_kind None = refl
      by_kind (Some e) = refl

  -- the piece is not there
  pub kind_missing : (e : ElfError) → Err e ≡ piece_kind_answer o s p → (Err e ≡ answered (kind_refusal o kinds.Bytes s p) own) × IsRefusal e
  unfolding piece_kind_answer
  kind_missing e came =
      let refused = answered_refusal (piece_refusal o s p) (kind_at o s p) e (sym came) in
      (sym (missing e refused), piece_is_refusal o s p e refused)

  -- it holds other items
  pub kind_other : (kind : Kind) → Ok kind ≡ piece_kind_answer o s p → kind ≢ kinds.Bytes → Err (WrongKind kind) ≡ answered (kind_refusal o kinds.Bytes s p) own
  unfolding piece_kind_answer
  kind_other kind came other =
      let value = answered_value (piece_refusal o s p) (kind_at o s p) kind (sym came) in
      sym (there value.0 ∙ ap (λ (k : Kind). answered (refused_if (not (same_kind k kinds.Bytes)) (WrongKind k)) own) (sym value.1)
      ∙ ap (λ (t : Bool). answered (refused_if (not t) (WrongKind kind)) own) (other_kind kind other))

  -- it holds bytes
  pub kind_bytes : Ok kinds.Bytes ≡ piece_kind_answer o s p → (Ok own ≡ answered (kind_refusal o kinds.Bytes s p) own) × (piece_refusal o s p ≡ None)
  unfolding piece_kind_answer
  kind_bytes came =
      let value = answered_value (piece_refusal o s p) (kind_at o s p) kinds.Bytes (sym came) in
      (sym (there value.0 ∙ ap (λ (k : Kind). answered (refused_if (not (same_kind k kinds.Bytes)) (WrongKind k)) own) (sym value.1)), value.0)

-- ---- An own piece

pub own_passes : (o : Object) (s p : ℕ) (items : Items) → kind_refusal o kinds.Bytes s p ≡ None → (piece_at o s p).own ≡ Some items → lend_refusal o kinds.Bytes s p ≡ None
own_passes o s p items passed own =
    lend_then o s p
    ∙ ap (λ (r : Option ElfError). first_refusal (r ∷ no_content o s p ∷ [])) passed
    ∙ ap (λ (r : Option ElfError). first_refusal (r ∷ [])) (own_content o s p items own)

own_some : (o : Object) (s p : ℕ) (own : Option Items) → (piece_at o s p).own ≡ own → is_some own ≡ true → kind_refusal o kinds.Bytes s p ≡ None → lend_refusal o kinds.Bytes s p ≡ None
own_some o s p None is some passed = cc
own_some o s p (Some items) is some passed = own_passes o s p items passed is

pub edited_passes : (o : Object) (s p : ℕ) → kind_refusal o kinds.Bytes s p ≡ None → is_some (piece_at o s p).own ≡ true → lend_refusal o kinds.Bytes s p ≡ None
edited_passes o s p passed own = own_some o s p (piece_at o s p).own refl own passed

pub not_some : (own : Option Items) → is_some own ≡ false → own ≡ None
not_some None not = refl
not_some (Some items) not = cc

pub hand_loaded : (r : Result (Unit {0}) ElfError) (own loaded : Bool) → OnOk r (IsTrue loaded) → OnOk r (IsTrue (own || loaded))
hand_loaded (Ok x) own loaded is = or_right own loaded is
hand_loaded (Err e) own loaded is = is

-- ---- A clean piece

-- a lend of its bytes is refused as its home's bytes are
pub clean_refusal : (o : Object) (s p : ℕ) → kind_refusal o kinds.Bytes s p ≡ None → (piece_at o s p).own ≡ None → lend_refusal o kinds.Bytes s p ≡ raw_refusal o s
unfolding raw_refusal
clean_refusal o s p passed clean =
    let past = kind_passed o s p passed in
    lend_then o s p
    ∙ ap (λ (r : Option ElfError). first_refusal (r ∷ no_content o s p ∷ [])) passed
    ∙ ap (λ (r : Option ElfError). first_refusal (r ∷ [])) (clean_content o s p clean past.1)
    ∙ sym (ap (λ (r : Option ElfError). first_refusal (r ∷ out_of_file o s ∷ [])) past.0)

clean_reads : (o : Object) (s p : ℕ) → kind_refusal o kinds.Bytes s p ≡ None → (piece_at o s p).own ≡ None → (bytes s p).reads o ≡ (calls.raw s).reads o
unfolding raw_answer when_piece_clean
clean_reads o s p passed clean =
    ap (λ (r : Option ElfError). unless_refused r (when_piece_clean o s p)) (err_of_answered (lend_refusal o kinds.Bytes s p) (bytes_of (items_at o s p)) ∙ clean_refusal o s p passed clean)
    ∙ ap (λ (own : Option Items). unless_refused (raw_refusal o s) (if is_none own then s ∷ [] else [])) clean
    ∙ ap (λ (r : Option ElfError). unless_refused r (s ∷ [])) (sym (err_of_answered (raw_refusal o s) (section_at o s).raw))

module _ {S : Type 0} (g : Ghosts S) (old new : State S) (s p : ℕ) (r : Result (Unit {0}) ElfError) where
  -- its home is read
  pub clean_answers : kind_refusal old.o kinds.Bytes s p ≡ None → (piece_at old.o s p).own ≡ None
      → Answers true (wanted (calls.raw s) old) r (answered (raw_refusal old.o s) tt)
      → Answers true (wanted (bytes s p) old) r (answered (lend_refusal old.o kinds.Bytes s p) tt)
  clean_answers passed clean came =
      let same = clean_reads old.o s p passed clean in
      answers_wants true (wanted (calls.raw s) old) (wanted (bytes s p) old) r _
      (λ wants. ap (λ (own : Option Items). is_none own && not (is_loaded old.loaded s)) clean ∙ wants)
      (λ wants. ap (λ (l : List ℕ). nat_lt 0 (homes_due old.o old.loaded l)) same ∙ wants)
      (subst (λ (refusal : Option ElfError). Answers true (wanted (calls.raw s) old) r (answered refusal tt)) (sym (clean_refusal old.o s p passed clean)) came)

  pub clean_queries : kind_refusal old.o kinds.Bytes s p ≡ None → (piece_at old.o s p).own ≡ None
      → Queries g (calls.raw s) [] r old new → Queries g (bytes s p) [] r old new
  clean_queries passed clean asked = record {
    object = asked.object;
    reads = subst (λ (l : List ℕ). Reads g r old new l [] (homes_due old.o old.loaded l)) (sym (clean_reads old.o s p passed clean)) asked.reads;
  }

-- nothing is read
pub queries_nothing : {S A T : Type 0} (g : Ghosts S) (c : Call A) (r : Result T ElfError) (state : State S)
    → ReadRose r (g.faults state.source) (g.faults state.source) → Queries g c [] r state state
queries_nothing g c r state read = record {
  object = refl;
  reads = reads_nothing g r state (c.reads state.o) [] (due c state.o state.loaded) read;
}
