-- The answer of a call on a note: what is seen by the number of bytes, and what is met in them.
use Rattle.std.proofs.Common.{◌≡◌, ℕ, Bool, true, false, not, ◌&&◌, ◌==◌, ◌+◌, List, [], ◌∷◌, length, take, drop, Option, Some, None, Result, Ok, Err, refl, sym, ap, ◌∙◌, subst, inl, inr}
use Rattle.std.specs.Prelude.{IsTrue, nat_lt, if◌then◌else◌}
use Rattle.elf_types.specs.declared.records.Order.{Order}
use Rattle.elf_types.specs.declared.records.Kind.TheVariants as kinds
use Rattle.elf_types.specs.declared.errors.ElfError.{ElfError}
use Rattle.elf_types.specs.declared.errors.ElfError.TheVariants.{Memory, Read, BadChain}
use Rattle.elf_types.specs.Answers.{answered, refused_if, first_refusal, ◌>>=◌}
use Rattle.elf_descriptor.specs.elf_object.Words.{Wants, Refusals, Answers, AnswersRead, result_map}
use Rattle.elf_descriptor.specs.elf_object.Object.{section_at}
use Rattle.elf_descriptor.specs.elf_object.Answers.{lend_refusal, bytes_of, items_at, count_at}
use Rattle.elf_descriptor.specs.elf_object.Due.{homes_due}
use Rattle.elf_descriptor.specs.elf_outside.declared.sources.Source.{Ghosts}
use Rattle.elf_descriptor.specs.State.{State}
use Rattle.elf_descriptor.specs.Reads.{wanted}
use Rattle.elf_descriptor.proofs.Refusals.{IsUnread, answers_wants}
use Rattle.gelf_view.specs.Calls.{bytes, note, note_found, note_answer, note_refusals}
use Rattle.gelf_view.proofs.LendLemmas.{lend_unread, unread_late}
use Rattle.gelf_view.proofs.FoundLemmas.{IsFoundAt, BytesAtHand, reads_same}
use Rattle.gelf_view.proofs.PieceBytes.{bytes_count}
use Rattle.gelf_view.specs.declared.notes.NoteAt.{NoteAt}
use Rattle.gelf_view.specs.declared.notes.TheConstants.{NOTE_HEADER_SIZE}
use Rattle.gelf_view.specs.Records.{record_at}
use Rattle.gelf_view.specs.Notes.{note_align, note_at, note_with, note_of, note_lies, note_header_refusal}

-- ---- Refused before it reads

-- what refuses the step before it reads refuses the call
pub refused_read : {A : Type 0} (told : Bool) (wants : Wants) (refusal later : Option ElfError) (met : ElfError → Type 0) (l : List ℕ) (found : List ℕ → Result A ElfError) (e : ElfError)
    → IsUnread refusal → Answers true wants (Err e) (answered refusal (tt {0}))
    → AnswersRead told wants (record { unread = refusal; early = first_refusal (refusal ∷ later ∷ []); met = met }) (Err e) (answered refusal l >>= found)
refused_read told wants (Some d) later met l found Memory (inl none) came = cc
refused_read told wants (Some d) later met l found Memory (inr unread) came = absurd (unread_late d unread came.1)
refused_read told wants (Some d) later met l found Read (inl none) came = cc
refused_read told wants (Some d) later met l found Read (inr unread) came = absurd (unread_late d unread came.1)
refused_read told wants (Some d) later met l found e unread came = let same : d ≡ e = cc in inl (ap Some same, ap Err same)
refused_read told wants None later met l found Memory unread came = (refl, came.0)
refused_read told wants None later met l found Read unread came = (refl, came.0)
refused_read told wants None later met l found e unread came = cc

-- ---- Met in the bytes

with_found : (at : ℕ) (made : Result NoteAt ElfError) → IsFoundAt at made → IsFoundAt at (result_map Some made)
with_found at (Ok n) is = tt
with_found at (Err e) is = is

lying_found : (order : Order) (align size : ℕ) (header : List ℕ) (at : ℕ) → IsFoundAt at (note_with order align size header at)
unfolding note_with
lying_found order align size header at = by_lies (note_lies order align size header at)
  where
    by_lies : (lies : Bool) → IsFoundAt at (answered (refused_if (not lies) (BadChain at)) (note_of order align size header at))
    by_lies true = tt
    by_lies false = refl

pub note_is_found : (order : Order) (align : ℕ) (bytes : List ℕ) (at : ℕ) → IsFoundAt at (note_at order align bytes at)
unfolding note_at record_at
note_is_found order align bytes at = by_tests (at == length bytes) (nat_lt (length bytes) (at + NOTE_HEADER_SIZE))
  where
    by_tests : (ends past : Bool) → IsFoundAt at (if ends then Ok None
        else answered (refused_if past (BadChain at)) (take NOTE_HEADER_SIZE (drop at bytes)) >>= λ header. result_map Some (note_with order align (length bytes) header at))
    by_tests true past = tt
    by_tests false true = refl
    by_tests false false = with_found at (note_with order align (length bytes) (take NOTE_HEADER_SIZE (drop at bytes)) at) (lying_found order align (length bytes) (take NOTE_HEADER_SIZE (drop at bytes)) at)

module _ (told : Bool) (wants : Wants) (order : Order) (align at : ℕ) (b l : List ℕ) (same : IsTrue told → b ≡ l) where
  -- the answer by the two tests on the number of bytes
  abbrev found : Bool → Bool → List ℕ → Result (Option NoteAt) ElfError
  found ends past x =
      if ends then Ok None
      else answered (refused_if past (BadChain at)) (take NOTE_HEADER_SIZE (drop at x))
      >>= λ header. result_map Some (note_with order align (length x) header at)

  abbrev refusals : Bool → Bool → Refusals
  refusals ends past = record {
    unread = None;
    early = first_refusal (None ∷ refused_if (not ends && past) (BadChain at) ∷ []);
    met = λ e. e ≡ BadChain at;
  }

  -- by whether name and descriptor lie in them
  abbrev lying : Bool → Result (Option NoteAt) ElfError
  lying lies = result_map Some (answered (refused_if (not lies) (BadChain at)) (note_of order align (length b) (take NOTE_HEADER_SIZE (drop at b)) at))

  by_lies : (lies : Bool) (stated : Result (Option NoteAt) ElfError) → (IsTrue told → stated ≡ lying lies) → AnswersRead told wants (refusals false false) (lying lies) stated
  by_lies true stated alike = (refl, alike)
  by_lies false stated alike = inr (refl, refl, alike)

  by_tests : (ends past : Bool) → AnswersRead told wants (refusals ends past) (found ends past b) (found ends past l)
  unfolding note_with
  by_tests true past = (refl, λ is. refl)
  by_tests false true = inl (refl, refl)
  by_tests false false =
      by_lies (note_lies order align (length b) (take NOTE_HEADER_SIZE (drop at b)) at) (found false false l) (λ is. ap (λ (x : List ℕ). found false false x) (sym (same is)))

  pub note_read : length b ≡ length l
      → AnswersRead told wants (record { unread = None; early = first_refusal (None ∷ note_header_refusal (length l) at ∷ []); met = λ e. e ≡ BadChain at }) (note_at order align b at) (note_at order align l at)
  unfolding note_at record_at
  note_read alike =
      subst (λ (n : ℕ). AnswersRead told wants (refusals (at == n) (nat_lt n (at + NOTE_HEADER_SIZE))) (found (at == length b) (nat_lt (length b) (at + NOTE_HEADER_SIZE)) b) (found (at == n) (nat_lt n (at + NOTE_HEADER_SIZE)) l)) alike
      (by_tests (at == length b) (nat_lt (length b) (at + NOTE_HEADER_SIZE)))

-- a note that is read from bytes at hand
pub note_step : {S : Type 0} (old : State S) (s p at : ℕ) (b : List ℕ) (r : Result (Option NoteAt) ElfError) (order : Order) (align : ℕ)
    → BytesAtHand old s p b → order ≡ old.o.header.order → align ≡ note_align (section_at old.o s).header.addralign → r ≡ note_at order align b at
    → AnswersRead old.told (wanted (note s p at) old) (note_refusals old.o s p at) r ((note s p at).answer old.o)
unfolding note_answer
note_step old s p at b r order align hand ordered aligned is =
    let wants = wanted (note s p at) old in
    let l = bytes_of (items_at old.o s p) in
    let found = note_found s at old.o in
    let came : r ≡ found b =
    is ∙ ap (λ (d : Order). note_at d align b at) ordered ∙ ap (λ (n : ℕ). note_at old.o.header.order n b at) aligned in
    let stated : Option ElfError → ℕ → Refusals =
    λ refusal n. record { unread = refusal; early = first_refusal (refusal ∷ note_header_refusal n at ∷ []); met = λ e. e ≡ BadChain at } in
    subst (λ (x : Result (Option NoteAt) ElfError). AnswersRead old.told wants (note_refusals old.o s p at) x (answered (lend_refusal old.o kinds.Bytes s p) l >>= found)) (sym came)
    (subst (λ (refusal : Option ElfError). AnswersRead old.told wants (stated refusal (count_at old.o s p)) (found b) (answered refusal l >>= found)) (sym hand.passed)
    (subst (λ (n : ℕ). AnswersRead old.told wants (stated None n) (found b) (found l)) (bytes_count old.o s p hand.passed)
    (note_read old.told wants old.o.header.order (note_align (section_at old.o s).header.addralign) at b l hand.same hand.alike)))

-- one whose bytes are not had
pub note_refused : {S : Type 0} (g : Ghosts S) (old new : State S) (s p at : ℕ) (e : ElfError)
    → Answers true (wanted (bytes s p) old) (Err e) (answered (lend_refusal old.o kinds.Bytes s p) (tt {0}))
    → AnswersRead old.told (wanted (note s p at) old) (note_refusals old.o s p at) (Err e) ((note s p at).answer old.o)
unfolding note_answer
note_refused g old new s p at e came =
    let same = reads_same g old new s p at (note_found s at) (λ o l. note_is_found o.header.order (note_align (section_at o s).header.addralign) l at) in
    refused_read old.told (wanted (note s p at) old) (lend_refusal old.o kinds.Bytes s p) (note_header_refusal (count_at old.o s p) at) (λ d. d ≡ BadChain at) (bytes_of (items_at old.o s p)) (note_found s at old.o) e
    (lend_unread old.o kinds.Bytes s p)
    (answers_wants true (wanted (bytes s p) old) (wanted (note s p at) old) (Err e) _ (λ wants. wants) (λ wants. ap (λ (l : List ℕ). nat_lt 0 (homes_due old.o old.loaded l)) same ∙ wants) came)
