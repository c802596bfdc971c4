-- The chains of a piece, by the calls that read their records.
use Rattle.std.proofs.Common.{◌≡◌, ℕ, ◌+◌, ◌<◌, ◌≤◌, ◌==◌, ◌&&◌, min, Bool, true, false, not, List, length, take, drop, Option, Some, None, Result, Ok, Err, refl, sym, ap, ◌∙◌, subst, arith}
use Rattle.std.specs.Prelude.{◌^◌, IsTrue, IsOk, OnOk, nat_lt, nat_le, if◌then◌else◌}
use Rattle.std.proofs.lemmas.Bool.{ltb-false, leb-true}
use Rattle.elf_types.specs.declared.records.Order.{Order}
use Rattle.elf_types.specs.declared.records.Kind.TheVariants as kinds
use Rattle.elf_types.specs.declared.errors.ElfError.{ElfError}
use Rattle.elf_types.specs.declared.errors.ElfError.TheVariants.{BadChain}
use Rattle.elf_types.specs.Answers.{answered, refused_if, ◌>>=◌}
use Rattle.elf_descriptor.specs.elf_object.Words.{result_map}
use Rattle.elf_descriptor.specs.elf_object.Object.{Object, section_at}
use Rattle.elf_descriptor.specs.elf_object.Answers.{lend_refusal, bytes_of, items_at, count_at}
use Rattle.gelf_view.specs.declared.notes.NoteAt.{NoteAt}
use Rattle.gelf_view.specs.declared.versions.Verdef.{Verdef}
use Rattle.gelf_view.specs.declared.versions.Verneed.{Verneed}
use Rattle.gelf_view.specs.declared.notes.TheConstants.{NOTE_HEADER_SIZE}
use Rattle.gelf_view.specs.declared.versions.TheConstants.{VERDEF_SIZE, VERNEED_SIZE}
use Rattle.elf_descriptor.specs.elf_layout.Layout.{rounded_up}
use Rattle.gelf_view.specs.Records.{record_at, LiesAt}
use Rattle.gelf_view.specs.Notes.{note_align, note_at, note_with, note_of, note_lies, name_end, desc_place, desc_end, descsz}
use Rattle.gelf_view.specs.Versions.{verdef_of, verdef_at, verneed_of, verneed_at}
use Rattle.gelf_view.specs.Calls.{note_answer, first_version_place, first_entry_answer, verdef_answer, verneed_answer}
use Rattle.gelf_view.specs.Chains.{led_by, note_then, notes, behind_verdef, behind_verneed, verdefs, verneeds}
use Rattle.gelf_view.proofs.PieceBytes.{bytes_count}
use Rattle.gelf_view.proofs.NoteLemmas.{rounded_up_le}
use Rattle.gelf_view.proofs.ChainLemmas.{notes_led, entries_led}

-- ---- A record that is found lies in the bytes

pub found_within : {A : Type 0} (form : List ℕ → A) (size at : ℕ) (l : List ℕ) (x : A) → result_map form (record_at size l at) ≡ Ok x → at + size ≤ length l
unfolding record_at
found_within {A} form size at l x is = ltb-false (length l) (at + size) (by_test (nat_lt (length l) (at + size)) is)
  where
    by_test : (t : Bool) → result_map form (answered (refused_if t (BadChain at)) (take size (drop at l))) ≡ Ok x → t ≡ false
    by_test true is = cc
    by_test false is = refl

-- the record that a call reads lies in them
pub found_lies : {A : Type 0} (form : List ℕ → A) (size at n : ℕ) (l : List ℕ) (r : Result A ElfError) → r ≡ result_map form (record_at size l at) → length l ≡ n → length l < 2 ^ 63 → OnOk r (LiesAt at size n)
found_lies form size at n l (Ok x) is count small = let inside = found_within form size at l x (sym is) in (omega (arith, inside, count), omega (arith, count, small))
found_lies form size at n l (Err e) is count small = tt

-- where the first entry is
pub first_answers : (o : Object) (s p size : ℕ) (r : Option ℕ) → lend_refusal o kinds.Bytes s p ≡ None → size ≡ count_at o s p → r ≡ first_version_place size
    → (IsOk (first_entry_answer o s p)) × (IsTrue true → first_entry_answer o s p ≡ Ok r)
unfolding first_entry_answer
first_answers o s p size r passed count is =
    let stated : first_entry_answer o s p ≡ Ok r =
    ap (λ (refusal : Option ElfError). answered refusal (bytes_of (items_at o s p)) >>= λ l. Ok (first_version_place (length l))) passed
    ∙ ap (λ (n : ℕ). Ok (first_version_place n)) (bytes_count o s p passed ∙ sym count)
    ∙ ap Ok (sym is) in
    (subst IsOk (sym stated) refl, λ told. stated)

-- what a call finds in bytes, it finds in bytes that may be lent
passed_found : {A : Type 0} (refusal : Option ElfError) (l : List ℕ) (found : List ℕ → Result A ElfError) (x : A) → (answered refusal l >>= found) ≡ Ok x → (refusal ≡ None) × (found l ≡ Ok x)
passed_found None l found x is = (refl, is)
passed_found (Some e) l found x is = cc

module _ (o : Object) (s p : ℕ) where
  abbrev piece_bytes : List ℕ
  piece_bytes = bytes_of (items_at o s p)

  record_inside : {A : Type 0} (form : List ℕ → A) (size at : ℕ) (x : A) → 0 < size → (answered (lend_refusal o kinds.Bytes s p) piece_bytes >>= λ l. result_map form (record_at size l at)) ≡ Ok x
      → at < count_at o s p
  record_inside form size at x some is =
      let found = passed_found (lend_refusal o kinds.Bytes s p) piece_bytes (λ l. result_map form (record_at size l at)) x is in
      let inside = found_within form size at piece_bytes x found.1 in
      let count = bytes_count o s p found.0 in
      omega (arith, some, inside, count)

  verdef_inside : (at : ℕ) (x : Verdef) → verdef_answer o s p at ≡ Ok x → at < count_at o s p
  unfolding verdef_answer verdef_at
  verdef_inside at x is = record_inside (verdef_of o.header.order) VERDEF_SIZE at x (omega arith) is

  verneed_inside : (at : ℕ) (x : Verneed) → verneed_answer o s p at ≡ Ok x → at < count_at o s p
  unfolding verneed_answer verneed_at
  verneed_inside at x is = record_inside (verneed_of o.header.order) VERNEED_SIZE at x (omega arith) is

  pub verdefs_led : (at : ℕ) → verdefs o s p at ≡ led_by (verdef_answer o s p at) (behind_verdef o s p at)
  unfolding verdefs
  verdefs_led at = entries_led (verdef_answer o s p) (λ x. x.next) (count_at o s p) verdef_inside at

  pub verneeds_led : (at : ℕ) → verneeds o s p at ≡ led_by (verneed_answer o s p at) (behind_verneed o s p at)
  unfolding verneeds
  verneeds_led at = entries_led (verneed_answer o s p) (λ x. x.next) (count_at o s p) verneed_inside at

-- ---- A note that is found lies in the bytes, and the next one behind it

left_of : (a b : Bool) → (a && b) ≡ true → a ≡ true
left_of true b both = refl
left_of false b both = both

right_of : (a b : Bool) → (a && b) ≡ true → b ≡ true
right_of true b both = both
right_of false b both = cc

module _ (order : Order) (align size : ℕ) (header : List ℕ) (at : ℕ) where
  lies : (note : NoteAt) → note_with order align size header at ≡ Ok note → (note_lies order align size header at ≡ true) × (note ≡ note_of order align size header at)
  unfolding note_with
  lies note is = by_test (note_lies order align size header at) is
    where
      by_test : (t : Bool) → answered (refused_if (not t) (BadChain at)) (note_of order align size header at) ≡ Ok note → (t ≡ true) × (note ≡ note_of order align size header at)
      by_test true is = (refl, cc)
      by_test false is = cc

  name_starts : at + NOTE_HEADER_SIZE ≤ name_end order header at
  unfolding name_end
  name_starts = omega arith

  -- its descriptor begins behind its name
  desc_behind : name_end order header at ≤ size → name_end order header at ≤ desc_place order align size header at
  unfolding desc_place
  desc_behind fits = by_count (descsz order header == 0)
    where
      by_count : (t : Bool) → name_end order header at ≤ (if t then min (rounded_up (name_end order header at) align) size else rounded_up (name_end order header at) align)
      by_count true = let up = rounded_up_le (name_end order header at) align in omega (arith, up, fits)
      by_count false = rounded_up_le (name_end order header at) align

  later : at + NOTE_HEADER_SIZE ≤ size → (note : NoteAt) → note_with order align size header at ≡ Ok note → (at < note.next) × (note.next ≤ size)
  unfolding note_lies note_of desc_end
  later fits note is =
      let both = lies note is in
      let name = leb-true (name_end order header at) size (left_of (nat_le (name_end order header at) size) _ both.0) in
      let desc = desc_behind name in
      let up = rounded_up_le (desc_place order align size header at + descsz order header) align in
      let begins = name_starts in
      subst (λ (n : NoteAt). (at < n.next) × (n.next ≤ size)) (sym both.1) (omega (arith, desc, up, begins, fits), omega arith)

module _ (order : Order) (align : ℕ) (l : List ℕ) (at : ℕ) where
  pub note_later : (note : NoteAt) → note_at order align l at ≡ Ok (Some note) → (at < note.next) × (note.next ≤ length l)
  unfolding note_at record_at
  note_later note is = by_tests (at == length l) (nat_lt (length l) (at + NOTE_HEADER_SIZE)) refl is
    where
      by_made : at + NOTE_HEADER_SIZE ≤ length l → (made : Result NoteAt ElfError) → note_with order align (length l) (take NOTE_HEADER_SIZE (drop at l)) at ≡ made
          → result_map Some made ≡ Ok (Some note) → (at < note.next) × (note.next ≤ length l)
      by_made fits (Ok n) made is = let same : n ≡ note = cc in later order align (length l) (take NOTE_HEADER_SIZE (drop at l)) at fits note (made ∙ ap Ok same)
      by_made fits (Err e) made is = cc

      by_tests : (ends past : Bool) → nat_lt (length l) (at + NOTE_HEADER_SIZE) ≡ past
          → (if ends then Ok None
          else answered (refused_if past (BadChain at)) (take NOTE_HEADER_SIZE (drop at l)) >>= λ header. result_map Some (note_with order align (length l) header at)) ≡ Ok (Some note)
          → (at < note.next) × (note.next ≤ length l)
      by_tests true past was is = cc
      by_tests false true was is = cc
      by_tests false false was is =
          by_made (ltb-false (length l) (at + NOTE_HEADER_SIZE) was) (note_with order align (length l) (take NOTE_HEADER_SIZE (drop at l)) at) refl is

module _ (o : Object) (s p : ℕ) where
  note_inside : (at : ℕ) (note : NoteAt) → note_answer o s p at ≡ Ok (Some note) → (at < note.next) × (note.next ≤ count_at o s p)
  unfolding note_answer
  note_inside at note is =
      let l = bytes_of (items_at o s p) in
      let found = passed_found (lend_refusal o kinds.Bytes s p) l (λ l. note_at o.header.order (note_align (section_at o s).header.addralign) l at) (Some note) is in
      subst (λ (n : ℕ). (at < note.next) × (note.next ≤ n)) (bytes_count o s p found.0) (note_later o.header.order (note_align (section_at o s).header.addralign) l at note found.1)

  pub notes_of_piece : (at : ℕ) → notes o s p at ≡ led_by (note_answer o s p at) (note_then (notes o s p))
  unfolding notes
  notes_of_piece at = notes_led (note_answer o s p) (count_at o s p) note_inside at
