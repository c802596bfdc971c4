-- Chains of records: the count of their steps does not cut them, and what stands behind each answer.
use Rattle.std.proofs.Common.{◌≡◌, ◌≢◌, ℕ, zero, suc, ◌+◌, ◌-◌, ◌<◌, ◌≤◌, ◌==◌, Bool, true, false, Option, Some, None, Result, Ok, Err, refl, sym, ap, ◌∙◌, inl, inr, arith}
use Rattle.std.specs.Prelude.{◌^◌, IsTrue, IfOk, IfSome, OnOk, if◌then◌else◌}
use Rattle.std.proofs.lemmas.Bool.{cond-false, ne_eqb}
use Rattle.elf_types.specs.declared.errors.ElfError.{ElfError}
use Rattle.elf_types.specs.declared.errors.ElfError.TheVariants.{Memory, Read, BadChain}
use Rattle.elf_descriptor.specs.elf_object.Words.{Wants, Refusals, Answers, AnswersRead, result_map}
use Rattle.gelf_view.specs.declared.notes.NoteAt.{NoteAt}
use Rattle.gelf_view.specs.declared.aux.AuxPlace.{AuxPlace}
use Rattle.gelf_view.specs.Records.{LiesAt}
use Rattle.gelf_view.specs.Chains.{Chain, ended, broken, leading, led_by, IsLedBy, note_then, notes_upto, next_place, entry_then, entries_upto, entries, aux_upto, aux_from, aux_answer, IsBehindRecord, aux_then}

-- ---- The chain behind an answer that came

pub led : {A B : Type 0} (told : Bool) (wants : Wants) (r stated : Result A ElfError) (behind : A → Chain B) (chain : Chain B) → IsTrue told → Answers told wants r stated → chain ≡ led_by stated behind → IsLedBy r behind chain
led told wants (Ok x) stated behind chain is came same = same ∙ ap (λ (s : Result _ ElfError). led_by s behind) (came.1 is)
led told wants (Err Memory) stated behind chain is came same = tt
led told wants (Err Read) stated behind chain is came same = tt
led told wants (Err e) stated behind chain is came same = same ∙ ap (λ (s : Result _ ElfError). led_by s behind) came

pub led_read : {A B : Type 0} (told : Bool) (wants : Wants) (refusals : Refusals) (r stated : Result A ElfError) (behind : A → Chain B) (chain : Chain B) → IsTrue told → AnswersRead told wants refusals r stated
    → chain ≡ led_by stated behind → IsLedBy r behind chain
led_read told wants refusals (Ok x) stated behind chain is came same = same ∙ ap (λ (s : Result _ ElfError). led_by s behind) (came.1 is)
led_read told wants refusals (Err Memory) stated behind chain is came same = tt
led_read told wants refusals (Err Read) stated behind chain is came same = tt
led_read told wants refusals (Err e) stated behind chain is (inl early) same = same ∙ ap (λ (s : Result _ ElfError). led_by s behind) early.1
led_read told wants refusals (Err e) stated behind chain is (inr met) same = same ∙ ap (λ (s : Result _ ElfError). led_by s behind) (met.2 is)

-- ---- Notes

module _ (read : ℕ → Result (Option NoteAt) ElfError) (size : ℕ) (within : (at : ℕ) (note : NoteAt) → read at ≡ Ok (Some note) → (at < note.next) × (note.next ≤ size)) where
  -- more steps change nothing
  notes_same : (n m at : ℕ) → suc (size - at) ≤ n → suc (size - at) ≤ m → notes_upto read n at ≡ notes_upto read m at
  unfolding notes_upto
  notes_same zero m at few more = absurd (omega arith)
  notes_same (suc n) zero at few more = absurd (omega arith)
  notes_same (suc n) (suc m) at few more =
      by_found (λ note inside. notes_same n m note.next (omega (arith, inside)) (omega (arith, inside))) (read at) refl
    where
      by_found : ((note : NoteAt) → (at < note.next) × (note.next ≤ size) → notes_upto read n note.next ≡ notes_upto read m note.next)
          → (r : Result (Option NoteAt) ElfError) → read at ≡ r → led_by r (note_then (notes_upto read n)) ≡ led_by r (note_then (notes_upto read m))
      by_found same (Err e) is = refl
      by_found same (Ok None) is = refl
      by_found same (Ok (Some note)) is = ap (leading note) (same note (within at note is))

  pub notes_led : (at : ℕ) → notes_upto read (suc (size - at)) at ≡ led_by (read at) (note_then (λ place. notes_upto read (suc (size - place)) place))
  unfolding notes_upto
  notes_led at = by_found (read at) refl
    where
      by_found : (r : Result (Option NoteAt) ElfError) → read at ≡ r → led_by r (note_then (notes_upto read (size - at))) ≡ led_by r (note_then (λ place. notes_upto read (suc (size - place)) place))
      by_found (Err e) is = refl
      by_found (Ok None) is = refl
      by_found (Ok (Some note)) is =
          let inside = within at note is in
          ap (leading note) (notes_same (size - at) (suc (size - note.next)) note.next (omega (arith, inside)) (omega (arith, inside)))

-- ---- Entries

module _ {A : Type 0} (read : ℕ → Result A ElfError) (next : A → ℕ) (size : ℕ) (within : (at : ℕ) (x : A) → read at ≡ Ok x → at < size) where
  -- a further entry stands later
  behind_same : (at n m : ℕ) (x : A) → ((place : ℕ) → at < place → entries_upto read next n place ≡ entries_upto read next m place)
      → entry_then at x (next x) (entries_upto read next n) ≡ entry_then at x (next x) (entries_upto read next m)
  behind_same at n m x same = by_next (next x == 0) refl
    where
      by_next : (t : Bool) → (next x == 0) ≡ t
          → leading {A = ℕ × A} (at, x) (elim (if t then None else Some (at + next x)) [ None ↦ ended | Some place ↦ entries_upto read next n place ])
          ≡ leading {A = ℕ × A} (at, x) (elim (if t then None else Some (at + next x)) [ None ↦ ended | Some place ↦ entries_upto read next m place ])
      by_next true is = refl
      by_next false is =
          let more : next x ≢ 0 = λ none. (let zero_is = ap (λ (n : ℕ). n == 0) none in let clash = sym is ∙ zero_is in cc) in
          ap (leading {A = ℕ × A} (at, x)) (same (at + next x) (omega (arith, more)))

  entries_same : (n m at : ℕ) → suc (size - at) ≤ n → suc (size - at) ≤ m → entries_upto read next n at ≡ entries_upto read next m at
  unfolding entries_upto
  entries_same zero m at few more = absurd (omega arith)
  entries_same (suc n) zero at few more = absurd (omega arith)
  entries_same (suc n) (suc m) at few more =
      by_found (λ inside place later. entries_same n m place (omega (arith, inside, later)) (omega (arith, inside, later))) (read at) refl
    where
      by_found : (at < size → (place : ℕ) → at < place → entries_upto read next n place ≡ entries_upto read next m place)
          → (r : Result A ElfError) → read at ≡ r
          → led_by r (λ x. entry_then at x (next x) (entries_upto read next n)) ≡ led_by r (λ x. entry_then at x (next x) (entries_upto read next m))
      by_found same (Err e) is = refl
      by_found same (Ok x) is = behind_same at n m x (same (within at x is))

  pub entries_led : (at : ℕ) → entries read next size at ≡ led_by (read at) (λ x. entry_then at x (next x) (entries read next size))
  unfolding entries_upto
  entries_led at = by_found (read at) refl
    where
      by_found : (r : Result A ElfError) → read at ≡ r
          → led_by r (λ x. entry_then at x (next x) (entries_upto read next (size - at))) ≡ led_by r (λ x. entry_then at x (next x) (entries read next size))
      by_found (Err e) is = refl
      by_found (Ok x) is = by_next (next x == 0) refl
        where
          by_next : (t : Bool) → (next x == 0) ≡ t
              → leading {A = ℕ × A} (at, x) (elim (if t then None else Some (at + next x)) [ None ↦ ended | Some place ↦ entries_upto read next (size - at) place ])
              ≡ leading {A = ℕ × A} (at, x) (elim (if t then None else Some (at + next x)) [ None ↦ ended | Some place ↦ entries read next size place ])
          by_next true none = refl
          by_next false some =
              let inside = within at x is in
              let more : next x ≢ 0 = λ none. (let zero_is = ap (λ (n : ℕ). n == 0) none in let clash = sym some ∙ zero_is in cc) in
              ap (leading {A = ℕ × A} (at, x)) (entries_same (size - at) (suc (size - (at + next x))) (at + next x) (omega (arith, inside, more)) (omega (arith, inside, more)))

-- ---- Auxiliary records

module _ {A : Type 0} (read : ℕ → Result A ElfError) (next : A → ℕ) where
  -- the call's answer where some are left
  left_answer : (left at : ℕ) (last : Bool) → aux_answer read (record { at = at; left = suc left; last = last }) ≡ (if last then Err (BadChain at) else result_map Some (read at))
  left_answer left at last = cond-false (suc left == 0) _ _ (ne_eqb (suc left) 0 (λ e. cc))

  some_given : (r : Result A ElfError) (x : A) → result_map Some r ≡ Ok (Some x) → r ≡ Ok x
  some_given (Ok y) x is = let same : y ≡ x = cc in ap Ok same
  some_given (Err e) x is = cc

  none_given : (r : Result A ElfError) → result_map Some r ≡ Ok None → ⊥
  none_given (Ok y) is = cc
  none_given (Err e) is = cc

  err_given : (r : Result A ElfError) (e : ElfError) → result_map Some r ≡ Err e → r ≡ Err e
  err_given (Ok y) e is = cc
  err_given (Err d) e is = let same : d ≡ e = cc in ap Err same

  given : (left at : ℕ) (last : Bool) (x : A) → aux_answer read (record { at = at; left = left; last = last }) ≡ Ok (Some x) → 0 < left
      → aux_upto read next left at last ≡ leading x (aux_upto read next (left - 1) (at + next x) (next x == 0))
  unfolding aux_upto
  given zero at last x is some = absurd (omega arith)
  given (suc left) at true x is some = let refused = sym (left_answer left at true) ∙ is in cc
  given (suc left) at false x is some =
      let here = some_given (read at) x (sym (left_answer left at false) ∙ is) in
      let fewer : left ≡ suc left - 1 = omega arith in
      ap (λ (r : Result A ElfError). led_by r (λ y. leading y (aux_upto read next left (at + next y) (next y == 0)))) here
      ∙ ap (λ (n : ℕ). leading x (aux_upto read next n (at + next x) (next x == 0))) fewer

  none_left : (left at : ℕ) (last : Bool) → aux_answer read (record { at = at; left = left; last = last }) ≡ Ok None → aux_upto read next left at last ≡ ended
  unfolding aux_upto
  none_left zero at last is = refl
  none_left (suc left) at true is = let refused = sym (left_answer left at true) ∙ is in cc
  none_left (suc left) at false is = absurd (none_given (read at) (sym (left_answer left at false) ∙ is))

  gone_bad : (left at : ℕ) (last : Bool) (e : ElfError) → aux_answer read (record { at = at; left = left; last = last }) ≡ Err e → aux_upto read next left at last ≡ broken e
  unfolding aux_upto
  gone_bad zero at last e is = cc
  gone_bad (suc left) at true e is =
      let refused : ◌≡◌ {A = Result (Option A) ElfError} (Err (BadChain at)) (Err e) = sym (left_answer left at true) ∙ is in
      let same : BadChain at ≡ e = cc in
      ap broken same
  gone_bad (suc left) at false e is =
      ap (λ (r : Result A ElfError). led_by r (λ y. leading y (aux_upto read next left (at + next y) (next y == 0)))) (err_given (read at) e (sym (left_answer left at false) ∙ is))

  -- what stands behind the place that a call leaves
  pub aux_led : (told : Bool) (wants : Wants) (r : Result (Option A) ElfError) (old new : AuxPlace) → IsTrue told → Answers told wants r (aux_answer read old) → IsBehindRecord r next old new
      → IsLedBy r (aux_then (aux_from read next new)) (aux_from read next old)
  aux_led told wants (Ok (Some x)) old new is came behind =
      given old.left old.at old.last x (came.1 is) behind.0 ∙ ap (λ (place : AuxPlace). leading x (aux_from read next place)) (sym behind.1)
  aux_led told wants (Ok None) old new is came behind = none_left old.left old.at old.last (came.1 is)
  aux_led told wants (Err Memory) old new is came behind = tt
  aux_led told wants (Err Read) old new is came behind = tt
  aux_led told wants (Err e) old new is came behind = gone_bad old.left old.at old.last e came

-- ---- What the calls tell of a walk

pub lies_before : {A E : Type 0} (r : Result A E) (at size count : ℕ) → 0 < size → OnOk r (LiesAt at size count)
    → OnOk r ((at < count) × (at < 2 ^ 63))
lies_before (Ok x) at size count some lies = (omega (arith, some, lies.0), omega (arith, lies.0, lies.1))
lies_before (Err e) at size count some lies = tt

pub fewer_left : {A E : Type 0} (r : Result (Option A) E) (next : A → ℕ) (old new : AuxPlace) → IsBehindRecord r next old new
    → IfOk r (λ found. IfSome found (λ x. new.left < old.left))
fewer_left (Ok (Some x)) next old new is =
    let left : new.left ≡ old.left - 1 = ap (λ (p : AuxPlace). p.left) is.1 in
    omega (arith, is.0, left)
fewer_left (Ok None) next old new is = tt
fewer_left (Err e) next old new is = tt

-- the next entry stands behind
pub next_behind : (at n place : ℕ) → Some place ≡ next_place at n → at < place
next_behind at n place is = by_test (n == 0) refl is
  where
    by_test : (t : Bool) → (n == 0) ≡ t → Some place ≡ (if t then None else Some (at + n)) → at < place
    by_test true last is = cc
    by_test false some is = grind arith
