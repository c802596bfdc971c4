-- Refusals that come before a call reads, and answers that meet them.
use Rattle.std.proofs.Common.{◌≡◌, ◌≢◌, ℕ, Bool, true, false, List, [], ◌∷◌, length, Option, Some, None, Result, Ok, Err, refl, subst, inl, inr}
use Rattle.std.specs.Prelude.{IsTrue, ◌⊎◌, slice_get}
use Rattle.elf_types.specs.declared.errors.ElfError.{ElfError}
use Rattle.elf_types.specs.declared.errors.ElfError.TheVariants.{Memory, Read, NoEntry, Unfit, BadChain, Unended}
use Rattle.elf_types.specs.Answers.{answered, refused_if, first_refusal, err_of}
use Rattle.section_table.specs.elf_object.Words.{Wants, Answers, is_late}
use Rattle.section_table.specs.elf_object.Answers.{entry_answer}
use Rattle.section_table.specs.elf_object.Due.{is_refused_unread, unless_refused}

-- what a test refuses is refused in a call that it comes first in
pub answered_err : {A B E : Type 0} (refusal : Option E) (v : A) (w : B) (e : E) → answered refusal v ≡ Err e → answered refusal w ≡ Err e
answered_err None v w e h = cc
answered_err (Some d) v w e h = cc

-- what it lets pass is a value
pub answered_ok : {A B E : Type 0} (refusal : Option E) (v x : A) (w : B) → answered refusal v ≡ Ok x → answered refusal w ≡ Ok w
answered_ok None v x w h = cc
answered_ok (Some d) v x w h = cc

pub err_of_answered : {A E : Type 0} (refusal : Option E) (v : A) → err_of (answered refusal v) ≡ refusal
err_of_answered None v = refl
err_of_answered (Some e) v = refl

-- ---- Refused before it reads

-- nothing is refused, or before a home is read
abbrev pub IsUnread : Option ElfError → Type 0
IsUnread refusal = (refusal ≡ None) ⊎ IsTrue (is_refused_unread refusal)

pub unread_if : (test : Bool) (e : ElfError) → IsTrue (is_refused_unread (Some e)) → IsUnread (refused_if test e)
unread_if true e h = inr h
unread_if false e h = inl refl

pub unread_first : (refusal : Option ElfError) (later : List (Option ElfError)) → IsUnread refusal → IsUnread (first_refusal later) → IsUnread (first_refusal (refusal ∷ later))
unread_first None later h k = k
unread_first (Some e) later (inl none) k = cc
unread_first (Some e) later (inr h) k = inr h

late_unread : (e : ElfError) → IsTrue (is_refused_unread (Some e)) → IsTrue (is_late e) → ⊥
late_unread (NoEntry i n) unread late = cc
late_unread (Unfit p i) unread late = cc
late_unread (BadChain at) unread late = cc
late_unread (Unended at) unread late = cc
late_unread e unread late = cc

pub unless_unread : (refusal : Option ElfError) (sections : List ℕ) → IsTrue (is_refused_unread refusal) → unless_refused refusal sections ≡ []
unless_unread refusal sections h = rw (unless_refused, h) refl

-- a refusal that is met in the items reads what was to be read
pub unless_entry : {A : Type 0} (refusal : Option ElfError) (l : List A) (i : ℕ) (sections : List ℕ)
    → unless_refused (err_of (entry_answer refusal l i)) sections ≡ unless_refused refusal sections
unless_entry (Some e) l i sections = refl
unless_entry {A} None l i sections = by_entry (slice_get l i)
  where
    by_entry : (there : Option A) → unless_refused (err_of (elim there [ None ↦ Err (NoEntry i (length l)) | Some x ↦ Ok x ])) sections ≡ sections
    by_entry None = refl
    by_entry (Some x) = refl

-- ---- Answers

-- where Memory and Read may come in one call they may come in another
pub answers_wants : {A : Type 0} (told : Bool) (v w : Wants) (r stated : Result A ElfError) → (IsTrue v.memory → IsTrue w.memory) → (IsTrue v.read → IsTrue w.read)
    → Answers told v r stated → Answers told w r stated
answers_wants told v w (Ok x) stated memory read came = came
answers_wants told v w (Err Memory) stated memory read came = (memory came.0, came.1)
answers_wants told v w (Err Read) stated memory read came = (read came.0, came.1)
answers_wants told v w (Err e) stated memory read came = came

-- of a step that is not refused nothing is stated but its value
pub answers_passed : {A : Type 0} (told : Bool) (wants : Wants) (refusal : Option ElfError) (v x : A) → Answers told wants (Ok x) (answered refusal v) → refusal ≡ None
answers_passed told wants None v x came = refl
answers_passed told wants (Some e) v x came = cc

-- one that is refused unread answers no Memory
pub answers_unread : {A : Type 0} (told : Bool) (wants : Wants) (e d : ElfError) (v : A) → IsTrue (is_refused_unread (Some d)) → Answers told wants (Err e) (answered (Some d) v) → e ≢ Memory
answers_unread {A} told wants e d v unread came = λ is. not_memory (subst (λ (f : ElfError). Answers told wants (Err f) (answered (Some d) v)) is came)
  where
    not_memory : Answers {A = A} told wants (Err Memory) (Err d) → ⊥
    not_memory came = late_unread d unread came.1
