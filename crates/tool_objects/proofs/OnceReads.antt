-- The homes that a call reads, each named once, and what is left of all homes once it has read.
use Rattle.std.proofs.Common.{◌≡◌, ◌≢◌, ◌==◌, ◌||◌, ◌+◌, ◌<◌, ◌≤◌, ℕ, zero, suc, Bool, true, false, List, [], ◌∷◌, length, Option, None, Some, Result, IfErr, IsTrue, refl, sym, ap, ◌∙◌, subst, arith}
use Rattle.std.specs.Prelude.{if◌then◌else◌, is_none}
use Rattle.std.specs.List.{range_with_len, sum_by}
use Rattle.std.proofs.lemmas.Bool.{eq-eqb}
use Rattle.std.proofs.lemmas.List.{get_or_past}
use Rattle.std.proofs.lemmas.List.Sums.{sum_by-cons}
use Rattle.elf_types.specs.declared.errors.ElfError.{ElfError}
use Rattle.elf_types.specs.Answers.{err_of, IsRefusal}
use Rattle.tool_output.specs.elf_outside.declared.sources.Source.{Ghosts as SourceGhosts}
use Rattle.gelf_view.specs.elf_object.Object.{Object, Section, section_at, piece_at, home_is_clean, absent_section}
use Rattle.gelf_view.specs.elf_object.Due.{unless_refused, is_refused_unread, when_clean, when_piece_clean, is_loaded, home_due, homes_due, all_sections}
use Rattle.gelf_view.specs.elf_object.Calls.{piece_reads}
use Rattle.gelf_view.specs.elf_object.SymbolSections.{word_reads}
use Rattle.gelf_view.specs.elf_descriptor.State.{State}
use Rattle.gelf_view.specs.elf_descriptor.Reads.{Reads}
use Rattle.gelf_view.proofs.elf_descriptor.ReadsLaws.{dues_stay}
use Rattle.gelf_view.specs.SectionNames.{name_reads}
use Rattle.tool_objects.specs.Steps.{homes_left}
use Rattle.tool_objects.proofs.OnceSums.{has, Once, once_none, once_one, went_outside}

-- ---- Each home is named once

pub once_if : (test : Bool) (a b : List ℕ) → Once a → Once b → Once (if test then a else b)
once_if true a b one other = one
once_if false a b one other = other

pub once_unless : (r : Option ElfError) (l : List ℕ) → Once l → Once (unless_refused r l)
once_unless r l once = once_if (is_refused_unread r) [] l once_none once

pub once_piece : (o : Object) (s p : ℕ) → Once (when_piece_clean o s p)
unfolding when_piece_clean
once_piece o s p =
    once_if (is_none (piece_at o s p).own) (s ∷ []) [] (once_one s) once_none

pub once_clean : (o : Object) (s : ℕ) → Once (when_clean o s)
unfolding when_clean
once_clean o s = once_if (home_is_clean (section_at o s)) (s ∷ []) [] (once_one s) once_none

-- a call on a piece
pub once_read : {A : Type 0} (s p : ℕ) (o : Object) (answer : Result A ElfError)
    → Once (piece_reads s p o answer)
once_read s p o answer = once_unless (err_of answer) (when_piece_clean o s p) (once_piece o s p)

-- a word of a table, where there is one
pub once_word : (o : Object) (i : ℕ) (table : Option ℕ) → Once (word_reads o i table)
once_word o i None = once_none
once_word o i (Some t) = once_read t 0 o _

-- the name of a section
pub once_name : (s : ℕ) (o : Object) → Once (name_reads s o)
once_name s o =
    once_if (o.header.shstrndx == 0) [] _ once_none
    (once_unless _ _ (once_clean o o.header.shstrndx))

-- ---- All homes

pub in_range : (a n x : ℕ) → a ≤ x → x < a + n → has (range_with_len a n) x ≡ true
in_range a zero x from below = absurd (omega arith)
in_range a (suc n) x from below =
    by_test (a == x) refl (λ behind. in_range (a + 1) n x behind (omega arith))
  where
    by_test : (t : Bool) → (a == x) ≡ t
        → (a + 1 ≤ x → has (range_with_len (a + 1) n) x ≡ true)
        → (t || has (range_with_len (a + 1) n) x) ≡ true
    by_test true is later = refl
    by_test false is later =
        let other : a ≢ x = λ same. (let yes : (a == x) ≡ true = eq-eqb a x same in cc) in
        later (omega (arith, other))

-- past the last section no home is due
none_past : (o : Object) (loaded : List Bool) (x : ℕ) → length o.sections ≤ x
    → home_due o loaded x ≡ 0
unfolding home_due section_at
none_past o loaded x le =
    ap (λ (c : Section). if is_loaded loaded x || c.home.out then 0 else c.home.len)
    (get_or_past o.sections x absent_section le)
    ∙ by_loaded (is_loaded loaded x)
  where
    by_loaded : (b : Bool) → ◌≡◌ {A = ℕ} (if b || false then 0 else 0) 0
    by_loaded true = refl
    by_loaded false = refl

none_outside : (o : Object) (loaded : List Bool) (x : ℕ) → has (all_sections o) x ≡ false
    → home_due o loaded x ≡ 0
none_outside o loaded x out =
    let past : length o.sections ≤ x = omega (arith, within) in
    none_past o loaded x past
  where
    within : x < length o.sections → ⊥
    within lt =
        let yes : has (all_sections o) x ≡ true =
        in_range 0 (length o.sections) x (omega arith) (omega arith) in
        let no : false ≡ true = sym out ∙ yes in
        cc

due_one : (o : Object) (loaded : List Bool) (s : ℕ) → homes_due o loaded (s ∷ []) ≡ home_due o loaded s
unfolding homes_due
due_one o loaded s = omega (arith, sum_by-cons (home_due o loaded) s [], none (home_due o loaded))
  where
    none : (f : ℕ → ℕ) → sum_by f [] ≡ 0
    none f = refl

pub due_falls : (o : Object) (before after : List Bool) (s : ℕ)
    → ((i : ℕ) → IsTrue (is_loaded before i) → IsTrue (is_loaded after i))
    → home_due o after s ≤ home_due o before s
due_falls o before after s stays =
    omega (arith, due_one o before s, due_one o after s, dues_stay o before after (s ∷ []) stays)

-- where nothing is loaded, all homes are due
pub nothing_loaded : (i : ℕ) → is_loaded [] i ≡ false
unfolding is_loaded
nothing_loaded i = refl

pub due_at_first : (o : Object) (loaded : List Bool) (l : List ℕ)
    → homes_due o loaded l ≤ homes_due o [] l
due_at_first o loaded l = dues_stay o [] loaded l (λ i is. let none = nothing_loaded i in cc)

-- what a call asked for is gone of what was left
pub reads_once : {S T : Type 0} (s : SourceGhosts S) (r : Result T ElfError) (a b : State S)
    (sections holding : List ℕ) (due : ℕ) → b.o ≡ a.o → Once sections
    → Reads s r a b sections holding due → IfErr r IsRefusal
    → s.taken b.source + homes_left b ≤ s.taken a.source + homes_left a
unfolding homes_due
reads_once s r a b sections holding due same once reads settled =
    subst (λ (m : Object). s.taken b.source + sum_by (home_due m b.loaded) (all_sections m)
    ≤ s.taken a.source + sum_by (home_due a.o a.loaded) (all_sections a.o)) (sym same)
    (went_outside sections (all_sections a.o) (home_due a.o a.loaded) (home_due a.o b.loaded)
    (s.taken a.source) (s.taken b.source) once (none_outside a.o a.loaded)
    (λ x. due_falls a.o a.loaded b.loaded x reads.stays) (reads.first_use settled))
