-- Items that a descriptor lends for writing, and edits of items (elf_getdata and elf_flagdata of
-- elf(3E); gelf_update_sym of gelf(3E) and its like).
use Rattle.std.specs.Prelude.{◌≡◌, ℕ, ◌+◌, ◌<◌, ◌≤◌, true, false, IsTrue, List, [], Contains, Result, IfErr}
use Rattle.std.specs.Borrow.{Fml, Lends, LendsSoOk}
use denote.RattleType.{RattleType}
use denote.Ref.{MutBor}
use Rattle.elf_types.specs.contracts.lists.List.{the_row as list_row}
use Rattle.elf_types.specs.declared.records.Kind.{Kind}
use Rattle.elf_types.specs.declared.errors.ElfError.{ElfError}
use Rattle.elf_types.specs.Answers.{answered, IsRefusal}
use Rattle.section_table.specs.elf_xlate.declared.content.Items.{Items}
use Rattle.section_table.specs.elf_outside.declared.sources.Source.{Ghosts}
use Rattle.section_table.specs.elf_outside.Asks.{Asks}
use Rattle.section_table.specs.elf_object.Words.{Answers, result_map}
use Rattle.section_table.specs.elf_object.Answers.{piece_count, lend_refusal}
use Rattle.section_table.specs.elf_object.Calls.{due}
use Rattle.section_table.specs.elf_object.Calls as calls
use Rattle.section_table.specs.elf_object.Due.{is_loaded, holds_items, homes_due}
use Rattle.elf_descriptor.specs.contracts.descriptor.Elf.{the_row}
use Rattle.elf_descriptor.specs.State.{State}
use Rattle.elf_descriptor.specs.Reads.{Queries, wanted}

-- ---- What is read, and what is held

-- What an edit of the items of a piece does to its source, and what of the object is held
-- afterwards. It may load the sections of a list, and of their homes' items none may be left. What
-- is loaded stays so, and a piece that is there and held its items holds them still. It asks for
-- at most so many bytes; where it answers neither Read nor Memory, for those of the homes that
-- became loaded. An update may want memory again.
pub record ReadsToOwn {S T : Type 0} (g : Ghosts S) (result : Result T ElfError) (old new : State S)
    (sections : List ℕ) (due : ℕ) : Type 0 where
  pub source : Asks g result old.source new.source due
  pub told : new.told ≡ old.told
  pub ready : new.ready ≡ false
  pub loads : (i : ℕ) → ¬ Contains sections i
      → is_loaded new.loaded i ≡ is_loaded old.loaded i
  pub stays : (i : ℕ) → IsTrue (is_loaded old.loaded i)
      → IsTrue (is_loaded new.loaded i)
  pub holds : (i : ℕ) → ¬ Contains sections i → is_loaded new.held i ≡ is_loaded old.held i
  pub holds_on : (s p : ℕ) → p < piece_count old.o s → IsTrue (holds_items old.o old.held s p)
      → IsTrue (holds_items new.o new.held s p)
  pub room : (i : ℕ) → is_loaded new.loaded i ≡ false
      → is_loaded new.room i ≡ is_loaded old.room i
  pub first_use : IfErr result IsRefusal
      → g.taken new.source + homes_due old.o new.loaded sections
      ≤ g.taken old.source + homes_due old.o old.loaded sections

-- ---- Lends

-- a piece that was lent: it became own and marked, and holds what the borrower left
pub record IsLent {S T : Type 0} (g : Ghosts S) (result : Result T ElfError) (old new : State S)
    (s p : ℕ) (left : Items) : Type 0 where
  pub object : new.o ≡ (calls.lend s p left).after old.o
  pub reads : ReadsToOwn g result old new ((calls.lend s p left).reads old.o)
      (due (calls.lend s p left) old.o old.loaded)

-- the list in the items of an own piece
abbrev pub LendsOwnItems : (X : RattleType) → (List X.Denot → Items) → (S : RattleType)
    → (g : Ghosts S.Denot) → ℕ → ℕ → MutBor (State S.Denot) → MutBor (List X.Denot) → Fml
LendsOwnItems X variant S g s p e r =
    Lends (the_row S g) (list_row X) e r
    (λ left. record e.now { o = (calls.lend s p (variant left)).after e.now.o })

-- how a lend is refused: over every source as stated, but for want of memory and a failed read
abbrev pub LendAnswers : {S T : Type 0} → Kind → Items → ℕ → ℕ → State S → Result T ElfError
    → Type 0
LendAnswers kind lent s p old result =
    Answers true (wanted (calls.lend s p lent) old) (result_map (λ _. tt {0}) result)
    (answered (lend_refusal old.o kind s p) (tt {0}))

-- The list in the items of a piece is lent, of the items' variant; whatever the borrower leaves in
-- it, of any length, the piece holds. A refusal leaves the object.
abbrev pub LendsItems : (X : RattleType) → (List X.Denot → Items) → (S : RattleType)
    → (g : Ghosts S.Denot) → ℕ → ℕ → MutBor (State S.Denot)
    → Result (MutBor (List X.Denot)) ElfError → Fml
LendsItems X variant S g s p e r =
    LendsSoOk (the_row S g) (list_row X) e r
    (λ new left. IsLent g r e.now new s p (variant left))
    (λ new. Queries g (calls.lend s p (variant [])) [] r e.now new)
