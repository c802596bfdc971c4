-- The steps of rehash on a descriptor.
use Rattle.std.specs.Prelude.{◌≡◌, ◌≤◌, Bool, true, false, ℕ, List, IsTrue, Option, IfSome, Result, Ok, Err}
use Rattle.elf_types.specs.declared.errors.ElfError.{ElfError}
use Rattle.elf_types.specs.Answers.{answered, stated_refusal, FollowsBy, ◌>>=◌}
use Rattle.elf_xlate.specs.declared.content.Items.TheVariants as items
use Rattle.elf_outside.specs.declared.sources.Source.{Ghosts}
use Rattle.elf_outside.specs.Asks.{Leaves, ReadRose}
use Rattle.elf_object.specs.Object.{Object}
use Rattle.elf_object.specs.Answers.{bytes_of, words_of}
use Rattle.elf_object.specs.Calls.{data_answer, replace}
use Rattle.tool_files.specs.elf_descriptor.State.{State}
use Rattle.elf_object.specs.Sections.{edited}
use Rattle.hash_model.specs.BuiltHashes.{GnuShape, gnu_order_answer, build_gnu_answer, build_sysv_answer}
use Rattle.hash_model.specs.Reordered.{reordered, reorder_refusal}
use Rattle.rebuild_model.specs.Rehashed.{shape_of, nbucket_of, with_gnu, with_sysv, where_there, laid_out, RehashFault, rehashed}
use Rattle.rebuild_model.specs.Rehashed.RehashFault.{NoDynamicHash, Refused}

-- ---- What is stated

-- the shape that is kept of a section, and its number of buckets
abbrev pub kept_shape : Object → ℕ → Result GnuShape ElfError
kept_shape o n =
    data_answer o n 0 >>= λ old. Ok (shape_of o.header.class o.header.order (bytes_of old))

abbrev pub kept_nbucket : Object → ℕ → Result ℕ ElfError
kept_nbucket o n = data_answer o n 0 >>= λ old. Ok (nbucket_of (words_of old))

-- GNU's hash section of symbols that stand in order is built and stored
abbrev pub built_gnu : Object → ℕ → ℕ → GnuShape → Result Object ElfError
built_gnu o s n shape =
    build_gnu_answer o s shape >>= λ bytes. edited (replace n 0 (items.Bytes bytes)) o

-- the symbols are put in an order before
abbrev pub sorted_gnu : Object → ℕ → ℕ → GnuShape → List ℕ → Result Object ElfError
sorted_gnu o s n shape order =
    answered (reorder_refusal o s) (reordered o s order) >>= λ sorted. built_gnu sorted s n shape

-- in the one that the section needs
abbrev pub shaped_gnu : Object → ℕ → ℕ → GnuShape → Result Object ElfError
shaped_gnu o s n shape =
    gnu_order_answer o s shape.nbuckets >>= λ order. sorted_gnu o s n shape order

abbrev pub built_sysv : Object → ℕ → ℕ → ℕ → Result Object ElfError
built_sysv o s n nbucket =
    build_sysv_answer o s nbucket >>= λ words. edited (replace n 0 (items.Word words)) o

-- the hash section of words, where it is there, and the layout
abbrev pub words_laid_out : Object → ℕ → Option ℕ → Result Object ElfError
words_laid_out o s words = where_there (λ q n. with_sysv q s n) words o >>= λ q. Ok (laid_out q)

-- both hash sections, each where it is there
abbrev pub both_hashes : Object → ℕ → Option ℕ → Option ℕ → Result Object ElfError
both_hashes o s gnu words =
    where_there (λ p n. with_gnu p s n) gnu o >>= λ p. words_laid_out p s words

-- ---- What a step does

-- what it leaves of the source, and the cause of a failed read
pub record KeepsSource {S T
    : Type 0} (g : Ghosts S) (result : Result T ElfError) (old new : State S)
    : Type 0 where
  pub told : new.told ≡ old.told
  pub leaves : Leaves g old.source new.source
  pub later : g.faults old.source ≤ g.faults new.source
  pub read : ReadRose result (g.faults old.source) (g.faults new.source)

-- it gives what is stated, as it is seen, where the source tells its bytes, and leaves the object
pub record Gives {S A T : Type 0} (g : Ghosts S) (see : T → A) (stated : Result A ElfError)
    (result : Result T ElfError) (old new : State S) : Type 0 where
  pub object : new.o ≡ old.o
  pub keeps : KeepsSource g result old new
  pub given : IsTrue old.told → FollowsBy see stated_refusal result stated

-- it leaves the object that is stated, where the source tells its bytes
abbrev pub IsTurned : {T : Type 0} → Result T ElfError → Result Object ElfError → Object → Type 0
IsTurned (Ok x) stated o = stated ≡ Ok o
IsTurned (Err e) stated o = IfSome (stated_refusal e) (λ d. stated ≡ Err d)

pub record TurnsObject {S T : Type 0} (g : Ghosts S) (stated : Result Object ElfError)
    (result : Result T ElfError) (old new : State S) : Type 0 where
  pub keeps : KeepsSource g result old new
  pub turned : IsTrue old.told → IsTurned result stated new.o

-- ---- The whole

-- whether the hash sections were built anew, which they are where they are there
abbrev pub AreHashSectionsRebuilt : Result Bool ElfError → Result Object RehashFault → Object
    → Type 0
AreHashSectionsRebuilt (Ok true) stated o = stated ≡ Ok o
AreHashSectionsRebuilt (Ok false) stated o = stated ≡ Err NoDynamicHash
AreHashSectionsRebuilt (Err e) stated o = IfSome (stated_refusal e) (λ d. stated ≡ Err (Refused d))

-- where none is there nothing is done
pub record Rehashes {S : Type 0} (g : Ghosts S) (result : Result Bool ElfError)
    (old new : State S) : Type 0 where
  pub keeps : KeepsSource g result old new
  pub rehashed : IsTrue old.told → AreHashSectionsRebuilt result (rehashed old.o) new.o
  pub none : result ≡ Ok false → new ≡ old
