-- What a step of a lookup does to a descriptor. A lookup is made of calls that may each read and
-- want memory; it does what all of them need.
use Rattle.std.specs.Prelude.{◌≡◌, ℕ, ◌*◌, ◌^◌, ◌<◌, List, ◌∷◌, ◌++◌, true, length, take, drop, ◌/◌, ◌%◌, Contains, None, IsTrue, is_none, nat_lt, Result, IfErr}
use Rattle.elf_types.specs.declared.errors.ElfError.{ElfError}
use Rattle.elf_types.specs.declared.errors.ElfError.TheVariants.{Memory, Read, BadChain}
use Rattle.hash_model.specs.elf_outside.declared.sources.Source.{Ghosts}
use Rattle.hash_model.specs.elf_object.Object.{Object, section_at, piece_at, home_is_clean}
use Rattle.hash_model.specs.elf_object.Due.{homes_due}
use Rattle.gelf_view.specs.elf_descriptor.State.{State}
use Rattle.gelf_view.specs.elf_descriptor.Reads.{Reads}
use Rattle.hash_model.specs.elf_object.Answers.{lend_refusal, piece_count}
use Rattle.elf_types.specs.declared.records.Class.{Class}
use Rattle.elf_types.specs.declared.records.Order.{Order}
use Rattle.elf_types.specs.declared.records.Sym.{Sym}
use Rattle.hash_model.specs.elf_xlate.Items.{item_size, sym_of}
use Rattle.hash_model.specs.Listed.{is_defined_global}
use Rattle.elf_types.specs.declared.records.Kind.TheVariants as kinds
use Rattle.symbol_lookup.specs.declared.walks.WalkStart.{WalkStart}
use Rattle.symbol_lookup.specs.declared.walks.Links.{Links}
use Rattle.symbol_lookup.specs.declared.walks.Links.TheVariants as links
use Rattle.symbol_lookup.specs.Lookups.{Needs, needs_memory, link_of}

-- ---- Needs that cover a step

-- one that looks at the words, or at the bytes, of a hash section
pub record HasWords (n : Needs) (o : Object) (h : ℕ) : Type 0 where
  pub table : Contains n.tables h
  pub home : IsTrue (is_none (piece_at o h 0).own) → Contains n.homes h
  pub chain : IsTrue n.chain

pub record HasBytes (n : Needs) (o : Object) (h : ℕ) : Type 0 where
  pub home : IsTrue (is_none (piece_at o h 0).own) → Contains n.homes h
  pub chain : IsTrue n.chain

-- by its chain words
abbrev pub HasLinks : Needs → Object → ℕ → Links → Type 0
HasLinks n o h (links.Sysv nbucket nchain) = HasWords n o h
HasLinks n o h (links.Gnu symoffset chains) = HasBytes n o h

-- one that looks at a string
abbrev pub HasStrings : Needs → Object → ℕ → Type 0
HasStrings n o s = IsTrue (home_is_clean (section_at o s)) → Contains n.homes s

-- one that looks at a symbol and its name
pub record HasTable (n : Needs) (o : Object) (s : ℕ) : Type 0 where
  pub table : Contains n.tables s
  pub home : IsTrue (is_none (piece_at o s 0).own) → Contains n.homes s
  pub strings : HasStrings n o (link_of o s)

-- ---- A step

-- how it may end, by what was held before
abbrev pub MayEnd : {S : Type 0} → Needs → State S → ElfError → Type 0
MayEnd n s Memory = IsTrue (needs_memory n s.o s.loaded s.held)
MayEnd n s Read = IsTrue (nat_lt 0 (homes_due s.o s.loaded n.homes))
MayEnd n s (BadChain at) = IsTrue n.chain
MayEnd n s e = ⊥

-- want of memory, or a failed read
abbrev pub IsFree : ElfError → Type 0
IsFree Memory = Unit {0}
IsFree Read = Unit {0}
IsFree e = ⊥

pub record Searches {S T : Type 0} (g : Ghosts S) (n : Needs) (result : Result T ElfError)
    (old new : State S) : Type 0 where
  pub object : new.o ≡ old.o
  pub reads : Reads g result old new n.homes n.homes (homes_due old.o old.loaded n.homes)
  pub ended : IfErr result (MayEnd n old)

-- the object stays, and so does whether the source tells its bytes
pub record ObjectStays {S : Type 0} (old new : State S) : Type 0 where
  pub object : new.o ≡ old.o
  pub told : new.told ≡ old.told

-- ---- Numbers that do not wrap

-- a symbol's number on a walk, and where chain words begin
abbrev pub IsIndex : ℕ → Type 0
IsIndex i = i < 3 * 2 ^ 60

abbrev pub IsSysv : Links → Type 0
IsSysv (links.Sysv nbucket nchain) = Unit {0}
IsSysv (links.Gnu symoffset chains) = ⊥

abbrev pub IsGnu : Links → Type 0
IsGnu (links.Sysv nbucket nchain) = ⊥
IsGnu (links.Gnu symoffset chains) = Unit {0}

abbrev pub AreLinks : Links → Type 0
AreLinks (links.Sysv nbucket nchain) = Unit {0}
AreLinks (links.Gnu symoffset chains) = chains < 2 ^ 40

-- how a hash section whose words or bytes are there is refused: not at all
abbrev pub IsHashReadable : Object → ℕ → Links → Type 0
IsHashReadable o h (links.Sysv nbucket nchain) = lend_refusal o kinds.Word h 0 ≡ None
IsHashReadable o h (links.Gnu symoffset chains) = lend_refusal o kinds.Bytes h 0 ≡ None

-- where a walk begins, by the words of a section, or by its bytes
abbrev pub IsSysvStart : WalkStart → Type 0
IsSysvStart start = IsSysv start.links × IsIndex start.step.symbol

abbrev pub IsGnuStart : WalkStart → Type 0
IsGnuStart start = IsGnu start.links × AreLinks start.links × IsIndex start.step.symbol

-- ---- A name in bytes

-- bytes do not have the name with its NUL at a place of theirs
pub record LacksName (bytes : List ℕ) (offset : ℕ) (name : List ℕ) : Type 0 where
  pub within : offset < length bytes
  pub other : (rest : List ℕ) → drop offset bytes ≡ name ++ (0 ∷ rest) → ⊥

-- a symbol is local or not defined, or the strings do not have the name where its name stands
abbrev pub LacksWhenListed : List ℕ → List ℕ → Sym → Type 0
LacksWhenListed strings name x =
    is_defined_global x ≡ true → LacksName strings x.name name

-- symbol i of those that bytes hold is such a one
pub record LacksSymbol (class : Class) (order : Order) (symbols strings name : List ℕ) (i : ℕ)
    : Type 0 where
  pub whole : length symbols % item_size kinds.Sym class ≡ 0
  pub inside : i < length symbols / item_size kinds.Sym class
  pub lacks : LacksWhenListed strings name (sym_of class order
      (take (item_size kinds.Sym class) (drop (i * item_size kinds.Sym class) symbols)))

-- the bytes of the first piece of a section, which is the clean home piece, are at hand
pub record StandsAtHand {S : Type 0} (state : State S) (s : ℕ) (bytes : List ℕ) : Type 0 where
  pub there : 0 < piece_count state.o s
  pub clean : (piece_at state.o s 0).own ≡ None
  pub exact : IsTrue state.told → bytes ≡ (section_at state.o s).raw
