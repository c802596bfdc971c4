-- A symbol table in another order, as a call on an object.
use Rattle.std.specs.Prelude.{◌≡◌, ℕ, Bool, ◌==◌, not, ◌&&◌, ◌||◌, is_none, nat_lt, true, IsTrue, List, Contains, filter, Result, OnOk, OnErr}
use Rattle.elf_types.specs.declared.errors.ElfError.{ElfError}
use Rattle.elf_outside.specs.declared.sources.Source.{Ghosts}
use Rattle.elf_outside.specs.Asks.{Asks}
use Rattle.symbol_lookup.specs.elf_object.Words.{Wants}
use Rattle.symbol_lookup.specs.elf_object.Object.{Object, piece_at}
use Rattle.symbol_lookup.specs.elf_object.Due.{is_loaded, all_sections, homes_due, unless_refused}
use Rattle.symbol_lookup.specs.elf_descriptor.State.{State}
use Rattle.symbol_lookup.specs.elf_object.Sections.{header_at}
use Rattle.symbol_lookup.specs.hash_model.Reordered.{kind_by_symbols, reorder_refusal}
use Rattle.hash_order.specs.Plans.{BecomesOrdered}

-- the items of section n go by the symbols of section s
abbrev pub is_follower : Object → ℕ → ℕ → Bool
is_follower o s n =
    (header_at o n).link == s && not (is_none (kind_by_symbols (header_at o n).stype))

-- the home of section n may be read: that of the table, or of items that go by its symbols
abbrev pub is_read : Object → ℕ → ℕ → Bool
is_read o s n = is_none (piece_at o n 0).own && (n == s || is_follower o s n)

unfoldable pub all_homes : Object → ℕ → List ℕ
all_homes o s = filter (is_read o s) (all_sections o)

-- none where it is refused before it reads
abbrev pub order_homes : Object → ℕ → List ℕ
order_homes o s = unless_refused (reorder_refusal o s) (all_homes o s)

abbrev pub reorder_wants : {S : Type 0} → State S → ℕ → Wants
reorder_wants state s = record {
  memory = true;
  read = nat_lt 0 (homes_due state.o state.loaded (order_homes state.o s));
}

-- What it does to a descriptor. A refusal, want of memory and a failed read leave the object. It
-- asks for at most the homes that it may read, each once, and loads no other; what is loaded stays
-- so.
pub record Reorders {S T : Type 0} (g : Ghosts S) (s : ℕ) (order : List ℕ)
    (result : Result T ElfError) (old new : State S) : Type 0 where
  pub object : OnOk result (BecomesOrdered old.told old.o new.o s order)
  pub refused : OnErr result (new.o ≡ old.o)
  pub told : new.told ≡ old.told
  pub asks : Asks g result old.source new.source
      (homes_due old.o old.loaded (order_homes old.o s))
  pub loads : (i : ℕ) → ¬ Contains (order_homes old.o s) i
      → is_loaded new.loaded i ≡ is_loaded old.loaded i
  pub stays : (i : ℕ) → IsTrue (is_loaded old.loaded i) → IsTrue (is_loaded new.loaded i)
