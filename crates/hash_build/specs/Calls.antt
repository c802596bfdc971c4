-- Hash sections that are built, and the order that GNU's needs, as calls on an object. All of them
-- look at piece 0 of a symbol table, and leave the object.
use Rattle.std.specs.Prelude.{ℕ, List, Option, Result}
use Rattle.elf_types.specs.declared.errors.ElfError.{ElfError}
use Rattle.elf_types.specs.declared.errors.ElfError.TheVariants.{Memory, Unsorted}
use Rattle.symbol_lookup.specs.elf_object.Words.{Refusals}
use Rattle.symbol_lookup.specs.elf_object.Object.{Object}
use Rattle.symbol_lookup.specs.elf_object.Due.{unless_refused}
use Rattle.symbol_lookup.specs.elf_object.Calls.{Call, some_memory}
use Rattle.symbol_lookup.specs.hash_model.BuiltHashes as rules
use Rattle.symbol_lookup.specs.hash_model.BuiltHashes.{hash_refusal, build_sysv_answer, gnu_order_answer, build_gnu_answer}
use Rattle.symbol_lookup.specs.Lookups.{table_homes}
use Rattle.hash_build.specs.declared.shape.GnuShape.{GnuShape}

-- a call on the listed symbols of section s: it may want memory for what it makes, whatever is held
abbrev pub hash_call : {A : Type 0} → ℕ → (Object → Result A ElfError) → Call A
hash_call s answer = record {
  answer = answer;
  after = λ o. o;
  reads = λ o. unless_refused (hash_refusal o s) (table_homes o s);
  memory = some_memory;
}

abbrev pub build_sysv : ℕ → ℕ → Call (List ℕ)
build_sysv s nbucket = hash_call s (λ o. build_sysv_answer o s nbucket)

abbrev pub gnu_order : ℕ → ℕ → Call (List ℕ)
gnu_order s nbuckets = hash_call s (λ o. gnu_order_answer o s nbuckets)

-- the shape, as the definitions have it
abbrev pub stated : GnuShape → rules.GnuShape
stated shape = record { nbuckets = shape.nbuckets; bloom = shape.bloom; shift = shape.shift }

abbrev pub build_gnu : ℕ → GnuShape → Call (List ℕ)
build_gnu s shape = hash_call s (λ o. build_gnu_answer o s (stated shape))

-- symbols out of their order, which are found by their names
abbrev pub IsUnsorted : ElfError → Type 0
IsUnsorted (Unsorted at) = Unit {0}
IsUnsorted e = ⊥

-- the other refusals come over every source, before a read
abbrev pub order_refusals : Option ElfError → Refusals
order_refusals early = record { unread = early; early = early; met = IsUnsorted }

-- the same, or want of memory
abbrev pub IsWantOrUnsorted : ElfError → Type 0
IsWantOrUnsorted Memory = Unit {0}
IsWantOrUnsorted (Unsorted at) = Unit {0}
IsWantOrUnsorted e = ⊥
