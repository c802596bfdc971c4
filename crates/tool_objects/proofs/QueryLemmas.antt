-- Calls of a descriptor that leave its object, as steps of a tool.
use Rattle.std.proofs.Common.{◌≡◌, ℕ, Bool, List, length, Option, Some, None, Result, Ok, Err, IsTrue, IfOk, IfErr, refl, sym, ap, subst, arith}
use Rattle.std.specs.Prelude.{slice_get, IsSome}
use Rattle.elf_types.specs.declared.errors.ElfError.{ElfError}
use Rattle.elf_types.specs.declared.errors.ElfError.TheVariants as error
use Rattle.elf_types.specs.Answers.{IsRefusal}
use Rattle.tool_output.specs.elf_outside.Asks.{ReadRose}
use Rattle.tool_output.specs.elf_outside.Counts.{Rose}
use Rattle.tool_output.specs.elf_outside.declared.sources.Source.{Ghosts as SourceGhosts}
use Rattle.gelf_view.specs.elf_object.Words.{Wants, Answers}
use Rattle.gelf_view.specs.elf_object.Object.{Object}
use Rattle.gelf_view.specs.elf_object.Answers.{entry_answer}
use Rattle.gelf_view.specs.elf_object.Calls.{Call}
use Rattle.gelf_view.specs.elf_descriptor.State.{State}
use Rattle.gelf_view.specs.elf_descriptor.Reads.{Queries}
use Rattle.tool_output.specs.declared.stops.Stop.{Stop}
use Rattle.tool_output.specs.Steps.{OnRead, OnWrite}
use Rattle.tool_output.specs.declared.stops.Stop.TheVariants.{Read, Write, Memory}
use Rattle.tool_output.specs.Stops.{stop_of, value_or_stop}
use Rattle.tool_objects.specs.Answers.{value_of}
use Rattle.tool_objects.specs.Steps.{LeavesElfBy, LeavesElf, Looked, ReadsElf, Learns}
use Rattle.tool_objects.proofs.OnceSums.{Once}
use Rattle.tool_objects.proofs.OnceReads.{reads_once}
use Rattle.tool_objects.proofs.ElfSteps.{settled_elf}

-- ---- What is left of the descriptor

-- it leaves the object
pub queried : {S A T : Type 0} (s : SourceGhosts S) (c : Call A) (holding : List ℕ)
    (r : Result T ElfError) (a b : State S) → Queries s c holding r a b → Once (c.reads a.o)
    → LeavesElfBy s (IfErr r IsRefusal) a b
queried s c holding r a b h once = record {
  object = h.object;
  told = h.reads.told;
  source = h.reads.source.leaves;
  later = h.reads.source.later;
  asked = λ well.
      let once_more = reads_once s r a b (c.reads a.o) holding _ h.object once h.reads well in
      omega (arith, once_more);
}

-- it looks at the object
pub looked_by : {S A T : Type 0} (s : SourceGhosts S) (c : Call A) (holding : List ℕ)
    (r : Result T ElfError) (a b : State S) → Queries s c holding r a b → Once (c.reads a.o)
    → Looked s r a b
looked_by s c holding r a b h once =
    record { elf = queried s c holding r a b h once; read = h.reads.source.read }

-- an error that stops nothing is a refusal
pub is_refusal_without_stop : (d : ElfError) → stop_of d ≡ None → IsRefusal d
is_refusal_without_stop error.Memory none = cc
is_refusal_without_stop error.Read none = cc
is_refusal_without_stop error.Write none = cc
is_refusal_without_stop d none = tt

-- an answer was a value, or a refusal
pub settled_ok : {T : Type 0} {r : Result T ElfError} {x : T} → r ≡ Ok x → IfErr r IsRefusal
settled_ok {T} {r} {x} is = subst (λ (q : Result T ElfError). IfErr q IsRefusal) (sym is) tt

pub settled_none : {T : Type 0} {r : Result T ElfError} {d : ElfError} → r ≡ Err d
    → stop_of d ≡ None → IfErr r IsRefusal
settled_none {T} {r} {d} is none =
    subst (λ (q : Result T ElfError). IfErr q IsRefusal) (sym is) (is_refusal_without_stop d none)

some_is : {T : Type 0} {x y : T} → Some x ≡ Some y → x ≡ y
some_is h = cc

-- an error that stops a step has the cause of the stop
read_cause : (T U : Type 0) (d : ElfError) (stop : Stop) (x y : ℕ) → stop_of d ≡ Some stop → ReadRose {T = T} (Err d) x y → OnRead {T = U} (Err stop) (Rose x y)
read_cause T U error.Memory stop x y is rose = subst (λ (q : Stop). OnRead {T = U} (Err q) (Rose x y)) (some_is is) tt
read_cause T U error.Read stop x y is rose = subst (λ (q : Stop). OnRead {T = U} (Err q) (Rose x y)) (some_is is) rose
read_cause T U error.Write stop x y is never = absurd never
read_cause T U d stop x y is rose = cc

write_cause : (T U : Type 0) (d : ElfError) (stop : Stop) (x y : ℕ) → stop_of d ≡ Some stop → ReadRose {T = T} (Err d) x y → OnWrite {T = U} (Err stop) ⊥
write_cause T U error.Memory stop x y is rose = subst (λ (q : Stop). OnWrite {T = U} (Err q) ⊥) (some_is is) tt
write_cause T U error.Read stop x y is rose = subst (λ (q : Stop). OnWrite {T = U} (Err q) ⊥) (some_is is) tt
write_cause T U error.Write stop x y is never = absurd never
write_cause T U d stop x y is rose = cc

-- the call went well
pub settled_by : {S A T : Type 0} (s : SourceGhosts S) (c : Call A) (holding : List ℕ)
    (r : Result T ElfError) (a b : State S) → Queries s c holding r a b → Once (c.reads a.o)
    → IfErr r IsRefusal → LeavesElf s a b
settled_by s c holding r a b h once well =
    settled_elf s (IfErr r IsRefusal) a b well (queried s c holding r a b h once)

module _ {S A T U : Type 0} (s : SourceGhosts S) (c : Call A) (holding : List ℕ) (a b : State S) where
  -- a step that goes on after the call
  pub reads_on : (r : Result T ElfError) (x : U) → Queries s c holding r a b → Once (c.reads a.o)
      → IfErr r IsRefusal → ReadsElf s (Ok x) a b
  reads_on r x h once settled = record {
    elf = settled_by s c holding r a b h once settled;
    read = tt;
    write = tt;
  }

  -- one that stops by what it answered
  pub reads_stop : (d : ElfError) (stop : Stop) → stop_of d ≡ Some stop
      → Queries {T = T} s c holding (Err d) a b → ReadsElf {T = U} s (Err stop) a b
  reads_stop d stop is h = record {
    elf = record {
      object = h.object;
      told = h.reads.told;
      source = h.reads.source.leaves;
      later = h.reads.source.later;
      asked = λ never. absurd never;
    };
    read = read_cause T U d stop (s.faults a.source) (s.faults b.source) is h.reads.source.read;
    write = write_cause T U d stop (s.faults a.source) (s.faults b.source) is h.reads.source.read;
  }

-- ---- A step that answers what the call did, or none where it was refused

module _ {S A T : Type 0} (s : SourceGhosts S) (c : Call A) (holding : List ℕ) (a b : State S)
    (once : Once (c.reads a.o)) where
  pub reads_unless : (r : Result T ElfError) → Queries s c holding r a b
      → ReadsElf s (value_or_stop r) a b
  reads_unless (Ok x) h = reads_on s c holding a b (Ok x) (Some x) h once tt
  reads_unless (Err error.Memory) h = reads_stop {T = T} s c holding a b error.Memory Memory refl h
  reads_unless (Err error.Read) h = reads_stop {T = T} s c holding a b error.Read Read refl h
  reads_unless (Err error.Write) h = reads_stop {T = T} s c holding a b error.Write Write refl h
  reads_unless (Err d) h = reads_on {T = T} s c holding a b (Err d) None h once tt

  pub learns_unless : (stated : Object → Option T) (r : Result T ElfError)
      → (IsTrue a.told → IfOk (value_or_stop r) (λ v. v ≡ stated a.o)) → Queries s c holding r a b
      → Learns s stated (value_or_stop r) a b
  learns_unless stated r is h = record { value = is; reads = reads_unless r h }

-- its value is that of the stated answer
pub unless_stated : {A : Type 0} (told : Bool) (wants : Wants) (r stated : Result A ElfError)
    → Answers told wants r stated → IsTrue told → IfOk (value_or_stop r) (λ v. v ≡ value_of stated)
unless_stated told wants (Ok x) stated h is = sym (ap value_of (h.1 is))
unless_stated told wants (Err error.Memory) stated h is = tt
unless_stated told wants (Err error.Read) stated h is = tt
unless_stated told wants (Err error.Write) stated h is = tt
unless_stated told wants (Err d) stated h is = sym (ap value_of h)

-- that of an entry, as it stands in the list
pub value_there : {A : Type 0} (refusal : Option ElfError) (l : List A) (i : ℕ) → refusal ≡ None
    → value_of (entry_answer refusal l i) ≡ slice_get l i
value_there (Some d) l i passed = cc
value_there {A} None l i passed = by_got (slice_get l i)
  where
    by_got : (got : Option A)
        → value_of (elim got [ None ↦ Err (error.NoEntry i (length l)) | Some y ↦ Ok y ]) ≡ got
    by_got None = refl
    by_got (Some y) = refl

-- ---- A call that refuses nothing

module _ {A : Type 0} (told : Bool) (wants : Wants) (v : A) where
  pub plain_is : (x : A) → Answers told wants (Ok x) (Ok v) → IsTrue told → x ≡ v
  plain_is x h is = let same = h.1 is in cc

  pub plain_stops : (e : ElfError) → Answers told wants (Err e) (Ok v) → IsSome (stop_of e)
  plain_stops error.Memory h = refl
  plain_stops error.Read h = refl
  plain_stops error.Write h = refl
  plain_stops e h = cc
