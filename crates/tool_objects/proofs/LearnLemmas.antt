-- Values that a step learns of an object, one after another.
use Rattle.std.proofs.Common.{◌≡◌, ◌≤◌, ℕ, Result, Ok, Err, IsTrue, IfOk, sym, subst, arith}
use Rattle.tool_output.specs.elf_outside.Counts.{Rose}
use Rattle.tool_output.specs.elf_outside.declared.sources.Source.{Ghosts as SourceGhosts}
use Rattle.gelf_view.specs.elf_object.Object.{Object}
use Rattle.gelf_view.specs.elf_descriptor.State.{State}
use Rattle.tool_output.specs.declared.stops.Stop.{Stop}
use Rattle.tool_output.specs.declared.stops.Stop.TheVariants.{Read, Write, Memory}
use Rattle.tool_output.specs.Steps.{OnRead, OnWrite}
use Rattle.tool_objects.specs.Steps.{LeavesElf, WentOn, ReadsElf, Learns, SourceRose}
use Rattle.tool_objects.proofs.ElfSteps.{settled_elf, elf_left, elf_left_then, still_told}

pub rose_before : {T : Type 0} (r : Result T Stop) (a b c : ℕ) → a ≤ b → OnRead r (Rose b c) → OnRead r (Rose a c)
rose_before (Ok x) a b c h k = tt
rose_before (Err Read) a b c h k = omega arith
rose_before (Err Write) a b c h k = tt
rose_before (Err Memory) a b c h k = tt

other_read : (T U : Type 0) (stop : Stop) (R : Type 0) → OnRead {T = T} (Err stop) R → OnRead {T = U} (Err stop) R
other_read T U Read R h = h
other_read T U Write R h = tt
other_read T U Memory R h = tt

other_write : (T U : Type 0) (stop : Stop) (R : Type 0) → OnWrite {T = T} (Err stop) R → OnWrite {T = U} (Err stop) R
other_write T U Read R h = tt
other_write T U Write R h = h
other_write T U Memory R h = tt

module _ {S : Type 0} (s : SourceGhosts S) where
  -- what a value is known from
  pub learns_at : {T : Type 0} (f : Object → T) (v : T) (a b : State S) → Learns s f (Ok v) a b → IsTrue a.told → v ≡ f a.o
  learns_at f v a b h told = h.value told

  -- nothing is read
  pub learns_now : {T : Type 0} (f : Object → T) (v : T) (a : State S) → (IsTrue a.told → v ≡ f a.o) → Learns s f (Ok v) a a
  learns_now f v a is = record { value = is; reads = record { elf = elf_left s a; read = tt; write = tt } }

  -- another value, by the one that was learned
  pub learns_map : {T U : Type 0} (f : Object → T) (g : Object → U) (v : T) (u : U) (a b : State S) → (IsTrue a.told → v ≡ f a.o → u ≡ g a.o) → Learns s f (Ok v) a b → Learns s g (Ok u) a b
  learns_map f g v u a b is h = record { value = λ told. is told (h.value told); reads = record { elf = h.reads.elf; read = tt; write = tt } }

  -- there is none
  pub learns_stop : {T U : Type 0} (f : Object → T) (g : Object → U) (stop : Stop) (a b : State S) → Learns s f (Err stop) a b → Learns s g (Err stop) a b
  learns_stop {T} {U} f g stop a b h = record {
    value = λ told. tt;
    reads = record {
      elf = h.reads.elf;
      read = other_read T U stop (SourceRose s a b) h.reads.read;
      write = other_write T U stop ⊥ h.reads.write;
    };
  }

  -- a value, and then one that it decides
  pub learns_then : {T U : Type 0} (f : Object → T) (g h : Object → U) (v : T) (r : Result U Stop) (a b c : State S) → (IsTrue a.told → v ≡ f a.o → g a.o ≡ h a.o) → Learns s f (Ok v) a b → Learns s g r b c → Learns s h r a c
  learns_then {T} {U} f g h v r a b c is first second = record {
    value = λ told.
        let known : IfOk r (λ u. u ≡ g a.o) = subst (λ (m : Object). IfOk r (λ u. u ≡ g m)) first.reads.elf.object (second.value (still_told s a b first.reads.elf told)) in
        subst (λ (w : U). IfOk r (λ u. u ≡ w)) (is told (first.value told)) known;
    reads = record {
      elf = elf_left_then s a b c first.reads.elf second.reads.elf;
      read = rose_before r (s.faults a.source) (s.faults b.source) (s.faults c.source) first.reads.elf.later second.reads.read;
      write = second.reads.write;
    };
  }

-- a step that reads and went on leaves the object
pub elf_read : {S T : Type 0} (s : SourceGhosts S) (r : Result T Stop) (x : T) (a b : State S)
    → r ≡ Ok x → ReadsElf s r a b → LeavesElf s a b
elf_read {S} {T} s r x a b is h =
    let went : WentOn r = subst (λ (q : Result T Stop). WentOn q) (sym is) tt in
    settled_elf s (WentOn r) a b went h.elf

-- a step that reads behind one that left the object
pub reads_after : {S T : Type 0} (s : SourceGhosts S) (r : Result T Stop) (a b c : State S)
    → LeavesElf s a b → ReadsElf s r b c → ReadsElf s r a c
reads_after s r a b c h k = record {
  elf = elf_left_then s a b c h k.elf;
  read = rose_before r (s.faults a.source) (s.faults b.source) (s.faults c.source) h.later k.read;
  write = k.write;
}

module _ {S T : Type 0} (s : SourceGhosts S) (stated : Object → T) where
  -- a value behind a step that left the object
  pub learns_by : (v : T) (a b : State S) → LeavesElf s a b → (IsTrue a.told → v ≡ stated a.o) → Learns s stated (Ok v) a b
  learns_by v a b h is = record { value = is; reads = record { elf = h; read = tt; write = tt } }

  -- what is learned behind one
  pub learns_after : (r : Result T Stop) (a b c : State S) → LeavesElf s a b → Learns s stated r b c → Learns s stated r a c
  learns_after r a b c h k = record {
    value = λ told. subst (λ (m : Object). IfOk r (λ v. v ≡ stated m)) h.object (k.value (still_told s a b h told));
    reads = record {
      elf = elf_left_then s a b c h k.reads.elf;
      read = rose_before r (s.faults a.source) (s.faults b.source) (s.faults c.source) h.later k.reads.read;
      write = k.reads.write;
    };
  }

  -- the same value, stated otherwise
  pub learns_as : (other : Object → T) (r : Result T Stop) (a b : State S) → (IsTrue a.told → other a.o ≡ stated a.o) → Learns s other r a b → Learns s stated r a b
  learns_as other r a b same h = record {
    value = λ told. subst (λ (v : T). IfOk r (λ w. w ≡ v)) (same told) (h.value told);
    reads = h.reads;
  }
