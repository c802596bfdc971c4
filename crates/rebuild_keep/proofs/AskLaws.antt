-- What steps in a row ask for, that leave an object.
use Rattle.std.proofs.Common.{◌≡◌, ℕ, ◌+◌, ◌≤◌, Bool, false, true, List, [], Result, Err, refl, sym, ◌∙◌, subst, arith}
use Rattle.std.specs.Prelude.{IsTrue}
use Rattle.elf_types.specs.declared.errors.ElfError.{ElfError}
use Rattle.elf_types.specs.declared.errors.ElfError.TheVariants.{Memory}
use Rattle.rebuild_making.specs.elf_outside.declared.sources.Source.{Ghosts}
use Rattle.rebuild_making.specs.elf_outside.Asks.{ReadRose}
use Rattle.rebuild_making.proofs.elf_outside.AskLemmas.{asks_both, asks_fewer, asks_then, read_rose_on}
use Rattle.rebuild_making.specs.elf_object.Object.{Object}
use Rattle.rebuild_making.specs.elf_object.Due.{is_loaded, homes_due}
use Rattle.elf_update_plan.specs.elf_descriptor.State.{State}
use Rattle.elf_update_plan.specs.elf_descriptor.Reads.{Reads, Looks}
use Rattle.elf_update_plan.proofs.elf_descriptor.ReadsLaws.{dues_stay}
use Rattle.rebuild_making.specs.Making.{reading_homes}
use Rattle.rebuild_keep.specs.Makes.{AsksFor}

none_loaded : (i : ℕ) → IsTrue (is_loaded [] i) → ⊥
unfolding is_loaded
none_loaded i is = let never : false ≡ true = is in cc

-- at most as much as where nothing is loaded
dues_at_first : (o : Object) (loaded : List Bool) (l : List ℕ)
    → homes_due o loaded l ≤ homes_due o [] l
dues_at_first o loaded l = dues_stay o [] loaded l (λ i is. absurd (none_loaded i is))

module _ {S : Type 0} (g : Ghosts S) where
  pub asks_reads : {T : Type 0} (r : Result T ElfError) (old new : State S) (l h : List ℕ)
      → new.o ≡ old.o → Reads g r old new l h (homes_due old.o old.loaded l)
      → AsksFor g r old new (homes_due old.o [] l)
  asks_reads r old new l h object reads = record {
    object = object;
    told = reads.told;
    source = asks_fewer g r old.source new.source (homes_due old.o old.loaded l)
        (homes_due old.o [] l) (dues_at_first old.o old.loaded l) reads.source;
  }

  pub asks_looks : {T : Type 0} (r : Result T ElfError) (old new : State S)
      (reads : Object → List ℕ) → Looks g (reading_homes reads) r old new
      → AsksFor g r old new (homes_due old.o [] (reads old.o))
  asks_looks r old new reads is =
      asks_reads r old new (reads old.o) (reads old.o) is.object is.reads

  -- another answer, that shows no failed read
  pub asks_as : {T U : Type 0} (r : Result T ElfError) (q : Result U ElfError) (old new : State S)
      (n : ℕ) → ReadRose q (g.faults old.source) (g.faults new.source)
      → AsksFor g r old new n → AsksFor g q old new n
  asks_as r q old new n rose is = record {
    object = is.object;
    told = is.told;
    source = asks_then g r q old.source new.source n is.source rose;
  }

  -- an error that is passed on
  pub asks_stop : {T U : Type 0} (e : ElfError) (old new : State S) (n : ℕ)
      → AsksFor {T = T} g (Err e) old new n → AsksFor {T = U} g (Err e) old new n
  asks_stop {T} {U} e old new n is =
      let r : Result T ElfError = Err e in
      let q : Result U ElfError = Err e in
      asks_as r q old new n
      (read_rose_on T U e (g.faults old.source) (g.faults new.source) is.source.read) is

  pub asks_more : {T : Type 0} (r : Result T ElfError) (old new : State S) (n m : ℕ) → n ≤ m
      → AsksFor g r old new n → AsksFor g r old new m
  asks_more r old new n m less is = record {
    object = is.object;
    told = is.told;
    source = asks_fewer g r old.source new.source n m less is.source;
  }

  -- nothing is asked for
  pub asks_nothing : {T : Type 0} (r : Result T ElfError) (s : State S) (n : ℕ)
      → ReadRose r (g.faults s.source) (g.faults s.source) → AsksFor g r s s n
  asks_nothing r s n rose = record {
    object = refl;
    told = refl;
    source = record {
      leaves = record { same_len = refl; same_bytes = refl; same_rest = refl };
      later = omega arith;
      read = rose;
      taken = record { later = omega arith; no_more = omega arith };
    };
  }

  -- memory is wanted at once
  pub asks_memory : {U : Type 0} (s : State S) (n : ℕ) (e : ElfError) → e ≡ Memory
      → AsksFor {T = U} g (Err e) s s n
  asks_memory {U} s n e is =
      subst (λ (d : ElfError). AsksFor {T = U} g (Err d) s s n) (sym is)
      (asks_nothing {T = U} (Err Memory) s n tt)

  pub asks_twice : {T U : Type 0} (r : Result T ElfError) (q : Result U ElfError)
      (old mid new : State S) (n m : ℕ) → AsksFor g r old mid n → AsksFor g q mid new m
      → AsksFor g q old new (n + m)
  asks_twice r q old mid new n m first second = record {
    object = second.object ∙ first.object;
    told = second.told ∙ first.told;
    source = asks_both g r q old.source mid.source new.source n m first.source second.source;
  }
