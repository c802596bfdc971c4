-- What a call of a script reads, by what the calls of the library read.
use Rattle.std.proofs.Common.{◌≡◌, ℕ, ◌+◌, ◌≤◌, List, [], Result, Ok, Err, refl, ◌∙◌, subst, arith}
use Rattle.std.specs.Prelude.{Contains}
use Rattle.elf_types.specs.declared.errors.ElfError.{ElfError}
use Rattle.elf_outside.specs.declared.sources.Source.{Ghosts}
use Rattle.elf_outside.specs.Asks.{Asks, ReadRose}
use Rattle.elf_outside.proofs.AskLemmas.{asks_then, read_rose_before, read_rose_on}
use Rattle.symbol_lookup.specs.elf_object.Object.{Object}
use Rattle.symbol_lookup.specs.elf_object.Due.{is_loaded, homes_due}
use Rattle.symbol_lookup.specs.elf_object.Words.{result_map}
use Rattle.elf_update_plan.specs.elf_descriptor.State.{State}
use Rattle.elf_update_plan.specs.elf_descriptor.Reads.{Reads}
use Rattle.elf_update_plan.specs.elf_descriptor.Lends.{ReadsToOwn}
use Rattle.elf_calls_apply.specs.Applies.{ReadsAtFirst}

pub none_in : (l : List ℕ) (i : ℕ) → Contains [] i → Contains l i
none_in l i within = absurd (omega (arith, within.1))

module _ {S : Type 0} (g : Ghosts S) (old new : State S) (sections holding : List ℕ) where
  -- nothing is read, and what is held stays
  pub nothing_read : {T : Type 0} (q : Result T ElfError) (due : ℕ) → ReadRose q (g.faults old.source) (g.faults old.source)
      → new.source ≡ old.source → new.told ≡ old.told → ((i : ℕ) → is_loaded new.loaded i ≡ is_loaded old.loaded i) → ((i : ℕ) → is_loaded new.held i ≡ is_loaded old.held i)
      → homes_due old.o new.loaded sections ≡ homes_due old.o old.loaded sections → ReadsAtFirst g q old new sections holding due
  nothing_read q due rose source told loaded held same = record {
    source = rw source record {
      leaves = record { same_len = refl; same_bytes = refl; same_rest = refl };
      later = omega arith;
      read = rose;
      taken = record { later = omega arith; no_more = omega arith };
    };
    told = told;
    loads = λ i other. loaded i;
    stays = λ i is. rw (loaded i) is;
    holds = λ i other. held i;
    first_use = λ refused. rw (source, same) (omega arith);
  }

  -- an answer after a call that gave a value
  pub value_read : {T U : Type 0} (r : Result T ElfError) (x : T) (q : Result U ElfError) (due : ℕ) → r ≡ Ok x → ReadRose q (g.faults old.source) (g.faults new.source)
      → Reads g r old new sections holding due → ReadsAtFirst g q old new sections holding due
  value_read r x q due is rose reads = record {
    source = asks_then g r q old.source new.source due reads.source rose;
    told = reads.told;
    loads = reads.loads;
    stays = reads.stays;
    holds = reads.holds;
    first_use = λ refused. reads.first_use (rw is tt);
  }

  -- the refusal of a call, which may make fewer homes hold their items
  pub error_read : {T U : Type 0} (small : List ℕ) → ((i : ℕ) → Contains small i → Contains holding i) → (r : Result T ElfError) (e : ElfError) (due : ℕ) → r ≡ Err e
      → Reads g r old new sections small due → ReadsAtFirst {T = U} g (Err e) old new sections holding due
  error_read {T} {U} small within r e due is reads =
      let known : Reads {T = T} g (Err e) old new sections small due = subst (λ (s : Result T ElfError). Reads g s old new sections small due) is reads in record {
        source = asks_then g (Err e) (Err e) old.source new.source due known.source (read_rose_on T U e (g.faults old.source) (g.faults new.source) known.source.read);
        told = known.told;
        loads = known.loads;
        stays = known.stays;
        holds = λ i other. known.holds i (λ is. other (within i is));
        first_use = λ refused. known.first_use refused;
      }

  -- an edit of items that is done
  pub owned_read : {T U : Type 0} (r : Result T ElfError) (x : T) (y : U) (due : ℕ) → r ≡ Ok x → ReadsToOwn g r old new sections due → ReadsAtFirst g (Ok y) old new sections sections due
  owned_read r x y due is reads = record {
    source = asks_then g r (Ok y) old.source new.source due reads.source tt;
    told = reads.told;
    loads = reads.loads;
    stays = reads.stays;
    holds = reads.holds;
    first_use = λ refused. reads.first_use (rw is tt);
  }

-- another form of the answer
pub form_read : {S T U : Type 0} (g : Ghosts S) (f : T → U) (r : Result T ElfError) (old new : State S) (sections holding : List ℕ) (due : ℕ)
    → ReadsAtFirst g r old new sections holding due → ReadsAtFirst g (result_map f r) old new sections holding due
form_read {S} {T} {U} g f (Ok x) old new sections holding due reads = record {
  source = asks_then g (Ok x) (Ok (f x)) old.source new.source due reads.source tt;
  told = reads.told;
  loads = reads.loads;
  stays = reads.stays;
  holds = reads.holds;
  first_use = reads.first_use;
}
form_read {S} {T} {U} g f (Err e) old new sections holding due reads =
    let r : Result T ElfError = Err e in
    let q : Result U ElfError = Err e in record {
      source = asks_then g r q old.source new.source due reads.source (read_rose_on T U e (g.faults old.source) (g.faults new.source) reads.source.read);
      told = reads.told;
      loads = reads.loads;
      stays = reads.stays;
      holds = reads.holds;
      first_use = reads.first_use;
    }

-- two calls in a row, of which the first gave a value and left the object, and which may read the same homes
pub two_read : {S T U : Type 0} (g : Ghosts S) (old mid new : State S) (sections : List ℕ) (r : Result T ElfError) (x : T) (q : Result U ElfError)
    → r ≡ Ok x → mid.o ≡ old.o → Reads g r old mid sections sections (homes_due old.o old.loaded sections)
    → ReadsAtFirst g q mid new sections sections (homes_due mid.o mid.loaded sections) → ReadsAtFirst g q old new sections sections (homes_due old.o old.loaded sections)
two_read {S} {T} {U} g old mid new sections r x q is same first then =
    let one = first.first_use (rw is tt) in
    let second : Asks g q mid.source new.source (homes_due old.o mid.loaded sections) = subst (λ (o : Object). Asks g q mid.source new.source (homes_due o mid.loaded sections)) same then.source in record {
      source = record {
        leaves = record {
          same_len = second.leaves.same_len ∙ first.source.leaves.same_len;
          same_bytes = second.leaves.same_bytes ∙ first.source.leaves.same_bytes;
          same_rest = second.leaves.same_rest ∙ first.source.leaves.same_rest;
        };
        later = omega (arith, first.source.later, second.later);
        read = read_rose_before q (g.faults old.source) (g.faults mid.source) (g.faults new.source) first.source.later second.read;
        taken = record {
          later = omega (arith, first.source.taken.later, second.taken.later);
          no_more = omega (arith, one, second.taken.no_more);
        };
      };
      told = then.told ∙ first.told;
      loads = λ i other. then.loads i other ∙ first.loads i other;
      stays = λ i is. then.stays i (first.stays i is);
      holds = λ i other. then.holds i other ∙ first.holds i other;
      first_use = λ refused.
          let two = subst (λ (o : Object). g.taken new.source + homes_due o new.loaded sections ≤ g.taken mid.source + homes_due o mid.loaded sections) same (then.first_use refused) in
          omega (arith, one, two);
    }
