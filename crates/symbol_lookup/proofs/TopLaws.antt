-- Lookups as a whole: how their answers meet the stated ones.
use Rattle.std.proofs.Common.{◌≡◌, ℕ, List, Option, None, Result, Ok, Err, refl, sym, subst}
use Rattle.std.specs.Prelude.{IsTrue, IfErr, nat_lt}
use Rattle.std.specs.List.{position}
use Rattle.elf_types.specs.declared.records.Kind.TheVariants as kinds
use Rattle.elf_types.specs.declared.errors.ElfError.{ElfError}
use Rattle.elf_types.specs.declared.errors.ElfError.TheVariants.{Memory, Read, Write, BadChain}
use Rattle.elf_types.specs.Answers.{Follows, IsRefusal, answered}
use Rattle.hash_model.specs.elf_outside.Asks.{ReadRose}
use Rattle.hash_model.specs.elf_outside.declared.sources.Source.{Ghosts}
use Rattle.hash_model.specs.elf_object.Words.{Answers}
use Rattle.hash_model.specs.elf_object.Answers.{lend_refusal}
use Rattle.hash_model.specs.elf_object.Strings.{is_name}
use Rattle.hash_model.specs.elf_object.Due.{homes_due, unless_refused}
use Rattle.gelf_view.specs.elf_descriptor.State.{State}
use Rattle.hash_model.specs.elf_object.Calls.{Call, due}
use Rattle.gelf_view.specs.elf_descriptor.Reads.{Reads, Looks, wanted}
use Rattle.gelf_view.proofs.elf_descriptor.ReadsLaws.{reads_nothing}
use Rattle.hash_model.specs.Listed.{listed_names, find_linear_answer}
use Rattle.symbol_lookup.specs.Lookups.{linear_needs, find_linear}
use Rattle.symbol_lookup.specs.Searches.{Searches, MayEnd}

-- a search among all symbols that is not refused
pub linear_answers : {S : Type 0} (g : Ghosts S) (old new : State S) (s : ℕ) (name : List ℕ) (r : Result (Option ℕ) ElfError) → lend_refusal old.o kinds.Sym s 0 ≡ None
    → (IsTrue old.told → Follows r (Ok (position (is_name name) (listed_names old.o s)))) → Searches g (linear_needs old.o s) r old new
    → Answers old.told (wanted (find_linear s name) old) r (find_linear_answer old.o s name)
unfolding find_linear_answer linear_needs
linear_answers g old new s name r passed follows searches =
    subst (λ (refusal : Option ElfError). Answers old.told (record { memory = (wanted (find_linear s name) old).memory; read = nat_lt 0 (homes_due old.o old.loaded (unless_refused refusal (linear_needs old.o s).homes)) }) r (answered refusal (position (is_name name) (listed_names old.o s))))
    (sym passed) (by_result r follows searches.ended)
  where
    by_result : (r : Result (Option ℕ) ElfError) → (IsTrue old.told → Follows r (Ok (position (is_name name) (listed_names old.o s)))) → IfErr r (MayEnd (linear_needs old.o s) old)
        → Answers old.told (record { memory = (wanted (find_linear s name) old).memory; read = nat_lt 0 (homes_due old.o old.loaded (linear_needs old.o s).homes) }) r (Ok (position (is_name name) (listed_names old.o s)))
    by_result (Ok x) follows ended = (refl, follows)
    by_result (Err Memory) follows ended = (ended, tt)
    by_result (Err Read) follows ended = (ended, tt)
    by_result (Err (BadChain at)) follows ended = cc
    by_result (Err e) follows ended = absurd ended

-- it reads what it needs, and leaves the object
pub linear_looks : {S : Type 0} (g : Ghosts S) (old new : State S) (s : ℕ) (name : List ℕ) (r : Result (Option ℕ) ElfError) → lend_refusal old.o kinds.Sym s 0 ≡ None
    → Searches g (linear_needs old.o s) r old new → Looks g (find_linear s name) r old new
linear_looks g old new s name r passed searches =
    let homes = (linear_needs old.o s).homes in
    record {
      object = searches.object;
      reads = subst (λ (refusal : Option ElfError). Reads g r old new (unless_refused refusal homes) (unless_refused refusal homes) (homes_due old.o old.loaded (unless_refused refusal homes)))
          (sym passed) searches.reads;
    }

refused_read : (T : Type 0) (e : ElfError) (a : ℕ) → IsRefusal e → ReadRose {T = T} (Err e) a a
refused_read T Memory a is = absurd is
refused_read T Read a is = absurd is
refused_read T Write a is = absurd is
refused_read T e a is = tt

-- where it is refused it does nothing
pub refused_looks : {S A T : Type 0} (g : Ghosts S) (c : Call A) (s : State S) (e : ElfError) → IsRefusal e → Looks {T = T} g c (Err e) s s
refused_looks {S} {A} {T} g c s e is = record {
  object = refl;
  reads = reads_nothing g (Err e) s (c.reads s.o) (c.reads s.o) (due c s.o s.loaded) (refused_read T e (g.faults s.source) is);
}
