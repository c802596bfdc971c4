-- Walks over an object that look for the place of a bad chain, step by step.
use Rattle.std.proofs.Common.{◌≡◌, ℕ, Option, Some, None, Result, Ok, Err, IsTrue, IfSome, IfNone, IfErr, refl, sym, ◌∙◌, subst}
use Rattle.elf_types.specs.declared.errors.ElfError.{ElfError}
use Rattle.elf_types.specs.declared.errors.ElfError.TheVariants as error
use Rattle.elf_outside.specs.declared.sources.Source.{Ghosts as SourceGhosts}
use Rattle.elf_lint_findings.specs.elf_object.Object.{Object}
use Rattle.elf_lint_findings.specs.elf_descriptor.State.{State}
use Rattle.tool_output.specs.declared.stops.Stop.{Stop}
use Rattle.tool_output.specs.declared.stops.Stop.TheVariants.{Read, Write, Memory}
use Rattle.tool_output.specs.Stops.{stop_of}
use Rattle.elf_lint_findings.specs.tool_objects.Steps.{LeavesElf, Learns, Looked, ReadsElf}
use Rattle.elf_lint_findings.proofs.tool_objects.ElfSteps.{left_as, settled_elf, elf_left, elf_left_then, still_told}
use Rattle.elf_lint_findings.proofs.tool_objects.LearnLemmas.{learns_after, learns_as}
use Rattle.elf_lint_links.specs.Chains.Chains.{bad_place}

-- a look met an error: the step stops by it, or this is where the chain goes bad
pub met_bad : {S T : Type 0} (s : SourceGhosts S) (stated : Object → Option ℕ) (e : ElfError) (r : Result (Option ℕ) Stop) (a b : State S) → Looked {T = T} s (Err e) a b
    → (IsTrue a.told → stop_of e ≡ None → stated a.o ≡ bad_place (Some e))
    → IfSome (stop_of e) (λ stop. r ≡ Err stop) → IfNone (stop_of e) (r ≡ Ok (bad_place (Some e)))
    → Learns s stated r a b
met_bad s stated error.Memory r a b h same stops bad = rw stops (record {
  value = λ told. tt;
  reads = record { elf = left_as s ⊥ ⊥ a b (λ no. no) h.elf; read = tt; write = tt };
})
met_bad s stated error.Read r a b h same stops bad = rw stops (record {
  value = λ told. tt;
  reads = record { elf = left_as s ⊥ ⊥ a b (λ no. no) h.elf; read = h.read; write = tt };
})
met_bad s stated error.Write r a b h same stops bad = absurd h.read
met_bad s stated e r a b h same stops bad = rw bad (record {
  value = λ told. sym (same told refl);
  reads = record { elf = settled_elf s (Unit {0}) a b tt h.elf; read = tt; write = tt };
})

-- a step that may want memory, once it has left the object
pub reads_either : {S T : Type 0} (s : SourceGhosts S) (a b : State S) → LeavesElf s a b
    → (r : Result T Stop) → IfErr r (λ stop. stop ≡ Memory) → ReadsElf s r a b
reads_either s a b left (Ok x) want = record { elf = left; read = tt; write = tt }
reads_either s a b left (Err Memory) want =
    record { elf = left_as s (Unit {0}) ⊥ a b (λ no. tt) left; read = tt; write = tt }
reads_either s a b left (Err Read) want = cc
reads_either s a b left (Err Write) want = cc

-- ---- A walk that is under way

-- what the whole walk answers is what the rest of it does
pub record Walking {S : Type 0} (s : SourceGhosts S) (old new : State S) (whole rest : Object → Option ℕ) : Type 0 where
  pub elf : LeavesElf s old new
  pub same : IsTrue old.told → whole old.o ≡ rest old.o

pub walk_begins : {S : Type 0} (s : SourceGhosts S) (a : State S) (whole : Object → Option ℕ) → Walking s a a whole whole
walk_begins s a whole = record { elf = elf_left s a; same = λ told. refl }

module _ {S : Type 0} {s : SourceGhosts S} {a b : State S} {whole rest : Object → Option ℕ} (h : Walking s a b whole rest) where
  -- a statement on the object at hand is one on the object at the start
  at_start : (P : Object → Type 0) → (IsTrue b.told → P b.o) → IsTrue a.told → P a.o
  at_start P is told = subst P h.elf.object (is (still_told s a b h.elf told))

  pub walk_goes : (c : State S) (left : Object → Option ℕ) → LeavesElf s b c → (IsTrue b.told → rest b.o ≡ left b.o) → Walking s a c whole left
  walk_goes c left k is = record {
    elf = elf_left_then s a b c h.elf k;
    same = λ told. h.same told ∙ at_start (λ (m : Object). rest m ≡ left m) is told;
  }

  pub walk_ends : (r : Result (Option ℕ) Stop) (c : State S) → Learns s rest r b c → Learns s whole r a c
  walk_ends r c k = learns_as s whole rest r a c (λ told. sym (h.same told)) (learns_after s rest r a b c h.elf k)
