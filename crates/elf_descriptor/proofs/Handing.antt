-- A step that prepares a call, and then what the call hands out.
use Rattle.std.proofs.Common.{◌≡◌, Bool, true, List, ℕ, Option, Some, None, Result, Ok, Err}
use Rattle.std.specs.Prelude.{IsTrue}
use Rattle.elf_types.specs.declared.errors.ElfError.{ElfError}
use Rattle.elf_types.specs.declared.errors.ElfError.TheVariants.{Memory, Read}
use Rattle.elf_types.specs.Answers.{answered}
use Rattle.section_table.specs.elf_outside.declared.sources.Source.{Ghosts}
use Rattle.section_table.proofs.elf_outside.AskLemmas.{read_rose_on}
use Rattle.section_table.specs.elf_object.Words.{Wants, Answers, IsLike}
use Rattle.section_table.specs.elf_object.Calls.{Call, due}
use Rattle.section_table.proofs.elf_object.AnswerLaws.{answers_seen, read_passed}
use Rattle.elf_descriptor.specs.State.{State}
use Rattle.elf_descriptor.specs.Reads.{Queries}
use Rattle.elf_descriptor.proofs.Refusals.{answers_passed}
use Rattle.elf_descriptor.proofs.ReadsLaws.{reads_then}

-- ---- The answer

-- a value is handed out where the step was not refused
pub handed : {A : Type 0} (told : Bool) (wants : Wants) (refusal : Option ElfError) (v x : A) → Answers true wants (Ok (tt {0})) (answered refusal (tt {0})) → (IsTrue told → x ≡ v)
    → Answers told wants (Ok x) (answered refusal v)
handed told wants refusal v x came same = answers_seen told wants refusal v x (answers_passed true wants refusal (tt {0}) (tt {0}) came) same

pub handed_like : {A : Type 0} (Like : A → A → Type 0) (refusal : Option ElfError) (v x : A) → refusal ≡ None → Like x v → IsLike Like (Ok x) (answered refusal v)
handed_like Like None v x passed like = like
handed_like Like (Some e) v x passed like = cc

-- a refusal does not rest on what the source tells
refused_told : {A : Type 0} (told : Bool) (wants : Wants) (e : ElfError) (stated : Result A ElfError) → Answers true wants (Err e) stated → Answers told wants (Err e) stated
refused_told told wants Memory stated came = came
refused_told told wants Read stated came = came
refused_told told wants e stated came = came

pub refused_step : {A : Type 0} (told : Bool) (wants : Wants) (refusal : Option ElfError) (v : A) (e : ElfError) → Answers true wants (Err e) (answered refusal (tt {0}))
    → Answers told wants (Err e) (answered refusal v)
refused_step told wants refusal v e came = read_passed told wants refusal (tt {0}) v e (refused_told told wants e (answered refusal (tt {0})) came)

-- ---- What is read

pub queries_ok : {S A T U : Type 0} (g : Ghosts S) (c : Call A) (holding : List ℕ) (x : T) (y : U) (old new : State S) → Queries g c holding (Ok x) old new → Queries g c holding (Ok y) old new
queries_ok g c holding x y old new q = record {
  object = q.object;
  reads = reads_then g (Ok x) (Ok y) old new (c.reads old.o) holding (due c old.o old.loaded) (λ h. tt) tt q.reads;
}

pub queries_err : {S A T U : Type 0} (g : Ghosts S) (c : Call A) (holding : List ℕ) (e : ElfError) (old new : State S) → Queries {T = T} g c holding (Err e) old new → Queries {T = U} g c holding (Err e) old new
queries_err {S} {A} {T} {U} g c holding e old new q = record {
  object = q.object;
  reads = reads_then g (Err e) (Err e) old new (c.reads old.o) holding (due c old.o old.loaded) (λ h. h) (read_rose_on T U e (g.faults old.source) (g.faults new.source) q.reads.source.read) q.reads;
}
