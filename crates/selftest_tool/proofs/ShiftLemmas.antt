-- The symbols that were generated, lent and changed.
use Rattle.std.proofs.Common.{◌≡◌, ◌+◌, ℕ, true, List, map, Option, None, Result, Ok, Err, IsTrue, refl, ap, ◌∙◌, subst, arith}
use Rattle.elf_types.specs.Answers.{answered}
use Rattle.elf_types.specs.declared.errors.ElfError.{ElfError}
use Rattle.elf_types.specs.declared.errors.ElfError.TheVariants.{Memory, Read, Write}
use Rattle.elf_types.specs.declared.records.Kind.TheVariants as kinds
use Rattle.elf_types.specs.declared.records.Sym.{Sym}
use Rattle.elf_xlate.specs.declared.content.Items.TheVariants as items
use Rattle.elf_outside.specs.Asks.{ReadRose}
use Rattle.elf_outside.specs.declared.sources.Source.{Ghosts}
use Rattle.elf_object.specs.Object.{Object}
use Rattle.elf_object.specs.Answers.{items_at, syms_of, lend_refusal}
use Rattle.elf_object.specs.Runs.{more_sym}
use Rattle.elf_object.specs.Steps.{with_own}
use Rattle.elf_object.specs.Words.{Wants, Answers}
use Rattle.elf_calls_generate.specs.elf_descriptor.State.{State}
use Rattle.elf_calls_generate.specs.elf_descriptor.Lends.{IsLent}
use Rattle.rebuild_model.specs.Generated.{generated, generated_and_shifted}
use Rattle.law_files.proofs.commands.GeneratedObject.{lends_symbols, shifted_by}
use Rattle.elf_calls_generate.specs.Stages.{StandsFor}

pub shift_made : {S T : Type 0} (g : Ghosts S) (r : Result T ElfError) (n : ℕ) (old new : State S)
    (lent left : List Sym) → StandsFor (generated n) old
    → IsLent g r old new (n + 1) 0 (items.Sym left) → left ≡ map (more_sym n) lent
    → (IsTrue old.told → lent ≡ syms_of (items_at old.o (n + 1) 0))
    → StandsFor (generated_and_shifted n) new
shift_made g r n old new lent left at lends sums told = record {
  object =
      lends.object
      ∙ ap (λ (o : Object). with_own o (n + 1) 0 (items.Sym left)) at.object
      ∙ shifted_by n left
      (sums ∙ ap (λ (l : List Sym). map (more_sym n) l)
      (told at.told ∙ ap (λ (o : Object). syms_of (items_at o (n + 1) 0)) at.object));
  told = lends.reads.told ∙ at.told;
}

-- of what is not refused, and reads a source without faults, only memory may be wanting
only_memory : (w : Wants) (e : ElfError)
    → Answers {A = Unit {0}} true w (Err e) (Ok tt) → ReadRose {T = Unit {0}} (Err e) 0 0 → e ≡ Memory
only_memory w Memory came rose = refl
only_memory w Read came rose = absurd (omega (arith, rose))
only_memory w Write came rose = absurd rose
only_memory w e came rose = cc

pub shift_wants : {S : Type 0} (n : ℕ) (old : State S) (w : Wants) (e : ElfError)
    → StandsFor (generated n) old
    → Answers {A = Unit {0}} true w (Err e)
    (answered (lend_refusal old.o kinds.Sym (n + 1) 0) (tt {0}))
    → ReadRose {T = Unit {0}} (Err e) 0 0 → e ≡ Memory
shift_wants n old w e at came rose =
    let passed : lend_refusal old.o kinds.Sym (n + 1) 0 ≡ None =
    ap (λ (o : Object). lend_refusal o kinds.Sym (n + 1) 0) at.object ∙ lends_symbols n in
    only_memory w e
    (subst (λ (r : Option ElfError). Answers {A = Unit {0}} true w (Err e) (answered r (tt {0})))
    passed came) rose
