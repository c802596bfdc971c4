use Rattle.std.proofs.Common.{true, false, Ok, refl, sym, ◌∙◌}
use Rattle.elf_types.specs.Answers.{stated_refusal}
use Rattle.rehash_tool.proofs.StepLemmas.{keeps_none, keeps_ok, keeps_end}
use Rattle.rehash_tool.proofs.RehashLemmas.{neither, both_done, both_refused, never_done, never_refused}
use Rattle.rehash_tool.proofs.rehashing.rehash_at.Goals as goal

pub returns-then-are_absent-clause-keeps : goal.returns-then-are_absent-clause-keeps
returns-then-are_absent-clause-keeps g c =
    keeps_none g.S.Source (Ok false) c.args.elf.now tt

pub returns-then-are_absent-clause-rehashed : goal.returns-then-are_absent-clause-rehashed
returns-then-are_absent-clause-rehashed g c = λ told.
    neither c.args.elf.now.o c.args.s.0 c.args.gnu c.args.words
    (sym c.are_absent.ensures ∙ c.if-are_absent.true)

pub returns-then-are_absent-clause-none : goal.returns-then-are_absent-clause-none
returns-then-are_absent-clause-none g c = λ is. refl

pub returns-in-Ok-clause-none : goal.returns-in-Ok-clause-none
returns-in-Ok-clause-none g c = λ is. absurd (never_done is)

pub returns-in-Err-clause-none : goal.returns-in-Err-clause-none
returns-in-Err-clause-none g c = λ is. absurd (never_refused c.in-Err.e is)

pub returns-in-Ok-clause-keeps : goal.returns-in-Ok-clause-keeps
returns-in-Ok-clause-keeps g c =
    keeps_ok g.S.Source (tt {0}) true c.args.elf.now c.rehash_both.new.elf c.in-Ok.ensures.keeps

pub returns-in-Ok-clause-rehashed : goal.returns-in-Ok-clause-rehashed
returns-in-Ok-clause-rehashed g c = λ told.
    both_done c.args.elf.now.o c.args.s.0 c.args.gnu c.args.words
    (sym c.are_absent.ensures ∙ c.if-are_absent.false) c.rehash_both.new.elf.o
    (c.in-Ok.ensures.turned told)

pub returns-in-Err-clause-keeps : goal.returns-in-Err-clause-keeps
returns-in-Err-clause-keeps g c =
    keeps_end g.S.Source c.in-Err.e c.args.elf.now c.rehash_both.new.elf c.in-Err.ensures.keeps

pub returns-in-Err-clause-rehashed : goal.returns-in-Err-clause-rehashed
returns-in-Err-clause-rehashed g c = λ told.
    both_refused c.args.elf.now.o c.args.s.0 c.args.gnu c.args.words
    (sym c.are_absent.ensures ∙ c.if-are_absent.false) (stated_refusal c.in-Err.e)
    (c.in-Err.ensures.turned told)
