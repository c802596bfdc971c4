use Rattle.std.proofs.Common.{ℕ}
use Rattle.elf_object.specs.Calls as calls
use Rattle.tool_files.specs.elf_descriptor.Reads.{wanted}
use Rattle.elf_object.specs.Answers.{words_of}
use Rattle.rebuild_model.specs.Rehashed.{nbucket_of}
use Rattle.rehash_tool.proofs.CallLemmas.{items_given, items_refused}
use Rattle.rehash_tool.proofs.steps.kept_nbucket.Goals as goal

pub returns-in-Ok-clause-gives : goal.returns-in-Ok-clause-gives
returns-in-Ok-clause-gives g c =
    items_given g.S.Source (λ x. x) (λ l. nbucket_of (words_of l)) c.args.n c.args.elf.now _
    (wanted (calls.section_data c.args.n 0) c.args.elf.now) c.data.result c.in-Ok.items
    c.in-Ok.items.now c.nbucket_of.result c.in-Ok.is
    c.in-Ok.ensures.answer c.nbucket_of.ensures.value c.data.follows.holds-at-none

pub returns-in-Err-clause-gives : goal.returns-in-Err-clause-gives
returns-in-Err-clause-gives g c =
    items_refused g.S.Source {U = ℕ} (λ x. x) (λ l. nbucket_of (words_of l)) c.args.n
    c.args.elf.now _ (wanted (calls.section_data c.args.n 0) c.args.elf.now) c.data.result
    c.in-Err.e c.in-Err.is c.in-Err.ensures.answer
    c.data.follows.holds-at-none
