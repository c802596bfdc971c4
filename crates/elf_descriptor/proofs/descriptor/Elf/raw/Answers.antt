use Rattle.std.proofs.Common.{true, [], length, refl, ap, ◌∙◌}
use Rattle.section_table.specs.elf_object.Words.{AlikeBytes}
use Rattle.section_table.specs.elf_object.Object.{Object, section_at}
use Rattle.section_table.specs.elf_object.Calls.{raw_answer}
use Rattle.section_table.specs.elf_object.Calls as calls
use Rattle.elf_descriptor.specs.Reads.{wanted}
use Rattle.elf_descriptor.proofs.Refusals.{answers_passed}
use Rattle.elf_descriptor.proofs.Handing.{handed, handed_like, refused_step, queries_ok, queries_err}
use Rattle.elf_descriptor.proofs.descriptor.Elf.raw.Goals as goal

pub returns-in-Ok : goal.returns-in-Ok
unfolding raw_answer
returns-in-Ok g c = (
  (
    refl,
    (λ w. tt),
    record {
      queries = queries_ok g.S.Source (calls.raw c.args.s.0) [] _ _ c.args.self.now c.load.new.self c.in-Ok.ensures.queries;
      loaded = c.in-Ok.ensures.loaded;
    },
  ),
  record {
    answer = handed c.args.self.now.told (wanted (calls.raw c.args.s.0) c.args.self.now) _ _ c.bytes.result.now c.in-Ok.ensures.answer
        (λ told. c.bytes.ensures.exact (c.in-Ok.ensures.queries.reads.told ∙ told) ∙ ap (λ (o : Object). (section_at o c.args.s.0).raw) c.in-Ok.ensures.queries.object);
    like = handed_like AlikeBytes _ _ c.bytes.result.now (answers_passed true (wanted (calls.raw c.args.s.0) c.args.self.now) _ (tt {0}) (tt {0}) c.in-Ok.ensures.answer)
        (c.bytes.ensures.alike ∙ ap (λ (o : Object). length (section_at o c.args.s.0).raw) c.in-Ok.ensures.queries.object);
    rests = tt;
  },
)

pub returns-in-Err : goal.returns-in-Err
unfolding raw_answer
returns-in-Err g c = (
  (
    refl,
    (λ w. tt),
    record {
      queries = queries_err g.S.Source (calls.raw c.args.s.0) [] c.in-Err.e c.args.self.now c.load.new.self c.in-Err.ensures.queries;
      loaded = tt;
    },
  ),
  record {
    answer = refused_step c.args.self.now.told (wanted (calls.raw c.args.s.0) c.args.self.now) _ _ c.in-Err.e c.in-Err.ensures.answer;
    like = tt;
    rests = tt;
  },
)
