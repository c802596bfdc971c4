use Rattle.std.proofs.Common.{true, [], refl, sym, ap, ◌∙◌}
use Rattle.elf_types.specs.declared.records.Kind.TheVariants as kinds
use Rattle.elf_descriptor.specs.elf_object.Words.{AlikeBytes}
use Rattle.elf_descriptor.specs.elf_object.Object.{Object}
use Rattle.elf_descriptor.specs.elf_object.Answers.{bytes_of, items_at, count_at, lend_refusal}
use Rattle.elf_descriptor.specs.Reads.{wanted}
use Rattle.elf_descriptor.proofs.Refusals.{answers_passed}
use Rattle.elf_descriptor.proofs.Handing.{handed, handed_like, refused_step, queries_ok, queries_err}
use Rattle.gelf_view.specs.Calls as calls
use Rattle.gelf_view.proofs.PieceBytes.{bytes_count}
use Rattle.gelf_view.proofs.piece_bytes.bytes.Goals as goal

pub bytes_there-requires-clause-passed : goal.bytes_there-requires-clause-passed
bytes_there-requires-clause-passed g c =
    ap (λ (o : Object). lend_refusal o kinds.Bytes c.args.d.section c.args.d.piece) c.in-Ok.ensures.queries.object
    ∙ answers_passed true (wanted (calls.bytes c.args.d.section c.args.d.piece) c.args.elf.now) _ (tt {0}) (tt {0}) c.in-Ok.ensures.answer

pub returns-in-Ok : goal.returns-in-Ok
returns-in-Ok g c =
    let same = c.in-Ok.ensures.queries.object in
    let passed = answers_passed true (wanted (calls.bytes c.args.d.section c.args.d.piece) c.args.elf.now) (lend_refusal c.args.elf.now.o kinds.Bytes c.args.d.section c.args.d.piece) (tt {0}) (tt {0}) c.in-Ok.ensures.answer in (
      (
        refl,
        (λ w. tt),
        queries_ok g.S.Source (calls.bytes c.args.d.section c.args.d.piece) [] _ _ c.args.elf.now c.fetch_bytes.new.elf c.in-Ok.ensures.queries,
      ),
      record {
        answer = handed c.args.elf.now.told (wanted (calls.bytes c.args.d.section c.args.d.piece) c.args.elf.now) _ _ c.bytes_there.result.now c.in-Ok.ensures.answer
            (λ told. c.bytes_there.ensures.exact (c.in-Ok.ensures.queries.reads.told ∙ told) ∙ ap (λ (o : Object). bytes_of (items_at o c.args.d.section c.args.d.piece)) same);
        like = handed_like AlikeBytes _ _ c.bytes_there.result.now passed
            (c.bytes_there.ensures.count ∙ ap (λ (o : Object). count_at o c.args.d.section c.args.d.piece) same ∙ sym (bytes_count c.args.elf.now.o c.args.d.section c.args.d.piece passed));
        rests = tt;
      },
    )

pub returns-in-Err : goal.returns-in-Err
returns-in-Err g c = (
  (
    refl,
    (λ w. tt),
    queries_err g.S.Source (calls.bytes c.args.d.section c.args.d.piece) [] c.in-Err.e c.args.elf.now c.fetch_bytes.new.elf c.in-Err.ensures.queries,
  ),
  record {
    answer = refused_step c.args.elf.now.told (wanted (calls.bytes c.args.d.section c.args.d.piece) c.args.elf.now) _ _ c.in-Err.e c.in-Err.ensures.answer;
    like = tt;
    rests = tt;
  },
)
