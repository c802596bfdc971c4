use Rattle.std.proofs.Common.{true, refl, ap, ◌∙◌, subst}
use Rattle.section_table.specs.elf_object.Words.{AlikeItems}
use Rattle.section_table.specs.elf_object.Object.{Object}
use Rattle.section_table.specs.elf_object.Answers.{data_refusal, items_at}
use Rattle.section_table.specs.elf_object.Calls.{data_answer}
use Rattle.section_table.specs.elf_object.Calls as calls
use Rattle.elf_descriptor.specs.Reads.{wanted}
use Rattle.elf_descriptor.proofs.Refusals.{answers_passed}
use Rattle.elf_descriptor.proofs.Handing.{handed, handed_like, refused_step, queries_ok, queries_err}
use Rattle.elf_descriptor.proofs.descriptor.Elf.data.Goals as goal

pub items-requires-clause-passed : goal.items-requires-clause-passed
items-requires-clause-passed g c =
    let wants = wanted (calls.section_data c.args.d.section c.args.d.piece) c.args.self.now in
    ap (λ (o : Object). data_refusal o c.args.d.section c.args.d.piece) c.in-Ok.ensures.looks.object ∙ answers_passed true wants _ (tt {0}) (tt {0}) c.in-Ok.ensures.answer

pub returns-in-Ok : goal.returns-in-Ok
unfolding data_answer
returns-in-Ok g c =
    let call = calls.section_data c.args.d.section c.args.d.piece in
    let wants = wanted call c.args.self.now in
    let same = c.in-Ok.ensures.looks.object in (
      (
        refl,
        (λ w. tt),
        record {
          looks = queries_ok g.S.Source call _ _ _ c.args.self.now c.prepare.new.self c.in-Ok.ensures.looks;
          held = c.in-Ok.ensures.holds;
          loaded = c.in-Ok.ensures.loaded;
        },
      ),
      record {
        answer = handed c.args.self.now.told wants _ _ c.items.result.now c.in-Ok.ensures.answer
            (λ told. c.items.ensures.exact (c.in-Ok.ensures.looks.reads.told ∙ told) ∙ ap (λ (o : Object). items_at o c.args.d.section c.args.d.piece) same);
        like = handed_like AlikeItems _ _ c.items.result.now (answers_passed true wants _ (tt {0}) (tt {0}) c.in-Ok.ensures.answer)
            (subst (λ (o : Object). AlikeItems c.items.result.now (items_at o c.args.d.section c.args.d.piece)) same c.items.ensures.alike);
        rests = tt;
      },
    )

pub returns-in-Err : goal.returns-in-Err
unfolding data_answer
returns-in-Err g c =
    let call = calls.section_data c.args.d.section c.args.d.piece in (
      (
        refl,
        (λ w. tt),
        record {
          looks = queries_err g.S.Source call _ c.in-Err.e c.args.self.now c.prepare.new.self c.in-Err.ensures.looks;
          held = tt;
          loaded = tt;
        },
      ),
      record {
        answer = refused_step c.args.self.now.told (wanted call c.args.self.now) _ _ c.in-Err.e c.in-Err.ensures.answer;
        like = tt;
        rests = tt;
      },
    )
