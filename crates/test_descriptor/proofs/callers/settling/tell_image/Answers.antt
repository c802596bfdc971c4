use Rattle.std.proofs.Common.{refl, subst, sym, ◌∙◌}
use Rattle.elf_object.specs.Image.{image, image_length}
use Rattle.elf_object.specs.Refusal.{refusal}
use Rattle.elf_object.proofs.AnswerLaws.{answered_value}
use Rattle.elf_update_to.specs.Texts.{IsText}
use Rattle.test_descriptor.proofs.callers.Settles.{put_text}
use Rattle.test_descriptor.proofs.callers.settling.tell_image.Goals as goal

pub returns-in-Err : goal.returns-in-Err
returns-in-Err g c = record {
  leaves = record { same_len = refl; same_bytes = refl; same_rest = refl };
  state = tt;
  passed = tt;
  is = tt;
}

pub returns-in-Ok-update_to : goal.returns-in-Ok-update_to
returns-in-Ok-update_to g c =
    let put = put_text c.in-Ok.sink.bytes.items c.update_to.new.sink.bytes.items
    c.in-Ok-update_to.ensures.text c.in-Ok.ensures.bytes c.in-Ok-update_to.ensures.wrote in
    record {
      leaves = c.in-Ok-update_to.ensures.source.leaves;
      state = c.in-Ok-update_to.ensures.state;
      passed = (answered_value (refusal c.args.elf.now.o) (image_length c.args.elf.now.o) _
          c.in-Ok-update_to.ensures.answer).0;
      is = subst (IsText c.args.elf.now.told (image c.args.elf.now.o))
          (sym (c.into_bytes.ensures ∙ put)) c.in-Ok-update_to.ensures.is;
    }

pub returns-in-Err-update_to : goal.returns-in-Err-update_to
returns-in-Err-update_to g c = record {
  leaves = c.in-Err-update_to.ensures.source.leaves;
  state = tt;
  passed = tt;
  is = tt;
}
