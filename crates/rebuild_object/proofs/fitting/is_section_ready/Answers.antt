use Rattle.std.proofs.Common.{sym, ap, ◌∙◌}
use Rattle.elf_types.specs.declared.records.Class.{Class}
use Rattle.elf_xlate.specs.Headers.{shdr_fits}
use Rattle.elf_xlate.specs.Translation.{is_whole}
use Rattle.rebuild_plan.proofs.rebuild_keep.HomeLaws.{class_told}
use Rattle.rebuild_object.proofs.fitting.is_section_ready.Goals as goal

pub returns : goal.returns
returns g c = λ whole.
    let same = class_told c.args.elf.now.o c.ehdr-class.result c.ehdr-class.ensures in
    record {
      shdr = c.shdr_is_ranged.ensures;
      fits = ap (λ (k : Class). shdr_fits k c.args.h.now) (sym same)
          ∙ sym c.shdr_fits.ensures ∙ c.if-not-shdr_fits.false;
      inside = c.is_inside.ensures c.if-not-is_inside.false;
      whole = ap (λ (k : Class). is_whole c.args.kind k c.args.range.len) (sym same)
          ∙ sym c.is_whole.ensures ∙ whole;
      strings = c.may_have.ensures.strings c.if-not-may_have.false;
      kind_is = c.may_have.ensures.some c.if-not-may_have.false;
    }
