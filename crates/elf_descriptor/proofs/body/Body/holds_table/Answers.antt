use Rattle.std.proofs.Common.{◌<◌, length, subst, arith}
use Rattle.section_table.specs.section_data.Views.{CellView}
use Rattle.elf_descriptor.specs.Tables.{HoldsAlone}
use Rattle.elf_descriptor.proofs.body.Body.holds_table.Goals as goal

pub returns-in-Some : goal.returns-in-Some
returns-in-Some c = λ is.
    let there : c.args.s < length c.args.self.now.sections = omega (arith, c.if-s-self.false, c.requires.shnum) in
    record {
      there = there;
      of_strings = c.is_of_strings.ensures c.if-not-is_of_strings.false;
      alone = subst (λ (x : CellView). HoldsAlone x c.args.offset) c.in-Some.ensures.some (c.holds_alone.ensures is);
    }
