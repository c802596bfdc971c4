use Rattle.std.proofs.Common.{Option, inl, ap, sym, subst}
use Rattle.std.specs.Option.{option_map}
use Rattle.elf_object.specs.elf_xlate.declared.content.Items.{Items}
use Rattle.elf_object.specs.Answers.{bytes_of}
use Rattle.section_data.specs.Leaves.{bytes_or_none}
use Rattle.section_data.specs.Nuls.{IsEndedFront}
use Rattle.section_data.proofs.used.ended_in.Goals as goal

pub returns-in-Some : goal.returns-in-Some
returns-in-Some c =
    let front = c.ended.result.now in
    subst (λ (r : Option Items). IsEndedFront (bytes_or_none (option_map bytes_of r)) front)
    (sym c.in-Some.is) c.ended.ensures

pub returns-in-None : goal.returns-in-None
returns-in-None c =
    inl (ap (λ (r : Option Items). bytes_or_none (option_map bytes_of r)) (sym c.in-None.is))
