use Rattle.std.proofs.Common.{arith}
use Rattle.elf_xlate.specs.Translation.{encoded}
use Rattle.strtab_shared.proofs.bytes.PartLaws.{form_put}
use Rattle.strtab_shared.proofs.bytes.parts.put_items.Goals as goal

pub append_form-requires : goal.append_form-requires
append_form-requires c =
    omega (arith, c.requires.small, c.saturating_add-most.ensures, c.len-held.ensures)

pub returns : goal.returns
returns c =
    form_put c.args.parts.now c.append_form.new.text
    (encoded c.args.class c.args.order c.args.items.now) c.saturating_add-most.result
    c.append_form.result c.requires
    (omega (arith, c.requires.small, c.requires.inside, c.saturating_add-most.ensures))
    c.append_form.ensures.most c.append_form.ensures.ok c.append_form.ensures.unchanged
    c.append_form.ensures.err
