use Rattle.std.proofs.Common.{refl}
use Rattle.elf_descriptor.proofs.Warming.{lent_scn, lent_read}
use Rattle.elf_descriptor.proofs.Unloading.{gone_by}
use Rattle.elf_descriptor.proofs.body.Body.let_go.Goals as goal

pub returns : goal.returns
returns c =
    let read = lent_read c.args.self.now c.args.s _ c.cell_mut-cell.ensures.value in
    gone_by c.args.self.now _ c.args.s c.args.base
    (lent_scn c.args.self.now c.args.s c.cell_mut-cell.result.now) c.unload.new.self read
    c.requires.again refl refl c.unload.ensures.value
