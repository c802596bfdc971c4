use Rattle.std.proofs.Common.{ℕ, Ok, sym, subst}
use Rattle.elf_update_to.specs.Updates.{UpdatesTo}
use Rattle.elf_update_to.proofs.UpdateLaws.{clean_wants, refused}
use Rattle.elf_update_to.proofs.updates.update_clean.Goals as goal

pub returns-in-Err : goal.returns-in-Err
returns-in-Err g c =
    refused g.S.Source g.K.Sink c.in-Err.e c.args.elf.now c.args.sink.now
    (clean_wants c.args.elf.now.o c.in-Err.e c.requires c.in-Err.ensures.err)

pub returns-in-Err-write_base : goal.returns-in-Err-write_base
returns-in-Err-write_base g c = c.in-Err-write_base.ensures

pub returns : goal.returns
returns g c =
    subst (λ (n : ℕ). UpdatesTo g.S.Source g.K.Sink (Ok n) c.args.elf.now c.write_base.new.elf
    c.args.sink.now c.write_base.new.sink) (sym c.base_len-len.ensures) c.in_default.ensures
