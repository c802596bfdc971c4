use Rattle.strtab_shared.proofs.bytes.PartLaws.{whole_bytes}
use Rattle.strtab_shared.proofs.bytes.sharing.parts_are_ranged.Goals as goal

pub returns : goal.returns
returns c =
    whole_bytes c.args.parts.now c.as_slice.result.now c.as_slice.ensures
    c.bytes_are_ranged.ensures.bytes
