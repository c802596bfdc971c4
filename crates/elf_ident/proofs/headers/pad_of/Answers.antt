use Rattle.std.proofs.Common.{◌<◌, drop, arith}
use Rattle.std.proofs.lemmas.List.Elements.{All-from_get_or, All-take, All-drop}
use Rattle.elf_ident.proofs.headers.pad_of.Goals as goal

pub returns-clause-bytes : goal.returns-clause-bytes
returns-clause-bytes c =
    let bytes = All-from_get_or (λ n. n < 256) c.args.bytes.now 0 (λ i lies. let h = c.type_inv.bytes i in omega (arith, h)) in
    rw c.copy_from_slice.ensures.after (All-take (λ n. n < 256) 7 (drop 9 c.args.bytes.now) (All-drop (λ n. n < 256) 9 c.args.bytes.now bytes))
