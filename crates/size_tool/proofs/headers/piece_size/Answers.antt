use Rattle.std.proofs.Common.{arith}
use Rattle.std.proofs.lemmas.Nat.{mul-le}
use Rattle.size_tool.proofs.headers.piece_size.Goals as goal

pub returns-clause-most : goal.returns-clause-most
returns-clause-most c =
    let most = mul-le c.args.count c.args.entry_size 32 64 c.requires.few c.requires.small in
    omega (arith, most)
