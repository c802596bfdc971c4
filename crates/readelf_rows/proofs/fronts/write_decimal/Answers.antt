use Rattle.std.proofs.Common.{arith}
use Rattle.std.proofs.lemmas.Fmt.{length-decimal-le}
use Rattle.readelf_rows.proofs.fronts.write_decimal.Goals as goal

pub write_digits-requires : goal.write_digits-requires
write_digits-requires c =
    let long = length-decimal-le 20 c.args.n (omega arith) (omega arith) c.ranges.n.fits in
    (omega (arith, long, c.requires.room), c.requires.inside)

pub returns-clause-wrote : goal.returns-clause-wrote
returns-clause-wrote c = record {
  place = c.write_digits.ensures.start;
  long = c.write_digits.auto.buf;
  stands = c.write_digits.ensures.written;
}

pub returns-clause-room : goal.returns-clause-room
returns-clause-room c =
    let long = length-decimal-le 20 c.args.n (omega arith) (omega arith) c.ranges.n.fits in
    omega (arith, long, c.write_digits.ensures.start)
