use Rattle.std.proofs.Common.{◌==◌}
use Rattle.byte_search.proofs.FirstPlaces.{is_first_place}
use Rattle.byte_search.proofs.find_byte.Goals as goal

pub returns : goal.returns
returns c =
    is_first_place (λ b. b == c.args.byte) c.args.bytes.now c.memchr.result c.memchr.ensures
