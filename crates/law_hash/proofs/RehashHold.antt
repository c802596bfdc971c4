-- What rehash makes of an object keeps what a lookup finds.
use Rattle.law_hash.specs.Rehash.{RehashedKeepsLookup}
use Rattle.law_hash.proofs.RenumberedLaws.{lookup_kept}
use Rattle.law_hash.proofs.RehashedLaws.{rehash_ends}

pub rehash_keeps_lookup : RehashedKeepsLookup
rehash_keeps_lookup before after s is table =
    let way = (rehash_ends before after s table is).way in
    lookup_kept before after s way.new way.renumbered
