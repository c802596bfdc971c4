-- Lemmas that the proofs on a round take together.
use Rattle.bench_translation.proofs.Sums.{with_no_symbol, with_none}
use Rattle.bench_translation.proofs.Places.{symbol_there, symbol_past, decoded_round, encoded_round}

pub ruleset decoding = (with_no_symbol, decoded_round)

pub ruleset reading = (symbol_there, symbol_past, with_no_symbol)

pub ruleset encoding = (with_none, encoded_round)
