use Rattle.std.proofs.Common.{rules}
use Rattle.elfkit_words.proofs.Letters.{ascii_letter}
use Rattle.elfkit_words.proofs.usages.Usage.takes_option_argument.Goals as goal

pub returns-clause-ascii : goal.returns-clause-ascii
returns-clause-ascii c = ascii_letter c.args.self c.args.letter _ (search rules)
