use Rattle.std.proofs.Common.{ℕ, Option, sym, subst}
use Rattle.hash_build.specs.Gnu.{HasHashMore}
use Rattle.hash_build.proofs.BloomLaws.{nothing_more}
use Rattle.hash_build.proofs.bloom.set_listed.Goals as goal

pub returns-in-None : goal.returns-in-None
returns-in-None c =
    subst (λ (h : Option ℕ). HasHashMore c.args.class c.args.shape c.args.words.now
    c.args.words.now h) (sym c.in-None.is)
    (nothing_more c.args.class c.args.shape c.args.words.now)
