use Rattle.std.proofs.Common.{ℕ, Option, Ok, sym, ap, ◌∙◌}
use Rattle.symbol_lookup.specs.Lookups.{walked_on}
use Rattle.symbol_lookup.proofs.FollowLaws.{mapped_follows, mapped_ends}
use Rattle.symbol_lookup.proofs.SearchLaws.{searches_value, searches_end}
use Rattle.symbol_lookup.proofs.walking.walk_on.Goals as goal

pub returns-in-Ok-clause-follows : goal.returns-in-Ok-clause-follows
unfolding walked_on
returns-in-Ok-clause-follows g c = λ told.
    mapped_follows _ c.in-Ok.step _ (c.in-Ok.ensures.follows told)
    ∙ ap (λ (best : Option ℕ). Ok (record { best = best; step = c.in-Ok.step })) (sym c.with_least.ensures)

pub returns-in-Ok-clause-searches : goal.returns-in-Ok-clause-searches
returns-in-Ok-clause-searches g c = λ n has. searches_value g.S.Source n c.in-Ok.step _ c.args.elf.now c.next_on.new.elf (c.in-Ok.ensures.searches n has)

pub returns-in-Err-clause-follows : goal.returns-in-Err-clause-follows
unfolding walked_on
returns-in-Err-clause-follows g c = λ told. mapped_ends _ c.in-Err.e _ (c.in-Err.ensures.follows told)

pub returns-in-Err-clause-searches : goal.returns-in-Err-clause-searches
returns-in-Err-clause-searches g c = λ n has. searches_end g.S.Source n c.in-Err.e c.args.elf.now c.next_on.new.elf (c.in-Err.ensures.searches n has)
