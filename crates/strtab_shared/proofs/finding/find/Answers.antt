use Rattle.std.proofs.Common.{sym, subst, ap, ◌∙◌}
use Rattle.std.specs.Prelude.{MatchOption}
use Rattle.std.specs.Ordering.{nat_cmp}
use Rattle.std.specs.BTreeMap.{get}
use Rattle.strtab_build.specs.Names.{IsHeld, IsNew}
use Rattle.strtab_build.proofs.KeptLemmas.{IsHeld-empty}
use Rattle.strtab_shared.specs.Kept.{names_of}
use Rattle.strtab_shared.proofs.KeptLaws.{new_hash}
use Rattle.strtab_shared.proofs.finding.find.Goals as goal

pub returns-then-is_empty : goal.returns-then-is_empty
returns-then-is_empty c =
    IsHeld-empty (names_of c.args.parts.now) c.args.name.now c.requires.names_are
    (sym c.is_empty.ensures ∙ c.if-is_empty.true)

pub returns-in_err-first : goal.returns-in_err-first
returns-in_err-first c =
    let none = sym (ap (get nat_cmp c.args.parts.now.first) c.hash_of.ensures)
    ∙ sym c.get.ensures.value ∙ sym c.copied.ensures ∙ c.in_err-first.was in
    subst (λ o. MatchOption o (IsNew c.args.name.now (names_of c.args.parts.now))
    (IsHeld c.args.name.now (names_of c.args.parts.now))) (sym c.from_residual.ensures)
    (new_hash c.args.parts.now c.args.name.now c.requires
    (sym c.is_empty.ensures ∙ c.if-is_empty.false) none)

pub find_hashed-requires-clause-full : goal.find_hashed-requires-clause-full
find_hashed-requires-clause-full c = sym c.is_empty.ensures ∙ c.if-is_empty.false

pub find_hashed-requires-clause-first : goal.find_hashed-requires-clause-first
find_hashed-requires-clause-first c =
    sym (ap (get nat_cmp c.args.parts.now.first) c.hash_of.ensures) ∙ sym c.get.ensures.value
    ∙ sym c.copied.ensures ∙ c.in_ok-first.was
