use Rattle.std.proofs.Common.{sym, subst, ap, ◌∙◌, arith}
use Rattle.std.specs.Ordering.{nat_cmp}
use Rattle.std.specs.BTreeMap.{get}
use Rattle.std.specs.Str.{bytes_eq}
use Rattle.strtab_build.proofs.KeptLemmas.{IsHeld-found}
use Rattle.strtab_shared.proofs.KeptLaws.{Walking, walking_begins, at_entry, entry_is, step_smaller, walking_steps, walking_ends}
use Rattle.strtab_shared.proofs.finding.find_follower.Goals as goal

pub loop-next-init : goal.loop-next-init
loop-next-init c =
    walking_begins c.args.parts.now c.args.name.now c.copied-next.result c.requires.kept
    (c.copied-next.ensures ∙ c.get.ensures.value
    ∙ ap (get nat_cmp c.args.parts.now.newest) c.requires.digest)

pub index-entry-requires : goal.index-entry-requires
index-entry-requires c =
    let below = at_entry c.args.parts.now c.args.name.now c.loop-next.next c.in-Some.index
    c.requires.kept c.loop-next.invariant c.in-Some.is in
    omega (arith, below)

pub is_at-requires : goal.is_at-requires
is_at-requires c =
    (entry_is c.args.parts.now c.args.name.now c.loop-next.next c.in-Some.index
    c.requires.kept c.loop-next.invariant c.in-Some.is c.index-entry.result.now
    c.index-entry.ensures).inside

pub returns-then-is_at : goal.returns-then-is_at
returns-then-is_at c =
    let e = entry_is c.args.parts.now c.args.name.now c.loop-next.next c.in-Some.index
    c.requires.kept c.loop-next.invariant c.in-Some.is c.index-entry.result.now
    c.index-entry.ensures in
    IsHeld-found _ _ _ _ c.requires.kept.names_are (c.loop-next.invariant.one _ c.in-Some.is).0
    (ap (bytes_eq c.args.name.now) (sym e.name) ∙ sym c.is_at.ensures ∙ c.if-is_at.true) e.placed

pub loop-next-smaller : goal.loop-next-smaller
loop-next-smaller c =
    step_smaller c.args.parts.now c.args.name.now c.loop-next.next c.in-Some.index
    c.requires.kept c.loop-next.invariant c.in-Some.is c.index-entry.result.now
    c.index-entry.ensures

pub loop-next-preserved : goal.loop-next-preserved
loop-next-preserved c =
    walking_steps c.args.parts.now c.args.name.now c.loop-next.next c.in-Some.index
    c.requires.kept c.loop-next.invariant c.in-Some.is c.index-entry.result.now
    c.index-entry.ensures
    (sym c.is_at.ensures ∙ c.if-is_at.false)

pub returns : goal.returns
returns c =
    walking_ends c.args.parts.now c.args.name.now
    (subst (Walking c.args.parts.now c.args.name.now) c.in_default.is c.loop-next.invariant)
