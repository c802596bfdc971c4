use Rattle.std.proofs.Common.{sym, ap, ◌∙◌, arith}
use Rattle.std.specs.Str.{bytes_eq}
use Rattle.strtab_build.proofs.KeptLemmas.{IsHeld-found}
use Rattle.strtab_shared.specs.Hashes.{quick_hash_of}
use Rattle.strtab_shared.proofs.KeptLaws.{no_other, first_below, first_entry}
use Rattle.strtab_shared.proofs.finding.find_hashed.Goals as goal

pub index-entry-requires : goal.index-entry-requires
index-entry-requires c =
    let below = first_below c.args.parts.now (quick_hash_of c.args.name.now) c.args.first
    c.requires.kept c.requires.first in
    omega (arith, below)

pub is_at-requires : goal.is_at-requires
is_at-requires c =
    (first_entry c.args.parts.now (quick_hash_of c.args.name.now) c.args.first c.index-entry.result.now
    c.requires.kept c.requires.first c.index-entry.ensures).inside

pub returns-then-is_at-clause-held : goal.returns-then-is_at-clause-held
returns-then-is_at-clause-held c =
    let e = first_entry c.args.parts.now (quick_hash_of c.args.name.now) c.args.first
    c.index-entry.result.now c.requires.kept c.requires.first c.index-entry.ensures in
    IsHeld-found _ _ _ _ c.requires.kept.names_are
    (c.requires.kept.indexed.below (quick_hash_of c.args.name.now) c.args.first c.requires.first)
    (ap (bytes_eq c.args.name.now) (sym e.name) ∙ sym c.is_at.ensures ∙ c.if-is_at.true) e.placed

pub returns-in-None-clause-new : goal.returns-in-None-clause-new
returns-in-None-clause-new c =
    let e = first_entry c.args.parts.now (quick_hash_of c.args.name.now) c.args.first
    c.index-entry.result.now c.requires.kept c.requires.first c.index-entry.ensures in
    no_other c.args.parts.now c.args.name.now c.args.first c.requires.full c.requires.first
    (ap (bytes_eq c.args.name.now) (sym e.name) ∙ sym c.is_at.ensures ∙ c.if-is_at.false)
    c.in-None.ensures
