use Rattle.std.proofs.Common.{sym, ◌∙◌, rules}
use Rattle.std.proofs.lemmas.Bool.{not-false}
use denote.Enum.Bare.{same_true}
use Rattle.elf_types.specs.contracts.records.Kind.{the_type}
use Rattle.section_data.specs.Views.{home_view}
use Rattle.section_data.specs.Kept.{unboxed, used_view}
use Rattle.section_data.proofs.Holdings.{none_of}
use Rattle.section_data.proofs.LeadingPieces.{kept_own, kept_clean}
use Rattle.section_data.proofs.kept.Kept.first_end.Goals as goal

pub returns-then-is_own : goal.returns-then-is_own
returns-then-is_own c =
    let inside = c.self.inside in
    kept_own c.args.self.now inside.section
    (home_view inside.at inside.len inside.kind inside.out) inside.empty_read inside.has_first
    inside.first (used_view (unboxed inside.used))
    c.if-not-self.false c.self.view_is c.own_len.result c.own_len.ensures

pub returns : goal.returns
returns c =
    let inside = c.self.inside in
    kept_clean c.args.self.now inside.section
    (home_view inside.at inside.len inside.kind inside.out) inside.empty_read inside.has_first
    inside.first (used_view (unboxed inside.used))
    c.if-not-self.false c.self.view_is c.home_size.result
    (none_of inside.first.own (sym c.is_own.ensures.value ∙ c.if-is_own.false))
    (same_true the_type (search rules) _ _ (not-false _ (sym c.ne.ensures ∙ c.if-ne.false)))
    c.home_size.ensures
