use Rattle.std.proofs.Common.{ap, ◌∙◌}
use Rattle.std.proofs.lemmas.Option.{IfSome_then}
use Rattle.ar_members.specs.declared.names.NameKind.TheVariants.{Symbols, LongNames, Symbols64, Long, Short}
use Rattle.ar_members.specs.Names.{kind_of_name, short_name_of}
use Rattle.ar_members.proofs.Told.{told_by}
use Rattle.ar_members.proofs.StepLemmas.{named_bad, named_by, long_names_read, long_name_bad, long_name_found, short_name_found}
use Rattle.ar_members.proofs.entries.named_entry.Goals as goal

pub returns-in-None-clause-entry : goal.returns-in-None-clause-entry
returns-in-None-clause-entry g c =
    told_by _ (λ image is. named_bad image c.args.names.now c.args.at c.args.header.now (c.in-None.ensures ∙ ap kind_of_name c.name_field-field.ensures))

pub returns-in-Some-Symbols-clause-entry : goal.returns-in-Some-Symbols-clause-entry
returns-in-Some-Symbols-clause-entry g c =
    told_by _ (λ image is. named_by image c.args.names.now c.args.at c.args.header.now _ Symbols (c.in-Some-Symbols.ensures ∙ ap kind_of_name c.name_field-field.ensures) c.in-Some-Symbols.field-0-is)

pub returns-in-Some-Symbols64-clause-entry : goal.returns-in-Some-Symbols64-clause-entry
returns-in-Some-Symbols64-clause-entry g c =
    told_by _ (λ image is. named_by image c.args.names.now c.args.at c.args.header.now _ Symbols64 (c.in-Some-Symbols64.ensures ∙ ap kind_of_name c.name_field-field.ensures) c.in-Some-Symbols64.field-0-is)

pub returns-in_ok-more-in-Some-LongNames-clause-entry :
    goal.returns-in_ok-more-in-Some-LongNames-clause-entry
returns-in_ok-more-in-Some-LongNames-clause-entry g c =
    IfSome_then _ c.in_ok-more-in-Some-LongNames.ensures.bytes (λ image read.
    named_by image c.args.names.now c.args.at c.args.header.now _ LongNames (c.in-Some-LongNames.ensures ∙ ap kind_of_name c.name_field-field.ensures) c.in-Some-LongNames.field-0-is
    ∙ long_names_read image c.args.names.now c.args.at c.args.header.now c.in_ok-more-in-Some-LongNames.more read c.in_ok-more-in-Some-LongNames.ensures.len)

pub returns-in-None-long_name-clause-entry : goal.returns-in-None-long_name-clause-entry
returns-in-None-long_name-clause-entry g c =
    told_by _ (λ image is.
    named_by image c.args.names.now c.args.at c.args.header.now _ (Long c.in-Some-Long.from) (c.in-Some-Long.ensures ∙ ap kind_of_name c.name_field-field.ensures) c.in-Some-Long.field-0-is
    ∙ long_name_bad image c.args.names.now c.args.at c.args.header.now c.in-Some-Long.from c.in-None-long_name.ensures)

pub returns-in_ok-shown-in-Some-clause-entry : goal.returns-in_ok-shown-in-Some-clause-entry
returns-in_ok-shown-in-Some-clause-entry g c =
    told_by _ (λ image is.
    named_by image c.args.names.now c.args.at c.args.header.now _ (Long c.in-Some-Long.from) (c.in-Some-Long.ensures ∙ ap kind_of_name c.name_field-field.ensures) c.in-Some-Long.field-0-is
    ∙ long_name_found image c.args.names.now c.args.at c.args.header.now c.in-Some-Long.from c.in-Some.name.now _ c.in-Some.ensures c.in_ok-shown-in-Some.ensures.ok)

pub returns-in_ok-shown-in-Some-Short-clause-entry :
    goal.returns-in_ok-shown-in-Some-Short-clause-entry
returns-in_ok-shown-in-Some-Short-clause-entry g c =
    told_by _ (λ image is.
    named_by image c.args.names.now c.args.at c.args.header.now _ Short (c.in-Some-Short.ensures ∙ ap kind_of_name c.name_field-field.ensures) c.in-Some-Short.field-0-is
    ∙ short_name_found image c.args.names.now c.args.at c.args.header.now c.short_name.result.now _ (c.short_name.ensures ∙ ap short_name_of c.name_field-field.ensures) c.in_ok-shown-in-Some-Short.ensures.ok)
