use Rattle.std.proofs.Common.{ℕ, List, Option, refl, sym, ap, ◌∙◌, subst}
use Rattle.elf_object.specs.Strings as strings
use Rattle.tool_output.specs.Reports.{Reports, shown_report}
use Rattle.tool_objects.proofs.ElfSteps.{elf_left, elf_says, elf_unread}
use Rattle.tool_objects.proofs.LearnLemmas.{elf_read}
use Rattle.tool_objects.proofs.at_hand.Ends.{unreadable_past}
use Rattle.nm_tool.specs.Listed.{name_or_none}
use Rattle.nm_tool.specs.Tool.{placed_row}
use Rattle.nm_tool.proofs.ToolLemmas.{row_placed}
use Rattle.nm_tool.proofs.ordered.show_named.Goals as goal

pub returns-then-is_past : goal.returns-then-is_past
returns-then-is_past g c =
    let f = c.args.form in
    let x = c.args.symbol in
    elf_says g.S.Source g.O.Sink g.E.Sink
    (λ o. shown_report (placed_row f.options.now f.file.now o x c.args.place
    (name_or_none (strings.readable (strings.string_answer o c.args.names.0 x.name))))) _
    c.args.elf.now _ c.args.outputs.now _ (elf_left g.S.Source c.args.elf.now)
    (λ told. rw (unreadable_past c.args.elf.now.o c.args.names.0 c.args.end c.from-at.result x.name
    c.from-at.ensures (c.requires told) (sym c.is_past.ensures ∙ c.if-is_past.true))
    (c.show_symbol.ensures.reports c.args.elf.now.o (record { class = refl; headers = refl })))
    c.show_symbol.ensures.leaves

pub returns-in-Ok : goal.returns-in-Ok
returns-in-Ok g c =
    let f = c.args.form in
    let x = c.args.symbol in
    let o = c.args.elf.now.o in
    let names = c.args.names.0 in
    let name = c.in-Ok.name in
    let row = λ (n : Option (List ℕ)).
    placed_row f.options.now f.file.now o x c.args.place (name_or_none n) in
    elf_says g.S.Source g.O.Sink g.E.Sink
    (λ m. shown_report (placed_row f.options.now f.file.now m x c.args.place
    (name_or_none (strings.readable (strings.string_answer m names x.name))))) _
    c.args.elf.now _ c.args.outputs.now _
    (elf_read g.S.Source _ _ c.args.elf.now _ c.in-Ok.is c.string_at.follows.holds-at-none)
    (λ told. subst (λ (text : List ℕ). Reports g.O.Sink g.E.Sink c.show_lettered.result
    c.args.outputs.now c.show_lettered.new.outputs (shown_report text))
    (row_placed f.options.now f.file.now o x c.args.place c.class-class.result
    c.is_undefined-undefined.result c.symbol_letter-letter.result _ c.class-class.ensures
    c.is_undefined-undefined.ensures
    (c.symbol_letter-letter.ensures o (record { class = refl; headers = refl }))
    ∙ ap (placed_row f.options.now f.file.now o x c.args.place) c.name_or_none-shown.ensures
    ∙ ap row (c.in-Ok.ensures.value told
    ∙ ap (λ (k : ℕ). strings.readable (strings.string_answer o names k)) c.from-at.ensures))
    c.show_lettered.ensures.reports) c.show_lettered.ensures.leaves

pub returns-in-Err : goal.returns-in-Err
returns-in-Err g c =
    let f = c.args.form in
    let x = c.args.symbol in
    elf_unread g.S.Source g.O.Sink g.E.Sink _ c.in-Err.stop
    (λ o. shown_report (placed_row f.options.now f.file.now o x c.args.place
    (name_or_none (strings.readable (strings.string_answer o c.args.names.0 x.name)))))
    c.args.elf.now _ c.args.outputs.now (rw c.in-Err.is at c.string_at.follows.holds-at-none)
