use Rattle.std.proofs.Common.{◌≡◌, List, [], ◌∷◌, None, Ok, sym, ap, ◌∙◌, subst}
use Rattle.elf_types.specs.declared.records.Sym.{Sym}
use Rattle.rebuild_names.specs.elf_xlate.declared.content.Items.TheVariants as items
use Rattle.rebuild_names.specs.elf_xlate.Translation.{first_unfit}
use Rattle.rebuild_making.specs.elf_object.Answers.{syms_of}
use Rattle.rebuild_keep.specs.Makes.{FitsAs, SymsFit}
use Rattle.rebuild_keep.specs.Homes.{items_at_home, home_refusal}
use Rattle.rebuild_keep.proofs.FitLaws.{among_fit}
use Rattle.rebuild_keep.proofs.MakeLaws.{makes_then}
use Rattle.rebuild_keep.proofs.homes.own_syms.Goals as goal

pub returns-in-Ok : goal.returns-in-Ok
returns-in-Ok g c =
    let s = c.args.s.0 in
    let class = c.args.elf.now.o.header.class in
    makes_then g.S.Source c.args.elf.now c.home_items.new.elf (λ o. items_at_home o s)
    (λ o. syms_of (items_at_home o s)) FitsAs SymsFit (λ o. home_refusal o s) (λ o. s ∷ [])
    c.in-Ok.items (Ok c.syms_in.result) c.in-Ok.ensures
    (λ same. c.syms_in.ensures ∙ ap syms_of same)
    (λ fits. subst (λ (l : List Sym). first_unfit class (items.Sym l) ≡ None)
    (sym c.syms_in.ensures) (among_fit class c.in-Ok.items fits)) tt
