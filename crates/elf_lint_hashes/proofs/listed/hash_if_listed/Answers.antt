use Rattle.std.proofs.Common.{◌≡◌, ℕ, List, Option, None, sym, ◌∙◌, subst}
use Rattle.hash_model.specs.elf_object.Strings.{readable, string_answer}
use Rattle.tool_objects.proofs.LearnLemmas.{learns_now}
use Rattle.tool_objects.proofs.at_hand.Ends.{unreadable_past}
use Rattle.elf_lint_hashes.proofs.ListedLemmas.{unread_name}
use Rattle.elf_lint_hashes.proofs.listed.hash_if_listed.Goals as goal

pub returns-then-is_past : goal.returns-then-is_past
returns-then-is_past g c =
    let o = c.args.elf.now.o in
    let l = c.args.l in
    let x = c.args.x in
    learns_now g.S.Source _ _ c.args.elf.now
    (λ told. unread_name o l.section.0 c.args.i x c.args.by
    (subst (λ (n : ℕ). ◌≡◌ {A = Option (List ℕ)} (readable (string_answer o n x.name)) None)
    c.requires.listed.strings
    (unreadable_past o l.strings.0 c.args.end c.from-at.result x.name c.from-at.ensures
    (c.requires.end told) (sym c.is_past.ensures ∙ c.if-is_past.true))))
