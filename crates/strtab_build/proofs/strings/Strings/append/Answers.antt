use Rattle.std.proofs.Common.{◌≡◌, ◌+◌, ◌<◌, ◌^◌, ◌++◌, ◌∷◌, [], length, None, sym, subst, ap, ◌∙◌, arith}
use Rattle.std.specs.Map.{lookup}
use Rattle.std.proofs.lemmas.Grind.{common_steps}
use Rattle.indexmap.proofs.CallerLemmas.{insert_entry-new}
use Rattle.strtab_build.specs.Names.{IsKept, names_in, unclosed}
use Rattle.strtab_build.specs.Table.{place_of}
use Rattle.strtab_build.proofs.KeptLemmas.{IsKept-as, IsKept-push, distinct-new, length-table-new, names_in-push, place_of-new}
use Rattle.strtab_build.proofs.NamesLemmas.{is_key, key_free, keyed_after}
use Rattle.strtab_build.proofs.strings.Strings.append.Goals as goal

pub overflow_cast-len : goal.overflow_cast-len
overflow_cast-len c =
    let kept = subst (IsKept _ _) c.self.view_is c.self.invariant in
    let long = length-table-new _ _ c.args.self.now c.args.name.now kept c.requires.new in
    let bytes = ap length kept.bytes_are in
    omega (arith, long, bytes, c.requires.fits)

-- what the writes leave
bytes_after : (c : goal.After-unwrap-2)
    → c.extend_from_slice.new.self.items ≡ c.self.inside.bytes.items ++ 0 ∷ c.args.name.now
bytes_after c = grind (arith, common_steps)

entries_after : (c : goal.After-unwrap-2) → c.insert.new.self.entries
    ≡ c.self.inside.entries.entries ++ keyed_after c.args.self.now c.args.name.now ∷ []
entries_after c =
    let kept = subst (IsKept _ _) c.self.view_is c.self.invariant in
    let len = c.self.inside.bytes.ok.0 in
    let start : c.len.result + 1 ≡ length (unclosed c.args.self.now) + 1 =
    omega (arith, ap length kept.bytes_are) in
    let free : lookup (is_key c.args.key) c.self.inside.entries.entries ≡ None =
    (λ j. lookup (is_key (c.requires.key j)) (kept.entries_are j))
    ∙ key_free c.args.self.now c.args.name.now in
    c.in_ok-insert.ensures.entries
    ∙ insert_entry-new is_key c.self.inside.entries c.args.key
    (record { start = c.len.result + 1; len = length c.args.name.now }) free
    ∙ (λ j. c.self.inside.entries.entries
    ++ (c.requires.key j, record { start = start j; len = length c.args.name.now }) ∷ [])

pub invariant_of-self-2 : goal.invariant_of-self-2
invariant_of-self-2 c =
    let kept = subst (IsKept _ _) c.self.view_is c.self.invariant in
    let long = length-table-new _ _ c.args.self.now c.args.name.now kept c.requires.new in
    let fits : length (unclosed c.args.self.now) + length c.args.name.now + 2 < 2 ^ 32 =
    omega (arith, long, ap length kept.bytes_are, c.requires.fits) in
    IsKept-as _ _ _ _ _ (bytes_after c) (entries_after c)
    (IsKept-push _ _ c.args.self.now c.args.name.now kept c.requires.new fits)

names_after : (c : goal.After-unwrap-2)
    → names_in c.extend_from_slice.new.self.items c.insert.new.self.entries
    ≡ c.args.self.now ++ c.args.name.now ∷ []
names_after c =
    let kept = subst (IsKept _ _) c.self.view_is c.self.invariant in
    names_in-push _ _ _ _ c.args.self.now c.args.name.now kept (bytes_after c) (entries_after c)

pub returns-clause-names : goal.returns-clause-names
returns-clause-names c =
    let kept = subst (IsKept _ _) c.self.view_is c.self.invariant in
    names_after c
    ∙ sym (distinct-new c.args.self.now c.args.name.now kept.names_are.once c.requires.new)

pub returns-clause-place : goal.returns-clause-place
returns-clause-place c =
    let kept = subst (IsKept _ _) c.self.view_is c.self.invariant in
    let len = c.self.inside.bytes.ok.0 in
    let start : c.len.result + 1
    ≡ place_of c.args.name.now (c.args.self.now ++ c.args.name.now ∷ []) =
    omega (
      arith,
      place_of-new c.args.self.now c.args.name.now kept.names_are.once c.requires.new,
      ap length kept.bytes_are,
    ) in
    start ∙ ap (place_of c.args.name.now) (sym (names_after c))
