use Rattle.std.proofs.Common.{◌≡◌, length, arith, sym, subst, ap, ◌∙◌}
use Rattle.std.specs.Str.{bytes_eq}
use Rattle.strtab_build.specs.Names.{chain_of, hash_of, IsKept}
use Rattle.strtab_build.proofs.KeptLemmas.{IsHeld-empty, IsHeld-found, sought, walked}
use Rattle.strtab_build.proofs.NamesLemmas.{Seeks-end, Seeks-next, Seeks-start, length_le-chain}
use Rattle.strtab_build.proofs.TableLemmas.{length_le-unclosed}
use Rattle.strtab_build.proofs.strings.Strings.find.Goals as goal

pub returns-then-is_empty-clause-held : goal.returns-then-is_empty-clause-held
returns-then-is_empty-clause-held c =
    let kept = subst (IsKept _ _) c.self.view_is c.self.invariant in
    IsHeld-empty _ _ kept.names_are (sym c.is_empty.ensures ∙ c.if-is_empty.true)

pub loop-entry-init : goal.loop-entry-init
loop-entry-init c = Seeks-start c.args.name.now c.args.self.now

pub slice_bounds-eq-end : goal.slice_bounds-eq-end
slice_bounds-eq-end c =
    let kept = subst (IsKept _ _) c.self.view_is c.self.invariant in
    let s = sought _ _ _ c.args.name.now _ _ kept c.hash_of-hash.ensures _ _ _
    c.as_slice-bytes.ensures.value (c.copied.ensures ∙ c.get.ensures.value) c.in-Some.is in
    s.within

pub returns-then-eq-clause-held : goal.returns-then-eq-clause-held
returns-then-eq-clause-held c =
    let kept = subst (IsKept _ _) c.self.view_is c.self.invariant in
    let s = sought _ _ _ c.args.name.now _ _ kept c.hash_of-hash.ensures _ _ _
    c.as_slice-bytes.ensures.value (c.copied.ensures ∙ c.get.ensures.value) c.in-Some.is in
    IsHeld-found _ _ _ _ kept.names_are s.below
    (sym s.compared ∙ sym c.eq.ensures ∙ c.if-eq.true) s.placed

pub overflow_add-repeat : goal.overflow_add-repeat
overflow_add-repeat c =
    let kept = subst (IsKept _ _) c.self.view_is c.self.invariant in
    let s = sought _ _ _ c.args.name.now _ _ kept c.hash_of-hash.ensures _ _ _
    c.as_slice-bytes.ensures.value (c.copied.ensures ∙ c.get.ensures.value) c.in-Some.is in
    omega (
      arith,
      s.along,
      length_le-chain (hash_of c.args.name.now) c.args.self.now,
      length_le-unclosed c.args.self.now,
      kept.names_are.small,
    )

pub loop-entry-smaller : goal.loop-entry-smaller
loop-entry-smaller c =
    let kept = subst (IsKept _ _) c.self.view_is c.self.invariant in
    let s = sought _ _ _ c.args.name.now _ _ kept c.hash_of-hash.ensures _ _ _
    c.as_slice-bytes.ensures.value (c.copied.ensures ∙ c.get.ensures.value) c.in-Some.is in
    omega (arith, s.along)

pub loop-entry-preserved : goal.loop-entry-preserved
loop-entry-preserved c =
    let kept = subst (IsKept _ _) c.self.view_is c.self.invariant in
    let s = sought _ _ _ c.args.name.now _ _ kept c.hash_of-hash.ensures _ _ _
    c.as_slice-bytes.ensures.value (c.copied.ensures ∙ c.get.ensures.value) c.in-Some.is in
    Seeks-next _ _ _ c.loop-entry.invariant s.along
    (ap (bytes_eq c.args.name.now) s.same ∙ sym s.compared ∙ sym c.eq.ensures ∙ c.if-eq.false)

pub returns-clause-new : goal.returns-clause-new
returns-clause-new c =
    let kept = subst (IsKept _ _) c.self.view_is c.self.invariant in
    let end = walked _ _ _ c.args.name.now _ _ kept c.hash_of-hash.ensures _
    (c.copied.ensures ∙ c.get.ensures.value) c.in_default.is in
    record {
      not_empty = sym c.is_empty.ensures ∙ c.if-is_empty.false;
      unused = Seeks-end _ _ _ c.loop-entry.invariant end;
    }

pub returns-clause-key : goal.returns-clause-key
returns-clause-key c =
    let kept = subst (IsKept _ _) c.self.view_is c.self.invariant in
    let end = walked _ _ _ c.args.name.now _ _ kept c.hash_of-hash.ensures _
    (c.copied.ensures ∙ c.get.ensures.value) c.in_default.is in
    let within = c.loop-entry.invariant.within in
    let count : c.loop-entry.repeat
    ≡ length (chain_of (hash_of c.args.name.now) c.args.self.now) = omega (arith, within, end) in
    λ j. (c.hash_of-hash.ensures j, count j)
