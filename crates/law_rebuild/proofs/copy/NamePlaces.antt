-- The places of names, and the pieces of the table of the names, through the changes of copy.
use Rattle.std.proofs.Common.{◌≡◌, ℕ, ◌<◌, Bool, true, false, List, ◌++◌, length, Option, Some, Ok, refl, sym, ap, ◌∙◌, subst, arith, inl, inr}
use Rattle.std.specs.Prelude.{if◌then◌else◌, map}
use Rattle.std.proofs.lemmas.Bool.{cases_eq}
use Rattle.elf_types.specs.declared.records.Shdr.{Shdr}
use Rattle.law_object.specs.elf_object.Object.{Object, Section}
use Rattle.law_object.specs.elf_object.Steps.{with_shdr}
use Rattle.law_object.proofs.elf_object.StepLaws.{section_at-with_shdr, section_at-with_shdr_other}
use Rattle.law_object.specs.elf_object.Sections.{header_at, in_turn}
use Rattle.rebuild_model.specs.Copied.{Changes, with_section_flags, with_bits, changes_names, named}
use Rattle.law_rebuild.proofs.copy.EachChange.{SamePieces, pieces_both, IsFlagged, flagged_known, flagged_follows}
use Rattle.law_rebuild.proofs.copy.NamesAndPlaces.{named_known}
use Rattle.law_rebuild.proofs.copy.AllChanges.{in_turn_there, bytes_follow, bytes_header, flags_follow, flags_pieces, added_grow, IsChanged}

-- ---- Other flags

-- other flags leave it
shdr_name : (o : Object) (n s bits : ℕ) → s < length o.sections
    → (header_at (with_shdr o n (with_bits bits (header_at o n))) s).name ≡ (header_at o s).name
shdr_name o n s bits below = elim (cases_eq s n) [
  | inl same ↦
      subst (λ (k : ℕ).
      (header_at (with_shdr o k (with_bits bits (header_at o k))) s).name ≡ (header_at o s).name)
      same
      (ap (λ (c : Section). c.header.name)
      (section_at-with_shdr o s (with_bits bits (header_at o s)) below))
  | inr other ↦
      ap (λ (c : Section). c.header.name)
      (section_at-with_shdr_other o n s (with_bits bits (header_at o n)) other)
]

flagged_name : (names : List (Option (List ℕ))) (o : Object) (change : List ℕ × ℕ) (p : Object)
    (s : ℕ) → IsFlagged names o change p → s < length o.sections
    → (header_at p s).name ≡ (header_at o s).name
flagged_name names o change p s k below =
    ap (λ (q : Object). (header_at q s).name) k.is ∙ shdr_name o k.number s change.1 below

flags_name : (names : List (Option (List ℕ))) (o : Object) (l : List (List ℕ × ℕ)) (p : Object)
    (s : ℕ) → in_turn (with_section_flags names) o l ≡ Ok p → s < length o.sections
    → (header_at p s).name ≡ (header_at o s).name
flags_name names o l p s =
    in_turn_there (λ old new. (header_at new s).name ≡ (header_at old s).name) s
    (with_section_flags names) (λ a. refl) (λ a b c first second. second ∙ first)
    (λ a x b e. flagged_follows names a x b (flagged_known names a x b e))
    (λ a x b e h. flagged_name names a x b s (flagged_known names a x b e) h) o l p

-- ---- Up to the new sections

-- a section is there still, with its name's place and its pieces
pub record IsKeptUpTo (o updated added : Object) (s : ℕ) : Type 0 where
  pub below : s < length added.sections
  pub index : added.header.shstrndx ≡ o.header.shstrndx
  pub name : (header_at added s).name ≡ (header_at o s).name
  pub pieces : SamePieces updated added s

pub kept_up_to : (c : Changes) (renewed : Bool) (o p : Object) (s : ℕ)
    → (k : IsChanged c renewed o p) → s < length o.sections → IsKeptUpTo o k.updated k.added s
kept_up_to c renewed o p s k below =
    let a = bytes_follow o c.update k.updated k.is_updated in
    let b = flags_follow k.names k.updated c.flags k.flagged k.is_flagged in
    let more_a = a.count in
    let more_b = b.count in
    let in_updated : s < length k.updated.sections = omega (arith, below, more_a) in
    let in_flagged : s < length k.flagged.sections = omega (arith, in_updated, more_b) in
    let g = added_grow k.flagged c.add k.added k.is_added (omega (arith, in_flagged)) in
    let more_c = g.follows.count in
    let same = g.others s in_flagged in
    record {
      below = omega (arith, in_flagged, more_c);
      index = g.follows.index ∙ b.index ∙ a.index;
      name = ap (λ (x : Section). x.header.name) same
          ∙ flags_name k.names k.updated c.flags k.flagged s k.is_flagged in_updated
          ∙ ap (λ (h : Shdr). h.name) (bytes_header o c.update k.updated s k.is_updated below);
      pieces = pieces_both k.updated k.flagged k.added s
          (flags_pieces k.names k.updated c.flags k.flagged s k.is_flagged in_updated)
          (record {
            stype = ap (λ (x : Section). x.header.stype) same;
            pieces = ap (λ (x : Section). x.pieces) same;
          });
    }

-- ---- Where the table of the names is not made anew

-- no option writes it anew
last_plain : (b renewed : Bool) (o : Object) (names : List (Option (List ℕ))) (p : Object)
    → renewed ≡ false → (if b then named renewed o names else Ok o) ≡ Ok p → o ≡ p
last_plain true renewed o names p plain e =
    absurd (let clash : true ≡ false = sym (named_known renewed o names p e).0 ∙ plain in cc)
last_plain false renewed o names p plain e = cc

pub plain_name : (c : Changes) (renewed : Bool) (o p : Object) (s : ℕ)
    → IsChanged c renewed o p → renewed ≡ false → s < length o.sections
    → (header_at p s).name ≡ (header_at o s).name
plain_name c renewed o p s k plain below =
    let same = last_plain (changes_names c) renewed k.added
    (k.names ++ map (λ change. Some change.0) c.add) p plain k.last in
    ap (λ (q : Object). (header_at q s).name) (sym same)
    ∙ (kept_up_to c renewed o p s k below).name

pub plain_pieces : (c : Changes) (renewed : Bool) (o p : Object) (s : ℕ)
    → (k : IsChanged c renewed o p) → renewed ≡ false → s < length o.sections
    → SamePieces k.updated p s
plain_pieces c renewed o p s k plain below =
    let same = last_plain (changes_names c) renewed k.added
    (k.names ++ map (λ change. Some change.0) c.add) p plain k.last in
    subst (λ (q : Object). SamePieces k.updated q s) same
    (kept_up_to c renewed o p s k below).pieces
