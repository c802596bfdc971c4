-- Of an image that was written, opened again, no section's bytes are refused.
use Rattle.std.proofs.Common.{◌≡◌, ℕ, ◌+◌, ◌<◌, ◌≤◌, Bool, true, false, not, ◌&&◌, List, [], ◌∷◌, length, None, Ok, refl, sym, ap, ◌∙◌, subst, arith}
use Rattle.std.specs.Prelude.{nat_lt, if◌then◌else◌, ◌==◌}
use Rattle.std.proofs.lemmas.Bool.{lt-leb}
use Rattle.elf_types.specs.Answers.{refused_if, first_refusal}
use Rattle.elf_types.specs.Lists.{AreBytes}
use Rattle.elf_types.specs.declared.records.Shdr.{Shdr}
use Rattle.elf_types.specs.declared.errors.ElfError.{ElfError}
use Rattle.elf_types.specs.declared.errors.ElfError.TheVariants.{NoSection, OutOfFile}
use Rattle.elf_types.specs.declared.constants.TheConstants.{SHT_NOBITS}
use Rattle.elf_xlate.specs.Translation.{encoded}
use Rattle.elf_object.specs.Object.{Object, Section, section_at, occupies_file}
use Rattle.elf_object.specs.Open.{home_len, home_of, opened_section, opened}
use Rattle.elf_object.specs.Answers.{raw_refusal}
use Rattle.elf_object.specs.Valid.{IsObject, as_opened}
use Rattle.law_rebuild.specs.law_object.Laws.{ReopenLaw}
use Rattle.law_rebuild.proofs.law_object.ByteLaws.{image_are}
use Rattle.law_rebuild.proofs.law_object.KeepLaws.{section_at_is}
use Rattle.law_rebuild.proofs.law_object.OpenLaws.{opened_is}
use Rattle.elf_object.specs.Sections.{header_at}
use Rattle.rebuild_model.specs.Followed.{kept_sections}
use Rattle.rebuild_model.specs.Rebuilt.{rebuilt_items}
use Rattle.rebuild_model.specs.Split.{is_loaded_from_file}
use Rattle.law_rebuild.proofs.strip.RebuiltLaws.{rebuilt_known}
use Rattle.law_rebuild.proofs.strip.WrittenLaws.{written_known}
use Rattle.law_split.specs.Halves.{IsDebugHalf, IsStrippedHalf, origin_number}
use Rattle.law_split.proofs.Again.{ReopensAs, IsFiled, settled_anew, reopened_as, front_reopened}
use Rattle.law_split.proofs.DebugHalf.{IsDebugOf, debug_made, raw_passed, half_reopened, half_count, loaded_filed, other_filed}
use Rattle.law_split.proofs.StrippedHalf.{kept_number, made_without, stripped_reopened, filed}
use Rattle.law_split.proofs.Whole.{section_opened, inside_from, raw_opened}

-- what was written is made of bytes, and what is opened of it is an object
pub reopened_bytes : (q : Object) (out : List ℕ) (p : Object) → ReopensAs q out p → AreBytes out
reopened_bytes q out p w =
    let known = written_known q out w.written in
    subst AreBytes known.1 (image_are q w.ok known.0)

-- ---- A home

pub none_out : (image : List ℕ) (h : Shdr) → home_len h ≡ 0
    → (opened_section image h).home.out ≡ false
unfolding opened_section home_of
none_out image h none =
    ap (λ (n : ℕ). not (n == 0) && nat_lt (length image) (h.offset + n)) none

-- a section with the bytes that its header counts lies in the file
pub filed_inside : (q p : Object) (out : List ℕ) (s : ℕ) (h : Shdr) (bytes : List ℕ)
    → IsObject p → opened out ≡ Ok p → s < length p.sections → IsFiled q p s h bytes
    → (section_at p s).home.out ≡ false
unfolding home_len
filed_inside q p out s h bytes ok again below filed = by_out (section_at p s).home.out refl
  where
    by_type : (b : Bool) → occupies_file h ≡ b → (section_at p s).raw ≡ []
        → (if occupies_file (header_at p s) then (header_at p s).size else 0) ≡ 0
    by_type false e empty =
        ap (λ (c : Bool). if c then (header_at p s).size else 0)
        (ap (λ (x : Shdr). occupies_file x) filed.header ∙ e)
    by_type true e empty =
        let none : bytes ≡ [] =
        sym (ap (λ (c : Bool). if c then bytes else []) e) ∙ sym filed.raw ∙ empty in
        ap (λ (c : Bool). if c then (header_at p s).size else 0)
        (ap (λ (x : Shdr). occupies_file x) filed.header ∙ e)
        ∙ ap (λ (x : Shdr). x.size) filed.header
        ∙ ap (λ (c : Bool). if c then length bytes else h.size) e
        ∙ ap length none

    by_out : (b : Bool) → (section_at p s).home.out ≡ b → (section_at p s).home.out ≡ false
    by_out false e = e
    by_out true e =
        let empty = (section_at_is p s ok).home.outside e in
        ap (λ (c : Section). c.home.out) (section_opened out p s again below)
        ∙ none_out out (header_at p s) (by_type (occupies_file h) refl empty)

inside_passes : (p : Object) (s : ℕ) → s < length p.sections
    → (section_at p s).home.out ≡ false → raw_refusal p s ≡ None
unfolding raw_refusal
inside_passes p s below inside =
    ap (λ (b : Bool). first_refusal (refused_if b (NoSection s (length p.sections))
    ∷ refused_if (section_at p s).home.out (OutOfFile s) ∷ []))
    (lt-leb (length p.sections) s below)
    ∙ ap (λ (b : Bool). first_refusal {E = ElfError} (refused_if b (OutOfFile s) ∷ [])) inside

-- ---- The two halves

pub debug_passes : ((o : Object) → ReopenLaw o) → (whole debug : Object) (s : ℕ)
    → IsDebugHalf whole debug → 1 ≤ s → s < length whole.sections → raw_refusal debug s ≡ None
debug_passes reopens whole debug s is from below =
    by_loaded (is_loaded_from_file (header_at whole s)) refl
  where
    made : IsDebugOf whole is.half
    made = debug_made whole is.half is.is_half

    written : ReopensAs is.half is.out debug
    written = half_reopened whole debug is

    again : debug ≡ as_opened (settled_anew is.half)
    again = reopened_as reopens is.half is.out debug written

    inside : s < length debug.sections
    inside = omega (
      arith,
      below,
      (front_reopened is.half debug again).count,
      ap (λ (x : Object). length x.sections) made.is,
      half_count whole,
    )

    ok : IsObject debug
    ok = opened_is is.out debug (reopened_bytes is.half is.out debug written) is.is_debug

    passes : (h : Shdr) (bytes : List ℕ) → IsFiled is.half debug s h bytes
        → raw_refusal debug s ≡ None
    passes h bytes filed =
        inside_passes debug s inside
        (filed_inside is.half debug is.out s h bytes ok is.is_debug inside filed)

    by_loaded : (b : Bool) → is_loaded_from_file (header_at whole s) ≡ b
        → raw_refusal debug s ≡ None
    by_loaded true e =
        passes (record (header_at whole s) { stype = SHT_NOBITS }) []
        (loaded_filed is.half whole debug s (sym made.is) again from below e)
    by_loaded false e =
        let raw = raw_opened is.image whole s (opened_is is.image whole is.bytes is.is_whole)
        is.is_whole below (inside_from whole s (raw_passed whole s made.raw from below e)) in
        passes (header_at whole s) (section_at whole s).raw
        (other_filed is.half whole debug s (sym made.is) again from below e raw)

pub stripped_passes : ((o : Object) → ReopenLaw o) → (removed : List ℕ)
    (whole stripped : Object) (t : ℕ) → IsStrippedHalf removed whole stripped
    → 1 ≤ t → t < length stripped.sections → raw_refusal stripped t ≡ None
stripped_passes reopens removed whole stripped t is from inside =
    let q = is.made.object in
    let known = rebuilt_known whole removed is.made is.is_made in
    let made = made_without whole removed is.made is.is_made in
    let written = stripped_reopened removed whole stripped is in
    let again = reopened_as reopens is.made.object is.out stripped written in
    let front = front_reopened is.made.object stripped again in
    let below : t < length (kept_sections whole removed) =
    omega (arith, inside, front.count, made.count) in
    let kept = kept_number whole removed t is.first_stays known.kept from below in
    let owned = rebuilt_items whole removed (origin_number whole removed t) in
    let bytes = encoded q.header.class q.header.order owned in
    let one = filed whole stripped q removed made again t from below kept bytes refl in
    let ok = opened_is is.out stripped (reopened_bytes q is.out stripped written) is.is_stripped in
    inside_passes stripped t inside
    (filed_inside q stripped is.out t _ bytes ok is.is_stripped inside one)
