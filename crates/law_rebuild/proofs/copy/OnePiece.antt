-- Each section of what copy makes has at most one piece.
use Rattle.std.proofs.Common.{◌≡◌, ℕ, ◌<◌, Bool, true, false, List, [], ◌∷◌, length, get_or, set, Ok, refl, sym, ap, ◌∙◌, subst, arith, inl, inr, ⊎_elim}
use Rattle.std.specs.Prelude.{if◌then◌else◌, ◌==◌, map}
use Rattle.std.specs.List.{enumerate_from}
use Rattle.std.proofs.lemmas.Bool.{cases_eq, cases_lt}
use Rattle.std.proofs.lemmas.List.{length-map}
use Rattle.std.proofs.lemmas.List.FromFn.{length-enumerate_from}
use Rattle.elf_types.specs.declared.records.Shdr.{Shdr}
use Rattle.law_object.specs.elf_xlate.declared.content.Items.{Items}
use Rattle.law_object.specs.elf_xlate.declared.content.Items.TheVariants as items
use Rattle.law_object.specs.elf_object.Object.{Object, Section, Piece, section_at, piece_at, absent_section, new_section, home_piece, occupies_file}
use Rattle.law_object.specs.elf_object.Steps.{with_own, own_piece, with_ehdr}
use Rattle.law_object.proofs.elf_object.StepLaws.{section_at-with_own, section_at-with_own_other}
use Rattle.law_object.proofs.KeepLaws.{at_or}
use Rattle.law_object.proofs.RangeLaws.{each_made}
use Rattle.law_object.proofs.StandLaws.{section_at-past}
use Rattle.law_object.specs.elf_object.Sections.{in_turn}
use Rattle.rebuild_model.specs.Followed.{kept_sections}
use Rattle.rebuild_model.specs.Arranged.{Rebuilt, section_from, table_place_from, placed_from}
use Rattle.rebuild_model.specs.Rebuilt.{rebuilt, made_section, rebuilt_items, rebuilt_header, rebuilt_section, rebuilt_sections, rebuilt_object, rebuilt_tail}
use Rattle.rebuild_model.specs.Copied.{with_bytes}
use Rattle.law_rebuild.proofs.strip.ArrangedLaws.{arranged_keeps}
use Rattle.law_rebuild.proofs.strip.RebuiltLaws.{rebuilt_known}
use Rattle.law_rebuild.proofs.copy.EachChange.{IsUpdated, updated_known}
use Rattle.law_rebuild.proofs.copy.NamesAndPlaces.{places_pieces}
use Rattle.law_rebuild.proofs.copy.AllChanges.{in_turn_each}
use Rattle.law_rebuild.proofs.copy.Reopened.{front_is}

-- ---- At most one piece

-- a section has no piece, or one, which is aligned to 1
abbrev pub IsAlone : List Piece → Type 0
IsAlone [] = Unit {0}
IsAlone (p ∷ []) = p.align ≡ 1
IsAlone (p ∷ q ∷ ps) = ⊥

abbrev pub AreAlone : Object → Type 0
AreAlone o = (s : ℕ) → IsAlone (section_at o s).pieces

made_alone : (h : Shdr) (own : Items) → IsAlone (made_section h own).pieces
unfolding made_section
made_alone h own = by_test (occupies_file h)
  where
    by_test : (b : Bool) → IsAlone (if b then own_piece own 1 ∷ [] else [])
    by_test true = refl
    by_test false = tt

rebuilt_alone : (o : Object) (removed : List ℕ) (s : ℕ)
    → IsAlone (rebuilt_section o removed s).pieces
unfolding rebuilt_section
rebuilt_alone o removed s = by_test (s == 0)
  where
    by_test : (b : Bool) → IsAlone (if b then new_section
        else made_section (rebuilt_header o removed s) (rebuilt_items o removed s)).pieces
    by_test true = tt
    by_test false = made_alone (rebuilt_header o removed s) (rebuilt_items o removed s)

all_alone : (o : Object) (removed : List ℕ) → AreAlone (rebuilt_object o removed)
unfolding section_at rebuilt_sections
all_alone o removed s =
    subst (λ (l : List Section). IsAlone (get_or l s absent_section).pieces)
    (sym (front_is o removed).sections)
    (at_or (λ (c : Section). IsAlone c.pieces)
    (map (rebuilt_section o removed) (kept_sections o removed)) s absent_section
    (each_made (λ (c : Section). IsAlone c.pieces) (rebuilt_section o removed)
    (kept_sections o removed)
    (λ i. rebuilt_alone o removed i)) tt)

alone_set : (l : List Piece) (own : Items) → IsAlone l
    → IsAlone (set l 0 (own_piece own (get_or l 0 home_piece).align))
alone_set [] own h = tt
alone_set (p ∷ []) own h = h
alone_set (p ∷ q ∷ ps) own h = absurd h

-- the piece that is given
pub one_set : (l : List Piece) (own : Items) → IsAlone l → 0 < length l
    → set l 0 (own_piece own (get_or l 0 home_piece).align) ≡ own_piece own 1 ∷ []
one_set [] own h some = absurd (omega (arith, some))
one_set (p ∷ []) own h some = ap (λ (n : ℕ). own_piece own n ∷ []) h
one_set (p ∷ q ∷ ps) own h some = absurd h

pub own_set : (o : Object) (n : ℕ) (own : Items) → n < length o.sections
    → (section_at (with_own o n 0 own) n).pieces
    ≡ set (section_at o n).pieces 0
    (own_piece own (get_or (section_at o n).pieces 0 home_piece).align)
unfolding piece_at
own_set o n own below = ap (λ (c : Section). c.pieces) (section_at-with_own o n 0 own below)

-- other bytes keep it
own_alone : (o : Object) (n s : ℕ) (own : Items) → n < length o.sections
    → IsAlone (section_at o s).pieces → IsAlone (section_at (with_own o n 0 own) s).pieces
own_alone o n s own below alone = elim (cases_eq s n) [
  | inl same ↦
      subst (λ (k : ℕ). IsAlone (section_at (with_own o n 0 own) k).pieces) (sym same)
      (subst (λ (l : List Piece). IsAlone l) (sym (own_set o n own below))
      (alone_set (section_at o n).pieces own
      (subst (λ (k : ℕ). IsAlone (section_at o k).pieces) same alone)))
  | inr other ↦
      subst (λ (c : Section). IsAlone c.pieces)
      (sym (section_at-with_own_other o n s 0 own other)) alone
]

updated_alone : (o : Object) (change : List ℕ × List ℕ) (p : Object) (s : ℕ)
    → IsUpdated o change p → IsAlone (section_at o s).pieces → IsAlone (section_at p s).pieces
updated_alone o change p s k alone =
    subst (λ (q : Object). IsAlone (section_at q s).pieces) (sym k.is)
    (own_alone o k.number s (items.Bytes change.1) k.below alone)

record AloneStays (s : ℕ) (old new : Object) : Type 0 where
  stays : IsAlone (section_at old s).pieces → IsAlone (section_at new s).pieces

pub bytes_alone : (o : Object) (l : List (List ℕ × List ℕ)) (p : Object) (s : ℕ)
    → in_turn with_bytes o l ≡ Ok p → IsAlone (section_at o s).pieces
    → IsAlone (section_at p s).pieces
bytes_alone o l p s e =
    (in_turn_each (AloneStays s) with_bytes (λ a. record { stays = λ h. h })
    (λ a b c first second. record { stays = λ h. second.stays (first.stays h) })
    (λ a x b f. record { stays = λ h. updated_alone a x b s (updated_known a x b f) h }) o l p
    e).stays

length-placed_from : (o : Object) (tail : ℕ)
    → length (placed_from o tail).sections ≡ length o.sections
unfolding placed_from with_ehdr
length-placed_from o tail = by_test (length o.sections == 0)
  where
    by_test : (b : Bool) → length (if b then o else with_ehdr
        (record o {
          sections = map (λ row. section_from o tail row.0 row.1) (enumerate_from 0 o.sections);
        })
        (record o.header { shoff = table_place_from o tail })).sections ≡ length o.sections
    by_test true = refl
    by_test false =
        length-map (enumerate_from 0 o.sections) (λ row. section_from o tail row.0 row.1)
        ∙ length-enumerate_from 0 o.sections

placed_alone : (o : Object) (tail s : ℕ) → IsAlone (section_at o s).pieces
    → IsAlone (section_at (placed_from o tail) s).pieces
placed_alone o tail s alone =
    ⊎_elim
    (λ below. subst (λ (l : List Piece). IsAlone l)
    (sym (places_pieces o tail s below).pieces) alone)
    (λ past. subst (λ (c : Section). IsAlone c.pieces)
    (sym (section_at-past (placed_from o tail) s
    (omega (arith, past, length-placed_from o tail)))) tt)
    (cases_lt s (length o.sections))

-- what is rebuilt has at most one piece in each section, also with its places
pub rebuilt_pieces : (o : Object) (removed : List ℕ) (r : Rebuilt) → rebuilt o removed ≡ Ok r
    → AreAlone r.object
rebuilt_pieces o removed r e s =
    let known = rebuilt_known o removed r e in
    arranged_keeps (λ q. IsAlone (section_at q s).pieces)
    (record { object = rebuilt_object o removed; tail = rebuilt_tail o removed }) r known.is
    (all_alone o removed s)
    (λ tail is passed. placed_alone (rebuilt_object o removed) tail s (all_alone o removed s))
