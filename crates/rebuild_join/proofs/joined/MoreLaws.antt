-- Sections that are added one after another, and what is asked for them.
use Rattle.std.proofs.Common.{◌≡◌, ℕ, ◌+◌, ◌-◌, ◌<◌, ◌≤◌, Bool, List, [], ◌∷◌, ◌++◌, length, append-nil, append_assoc, length-append, Result, Ok, Err, refl, sym, ap, ◌∙◌, subst, arith}
use Rattle.std.specs.Prelude.{IsTrue, IfErr, OnOk}
use Rattle.std.specs.List.{flat_map, range_with_len}
use Rattle.std.proofs.lemmas.Grind.{flat_map-append}
use Rattle.std.proofs.lemmas.List.Sums.{sum_by-append}
use Rattle.elf_types.specs.declared.records.Shdr.{Shdr}
use Rattle.elf_types.specs.declared.errors.ElfError.{ElfError}
use Rattle.elf_types.specs.declared.errors.ElfError.TheVariants.{Memory}
use Rattle.elf_outside.specs.declared.sources.Source.{Ghosts}
use Rattle.elf_xlate.specs.declared.content.Items.{Items}
use Rattle.rebuild_keep.specs.elf_object.Object.{Object, Section}
use Rattle.rebuild_keep.specs.elf_object.Due.{home_due, homes_due}
use Rattle.rebuild_keep.specs.elf_object.Steps.{with_sections}
use Rattle.rebuild_keep.specs.elf_descriptor.State.{State}
use Rattle.rebuild_keep.specs.elf_descriptor.Reads.{Looks}
use Rattle.rebuild_keep.specs.rebuild_model.Rebuilt.{made_section}
use Rattle.rebuild_keep.specs.rebuild_making.Made.{with_more, with_last, grown_to}
use Rattle.rebuild_keep.specs.rebuild_making.Making.{reading_homes}
use Rattle.rebuild_keep.proofs.rebuild_making.MakingLaws.{read_then_memory, one_unread}
use Rattle.rebuild_keep.specs.Makes.{AsksFor}
use Rattle.rebuild_keep.proofs.AskLaws.{asks_looks}
use Rattle.rebuild_join.specs.Joined.Joined.{HasMoreSections}
use Rattle.rebuild_join.proofs.joined.LoadedLaws.{numbers_next, numbers_after, numbers_split}

-- ---- Sections

nothing_more : (o : Object) → o.header.shnum ≡ length o.sections → o ≡ with_more o []
nothing_more o count =
    ap (λ (n : ℕ). record o { header = record o.header { shnum = n } }) count
    ∙ ap (λ (l : List Section). with_sections o l) (sym (append-nil o.sections))

twice_more : (o : Object) (a b : List Section) → with_more (with_more o a) b ≡ with_more o (a ++ b)
twice_more o a b =
    ap (λ (l : List Section). with_sections o l) (append_assoc o.sections a b)

module _ {S : Type 0} (told : Bool) where
  pub more_none : (s : State S) → s.o.header.shnum ≡ length s.o.sections → HasMoreSections told [] s s
  more_none s count = record {
    sections = [];
    object = nothing_more s.o count;
    long = refl;
    exact = λ t. refl;
    told_is = refl;
  }

  pub more_both : (a b : List Section) (old mid new : State S) → HasMoreSections told a old mid
      → HasMoreSections told b mid new → HasMoreSections told (a ++ b) old new
  more_both a b old mid new first second = record {
    sections = first.sections ++ second.sections;
    object = second.object
        ∙ ap (λ (m : Object). with_more m second.sections) first.object
        ∙ twice_more old.o first.sections second.sections;
    long = length-append first.sections second.sections
        ∙ ap (λ (n : ℕ). n + length second.sections) first.long
        ∙ ap (λ (n : ℕ). length a + n) second.long
        ∙ sym (length-append a b);
    exact = λ t.
        ap (λ (l : List Section). l ++ second.sections) (first.exact t)
        ∙ ap (λ (l : List Section). a ++ l) (second.exact t);
    told_is = second.told_is ∙ first.told_is;
  }

  pub more_as : (a b : List Section) (old new : State S) → a ≡ b → HasMoreSections told a old new
      → HasMoreSections told b old new
  more_as a b old new same is =
      subst (λ (l : List Section). HasMoreSections told l old new) same is

  pub more_count : (a : List Section) (old new : State S) → HasMoreSections told a old new
      → length new.o.sections ≡ length old.o.sections + length a
  more_count a old new is =
      ap (λ (m : Object). length m.sections) is.object
      ∙ length-append old.o.sections is.sections
      ∙ ap (λ (n : ℕ). length old.o.sections + n) is.long

  pub more_class : (a : List Section) (old new : State S) → HasMoreSections told a old new
      → new.o.header.class ≡ old.o.header.class
  more_class a old new is = ap (λ (m : Object). m.header.class) is.object

-- where more is told, as much is
pub more_told : {S : Type 0} (told less : Bool) (a : List Section) (old new : State S)
    → (IsTrue less → IsTrue told) → HasMoreSections told a old new → HasMoreSections less a old new
more_told told less a old new tells is = record {
  sections = is.sections;
  object = is.object;
  long = is.long;
  exact = λ t. is.exact (tells t);
  told_is = is.told_is;
}

pub home_added : {A S : Type 0} (r : Result A ElfError) (told : Bool) (h : Shdr)
    (content stated : Items) (old new : State S) → (IsTrue told → content ≡ stated)
    → OnOk r (new ≡ grown_to old (with_last old.o (made_section h content)))
    → OnOk r (HasMoreSections told (made_section h stated ∷ []) old new)
home_added {A} {S} (Ok x) told h content stated old new exact is = record {
  sections = made_section h content ∷ [];
  object = ap (λ (s : State S). s.o) is;
  long = refl;
  exact = λ t. ap (λ (i : Items). made_section h i ∷ []) (exact t);
  told_is = ap (λ (s : State S). s.told) is;
}
home_added (Err e) told h content stated old new exact is = tt

-- ---- What is asked for one

module _ {S : Type 0} (g : Ghosts S) (old new : State S) (s : ℕ) where
  pub home_asked : {T U : Type 0} (x : T) (q : Result U ElfError) → IfErr q (λ e. e ≡ Memory)
      → Looks g (reading_homes (λ o. s ∷ [])) (Ok x) old new
      → AsksFor g q old new (homes_due old.o [] (s ∷ []))
  home_asked x q only looks =
      asks_looks g q old new (λ (o : Object). s ∷ [])
      (read_then_memory g x q old new (λ (o : Object). s ∷ []) only looks)

  pub home_stopped : {T U : Type 0} (e : ElfError)
      → Looks {T = T} g (reading_homes (λ o. s ∷ [])) (Err e) old new
      → AsksFor {T = U} g (Err e) old new (homes_due old.o [] (s ∷ []))
  home_stopped {T} {U} e looks =
      let q : Result U ElfError = Err e in
      asks_looks g q old new (λ (o : Object). s ∷ [])
      (one_unread {T = T} {U = U} g e old new (λ (o : Object). s ∷ []) looks)

-- ---- What is asked for several

dues_append : (o : Object) (a b : List ℕ)
    → homes_due o [] (a ++ b) ≡ homes_due o [] a + homes_due o [] b
unfolding homes_due
dues_append o a b = sum_by-append (home_due o []) a b

module _ (o : Object) (reads : ℕ → List ℕ) (s : ℕ) (first : 1 ≤ s) where
  pub due_more : homes_due o [] (flat_map reads (range_with_len 1 (s - 1))) + homes_due o [] (reads s)
      ≡ homes_due o [] (flat_map reads (range_with_len 1 (s + 1 - 1)))
  due_more =
      let before = flat_map reads (range_with_len 1 (s - 1)) in
      sym (ap (λ (l : List ℕ). homes_due o [] (flat_map reads l)) (numbers_next s first)
      ∙ ap (homes_due o [])
      (flat_map-append reads (range_with_len 1 (s - 1)) (s ∷ [])
      ∙ ap (λ (l : List ℕ). before ++ l) (append-nil (reads s)))
      ∙ dues_append o before (reads s))

  pub due_less : (n : ℕ) → s < n
      → homes_due o [] (flat_map reads (range_with_len 1 (s - 1))) + homes_due o [] (reads s)
      ≤ homes_due o [] (flat_map reads (range_with_len 1 (n - 1)))
  due_less n there =
      let before = flat_map reads (range_with_len 1 (s - 1)) in
      let after = flat_map reads (numbers_after n s first there) in
      let whole : homes_due o [] (flat_map reads (range_with_len 1 (n - 1)))
      ≡ homes_due o [] before + homes_due o [] (reads s ++ after) =
      ap (λ (l : List ℕ). homes_due o [] (flat_map reads l)) (numbers_split n s first there)
      ∙ ap (homes_due o [])
      (flat_map-append reads (range_with_len 1 (s - 1)) (s ∷ numbers_after n s first there))
      ∙ dues_append o before (reads s ++ after) in
      omega (arith, whole, dues_append o (reads s) after)
