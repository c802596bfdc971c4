-- Sections that are put behind those of an object.
use Rattle.std.proofs.Common.{◌≡◌, inl, ℕ, ◌+◌, ◌-◌, ◌<◌, ◌≤◌, zero, suc, Bool, List, [], ◌∷◌, ◌++◌, length, append-nil, append_assoc, length-append, Result, Ok, Err, refl, sym, ap, ◌∙◌, subst, arith}
use Rattle.std.specs.Prelude.{IsTrue, IfErr, OnOk, sum_by}
use Rattle.std.specs.List.{range_with_len}
use Rattle.std.proofs.lemmas.List.FromFn.{length-range_with_len}
use Rattle.std.proofs.lemmas.List.Sums.{sum_by_push}
use Rattle.elf_types.specs.declared.constants.TheConstants.{MAX_SECTIONS}
use Rattle.elf_types.specs.declared.errors.ElfError.{ElfError}
use Rattle.elf_types.specs.declared.errors.ElfError.TheVariants.{Memory}
use Rattle.elf_outside.specs.declared.sources.Source.{Ghosts}
use Rattle.elf_xlate.specs.declared.content.Items.{Items}
use Rattle.elf_object.specs.Object.{Object, Section}
use Rattle.elf_object.specs.Steps.{with_sections}
use Rattle.elf_object.specs.Valid.{IsObject}
use Rattle.rebuild_plan.specs.elf_descriptor.State.{State}
use Rattle.rebuild_model.specs.Rebuilt.{made_section}
use Rattle.rebuild_plan.specs.rebuild_making.Making.{sections_by}
use Rattle.rebuild_plan.specs.rebuild_making.Made.{with_more, with_last, grown_to}
use Rattle.rebuild_plan.specs.rebuild_keep.Makes.{AsksFor}
use Rattle.rebuild_plan.proofs.rebuild_keep.AskLaws.{asks_nothing, asks_twice, asks_more}
use Rattle.rebuild_plan.specs.declared.arranged.Arranged.{Arranged}
use Rattle.rebuild_object.specs.Objects.{arranged_header, arranged_items, arranged_kind, items_over, range_in, section_range_due, section_ranges_due, arranged_numbers, IsUnstated}
use Rattle.rebuild_object.specs.Filled.{IsReadSection, AreReadSections, HasSectionsOf}
use Rattle.rebuild_object.proofs.ReadLaws.{none_read, one_read, more_read}
use Rattle.rebuild_object.proofs.StatedLaws.{stated_one, stated_none, stated_long, stated_next}

-- ---- Lists

more_none : (o : Object) → o.header.shnum ≡ length o.sections → with_more o [] ≡ o
more_none o count =
    ap (λ (l : List Section). with_sections o l) (append-nil o.sections)
    ∙ ap (λ (n : ℕ). record o { header = record o.header { shnum = n } }) (sym count)

more_twice : (o : Object) (a b : List Section)
    → with_more (with_more o a) b ≡ with_more o (a ++ b)
more_twice o a b =
    ap (λ (l : List Section). with_sections o l) (append_assoc o.sections a b)

range_more : (a n : ℕ) → range_with_len a (suc n) ≡ range_with_len a n ++ (a + n) ∷ []
range_more a zero =
    let same : a ≡ a + 0 = omega arith in ap (λ (k : ℕ). k ∷ []) same
range_more a (suc n) =
    let same : a + 1 + n ≡ a + suc n = omega arith in
    ap (λ (l : List ℕ). a ∷ l) (range_more (a + 1) n)
    ∙ ap (λ (k : ℕ). a ∷ (range_with_len (a + 1) n ++ k ∷ [])) same

due_step : (x : Arranged) (n : ℕ)
    → section_ranges_due x (suc n) ≡ section_ranges_due x n + section_range_due x (1 + n)
due_step x n =
    ap (sum_by (section_range_due x)) (range_more 1 n)
    ∙ sum_by_push (section_range_due x) (range_with_len 1 n) (1 + n)

due_by : (x : Arranged) (m k : ℕ) → section_ranges_due x m ≤ section_ranges_due x (m + k)
due_by x m zero =
    let same : m ≡ m + 0 = omega arith in
    let alike : section_ranges_due x m ≡ section_ranges_due x (m + 0) =
    ap (section_ranges_due x) same in
    omega (arith, alike)
due_by x m (suc k) =
    let before = due_by x m k in
    let step = due_step x (m + k) in
    let same : suc (m + k) ≡ m + suc k = omega arith in
    let alike : section_ranges_due x (suc (m + k)) ≡ section_ranges_due x (m + suc k) =
    ap (section_ranges_due x) same in
    omega (arith, before, step, alike)

due_grows : (x : Arranged) (m n : ℕ) → m ≤ n → section_ranges_due x m ≤ section_ranges_due x n
due_grows x m n low =
    let same : m + (n - m) ≡ n = omega (arith, low) in
    let alike : section_ranges_due x (m + (n - m)) ≡ section_ranges_due x n =
    ap (section_ranges_due x) same in
    let before = due_by x m (n - m) in
    omega (arith, before, alike)

-- ---- One

pub is_memory : {A : Type 0} (r : Result A ElfError) → IfErr r (λ e. e ≡ Memory)
    → IfErr r IsUnstated
is_memory (Ok x) only = tt
is_memory (Err e) only = inl only

pub one_more : {A S : Type 0} (r : Result A ElfError) (told : Bool) (o : Object) (x : Arranged)
    (s : ℕ) (items : Items) (old new : State S)
    → (IsTrue told → items ≡ arranged_items o x s)
    → IsReadSection o x.held (arranged_header x s) (range_in x s) (arranged_kind x s) items
    → OnOk r (new ≡ grown_to old (with_last old.o (made_section (arranged_header x s) items)))
    → OnOk r (HasSectionsOf told o x (s ∷ []) old new)
one_more {A} {S} (Ok u) told o x s items old new exact read is = record {
  sections = made_section (arranged_header x s) items ∷ [];
  object = ap (λ (t : State S). t.o) is;
  told_is = ap (λ (t : State S). t.told) is;
  exact = λ t.
      ap (λ (i : Items). made_section (arranged_header x s) i ∷ []) (exact t)
      ∙ sym (stated_one (arranged_header x) (arranged_items o x) s);
  read = one_read o x s items read;
}
one_more (Err e) told o x s items old new exact read is = tt

-- as many as there are numbers
pub many : {S : Type 0} (told : Bool) (o : Object) (x : Arranged) (numbers : List ℕ)
    (old new : State S) (has : HasSectionsOf told o x numbers old new)
    → length has.sections ≡ length numbers
many told o x numbers old new has =
    ap (λ (l : List Section). length l) has.read.is
    ∙ stated_long (arranged_header x) (items_over has.read.bases o x) numbers

-- ---- One after another

-- the sections before a number were added
pub record AddsBelow {S T : Type 0} (g : Ghosts S) (x : Arranged)
    (first now : State S) (start made : State T) (s : ℕ) : Type 0 where
  pub adds : HasSectionsOf first.told first.o x (range_with_len 1 (s - 1)) start made
  pub asks : AsksFor {T = Unit {0}} g (Ok tt) first now (section_ranges_due x (s - 1))
  pub within : s ≤ length x.listed.headers

module _ {S T : Type 0} (g : Ghosts S) (x : Arranged) (first : State S)
    (start : State T) where
  abbrev So : State S → State T → ℕ → Type 0
  So now made s = AddsBelow g x first now start made s

  pub adds_begin : IsObject start.o → 0 < length x.listed.headers → So first start 1
  adds_begin is some = record {
    within = omega (arith, some);
    adds = record {
      sections = [];
      object = sym (more_none start.o is.shnum);
      told_is = refl;
      exact = λ t. sym (stated_none (arranged_header x) (arranged_items first.o x));
      read = none_read first.o x;
    };
    asks = asks_nothing g (Ok tt) first 0 tt;
  }

  module _ (now : State S) (made : State T) (s : ℕ) (some : 1 ≤ s) (so : So now made s) where
    pub same_object : now.o ≡ first.o
    same_object = so.asks.object

    long_is : length made.o.sections ≡ length start.o.sections + (s - 1)
    long_is =
        ap (λ (o : Object). length o.sections) so.adds.object
        ∙ length-append start.o.sections so.adds.sections
        ∙ ap (λ (n : ℕ). length start.o.sections + n)
        (many first.told first.o x (range_with_len 1 (s - 1)) start made so.adds
        ∙ length-range_with_len 1 (s - 1))

    pub made_room : length start.o.sections ≡ 1 → s < length x.listed.headers
        → length x.listed.headers ≤ MAX_SECTIONS → length made.o.sections < MAX_SECTIONS
    made_room one there few = omega (arith, long_is, one, there, few, some)

    next_number : 1 + (s - 1) ≡ s
    next_number = omega (arith, some)

    due_next : section_ranges_due x (s - 1) + section_range_due x s ≡ section_ranges_due x s
    due_next =
        let same : suc (s - 1) ≡ s = omega (arith, some) in
        ap (λ (n : ℕ). section_ranges_due x (s - 1) + section_range_due x n) (sym next_number)
        ∙ sym (due_step x (s - 1))
        ∙ ap (section_ranges_due x) same

    pub adds_next : (next : State S) (more : State T) → s < length x.listed.headers
        → HasSectionsOf now.told now.o x (s ∷ []) made more
        → AsksFor {T = Unit {0}} g (Ok tt) now next (section_range_due x s)
        → So next more (s + 1)
    adds_next next more there has asks =
        let back : s ≡ s + 1 - 1 = omega arith in
        let done : Result (Unit {0}) ElfError = Ok tt in
        record {
          adds = subst (λ (n : ℕ). HasSectionsOf first.told first.o x (range_with_len 1 n)
              start more) back (record {
                sections = so.adds.sections ++ has.sections;
                object = has.object
                    ∙ ap (λ (o : Object). with_more o has.sections) so.adds.object
                    ∙ more_twice start.o so.adds.sections has.sections;
                told_is = has.told_is ∙ so.adds.told_is;
                exact = λ t.
                    ap (λ (l : List Section). l ++ has.sections) (so.adds.exact t)
                    ∙ ap (λ (l : List Section).
                    sections_by (arranged_header x) (arranged_items first.o x)
                    (range_with_len 1 (s - 1)) ++ l)
                    (has.exact (subst (λ (b : Bool). IsTrue b) (sym so.asks.told) t)
                    ∙ ap (λ (o : Object).
                    sections_by (arranged_header x) (arranged_items o x) (s ∷ []))
                    so.asks.object)
                    ∙ stated_next (arranged_header x) (arranged_items first.o x) s some;
                read = more_read first.o x s some so.adds.sections has.sections so.adds.read
                    (subst (λ (o : Object). AreReadSections o x (s ∷ []) has.sections)
                    so.asks.object has.read);
              });
          asks = subst (λ (n : ℕ).
              AsksFor {T = Unit {0}} g (Ok tt) first next (section_ranges_due x n)) back
              (subst (λ (n : ℕ). AsksFor {T = Unit {0}} g (Ok tt) first next n) due_next
              (asks_twice g done done first now next
              (section_ranges_due x (s - 1)) (section_range_due x s) so.asks asks));
          within = omega (arith, there);
        }

    pub stops_here : (e : ElfError) (next : State S)
        → AsksFor {T = Unit {0}} g (Err e) now next (section_range_due x s)
        → s < length x.listed.headers
        → AsksFor {T = Unit {0}} g (Err e) first next
        (section_ranges_due x (length x.listed.headers - 1))
    stops_here e next asks there =
        let r : Result (Unit {0}) ElfError = Err e in
        let done : Result (Unit {0}) ElfError = Ok tt in
        let low : s ≤ length x.listed.headers - 1 = omega (arith, there) in
        asks_more g r first next (section_ranges_due x s)
        (section_ranges_due x (length x.listed.headers - 1))
        (due_grows x s (length x.listed.headers - 1) low)
        (subst (λ (n : ℕ). AsksFor {T = Unit {0}} g (Err e) first next n) due_next
        (asks_twice g done r first now next
        (section_ranges_due x (s - 1)) (section_range_due x s) so.asks asks))

    -- after the last one
    module _ (last : length x.listed.headers ≤ s) where
      all_are : s - 1 ≡ length x.listed.headers - 1
      all_are =
          let low = so.within in omega (arith, last, low)

      pub adds_all : HasSectionsOf first.told first.o x (arranged_numbers x) start made
      adds_all =
          subst (λ (n : ℕ). HasSectionsOf first.told first.o x (range_with_len 1 n) start made)
          all_are so.adds

      pub asks_all : AsksFor {T = Unit {0}} g (Ok tt) first now
          (section_ranges_due x (length x.listed.headers - 1))
      asks_all =
          subst (λ (n : ℕ). AsksFor {T = Unit {0}} g (Ok tt) first now (section_ranges_due x n))
          all_are so.asks
