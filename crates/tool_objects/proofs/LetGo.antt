-- What letting go of a section leaves of a descriptor.
use Rattle.std.proofs.Common.{◌≡◌, ◌≢◌, ◌==◌, ◌||◌, ◌+◌, ◌-◌, ◌<◌, ◌≤◌, ℕ, Bool, true, false, List, [], length, take, get_or, refl, sym, ap, ◌∙◌, arith}
use Rattle.std.specs.Prelude.{slice_set, if◌then◌else◌}
use Rattle.std.specs.List.{sum_by}
use Rattle.std.proofs.lemmas.Bool.{eq-eqb, lt-ltb, le-ltb}
use Rattle.std.proofs.lemmas.List.{get_or-set_other, take_all}
use Rattle.std.proofs.lemmas.List.FromFn.{length-range_with_len, get_or-range_with_len}
use Rattle.std.proofs.lemmas.List.Sums.{sum_by_more, sum_by-take-le}
use Rattle.std.proofs.lemmas.Option.{unwrap_or-slice_get}
use Rattle.gelf_view.specs.elf_object.Object.{Object, section_at}
use Rattle.gelf_view.specs.elf_object.Due.{is_loaded, home_due, homes_due, all_sections}
use Rattle.gelf_view.specs.elf_descriptor.State.{State}
use Rattle.gelf_view.specs.elf_descriptor.Rooms.{can_be_read_again, unloaded}
use Rattle.tool_objects.specs.Steps.{homes_left, homes_total, is_crowded, asked_again}
use Rattle.tool_objects.proofs.OnceSums.{once_range, rose_at}
use Rattle.tool_objects.proofs.OnceReads.{due_falls, nothing_loaded}

-- ---- What is due again

-- a section is as loaded as before, but for the one that was let go
still_loaded : (loaded : List Bool) (s x : ℕ) → x ≢ s
    → is_loaded (slice_set loaded s false) x ≡ is_loaded loaded x
unfolding is_loaded
still_loaded loaded s x other =
    unwrap_or-slice_get (slice_set loaded s false) x false
    ∙ get_or-set_other loaded s x false false other
    ∙ sym (unwrap_or-slice_get loaded x false)

due_again : (o : Object) (loaded : List Bool) (s x : ℕ)
    → home_due o (slice_set loaded s false) x
    ≤ home_due o loaded x + (if s == x then home_due o [] x else 0)
unfolding home_due
due_again o loaded s x = by_test (s == x) refl
  where
    by_test : (t : Bool) → (s == x) ≡ t
        → home_due o (slice_set loaded s false) x
        ≤ home_due o loaded x + (if t then home_due o [] x else 0)
    by_test true is =
        let most = due_falls o [] (slice_set loaded s false) x
        (λ i held. let none = nothing_loaded i in cc) in
        omega (arith, most)
    by_test false is =
        let other : x ≢ s = λ same. (let yes : (s == x) ≡ true = eq-eqb s x (sym same) in cc) in
        let same =
        ap (λ (t : Bool). if t || (section_at o x).home.out then 0 else (section_at o x).home.len)
        (still_loaded loaded s x other) in
        omega (arith, same)

left_more : (o : Object) (loaded : List Bool) (s : ℕ)
    → homes_due o (slice_set loaded s false) (all_sections o)
    ≤ homes_due o loaded (all_sections o) + home_due o [] s
unfolding homes_due
left_more o loaded s =
    rose_at (home_due o loaded) (home_due o (slice_set loaded s false)) (home_due o []) s
    (all_sections o) (once_range 0 (length o.sections)) (due_again o loaded s)

-- ---- What it leaves

-- the object and the source stay, and of the homes so many bytes more may be left
pub record LetsGo {S : Type 0} (bytes : ℕ) (old new : State S) : Type 0 where
  pub object : new.o ≡ old.o
  pub told : new.told ≡ old.told
  pub source : new.source ≡ old.source
  pub left : homes_left new ≤ homes_left old + bytes

module _ {S : Type 0} where
  keeps_all : (bytes : ℕ) (a : State S) → LetsGo bytes a a
  keeps_all bytes a =
      record { object = refl; told = refl; source = refl; left = omega arith }

  lets_go_of : (s : ℕ) (a : State S) → LetsGo (home_due a.o [] s) a (unloaded s a)
  lets_go_of s a = by_test (can_be_read_again a.o s)
    where
      by_test : (t : Bool) → LetsGo (home_due a.o [] s) a
          (if t
          then (record a {
            loaded = slice_set a.loaded s false;
            held = slice_set a.held s false;
          })
          else a)
      by_test true = record {
        object = refl;
        told = refl;
        source = refl;
        left = left_more a.o a.loaded s;
      }
      by_test false = keeps_all (home_due a.o [] s) a

  pub lets_go : (crowded : Bool) (s : ℕ) (a : State S)
      → LetsGo (if crowded then home_due a.o [] s else 0) a (if crowded then unloaded s a else a)
  lets_go true s a = lets_go_of s a
  lets_go false s a = keeps_all 0 a

-- ---- A pass over the sections

-- the bytes of the homes of the first sections, where homes overlap
abbrev pub gone_of : Object → ℕ → ℕ
gone_of o s = if is_crowded o then sum_by (home_due o []) (take s (all_sections o)) else 0

-- a section is one of all
section_short : (o : Object) (s : ℕ) → s < length o.sections → s < length (all_sections o)
section_short o s lt = omega (arith, length-range_with_len 0 (length o.sections), lt)

section_is : (o : Object) (s : ℕ) → s < length o.sections → get_or (all_sections o) s 0 ≡ s
section_is o s lt = omega (arith, get_or-range_with_len 0 (length o.sections) s 0 lt)

-- the bytes of the homes of the first sections, and of one more
pub homes_more : (o : Object) (s : ℕ) → s < length o.sections
    → sum_by (home_due o []) (take (s + 1) (all_sections o))
    ≡ sum_by (home_due o []) (take s (all_sections o)) + home_due o [] s
homes_more o s lt =
    sum_by_more (home_due o []) (all_sections o) s 0 (section_short o s lt)
    ∙ ap (λ n. sum_by (home_due o []) (take s (all_sections o)) + home_due o [] n)
    (section_is o s lt)

pub gone_more : (o : Object) (s : ℕ) → s < length o.sections
    → gone_of o (s + 1) ≡ gone_of o s + (if is_crowded o then home_due o [] s else 0)
gone_more o s lt = by_test (is_crowded o)
  where
    by_test : (t : Bool)
        → (if t then sum_by (home_due o []) (take (s + 1) (all_sections o)) else 0)
        ≡ (if t then sum_by (home_due o []) (take s (all_sections o)) else 0)
        + (if t then home_due o [] s else 0)
    by_test true = homes_more o s lt
    by_test false = refl

-- all of them together
pub gone_within : (o : Object) (s : ℕ) → gone_of o s ≤ asked_again o
unfolding asked_again homes_due
gone_within o s = by_test (is_crowded o)
  where
    by_test : (t : Bool)
        → (if t then sum_by (home_due o []) (take s (all_sections o)) else 0)
        ≤ (if t then sum_by (home_due o []) (all_sections o) else 0)
    by_test true = sum_by-take-le (home_due o []) (all_sections o) s
    by_test false = omega arith

-- ---- Whether homes overlap

-- what a home that is out of the file has there, and what one that lies in it has
pub due_out : (o : Object) (s : ℕ) → (section_at o s).home.out ≡ true → 0 ≡ home_due o [] s
unfolding home_due
due_out o s is = sym (ap (λ (t : Bool). if is_loaded [] s || t then 0 else (section_at o s).home.len) is
    ∙ by_loaded (is_loaded [] s))
  where
    by_loaded : (t : Bool) → (if t || true then 0 else (section_at o s).home.len) ≡ 0
    by_loaded true = refl
    by_loaded false = refl

pub due_in : (o : Object) (s : ℕ) → (section_at o s).home.out ≡ false
    → (section_at o s).home.len ≡ home_due o [] s
unfolding home_due
due_in o s is = sym (
    ap (λ (t : Bool). if t || (section_at o s).home.out then 0 else (section_at o s).home.len)
    (nothing_loaded s)
    ∙ ap (λ (t : Bool). if t then 0 else (section_at o s).home.len) is)

-- of the image so many bytes are left behind the homes of the first sections
abbrev pub LeftOf : Object → ℕ → ℕ → Type 0
LeftOf o i left = left + sum_by (home_due o []) (take i (all_sections o)) ≡ length o.base

pub left_first : (o : Object) (left : ℕ) → left ≡ length o.base → LeftOf o 0 left
left_first o left is = omega (arith, is, none)
  where
    none : sum_by (home_due o []) (take 0 (all_sections o)) ≡ 0
    none = refl

pub left_next : (o : Object) (i left len : ℕ) → i < length o.sections → LeftOf o i left
    → len ≡ home_due o [] i → len ≤ left → LeftOf o (i + 1) (left - len)
left_next o i left len lt h is le = omega (arith, h, is, le, homes_more o i lt)

-- the next home is longer
pub too_long : (o : Object) (i left len : ℕ) → i < length o.sections → LeftOf o i left
    → len ≡ home_due o [] i → left < len → true ≡ is_crowded o
unfolding is_crowded homes_due
too_long o i left len lt h is below = sym (lt-ltb (length o.base) (homes_total o) longer)
  where
    longer : length o.base < homes_total o
    longer =
        let within = sum_by-take-le (home_due o []) (all_sections o) (i + 1) in
        omega (arith, h, is, below, homes_more o i lt, within)

-- or there is none
pub all_fit : (o : Object) (i left : ℕ) → length o.sections ≤ i → LeftOf o i left
    → false ≡ is_crowded o
unfolding is_crowded homes_due
all_fit o i left le h = sym (le-ltb (length o.base) (homes_total o) within)
  where
    whole : take i (all_sections o) ≡ all_sections o
    whole = take_all i (all_sections o) (omega (arith, length-range_with_len 0 (length o.sections), le))

    within : homes_total o ≤ length o.base
    within =
        let same = ap (λ (l : List ℕ). sum_by (home_due o []) l) whole in
        omega (arith, h, same)
