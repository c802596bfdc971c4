-- Steps of copy on what was gathered, one after another.
use Rattle.std.proofs.Common.{◌≡◌, ℕ, ◌+◌, ◌<◌, ◌≤◌, List, length, map, get_or, Result, Ok, Err, subst, arith}
use Rattle.std.specs.Prelude.{OnOk}
use Rattle.std.specs.Prelude.{IfSome}
use Rattle.elf_types.specs.Answers.{◌>>=◌}
use Rattle.elf_object.specs.Object.{Object}
use Rattle.elf_object.specs.Sections.{in_turn}
use Rattle.rebuild_model.specs.Copied.{CopyFault as StatedFault, with_section_flags}
use Rattle.rebuild_changes.specs.declared.changes.NameBytes.{NameBytes}
use Rattle.rebuild_changes.specs.declared.changes.NameBits.{NameBits}
use Rattle.rebuild_changes.specs.declared.faults.CopyFault.{CopyFault}
use Rattle.rebuild_changes.specs.Stated.{bits_pair, stated_copy_fault, IsWithoutDeviceFault}
use Rattle.rebuild_edits.specs.Edits.Names.{names_now}
use Rattle.rebuild_edits.specs.Edits.Steps.{KeepsIndex, Finds}
use Rattle.rebuild_edits.proofs.edits.FaultLaws.{unread_on}
use Rattle.rebuild_edits.proofs.edits.StepLaws.{find_then, find_end, alter_then, alter_end, alter_stop}
use Rattle.rebuild_edits.proofs.edits.TurnLaws.{Turned, turned_none, turned_more, turned_stop, turned_all}
use Rattle.rebuild_edits.proofs.edits.FlagLaws.{Flagged, flagged_none, flagged_more, flagged_stop, flagged_all}
use Rattle.rebuild_plan.specs.declared.arranged.Arranged.{Arranged}
use Rattle.rebuild_copy.specs.Rows.{Origin, IsContents}
use Rattle.rebuild_copy.specs.Steps.{known, ReadsNoMore, Turns, AltersContents, always_holds}

module _ (o : Origin) (p : Object) where
  -- a step that is refused
  pub turns_not : (T : Type 0) (answer : Result Object StatedFault) (f : CopyFault) (y : Arranged)
      → IsWithoutDeviceFault {T = T} (Err f) → IfSome (stated_copy_fault f) (λ d. answer ≡ Err d)
      → Turns {T = T} o p answer (Err f) y
  turns_not T answer f y unread is = record {
    left = p;
    alters = alter_stop T f answer (known p) unread is;
    contents = tt;
  }

  -- the same under another name
  pub turns_as : {T : Type 0} (a b : Result Object StatedFault) (r : Result T CopyFault)
      (y : Arranged) → a ≡ b → Turns o p a r y → Turns o p b r y
  turns_as a b r y same is = subst (λ (x : Result Object StatedFault). Turns o p x r y) same is

  -- a step that finds something, and then one that alters
  pub found_then : {A T U : Type 0} (see : T → A) (answer : Result A StatedFault)
      (next : A → Result Object StatedFault) (t : T) (r : Result U CopyFault) (y : Arranged)
      → Finds see answer (Ok t) (known p) (known p) → Turns o p (next (see t)) r y
      → Turns o p (answer >>= next) r y
  found_then {A} see answer next t r y first second = record {
    left = second.left;
    alters = find_then see answer (λ (q : Object) (a : A). next a) t r (known p) (known p)
        (known second.left) first second.alters;
    contents = second.contents;
  }

  pub found_not : {A T : Type 0} (U : Type 0) (see : T → A) (answer : Result A StatedFault)
      (next : A → Result Object StatedFault) (f : CopyFault) (y : Arranged)
      → Finds {T = T} see answer (Err f) (known p) (known p)
      → Turns {T = U} o p (answer >>= next) (Err f) y
  found_not U see answer next f y first = record {
    left = p;
    alters = find_end U see answer next f (known p) (known p) first;
    contents = tt;
  }

  -- one step that alters, and then another
  pub turns_then : {T U : Type 0} (answer : Result Object StatedFault)
      (next : Object → Result Object StatedFault) (t : T) (r : Result U CopyFault)
      (y z : Arranged) → (first : Turns o p answer (Ok t) y)
      → Turns o first.left (next first.left) r z → Turns o p (answer >>= next) r z
  turns_then answer next t r y z first second = record {
    left = second.left;
    alters = alter_then answer next t r (known p) (known first.left) (known second.left)
        first.alters second.alters;
    contents = second.contents;
  }

  pub turns_end : (T U : Type 0) (answer : Result Object StatedFault)
      (next : Object → Result Object StatedFault) (f : CopyFault) (y z : Arranged)
      → Turns {T = T} o p answer (Err f) y → Turns {T = U} o p (answer >>= next) (Err f) z
  turns_end T U answer next f y z first = record {
    left = first.left;
    alters = alter_end T U answer next f (known p) (known first.left) first.alters;
    contents = tt;
  }

-- ---- Of every object

pub ok_holds : {U : Type 0} (r : Result U CopyFault) (A : Type 0) → A → OnOk r A
ok_holds (Ok u) A is = is
ok_holds (Err f) A is = tt

-- no more is read after both
pub less_then : {U : Type 0} (r : Result U CopyFault) (x y z : Arranged) → ReadsNoMore x y
    → OnOk r (ReadsNoMore y z) → OnOk r (ReadsNoMore x z)
less_then (Ok u) x y z first second = omega (arith, first, second)
less_then (Err f) x y z first second = tt

-- what is known of each holds
pub alters_known : {T : Type 0} (Holds : Object → Type 0)
    (answer : Object → Result Object StatedFault) (r : Result T CopyFault) (x y : Arranged)
    → ((o : Origin) (p : Object) → IsContents o p x → Holds p)
    → AltersContents Holds answer r x y → AltersContents always_holds answer r x y
alters_known Holds answer r x y known step = record {
  unread = step.unread;
  less = step.less;
  turns = λ o p is holds. step.turns o p is (known o p is);
}

pub alters_then : {T U : Type 0} (Holds : Object → Type 0)
    (answer next : Object → Result Object StatedFault) (t : T) (r : Result U CopyFault)
    (x y z : Arranged) → ((p q : Object) → KeepsIndex p q → Holds p → Holds q)
    → AltersContents always_holds answer (Ok t) x y → AltersContents Holds next r y z
    → AltersContents Holds (λ p. answer p >>= next) r x z
alters_then Holds answer next t r x y z stays first second = record {
  unread = second.unread;
  less = less_then r x y z first.less second.less;
  turns = λ o p is holds.
      let one = first.turns o p is tt in
      turns_then o p (answer p) next t r y z one
      (second.turns o one.left one.contents (stays p one.left one.alters.keeps holds));
}

pub alters_end : (T U : Type 0) (Holds : Object → Type 0)
    (answer next : Object → Result Object StatedFault) (f : CopyFault) (x y z : Arranged)
    → AltersContents {T = T} always_holds answer (Err f) x y
    → AltersContents {T = U} Holds (λ p. answer p >>= next) (Err f) x z
alters_end T U Holds answer next f x y z first = record {
  unread = unread_on T U f first.unread;
  less = tt;
  turns = λ o p is holds. turns_end o p T U (answer p) next f y z (first.turns o p is tt);
}

-- ---- Changes one after the other

-- after so many changes
pub record TurnedTo {B X : Type 0} (pair : X → B)
    (change : Object → B → Result Object StatedFault) (xs : List X) (i : ℕ) (o : Origin)
    (p : Object) (y : Arranged) : Type 0 where
  pub left : Object
  pub turned : Turned pair change xs i (known p) (known left)
  pub contents : IsContents o left y

module _ {B X : Type 0} (pair : X → B) (change : Object → B → Result Object StatedFault)
    (xs : List X) (o : Origin) (p : Object) where
  abbrev pub turn_none : (x : Arranged) → IsContents o p x → TurnedTo pair change xs 0 o p x
  turn_none x is =
      record { left = p; turned = turned_none pair change xs (known p); contents = is }

  module _ (i : ℕ) (y : Arranged) (so_far : TurnedTo pair change xs i o p y) where
    abbrev pub turn_by : (x : X) (z : Arranged) → i < length xs → x ≡ get_or xs i x
        → Turns {T = Unit {0}} o so_far.left (change so_far.left (pair x)) (Ok tt) z
        → TurnedTo pair change xs (i + 1) o p z
    turn_by x z below is one = record {
      left = one.left;
      turned = turned_more pair change xs i (known p) (known so_far.left) so_far.turned x
          (known one.left) below is one.alters;
      contents = one.contents;
    }

    pub stop_by : (x : X) (f : CopyFault) (z : Arranged) → i < length xs → x ≡ get_or xs i x
        → Turns {T = Unit {0}} o so_far.left (change so_far.left (pair x)) (Err f) z
        → Turns {T = Unit {0}} o p (in_turn change p (map pair xs)) (Err f) z
    stop_by x f z below is one = record {
      left = one.left;
      alters = turned_stop pair change xs i (known p) (known so_far.left) so_far.turned x f
          (known one.left) below is one.alters;
      contents = tt;
    }

    pub turn_more : (x : X) (z : Arranged) → i < length xs → x ≡ get_or xs i x
        → AltersContents {T = Unit {0}} always_holds (λ q. change q (pair x)) (Ok tt) y z
        → TurnedTo pair change xs (i + 1) o p z
    turn_more x z below is step =
        turn_by x z below is (step.turns o so_far.left so_far.contents tt)

    pub turn_stops : (x : X) (f : CopyFault) (z : Arranged) → i < length xs → x ≡ get_or xs i x
        → AltersContents {T = Unit {0}} always_holds (λ q. change q (pair x)) (Err f) y z
        → Turns {T = Unit {0}} o p (in_turn change p (map pair xs)) (Err f) z
    turn_stops x f z below is step =
        stop_by x f z below is (step.turns o so_far.left so_far.contents tt)

    pub turn_all : length xs ≤ i
        → Turns {T = Unit {0}} o p (in_turn change p (map pair xs)) (Ok tt) y
    turn_all all = record {
      left = so_far.left;
      alters = turned_all pair change xs i (known p) (known so_far.left) so_far.turned all;
      contents = so_far.contents;
    }

-- ---- Flags one after the other, by the names before them

pub record FlaggedTo (marks : List ℕ) (renames : List NameBytes) (changes : List NameBits)
    (i : ℕ) (o : Origin) (p : Object) (y : Arranged) : Type 0 where
  pub left : Object
  pub flagged : Flagged marks renames changes i (known p) (known left)
  pub contents : IsContents o left y

module _ (marks : List ℕ) (renames : List NameBytes) (changes : List NameBits) (o : Origin)
    (p : Object) where
  abbrev one_change : NameBits → Object → Result Object StatedFault
  one_change x q = with_section_flags (names_now q marks renames) q (bits_pair x)

  pub flag_none : (x : Arranged) → IsContents o p x → FlaggedTo marks renames changes 0 o p x
  flag_none x is =
      record { left = p; flagged = flagged_none marks renames changes (known p); contents = is }

  module _ (i : ℕ) (y : Arranged) (so_far : FlaggedTo marks renames changes i o p y) where
    pub flag_more : (Holds : Object → Type 0) (x : NameBits) (z : Arranged) → i < length changes
        → x ≡ get_or changes i x → Holds so_far.left
        → AltersContents {T = Unit {0}} Holds (one_change x) (Ok tt) y z
        → FlaggedTo marks renames changes (i + 1) o p z
    flag_more Holds x z below is holds step =
        let one = step.turns o so_far.left so_far.contents holds in
        record {
          left = one.left;
          flagged = flagged_more marks renames changes i (known p) (known so_far.left)
              so_far.flagged x (known one.left) below is one.alters;
          contents = one.contents;
        }

    pub flag_stops : (Holds : Object → Type 0) (x : NameBits) (f : CopyFault) (z : Arranged)
        → i < length changes → x ≡ get_or changes i x → Holds so_far.left
        → AltersContents {T = Unit {0}} Holds (one_change x) (Err f) y z
        → Turns {T = Unit {0}} o p
        (in_turn (with_section_flags (names_now p marks renames)) p (map bits_pair changes))
        (Err f) z
    flag_stops Holds x f z below is holds step =
        let one = step.turns o so_far.left so_far.contents holds in
        record {
          left = one.left;
          alters = flagged_stop marks renames changes i (known p) (known so_far.left)
              so_far.flagged x f (known one.left) below is one.alters;
          contents = tt;
        }

    pub flag_all : length changes ≤ i
        → Turns {T = Unit {0}} o p
        (in_turn (with_section_flags (names_now p marks renames)) p (map bits_pair changes))
        (Ok tt) y
    flag_all all = record {
      left = so_far.left;
      alters = flagged_all marks renames changes i (known p) (known so_far.left) so_far.flagged
          all;
      contents = so_far.contents;
    }
