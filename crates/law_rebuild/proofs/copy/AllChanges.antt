-- What all changes of copy leave of an object, one after the other.
use Rattle.std.proofs.Common.{◌≡◌, ◌≢◌, ℕ, ◌<◌, Bool, true, false, List, [], ◌∷◌, ◌++◌, length, map, Option, Some, None, Result, Ok, Err, refl, sym, ap, ◌∙◌, subst, arith}
use Rattle.std.specs.Prelude.{if◌then◌else◌, nat_eq}
use Rattle.std.specs.List.{list_any}
use Rattle.std.proofs.lemmas.Bool.{or_parts, eqb-false}
use Rattle.std.proofs.lemmas.List.Folds.{list_any-append}
use Rattle.law_object.proofs.elf_ident.Refusals.{bind_ok}
use Rattle.law_object.specs.elf_object.Object.{Object, Section, section_at}
use Rattle.law_object.specs.elf_object.Sections.{header_at, is_among, in_turn}
use Rattle.rebuild_model.specs.Removed.{removed_by_name}
use Rattle.rebuild_model.specs.Arranged.{Rebuilt, arranged, place_from, section_from}
use Rattle.rebuild_model.specs.Rebuilt.{rebuilt, renews_names}
use Rattle.rebuild_model.specs.Copied.{Changes, CopyFault, or_strip, names_in, section_named, with_bytes, with_name, with_section_flags, with_added, named, changes_names, with_changes, copied}
use Rattle.rebuild_model.specs.KeepingLaws.{or_nowhere, chosen_for_bytes, chosen_for_names, chosen_for_flags, or_old, chosen, without_places}
use Rattle.law_rebuild.proofs.strip.ArrangedLaws.{arranged_keeps}
use Rattle.law_rebuild.proofs.strip.MadeSections.{section_placed}
use Rattle.law_rebuild.proofs.copy.EachChange.{Follows, KeepsHeader, SamePieces, follows_itself, follows_both, pieces_itself, pieces_both, or_strip_ok, updated_known, updated_follows, updated_header, updated_pieces, flagged_known, flagged_follows, flagged_header, flagged_pieces, added_known, added_follows}
use Rattle.law_rebuild.proofs.copy.NamesAndPlaces.{named_known, names_follow, names_header, names_pieces, places_header, places_pieces, places_follow}

-- ---- One after the other

-- what each change keeps all of them keep
pub in_turn_each : {A B E : Type 0} (R : A → A → Type 0) (change : A → B → Result A E)
    → ((a : A) → R a a) → ((a b c : A) → R a b → R b c → R a c)
    → ((a : A) (x : B) (b : A) → change a x ≡ Ok b → R a b)
    → (a : A) (l : List B) (c : A) → in_turn change a l ≡ Ok c → R a c
unfolding in_turn
in_turn_each R change itself both each a [] c e =
    let same : a ≡ c = cc in subst (R a) same (itself a)
in_turn_each R change itself both each a (x ∷ l) c e =
    let next = bind_ok (change a x) (λ b. in_turn change b l) c e in
    both a next.0 c (each a x next.0 next.1)
    (in_turn_each R change itself both each next.0 l c next.2)

-- what each change keeps of a section that is there
record StaysThere (R : Object → Object → Type 0) (s : ℕ) (old new : Object) : Type 0 where
  stays : s < length old.sections → R old new × (s < length new.sections)

pub in_turn_there : {B E : Type 0} (R : Object → Object → Type 0) (s : ℕ)
    (change : Object → B → Result Object E)
    → ((o : Object) → R o o) → ((a b c : Object) → R a b → R b c → R a c)
    → ((a : Object) (x : B) (b : Object) → change a x ≡ Ok b → Follows a b)
    → ((a : Object) (x : B) (b : Object) → change a x ≡ Ok b → s < length a.sections → R a b)
    → (o : Object) (l : List B) (p : Object) → in_turn change o l ≡ Ok p
    → s < length o.sections → R o p
in_turn_there R s change itself both follows each o l p e below =
    let all = in_turn_each (StaysThere R s) change
    (λ a. record { stays = λ h. (itself a, h) })
    (λ a b c first second. record {
      stays = λ h.
          let one = first.stays h in
          let two = second.stays one.1 in
          (both a b c one.0 two.0, two.1);
    })
    (λ a x b f. record {
      stays = λ h.
          let more = (follows a x b f).count in
          (each a x b f h, omega (arith, h, more));
    }) o l p e in
    (all.stays below).0

-- ---- Numbers that are not among others

pub among_parts : (l m : List ℕ) (s : ℕ) → is_among (l ++ m) s ≡ false
    → (is_among l s ≡ false) × (is_among m s ≡ false)
unfolding is_among
among_parts l m s e =
    or_parts (list_any (nat_eq s) l) (list_any (nat_eq s) m)
    (sym (list_any-append (nat_eq s) l m) ∙ e)

pub not_the_one : (s n : ℕ) → is_among (n ∷ []) s ≡ false → s ≢ n
unfolding is_among
not_the_one s n e = eqb-false s n (or_parts (nat_eq s n) false e).0

-- ---- Changes of bytes

pub bytes_follow : (o : Object) (l : List (List ℕ × List ℕ)) (p : Object)
    → in_turn with_bytes o l ≡ Ok p → Follows o p
bytes_follow = in_turn_each Follows with_bytes follows_itself follows_both
    (λ a x b e. updated_follows a x b (updated_known a x b e))

-- headers stay
pub bytes_header : (o : Object) (l : List (List ℕ × List ℕ)) (p : Object) (s : ℕ)
    → in_turn with_bytes o l ≡ Ok p → s < length o.sections → header_at p s ≡ header_at o s
bytes_header o l p s =
    in_turn_there (λ old new. header_at new s ≡ header_at old s) s with_bytes (λ a. refl)
    (λ a b c first second. second ∙ first)
    (λ a x b e. updated_follows a x b (updated_known a x b e))
    (λ a x b e h. updated_header a x b s (updated_known a x b e) h) o l p

-- those of a section that is not chosen stay
pub bytes_pieces : (o : Object) (l : List (List ℕ × List ℕ)) (p : Object) (s : ℕ)
    → in_turn with_bytes o l ≡ Ok p → is_among (chosen_for_bytes o l) s ≡ false → SamePieces o p s
unfolding in_turn chosen_for_bytes
bytes_pieces o [] p s e none =
    let same : o ≡ p = cc in subst (λ (q : Object). SamePieces o q s) same (pieces_itself o s)
bytes_pieces o (x ∷ l) p s e none =
    let next = bind_ok (with_bytes o x) (λ b. in_turn with_bytes b l) p e in
    let k = updated_known o x next.0 next.1 in
    let stated : or_nowhere (section_named (names_in o) x.0)
    ++ elim (with_bytes o x) [ Ok new ↦ chosen_for_bytes new l | Err fault ↦ [] ]
    ≡ (k.number ∷ []) ++ chosen_for_bytes next.0 l =
    ap (λ (r : Result ℕ CopyFault).
    or_nowhere r ++ elim (with_bytes o x) [ Ok new ↦ chosen_for_bytes new l | Err fault ↦ [] ])
    k.chosen
    ∙ ap (λ (r : Result Object CopyFault).
    (k.number ∷ []) ++ elim r [ Ok new ↦ chosen_for_bytes new l | Err fault ↦ [] ]) next.1 in
    let parts = among_parts (k.number ∷ []) (chosen_for_bytes next.0 l) s
    (sym (ap (λ (m : List ℕ). is_among m s) stated) ∙ none) in
    pieces_both o next.0 p s (updated_pieces o x next.0 s k (not_the_one s k.number parts.0))
    (bytes_pieces next.0 l p s next.2 parts.1)

-- ---- Changes of flags

pub flags_follow : (names : List (Option (List ℕ))) (o : Object) (l : List (List ℕ × ℕ))
    (p : Object) → in_turn (with_section_flags names) o l ≡ Ok p → Follows o p
flags_follow names = in_turn_each Follows (with_section_flags names) follows_itself follows_both
    (λ a x b e. flagged_follows names a x b (flagged_known names a x b e))

pub flags_header : (names : List (Option (List ℕ))) (o : Object) (l : List (List ℕ × ℕ))
    (p : Object) (s : ℕ) → in_turn (with_section_flags names) o l ≡ Ok p
    → is_among (chosen_for_flags names l) s ≡ false → KeepsHeader o p s
unfolding in_turn
flags_header names o [] p s e none =
    let same : o ≡ p = cc in subst (λ (q : Object). KeepsHeader o q s) same refl
flags_header names o (x ∷ l) p s e none =
    let next = bind_ok (with_section_flags names o x)
    (λ b. in_turn (with_section_flags names) b l) p e in
    let k = flagged_known names o x next.0 next.1 in
    let stated : or_nowhere (section_named names x.0) ++ chosen_for_flags names l
    ≡ (k.number ∷ []) ++ chosen_for_flags names l =
    ap (λ (r : Result ℕ CopyFault). or_nowhere r ++ chosen_for_flags names l) k.chosen in
    let parts = among_parts (k.number ∷ []) (chosen_for_flags names l) s
    (sym (ap (λ (m : List ℕ). is_among m s) stated) ∙ none) in
    flags_header names next.0 l p s next.2 parts.1
    ∙ flagged_header names o x next.0 s k (not_the_one s k.number parts.0)

pub flags_pieces : (names : List (Option (List ℕ))) (o : Object) (l : List (List ℕ × ℕ))
    (p : Object) (s : ℕ) → in_turn (with_section_flags names) o l ≡ Ok p → s < length o.sections
    → SamePieces o p s
flags_pieces names o l p s =
    in_turn_there (λ old new. SamePieces old new s) s (with_section_flags names)
    (λ a. pieces_itself a s) (λ a b c first second. pieces_both a b c s first second)
    (λ a x b e. flagged_follows names a x b (flagged_known names a x b e))
    (λ a x b e h. flagged_pieces names a x b s (flagged_known names a x b e) h) o l p

-- ---- New sections

-- those that were there stay
pub record Grows (old new : Object) : Type 0 where
  pub follows : Follows old new
  pub others : (s : ℕ) → s < length old.sections → section_at new s ≡ section_at old s

pub added_grow : (o : Object) (l : List (List ℕ × List ℕ)) (p : Object)
    → in_turn with_added o l ≡ Ok p → 0 < length o.sections → Grows o p
unfolding in_turn
added_grow o [] p e some =
    let same : o ≡ p = cc in
    subst (λ (q : Object). Grows o q) same
    (record { follows = follows_itself o; others = λ s h. refl })
added_grow o (x ∷ l) p e some =
    let next = bind_ok (with_added o x) (λ b. in_turn with_added b l) p e in
    let k = added_known o x next.0 next.1 some in
    let count = k.count in
    let rest = added_grow next.0 l p next.2 (omega (arith, count)) in
    record {
      follows = follows_both o next.0 p k.follows rest.follows;
      others = λ s h. rest.others s (omega (arith, h, count)) ∙ k.others s h;
    }

-- ---- All changes

-- what comes between the kinds of changes
pub record IsChanged (c : Changes) (renewed : Bool) (o p : Object) : Type 0 where
  pub updated : Object
  pub is_updated : in_turn with_bytes o c.update ≡ Ok updated
  pub names : List (Option (List ℕ))
  pub is_names : in_turn with_name (names_in updated) c.rename ≡ Ok names
  pub flagged : Object
  pub is_flagged : in_turn (with_section_flags names) updated c.flags ≡ Ok flagged
  pub added : Object
  pub is_added : in_turn with_added flagged c.add ≡ Ok added
  pub last : (if changes_names c
      then named renewed added (names ++ map (λ change. Some change.0) c.add)
      else Ok added) ≡ Ok p

pub changed_known : (c : Changes) (renewed : Bool) (o p : Object)
    → with_changes c renewed o ≡ Ok p → IsChanged c renewed o p
unfolding with_changes
changed_known c renewed o p e =
    let updated = bind_ok (in_turn with_bytes o c.update) _ p e in
    let names = bind_ok (in_turn with_name (names_in updated.0) c.rename) _ p updated.2 in
    let flagged = bind_ok (in_turn (with_section_flags names.0) updated.0 c.flags) _ p names.2 in
    let added = bind_ok (in_turn with_added flagged.0 c.add) _ p flagged.2 in
    record {
      updated = updated.0;
      is_updated = updated.1;
      names = names.0;
      is_names = names.1;
      flagged = flagged.0;
      is_flagged = flagged.1;
      added = added.0;
      is_added = added.1;
      last = added.2;
    }

-- what the last step, the names, leaves of sections and front
pub record NamesLeave (o p : Object) : Type 0 where
  pub follows : Follows o p
  pub header : (s : ℕ) → s < length o.sections → KeepsHeader o p s
  pub pieces : (s : ℕ) → s < length o.sections → s ≢ o.header.shstrndx → SamePieces o p s

pub names_leave : (b : Bool) (renewed : Bool) (o : Object) (names : List (Option (List ℕ)))
    (p : Object) → (if b then named renewed o names else Ok o) ≡ Ok p → NamesLeave o p
names_leave true renewed o names p e =
    let k = named_known renewed o names p e in
    subst (λ (q : Object). NamesLeave o q) (sym k.1) (record {
      follows = names_follow o _;
      header = λ s h. names_header o _ s h;
      pieces = λ s h other. names_pieces o _ s h other;
    })
names_leave false renewed o names p e =
    let same : o ≡ p = cc in
    subst (λ (q : Object). NamesLeave o q) same (record {
      follows = follows_itself o;
      header = λ s h. refl;
      pieces = λ s h other. pieces_itself o s;
    })

added_follow : (o : Object) (l : List (List ℕ × List ℕ)) (p : Object)
    → in_turn with_added o l ≡ Ok p → Follows o p
added_follow = in_turn_each Follows with_added follows_itself follows_both
    (λ a x b e. added_follows a x b e)

pub changes_follow : (c : Changes) (renewed : Bool) (o p : Object)
    → with_changes c renewed o ≡ Ok p → Follows o p
changes_follow c renewed o p e =
    let k = changed_known c renewed o p e in
    let last = names_leave (changes_names c) renewed k.added
    (k.names ++ map (λ change. Some change.0) c.add) p k.last in
    follows_both o k.updated p (bytes_follow o c.update k.updated k.is_updated)
    (follows_both k.updated k.flagged p
    (flags_follow k.names k.updated c.flags k.flagged k.is_flagged)
    (follows_both k.flagged k.added p (added_follow k.flagged c.add k.added k.is_added)
    last.follows))

-- what all of them leave
pub record ChangesLeave (c : Changes) (renewed : Bool) (o p : Object) : Type 0 where
  pub known : IsChanged c renewed o p
  pub follows : Follows o p
  pub header : (s : ℕ) → s < length o.sections
      → is_among (chosen_for_flags known.names c.flags) s ≡ false → KeepsHeader o p s
  pub pieces : (s : ℕ) → s < length o.sections → s ≢ o.header.shstrndx
      → SamePieces known.updated p s

pub changes_leave : (c : Changes) (renewed : Bool) (o p : Object) → 0 < length o.sections
    → with_changes c renewed o ≡ Ok p → ChangesLeave c renewed o p
changes_leave c renewed o p some e =
    let k = changed_known c renewed o p e in
    let a = bytes_follow o c.update k.updated k.is_updated in
    let b = flags_follow k.names k.updated c.flags k.flagged k.is_flagged in
    let ab = follows_both o k.updated k.flagged a b in
    let more_a = a.count in
    let more_b = ab.count in
    let g = added_grow k.flagged c.add k.added k.is_added (omega (arith, some, more_b)) in
    let more_c = g.follows.count in
    let d = names_leave (changes_names c) renewed k.added
    (k.names ++ map (λ change. Some change.0) c.add) p k.last in
    record {
      known = k;
      follows = changes_follow c renewed o p e;
      header = λ s h none.
          d.header s (omega (arith, h, more_b, more_c))
          ∙ ap (λ (x : Section). without_places x.header)
          (g.others s (omega (arith, h, more_b)))
          ∙ flags_header k.names k.updated c.flags k.flagged s k.is_flagged none
          ∙ ap without_places (bytes_header o c.update k.updated s k.is_updated h);
      pieces = λ s h other.
          let in_updated : s < length k.updated.sections = omega (arith, h, more_a) in
          let in_flagged : s < length k.flagged.sections = omega (arith, h, more_b) in
          let in_added : s < length k.added.sections = omega (arith, h, more_b, more_c) in
          let same = g.others s in_flagged in
          pieces_both k.updated k.flagged p s
          (flags_pieces k.names k.updated c.flags k.flagged s k.is_flagged in_updated)
          (pieces_both k.flagged k.added p s
          (record {
            stype = ap (λ (x : Section). x.header.stype) same;
            pieces = ap (λ (x : Section). x.pieces) same;
          })
          (d.pieces s in_added
          (λ clash. other (clash ∙ g.follows.index ∙ ab.index))));
    }

-- ---- The sections that an option chooses

pub chosen_is : (c : Changes) (renewed : Bool) (o p : Object) → (k : IsChanged c renewed o p)
    → chosen c o ≡ chosen_for_bytes o c.update
    ++ (chosen_for_names (names_in k.updated) c.rename ++ chosen_for_flags k.names c.flags)
unfolding chosen
chosen_is c renewed o p k =
    ap (λ (u : Object).
    let names = or_old (names_in u) (in_turn with_name (names_in u) c.rename) in
    chosen_for_bytes o c.update
    ++ (chosen_for_names (names_in u) c.rename ++ chosen_for_flags names c.flags))
    (ap (or_old o) k.is_updated)
    ∙ ap (λ (r : Result (List (Option (List ℕ))) CopyFault).
    chosen_for_bytes o c.update
    ++ (chosen_for_names (names_in k.updated) c.rename
    ++ chosen_for_flags (or_old (names_in k.updated) r) c.flags)) k.is_names

pub record NotChosen (c : Changes) (o updated : Object) (renamed : List (Option (List ℕ)))
    (s : ℕ) : Type 0 where
  pub bytes : is_among (chosen_for_bytes o c.update) s ≡ false
  pub names : is_among (chosen_for_names (names_in updated) c.rename) s ≡ false
  pub flags : is_among (chosen_for_flags renamed c.flags) s ≡ false

pub not_chosen : (c : Changes) (renewed : Bool) (o p : Object) (s : ℕ)
    → (k : IsChanged c renewed o p) → is_among (chosen c o) s ≡ false
    → NotChosen c o k.updated k.names s
not_chosen c renewed o p s k none =
    let all = among_parts (chosen_for_bytes o c.update)
    (chosen_for_names (names_in k.updated) c.rename ++ chosen_for_flags k.names c.flags) s
    (sym (ap (λ (l : List ℕ). is_among l s) (chosen_is c renewed o p k)) ∙ none) in
    let rest = among_parts (chosen_for_names (names_in k.updated) c.rename)
    (chosen_for_flags k.names c.flags) s all.1 in
    record { bytes = all.0; names = rest.0; flags = rest.1 }

-- ---- The places

pub record PlacesLeave (o p : Object) : Type 0 where
  pub follows : Follows o p
  pub header : (s : ℕ) → s < length o.sections → KeepsHeader o p s
  pub pieces : (s : ℕ) → s < length o.sections → SamePieces o p s

pub places_leave : (old new : Rebuilt) → arranged old ≡ Ok new → PlacesLeave old.object new.object
places_leave old new e =
    arranged_keeps (PlacesLeave old.object) old new e
    (record {
      follows = follows_itself old.object;
      header = λ s h. refl;
      pieces = λ s h. pieces_itself old.object s;
    })
    (λ tail is passed. record {
      follows = places_follow old.object tail;
      header = λ s h. places_header old.object tail s h;
      pieces = λ s h. places_pieces old.object tail s h;
    })

-- the place of each name stays too
from_name : (o : Object) (tail s : ℕ) (c : Section)
    → (section_from o tail s c).header.name ≡ c.header.name
unfolding section_from
from_name o tail s c = by_place (place_from o tail s)
  where
    by_place : (place : Option ℕ) → (let made : Section = elim place [
      | None ↦ c
      | Some at ↦ record c { header = record c.header { offset = at }; marked = true }
    ] in made.header.name) ≡ c.header.name
    by_place None = refl
    by_place (Some at) = refl

pub record KeepsNames (old new : Object) : Type 0 where
  pub stays : (s : ℕ) → s < length old.sections → (header_at new s).name ≡ (header_at old s).name

pub places_names : (old new : Rebuilt) → arranged old ≡ Ok new → KeepsNames old.object new.object
places_names old new e =
    arranged_keeps (KeepsNames old.object) old new e
    (record { stays = λ s h. refl })
    (λ tail is passed. record {
      stays = λ s h.
          ap (λ (c : Section). c.header.name) (section_placed old.object tail s h)
          ∙ from_name old.object tail s (section_at old.object s);
    })

-- ---- What copy makes

pub record IsMadeByCopy (c : Changes) (o : Object) (m : Rebuilt) : Type 0 where
  pub first : Rebuilt
  pub is_first : rebuilt o (removed_by_name c.remove o) ≡ Ok first
  pub changed : Object
  pub is_changed : with_changes c (renews_names o (removed_by_name c.remove o)) first.object
      ≡ Ok changed
  pub places : PlacesLeave changed m.object
  pub named : KeepsNames changed m.object

pub made_known : (c : Changes) (o : Object) (m : Rebuilt) → copied c o ≡ Ok m → IsMadeByCopy c o m
unfolding copied
made_known c o m e =
    let removed = removed_by_name c.remove o in
    let first = bind_ok (or_strip (rebuilt o removed)) _ m e in
    let changed = bind_ok (with_changes c (renews_names o removed) first.0.object) _ m first.2 in
    record {
      first = first.0;
      is_first = or_strip_ok (rebuilt o removed) first.0 first.1;
      changed = changed.0;
      is_changed = changed.1;
      places = places_leave (record { object = changed.0; tail = first.0.tail }) m
          (or_strip_ok (arranged (record { object = changed.0; tail = first.0.tail })) m changed.2);
      named = places_names (record { object = changed.0; tail = first.0.tail }) m
          (or_strip_ok (arranged (record { object = changed.0; tail = first.0.tail })) m changed.2);
    }
