-- The steps of the write phase: the device is lengthened, written, and cut.
use Rattle.std.proofs.Common.{◌≡◌, ◌⊎◌, inl, inr, ℕ, ◌+◌, ◌<◌, ◌≤◌, min, Bool, true, false, List, [], ◌++◌, Option, Some, None, Result, Ok, Err, length, take, drop, refl, sym, ap, ◌∙◌, subst, arith, ⊎_elim}
use Rattle.std.specs.Prelude.{IsTrue, IsSome, IfSome, is_some, sum_by, OnOk, OnErr, IfErr}
use Rattle.std.specs.Option.{option_map}
use Rattle.std.proofs.lemmas.List.{append-nil, length-take, take_all, take-append-le, take-append-drop}
use Rattle.elf_types.specs.declared.errors.ElfError.{ElfError}
use Rattle.elf_types.specs.declared.errors.ElfError.TheVariants.{Write}
use Rattle.elf_outside.specs.declared.sources.Source.{Ghosts as SourceGhosts}
use Rattle.elf_outside.specs.declared.devices.Device.{Ghosts as DeviceGhosts}
use Rattle.elf_outside.specs.Torn.{IsTorn}
use Rattle.elf_outside.specs.Writes.{resized, Resizes, ResizesOrNot}
use Rattle.elf_outside.specs.Patches.{UsesDevice}
use Rattle.elf_outside.proofs.PutLemmas.{uses_device_both, uses_device_on}
use Rattle.elf_outside.proofs.UseLemmas.{uses_device_as}
use Rattle.elf_update_to.specs.elf_object.Blocks.{Block}
use Rattle.elf_update_to.specs.elf_object.Object.{Object}
use Rattle.elf_update_to.specs.elf_object.Image.{image, image_length}
use Rattle.elf_update_to.specs.elf_object.Changed.{changed_bytes}
use Rattle.elf_update_to.proofs.law_object.ImageLaws.{length-image}
use Rattle.elf_update_to.specs.law_object.Writing.Lines.{IsUnderWay}
use Rattle.elf_update_to.specs.law_object.Writing.Based.{IsBased}
use Rattle.elf_update_to.specs.elf_object.Due.{is_loaded}
use Rattle.elf_update_to.specs.elf_descriptor.State.{State}
use Rattle.elf_update_to.specs.elf_descriptor.Cuts.{CutsBase}
use Rattle.elf_update_to.specs.declared.updates.PlannedParts.{PlannedParts}
use Rattle.elf_update_in_place.specs.Moves.Written.{written_line}
use Rattle.elf_update_in_place.proofs.moves.LineLaws.{line_holds, line_count}
use Rattle.elf_update_to.proofs.law_object.writing.UnderWayLaws.{under_way_torn}
use Rattle.elf_update_in_place.specs.Writes.Walks.{PutsAll}
use Rattle.elf_update_in_place.specs.Writes.Writes.{IsMarkedAndLoaded, LeavesTorn, WritesChanges}
use Rattle.elf_update_in_place.proofs.writes.TornObjects.{torn_rebased, torn_base}
use Rattle.elf_update_in_place.proofs.writes.EndLaws.{base_lands, torn_still, torn_whole, torn_resized, under_way_begins, resized_begins, image_written, image_cut}

-- ---- What is left, whatever the steps were

pub record Steps {D : Type 0} (s : SourceGhosts D) (d : DeviceGhosts D) (was : Object)
    (r : Result (Unit {0}) ElfError) (e g : State D) : Type 0 where
  pub state : g ≡ record e { o = record e.o { base = g.o.base }; source = g.source }
  pub long : length g.o.base ≡ min (length e.o.base) (s.size g.source)
  pub is : IfSome (s.holds g.source) (λ held. take (length g.o.base) held ≡ g.o.base)
  pub untold : s.holds g.source ≡ None → g.o.base ≡ take (s.size g.source) e.o.base
  pub size : (s.size g.source ≡ s.size e.source) ⊎ (s.size g.source ≡ image_length was)
  pub uses : UsesDevice s d r e.source g.source 0 (changed_bytes was)
  pub err : IfErr r (λ x. x ≡ Write)
  pub bytes : OnOk r (s.holds g.source ≡ option_map (λ _. image was) (s.holds e.source))
  pub whole : OnOk r (s.size g.source ≡ image_length was)
  pub torn : LeavesTorn (s.holds e.source) (s.holds g.source) (image was)

on_err : {T : Type 0} (r : Result T ElfError) (P : Type 0) → P → OnErr r P
on_err (Ok x) P p = tt
on_err (Err e) P p = p

on_ok : {T P : Type 0} (r : Result T ElfError) → P → OnOk r P
on_ok (Ok x) p = p
on_ok (Err e) p = tt

mapped_some : {A B : Type 0} (f : A → B) (o : Option A) → is_some (option_map f o) ≡ is_some o
mapped_some f None = refl
mapped_some f (Some x) = refl

none_of : {A : Type 0} (o : Option A) → is_some o ≡ false → o ≡ None
none_of None is = refl
none_of (Some x) is = cc

some_is : {A : Type 0} (o : Option A) → IsSome o → is_some o ≡ true
some_is o is = is

module _ {D : Type 0} (s : SourceGhosts D) (d : DeviceGhosts D)
    (sized : (x : D) → IfSome (s.holds x) (λ bytes. length bytes ≡ s.size x))
    (p : PlannedParts) (changed : List Bool) (e : State D) (b : IsMarkedAndLoaded s p changed e) where
  base_is : e.o.base ≡ b.was.base
  base_is =
      ap (λ (o : Object). o.base) b.object ∙ torn_base b.was b.was.base b.planned.ready.dirty

  starts : IfSome (s.holds e.source) (λ bytes. take (length b.was.base) bytes ≡ b.was.base)
  starts =
      subst (λ (l : List ℕ). IfSome (s.holds e.source) (λ bytes. take (length l) bytes ≡ l))
      base_is b.base.is

  pub writes_of : (r : Result (Unit {0}) ElfError) (g : State D) → Steps s d b.was r e g
      → WritesChanges s d b.was r e g
  writes_of r g steps =
      let count : length e.o.base ≡ length b.was.base = ap (λ (l : List ℕ). length l) base_is in
      let most = b.base.long in
      record {
        state = steps.state
            ∙ ap (λ (o : Object). record e { o = o; source = g.source })
            (ap (λ (o : Object). record o { base = g.o.base }) b.object
            ∙ torn_rebased b.was b.was.base g.o.base b.planned.ready.dirty);
        base = base_lands b.was g.o.base (s.holds e.source) (s.holds g.source) (s.size g.source)
            steps.torn starts steps.is (sized g.source)
            (let long = steps.long in omega (arith, long, count))
            (λ none. steps.untold none ∙ ap (take (s.size g.source)) base_is)
            (⊎_elim (λ same. inl (omega (arith, same, most, count))) (λ end. inr end) steps.size);
        cut = let long = steps.long in omega (arith, long, count);
        is = steps.is;
        bytes = steps.bytes;
        torn = on_err r (LeavesTorn (s.holds e.source) (s.holds g.source) (image b.was)) steps.torn;
        long = steps.whole;
        either = on_err r ((s.size g.source ≡ s.size e.source)
            ⊎ (s.size g.source ≡ image_length b.was)) steps.size;
        uses = steps.uses;
        err = steps.err;
      }

  -- ---- The device could not be lengthened

  resize_torn : (before after : Option (List ℕ)) (n m end : ℕ) → end ≡ image_length b.was
      → ResizesOrNot n m before after end → LeavesTorn before after (image b.was)
  resize_torn before after n m end is one =
      let whole = length-image b.was in
      ⊎_elim
      (λ same. subst (λ (o : Option (List ℕ)). LeavesTorn before o (image b.was)) (sym same.1)
      (torn_still before (image b.was)))
      (λ now. torn_resized before after (image b.was)
      (now.bytes ∙ ap (λ (k : ℕ). option_map (resized k) before) (is ∙ sym whole)))
      one

  resize_size : (before after : Option (List ℕ)) (n m end : ℕ) → end ≡ image_length b.was
      → ResizesOrNot n m before after end → (m ≡ n) ⊎ (m ≡ image_length b.was)
  resize_size before after n m end is one =
      ⊎_elim (λ same. inl same.0) (λ now. inr (now.len ∙ is)) one

  pub not_lengthened : (x : ElfError) (f : State D) (end : ℕ) → end ≡ image_length b.was
      → CutsBase s e f → UsesDevice {T = Unit {0}} s d (Err x) e.source f.source 0 0
      → ResizesOrNot (s.size e.source) (s.size f.source) (s.holds e.source) (s.holds f.source) end
      → x ≡ Write → Steps s d b.was (Err x) e f
  not_lengthened x f end is cuts uses one err = record {
    state = cuts.state;
    long = cuts.long;
    is = cuts.is;
    untold = cuts.untold;
    size = resize_size (s.holds e.source) (s.holds f.source) (s.size e.source) (s.size f.source) end
        is one;
    uses = uses_device_on s d x e.source f.source 0 0 0 (changed_bytes b.was) (omega arith)
        (omega arith) uses;
    err = err;
    bytes = tt;
    whole = tt;
    torn = resize_torn (s.holds e.source) (s.holds f.source) (s.size e.source) (s.size f.source) end
        is one;
  }

  -- ---- It was

  abbrev over : Object → List ℕ → Object
  over o l = record o { base = l }

  grown_base : (before after : Option (List ℕ)) (n end : ℕ) (base : List ℕ)
      → after ≡ option_map (resized end) before
      → IfSome before (λ bytes. length bytes ≡ n) → length e.o.base ≤ n → length e.o.base ≤ end
      → IfSome before (λ bytes. take (length e.o.base) bytes ≡ e.o.base)
      → IfSome after (λ held. take (length base) held ≡ base) → length base ≡ length e.o.base
      → (after ≡ None → base ≡ e.o.base) → base ≡ e.o.base
  grown_base None after n end base is sized most grows begins now long untold = untold is
  grown_base (Some old) after n end base is sized most grows begins now long untold =
      let held = subst (λ (o : Option (List ℕ)). IfSome o (λ h. take (length base) h ≡ base)) is now in
      let front = length-take end old in
      sym held ∙ ap (λ (k : ℕ). take k (resized end old)) long
      ∙ take-append-le (length e.o.base) (take end old) _ (omega (arith, front, sized, most, grows))
      ∙ sym (take-append-le (length e.o.base) (take end old) (drop end old)
      (omega (arith, front, sized, most, grows)))
      ∙ ap (take (length e.o.base)) (take-append-drop end old) ∙ begins

  module _ (f : State D) (end : ℕ) (is : end ≡ image_length b.was) (grows : length e.o.base < end)
      (cuts : CutsBase s e f)
      (now : Resizes (s.size e.source) (s.size f.source) (s.holds e.source) (s.holds f.source) end)
    where
      same_base : f.o.base ≡ e.o.base
      same_base =
          let most = b.base.long in
          let size = now.len in
          let cut = cuts.long in
          let long : length f.o.base ≡ length e.o.base = omega (arith, size, cut, grows) in
          grown_base (s.holds e.source) (s.holds f.source) (s.size e.source) end f.o.base now.bytes
          (sized e.source) most (omega (arith, grows)) b.base.is cuts.is long
          (λ none. cuts.untold none
          ∙ take_all (s.size f.source) e.o.base (omega (arith, size, grows)))

      pub same_object : f.o ≡ e.o
      same_object =
          ap (λ (q : State D). q.o) cuts.state ∙ ap (λ (l : List ℕ). over e.o l) same_base

      pub told_same : is_some (s.holds f.source) ≡ is_some (s.holds e.source)
      told_same = ap is_some now.bytes ∙ mapped_some (resized end) (s.holds e.source)

      abbrev pub longer_begun : IsMarkedAndLoaded s p changed f
      longer_begun = record {
        was = b.was;
        planned = b.planned;
        changes = b.changes;
        based = λ tells. b.based (sym told_same ∙ tells);
        object = same_object ∙ b.object;
        base = record {
          told = ap (λ (q : State D). q.told) cuts.state ∙ b.base.told ∙ sym told_same;
          long =
              let cut = cuts.long in
              omega (arith, cut);
          is = cuts.is;
        };
        loaded = λ i moves inside there.
            subst (λ (l : List Bool). IsTrue (is_loaded l i))
            (sym (ap (λ (q : State D). q.loaded) cuts.state)) (b.loaded i moves inside there);
        ready = subst IsTrue (sym (ap (λ (q : State D). q.ready) cuts.state)) b.ready;
      }

      abbrev line : List Block
      line = written_line b.was

      no_rest : (before held : List ℕ) (n : ℕ)
          → IsUnderWay before (image b.was) held n (written_line b.was) (written_line b.was)
          → IsUnderWay before (image b.was) held n (written_line b.was) (written_line b.was ++ [])
      no_rest before held n =
          subst (λ (l : List Block). IsUnderWay before (image b.was) held n (written_line b.was) l)
          (sym (append-nil (written_line b.was)))

      -- the walk over the lengthened device
      module _ (old_end : ℕ) (ends : s.size e.source ≤ old_end) (r : Result (Unit {0}) ElfError)
          (g : State D) (puts : PutsAll s d old_end r f g (written_line b.was)) where
        size_is : s.size g.source ≡ image_length b.was
        size_is = puts.size ∙ now.len ∙ is

        told_walk : is_some (s.holds g.source) ≡ is_some (s.holds e.source)
        told_walk = puts.told ∙ told_same

        by_held : (o : Option (List ℕ)) → s.holds e.source ≡ o
            → OnOk r (s.holds g.source ≡ option_map (λ _. image b.was) o)
            × LeavesTorn o (s.holds g.source) (image b.was)
        by_held None none =
            let gone : s.holds g.source ≡ None =
            none_of (s.holds g.source) (told_walk ∙ ap is_some none) in
            (on_ok r gone, ([], gone, tt))
        by_held (Some old) told =
            let whole = length-image b.was in
            let count = subst (λ (o : Option (List ℕ)).
            IfSome o (λ bytes. length bytes ≡ s.size e.source)) told (sized e.source) in
            let held : s.holds f.source ≡ Some (resized end old) =
            now.bytes ∙ ap (option_map (resized end)) told in
            let begun = subst (λ (n : ℕ). IsUnderWay old (image b.was) (resized end old) n
            (written_line b.was) (written_line b.was)) (sym now.len)
            (resized_begins old (image b.was) end (written_line b.was)) in
            let left = puts.way old (image b.was) (resized end old) (written_line b.was) [] held
            (line_holds b.was b.planned.ready) (omega (arith, count, ends))
            (inr (now.len ∙ is ∙ sym whole)) (no_rest old (resized end old) (s.size f.source) begun) in
            let based = b.based (subst (λ (o : Option (List ℕ)). IsSome o) (sym told) refl) in
            let begins = subst (λ (o : Option (List ℕ)).
            IfSome o (λ bytes. take (length b.was.base) bytes ≡ b.was.base)) told starts in
            by_answer r left based begins
          where
            by_answer : (q : Result (Unit {0}) ElfError)
                → (after : List ℕ) × (s.holds g.source ≡ Some after)
                × OnOk q (IsUnderWay old (image b.was) after (s.size f.source) (written_line b.was) [])
                × OnErr q (IsTorn old (image b.was) after)
                → IsBased b.was → take (length b.was.base) old ≡ b.was.base
                → OnOk q (s.holds g.source ≡ option_map (λ _. image b.was) (Some old))
                × LeavesTorn (Some old) (s.holds g.source) (image b.was)
            by_answer (Ok x) left based begins =
                let same : left.0 ≡ image b.was =
                image_written b.was old left.0 (s.size f.source) b.planned.ready based begins
                (now.len ∙ is) left.2 in
                let all : s.holds g.source ≡ Some (image b.was) = left.1 ∙ ap Some same in
                (all, torn_whole (Some old) (s.holds g.source) (image b.was) all)
            by_answer (Err x) left based begins = (tt, (left.0, left.1, left.3))

        pub walked_longer : UsesDevice s d (Ok (tt {0})) e.source f.source 0 0
            → Steps s d b.was r e g
        walked_longer uses =
            let count = line_count b.was b.planned.ready in
            let size = now.len in
            let walk = puts.size in
            let first : length f.o.base ≡ length e.o.base = ap (λ (l : List ℕ). length l) same_base in
            let long = puts.change.long in
            let ends = by_held (s.holds e.source) refl in
            record {
              state = puts.change.state
                  ∙ ap (λ (x : State D).
                  record x { o = record x.o { base = g.o.base }; source = g.source }) cuts.state;
              long = omega (arith, size, walk, first, long, grows);
              is = puts.change.base.is;
              untold = λ none. puts.change.untold none ∙ same_base
                  ∙ sym (take_all (s.size g.source) e.o.base (omega (arith, size, walk, grows)));
              size = inr size_is;
              uses = uses_device_as s d r e.source g.source (0 + 0)
                  (0 + sum_by (λ x. length x.bytes) (written_line b.was)) 0 (changed_bytes b.was)
                  (omega arith) (omega (arith, count))
                  (uses_device_both s d (Ok tt) r e.source f.source g.source 0 0 0
                  (sum_by (λ x. length x.bytes) (written_line b.was)) uses puts.uses);
              err = puts.err;
              bytes = ends.0;
              whole = on_ok r size_is;
              torn = ends.1;
            }

  -- ---- A device that is long enough is written, and cut

  module _ (old_end : ℕ) (ends : s.size e.source ≤ old_end) (r : Result (Unit {0}) ElfError)
      (g : State D) (fits : image_length b.was ≤ length e.o.base)
      (puts : PutsAll s d old_end r e g (written_line b.was)) where
    -- what the walk leaves of a device that tells its bytes
    walk_way : (old : List ℕ) → s.holds e.source ≡ Some old
        → (after : List ℕ) × (s.holds g.source ≡ Some after)
        × OnOk r (IsUnderWay old (image b.was) after (s.size e.source) (written_line b.was) [])
        × OnErr r (IsTorn old (image b.was) after)
    walk_way old told =
        let count = subst (λ (o : Option (List ℕ)). IfSome o (λ bytes. length bytes ≡ s.size e.source))
        told (sized e.source) in
        let begun = subst (λ (n : ℕ). IsUnderWay old (image b.was) old n (written_line b.was)
        (written_line b.was ++ [])) count
        (subst (λ (l : List Block). IsUnderWay old (image b.was) old (length old) (written_line b.was) l)
        (sym (append-nil (written_line b.was)))
        (under_way_begins old (image b.was) old (written_line b.was) (λ k below. refl))) in
        puts.way old (image b.was) old (written_line b.was) [] told
        (line_holds b.was b.planned.ready) (omega (arith, count, ends)) (inl (sym count)) begun

    walk_sum : UsesDevice s d r e.source g.source 0 (changed_bytes b.was)
    walk_sum =
        let count = line_count b.was b.planned.ready in
        uses_device_as s d r e.source g.source 0 (sum_by (λ x. length x.bytes) (written_line b.was)) 0
        (changed_bytes b.was) (omega arith) (omega (arith, count)) puts.uses

    none_after : s.holds e.source ≡ None → s.holds g.source ≡ None
    none_after none = none_of (s.holds g.source) (puts.told ∙ ap is_some none)

  -- the walk failed
  pub not_written : (old_end : ℕ) → s.size e.source ≤ old_end → (x : ElfError) (g : State D)
      → image_length b.was ≤ length e.o.base
      → PutsAll {T = Unit {0}} s d old_end (Err x) e g (written_line b.was)
      → Steps s d b.was (Err x) e g
  not_written old_end ends x g fits puts =
      let most = b.base.long in
      let size = puts.size in
      let long = puts.change.long in
      record {
        state = puts.change.state;
        long = omega (arith, size, long, most);
        is = puts.change.base.is;
        untold = λ none. puts.change.untold none
            ∙ sym (take_all (s.size g.source) e.o.base (omega (arith, size, most)));
        size = inl size;
        uses = walk_sum old_end ends (Err x) g fits puts;
        err = puts.err;
        bytes = tt;
        whole = tt;
        torn = by_held (s.holds e.source) refl;
      }
    where
      by_held : (o : Option (List ℕ)) → s.holds e.source ≡ o
          → LeavesTorn o (s.holds g.source) (image b.was)
      by_held None none = ([], none_after old_end ends (Err x) g fits puts none, tt)
      by_held (Some old) told =
          let left = walk_way old_end ends (Err x) g fits puts old told in
          (left.0, left.1, left.3)

  -- it did not, and the device is cut, or that failed
  module _ (old_end : ℕ) (ends : s.size e.source ≤ old_end) (r : Result (Unit {0}) ElfError)
      (g h : State D) (end : ℕ) (is : end ≡ image_length b.was)
      (fits : image_length b.was ≤ length e.o.base)
      (puts : PutsAll s d old_end (Ok (tt {0})) e g (written_line b.was)) (cuts : CutsBase s g h)
      (now : OnOk r (Resizes (s.size g.source) (s.size h.source) (s.holds g.source)
      (s.holds h.source) end))
      (one : OnErr r (ResizesOrNot (s.size g.source) (s.size h.source) (s.holds g.source)
      (s.holds h.source) end)) where
    cut_told : (old : List ℕ) → s.holds e.source ≡ Some old
        → s.holds h.source ≡ option_map (resized end) (s.holds g.source)
        → s.holds h.source ≡ Some (image b.was)
    cut_told old told cut =
        let left = walk_way old_end ends (Ok tt) g fits puts old told in
        let most = b.base.long in
        let based = b.based (subst (λ (o : Option (List ℕ)). IsSome o) (sym told) refl) in
        let begins = subst (λ (o : Option (List ℕ)).
        IfSome o (λ bytes. take (length b.was.base) bytes ≡ b.was.base)) told starts in
        cut ∙ ap (option_map (resized end)) left.1
        ∙ ap (λ (n : ℕ). Some (resized n left.0)) is
        ∙ ap Some (image_cut b.was old left.0 (s.size e.source) b.planned.ready based begins
        (omega (arith, fits, most)) left.2)

    cut_none : s.holds e.source ≡ None
        → s.holds h.source ≡ option_map (resized end) (s.holds g.source)
        → s.holds h.source ≡ None
    cut_none none cut =
        cut ∙ ap (option_map (resized end)) (none_after old_end ends (Ok tt) g fits puts none)

    -- the device tells its bytes or it does not
    cut_holds : (o : Option (List ℕ)) → s.holds e.source ≡ o
        → s.holds h.source ≡ option_map (resized end) (s.holds g.source)
        → s.holds h.source ≡ option_map (λ _. image b.was) o
    cut_holds None none cut = cut_none none cut
    cut_holds (Some old) told cut = cut_told old told cut

    still_torn : (o : Option (List ℕ)) → s.holds e.source ≡ o
        → s.holds h.source ≡ s.holds g.source → LeavesTorn o (s.holds h.source) (image b.was)
    still_torn None none same =
        ([], same ∙ none_after old_end ends (Ok tt) g fits puts none, tt)
    still_torn (Some old) told same =
        let left = walk_way old_end ends (Ok tt) g fits puts old told in
        let count = subst (λ (o : Option (List ℕ)). IfSome o (λ bytes. length bytes ≡ s.size e.source))
        told (sized e.source) in (
          left.0,
          same ∙ left.1,
          under_way_torn old (image b.was) left.0 (s.size e.source) (written_line b.was) [] left.2
              (inl (sym count)),
        )

    cut_torn : (q : Result (Unit {0}) ElfError)
        → OnOk q (Resizes (s.size g.source) (s.size h.source) (s.holds g.source)
        (s.holds h.source) end)
        → OnErr q (ResizesOrNot (s.size g.source) (s.size h.source) (s.holds g.source)
        (s.holds h.source) end)
        → LeavesTorn (s.holds e.source) (s.holds h.source) (image b.was)
    cut_torn (Ok x) done failed =
        torn_whole (s.holds e.source) (s.holds h.source) (image b.was)
        (cut_holds (s.holds e.source) refl done.bytes)
    cut_torn (Err x) done failed =
        ⊎_elim
        (λ same. still_torn (s.holds e.source) refl same.1)
        (λ cut. torn_whole (s.holds e.source) (s.holds h.source) (image b.was)
        (cut_holds (s.holds e.source) refl cut.bytes))
        failed

    cut_size : (q : Result (Unit {0}) ElfError)
        → OnOk q (Resizes (s.size g.source) (s.size h.source) (s.holds g.source)
        (s.holds h.source) end)
        → OnErr q (ResizesOrNot (s.size g.source) (s.size h.source) (s.holds g.source)
        (s.holds h.source) end)
        → (s.size h.source ≡ s.size e.source) ⊎ (s.size h.source ≡ image_length b.was)
    cut_size (Ok x) done failed = inr (done.len ∙ is)
    cut_size (Err x) done failed =
        ⊎_elim (λ same. inl (same.0 ∙ puts.size)) (λ cut. inr (cut.len ∙ is)) failed

    ok_bytes : (q : Result (Unit {0}) ElfError)
        → OnOk q (Resizes (s.size g.source) (s.size h.source) (s.holds g.source)
        (s.holds h.source) end)
        → OnOk q (s.holds h.source ≡ option_map (λ _. image b.was) (s.holds e.source))
    ok_bytes (Ok x) done = cut_holds (s.holds e.source) refl done.bytes
    ok_bytes (Err x) done = tt

    ok_size : (q : Result (Unit {0}) ElfError)
        → OnOk q (Resizes (s.size g.source) (s.size h.source) (s.holds g.source)
        (s.holds h.source) end) → OnOk q (s.size h.source ≡ image_length b.was)
    ok_size (Ok x) done = done.len ∙ is
    ok_size (Err x) done = tt

    walked_none : s.holds h.source ≡ None → s.holds g.source ≡ None
    walked_none none = untold_by r now one
      where
        back : s.holds h.source ≡ option_map (resized end) (s.holds g.source)
            → s.holds g.source ≡ None
        back cut = none_of (s.holds g.source)
            (sym (mapped_some (resized end) (s.holds g.source)) ∙ sym (ap is_some cut) ∙ ap is_some none)

        untold_by : (q : Result (Unit {0}) ElfError)
            → OnOk q (Resizes (s.size g.source) (s.size h.source) (s.holds g.source)
            (s.holds h.source) end)
            → OnErr q (ResizesOrNot (s.size g.source) (s.size h.source) (s.holds g.source)
            (s.holds h.source) end) → s.holds g.source ≡ None
        untold_by (Ok x) done failed = back done.bytes
        untold_by (Err x) done failed = ⊎_elim (λ same. sym same.1 ∙ none) (λ cut. back cut.bytes) failed

    pub walked_cut : UsesDevice s d r g.source h.source 0 0 → IfErr r (λ x. x ≡ Write)
        → Steps s d b.was r e h
    walked_cut uses err =
        let long = puts.change.long in
        let cut = cuts.long in
        record {
          state = cuts.state
              ∙ ap (λ (x : State D).
              record x { o = record x.o { base = h.o.base }; source = h.source }) puts.change.state;
          long = omega (arith, long, cut);
          is = cuts.is;
          untold = λ none. cuts.untold none
              ∙ ap (take (s.size h.source)) (puts.change.untold (walked_none none));
          size = cut_size r now one;
          uses = uses_device_as s d r e.source h.source (0 + 0) (changed_bytes b.was + 0) 0
              (changed_bytes b.was) (omega arith) (omega arith)
              (uses_device_both s d (Ok tt) r e.source g.source h.source 0 (changed_bytes b.was) 0 0
              (walk_sum old_end ends (Ok tt) g fits puts) uses);
          err = err;
          bytes = ok_bytes r now;
          whole = ok_size r now;
          torn = cut_torn r now one;
        }
