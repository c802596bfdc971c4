-- A descriptor may be settled where its device holds the image: what is told of both.
use Rattle.std.proofs.Common.{◌≡◌, ℕ, ◌+◌, ◌≤◌, true, List, [], ◌++◌, length, take, drop, Option, Some, None, Result, Ok, Err, refl, sym, ap, ◌∙◌, subst, arith}
use Rattle.std.specs.Prelude.{IsTrue, IfSome, OnOk, is_some, unwrap_or}
use Rattle.std.specs.Option.{option_map}
use Rattle.std.proofs.lemmas.Grind.{common_steps}
use Rattle.elf_types.specs.declared.errors.ElfError.{ElfError}
use Rattle.elf_outside.specs.declared.sources.Source.{Ghosts}
use Rattle.elf_outside.specs.declared.devices.Device.{Ghosts as DeviceGhosts}
use Rattle.elf_outside.specs.Patches.{Patches}
use Rattle.elf_outside.specs.Writes.{Appends, written_over}
use Rattle.elf_object.specs.Object.{Object, is_dirty}
use Rattle.elf_object.specs.Image.{image}
use Rattle.elf_object.specs.Layout.{placed, places_of}
use Rattle.elf_object.specs.Refusal.{refusal}
use Rattle.elf_object.specs.Settled.{settled}
use Rattle.elf_object.specs.Valid.{IsObject}
use Rattle.law_object.proofs.ImageLaws.{placed-dirty}
use Rattle.law_object.proofs.TornLaws.{dirty-placed, placed_stays}
use Rattle.elf_descriptor.specs.State.{State}
use Rattle.elf_descriptor.specs.Fronts.{HoldsBase}
use Rattle.elf_descriptor.specs.Settling.{settled_state, cleared}
use Rattle.test_descriptor.specs.Callers.Settles.{TellsImage}

-- ---- What a sink gained

pub put_text : (before after text : List ℕ) → before ≡ []
    → Appends (Some before) (Some after) text → after ≡ text
put_text before after text none is =
    ap (λ (o : Option (List ℕ)). unwrap_or o []) is ∙ ap (λ (l : List ℕ). l ++ text) none

-- ---- What a device holds

-- bytes over as many others
whole : (l bytes : List ℕ) → length l ≡ length bytes → written_over l 0 bytes ≡ bytes
whole l bytes same = grind (arith, common_steps)

module _ {D : Type 0} (s : Ghosts D) (d : DeviceGhosts D) where
  held_over : (bytes : List ℕ) (n : ℕ) (before after : Option (List ℕ)) → n ≡ length bytes
      → after ≡ option_map (λ (l : List ℕ). written_over l 0 bytes) before
      → IfSome before (λ l. length l ≡ n) → IfSome after (λ held. held ≡ bytes)
  held_over bytes n None after long is sized =
      subst (λ (o : Option (List ℕ)). IfSome o (λ held. held ≡ bytes)) (sym is) tt
  held_over bytes n (Some l) after long is sized =
      subst (λ (o : Option (List ℕ)). IfSome o (λ held. held ≡ bytes)) (sym is)
      (whole l bytes (sized ∙ long))

  -- as many bytes were put over all of it
  pub covered : {T : Type 0} (r : Result T ElfError) (old new : D) (bytes : List ℕ)
      (n handed : ℕ) → s.size old ≡ n → n ≡ length bytes
      → IfSome (s.holds old) (λ l. length l ≡ s.size old) → Patches s d r old new 0 bytes handed
      → OnOk r (s.size new ≡ length bytes)
      × OnOk r (IfSome (s.holds new) (λ held. held ≡ bytes))
  covered (Ok x) old new bytes n handed size long sized is = (
    is.len ∙ size ∙ long,
    held_over bytes (s.size old) (s.holds old) (s.holds new) (size ∙ long) is.ok sized,
  )
  covered (Err e) old new bytes n handed size long sized is = (tt, tt)

-- ---- What settling rests on

module _ {D : Type 0} (s : Ghosts D) where
  pub record MaySettle (e : State D) : Type 0 where
    pub ready : IsTrue e.ready
    pub dirty : is_dirty e.o ≡ true
    pub passed : refusal e.o ≡ None
    pub stored : placed e.o ≡ e.o
    pub long : s.size e.source ≡ length (image e.o)
    pub holds : IfSome (s.holds e.source) (λ held. held ≡ image e.o)

  -- the object that memory was taken for
  abbrev pub with_memory : State D → State D
  with_memory old = record old { ready = true }

  told_from : (text : List ℕ) (old mid new : State D) → mid ≡ with_memory old
      → TellsImage s (Ok text) mid new → TellsImage s (Ok text) (with_memory old) new
  told_from text old mid new is tells =
      subst (λ (e : State D). TellsImage s (Ok text) e new) is tells

  held_is : (told : List ℕ) (bytes : List ℕ) (before after : Option (List ℕ))
      → after ≡ before → IfSome before (λ held. held ≡ bytes)
      → ((x : List ℕ) → before ≡ Some x → bytes ≡ told)
      → IfSome after (λ held. held ≡ told)
  held_is told bytes None after same is reach =
      subst (λ (o : Option (List ℕ)). IfSome o (λ held. held ≡ told)) (sym same) tt
  held_is told bytes (Some x) after same is reach =
      subst (λ (o : Option (List ℕ)). IfSome o (λ held. held ≡ told)) (sym same)
      (is ∙ reach x refl)

  pub may_settle : (bytes text : List ℕ) (old mid new : State D) → IsObject old.o
      → is_dirty old.o ≡ true → mid ≡ with_memory old → HoldsBase s old
      → TellsImage s (Ok text) mid new → text ≡ bytes → s.size old.source ≡ length bytes
      → IfSome (s.holds old.source) (λ held. held ≡ bytes) → MaySettle new
  may_settle bytes text old mid new good dirty is base tells same long holds =
      let t = told_from text old mid new is tells in
      let object : new.o ≡ placed old.o = ap (λ (e : State D). e.o) t.state in
      let stays = placed_stays old.o good t.passed in
      let picture : image new.o ≡ image old.o = ap image object ∙ stays.2 in
      record {
        ready = ap (λ (e : State D). e.ready) t.state;
        dirty = ap is_dirty object ∙ ap is_dirty (placed-dirty old.o dirty)
            ∙ dirty-placed (places_of old.o) old.o ∙ dirty;
        passed = ap refusal object ∙ stays.1;
        stored = ap placed object ∙ stays.0 ∙ sym object;
        long = t.leaves.same_len ∙ long ∙ ap (λ (l : List ℕ). length l) (sym same) ∙ t.is.long
            ∙ ap (λ (l : List ℕ). length l) (sym picture);
        holds = held_is (image new.o) bytes (s.holds old.source) (s.holds new.source)
            t.leaves.same_bytes holds
            (λ x some. sym same
            ∙ t.is.exact (base.told ∙ ap (λ (o : Option (List ℕ)). is_some o) some)
            ∙ sym picture);
      }

  pub settled_is : (text : List ℕ) (old mid new last : State D) → mid ≡ with_memory old
      → TellsImage s (Ok text) mid new → last ≡ settled_state new
      → (last.o ≡ settled old.told (placed old.o)) × (last.loaded ≡ cleared old.loaded)
  settled_is text old mid new last is tells done =
      let t = told_from text old mid new is tells in (
        ap (λ (e : State D). e.o) done ∙ ap (λ (e : State D). settled e.told e.o) t.state,
        ap (λ (e : State D). e.loaded) done
            ∙ ap (λ (e : State D). cleared e.loaded) t.state,
      )
