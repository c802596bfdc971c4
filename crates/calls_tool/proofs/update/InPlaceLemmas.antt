-- An object that is updated in place, and the line of that.
use Rattle.std.proofs.Common.{◌≡◌, ◌⊎◌, inl, inr, ◌∷◌, ◌≤◌, ℕ, Bool, true, false, List, [], Option, Some, None, Result, Ok, Err, is_ok, IsOk, refl, sym, ap, ◌∙◌, subst, arith}
use Rattle.std.specs.Option.{option_map}
use Rattle.elf_types.specs.declared.errors.ElfError.{ElfError}
use Rattle.elf_types.specs.declared.errors.ElfError.TheVariants as error
use Rattle.elf_outside.specs.Counts.{Rose, RaisedAtMost}
use Rattle.elf_outside.specs.Patches.{UsesDevice}
use Rattle.elf_outside.specs.Torn.{IsTorn}
use Rattle.elf_outside.specs.declared.sources.Source.{Ghosts as SourceGhosts}
use Rattle.elf_outside.specs.declared.devices.Device.{Ghosts as DeviceGhosts}
use Rattle.elf_outside.specs.declared.sinks.Sink.{Ghosts as SinkGhosts}
use Rattle.elf_outside.proofs.UseLemmas.{uses_device_none, uses_device_as}
use Rattle.elf_object.specs.Object.{Object, is_dirty}
use Rattle.elf_object.specs.Image.{image}
use Rattle.elf_object.specs.Changed.{changed_bytes}
use Rattle.elf_object.specs.Due.{update_in_place_due}
use Rattle.elf_object.specs.Calls as calls
use Rattle.elf_object.specs.Words.{UpdateAnswers, result_map}
use Rattle.law_object.proofs.ImageLaws.{image-clean}
use Rattle.elf_update_plan.specs.elf_descriptor.State.{State}
use Rattle.elf_update_in_place.specs.Writes.Writes.{LeavesTorn}
use Rattle.elf_update_in_place.specs.Updates.{OnEnd, UpdatesInPlace}
use Rattle.calls_tool.specs.declared.update.outputs.CallsOutput.TheVariants.{InPlace}
use Rattle.tool_output.specs.declared.stops.Stop.{Stop}
use Rattle.tool_output.specs.declared.stops.Stop.TheVariants.{Read, Write, Memory}
use Rattle.tool_output.specs.declared.outputs.Outputs.{Outputs}
use Rattle.tool_output.specs.Statuses.{refused_status, stop_status}
use Rattle.tool_output.specs.Steps.{Writes, LeavesOutputs, OnRead}
use Rattle.tool_output.specs.Reports.{Reports}
use Rattle.tool_output.specs.Files.{IsWithin}
use Rattle.tool_output.specs.Outcomes.{FileWrite, write_of, held_after, MayHoldChanged, MayHold}
use Rattle.tool_output.proofs.StepLemmas.{writes_then, writes_nothing}
use Rattle.tool_output.proofs.FileLemmas.{within_unchanged}
use Rattle.tool_output.proofs.SourceLemmas.{reads_weaker}
use Rattle.tool_objects.proofs.SourceSteps.{left_after}
use Rattle.tool_files.specs.Changes.{DoesInPlace, LeavesDevice}
use Rattle.tool_files.proofs.ChangeSteps.{own_write, outputs_leave, unchanged_stop}
use Rattle.elf_calls_apply.specs.declared.answers.Answer.TheVariants.{Size}
use Rattle.calls_tool.specs.Runs.{answer_report, update_report, ShowsAnswer}
use Rattle.calls_tool.specs.Update.Updates.{write_by, update_gives, updated_gives}
use Rattle.calls_tool.specs.Update.Changes.{changed_by_answer, changed_outcome, ChangesLeft}

-- ---- What a stop may leave of the file

-- after a failed write it is torn
torn_left : (bytes old left : List ℕ) (held : Option (List ℕ)) → held ≡ Some left
    → IsTorn old bytes left → MayHoldChanged 4 bytes old held
torn_left bytes old left held is torn = record {
  unread = λ no. absurd (omega arith);
  unwritten = λ four. (left, is, torn);
  wanting = λ no. absurd (omega arith);
}

all_torn : (old bytes : List ℕ) → IsTorn old bytes bytes
all_torn old bytes = record { len = inr refl; each = λ k lt. inr (lt, refl) }

-- where there was no memory it may be whole
kept_whole : (bytes old : List ℕ) (held : Option (List ℕ)) → held ≡ Some bytes
    → MayHoldChanged 5 bytes old held
kept_whole bytes old held is = record {
  unread = λ no. absurd (omega arith);
  unwritten = λ no. absurd (omega arith);
  wanting = λ five. inr is;
}

-- it may be whole after a stop that is no failed read
whole_left : (stop : Stop) (bytes old : List ℕ) (held : Option (List ℕ)) → held ≡ Some bytes
    → OnRead {T = Bool} (Err stop) ⊥ → MayHoldChanged (stop_status stop) bytes old held
whole_left Read bytes old held is never = absurd never
whole_left Write bytes old held is never = torn_left bytes old bytes held is (all_torn old bytes)
whole_left Memory bytes old held is never = kept_whole bytes old held is

-- ---- The line of an update

module _ {D O E T : Type 0} (g : SourceGhosts D) (d : DeviceGhosts D) (o : SinkGhosts O)
    (e : SinkGhosts E) (file was : List ℕ) (p : Object) (a b : D) (s t u : Outputs O E) (x : T)
    (put : Writes {T = T} o e (Ok x) s t []) where
  -- by what the update answers
  abbrev DoesBy : Result ℕ ElfError → Result Bool Stop → Outputs O E → Type 0
  DoesBy q r v = DoesInPlace g d o e (changed_by_answer file p q) file was r a b s v

  abbrev stated_write : FileWrite
  stated_write = write_by InPlace file (image p)

  abbrev AtMost : Type 0
  AtMost = RaisedAtMost (d.given a) (d.given b) (changed_bytes p)

  abbrev Torn : Type 0
  Torn = (left : List ℕ) × (g.holds b ≡ Some left) × IsTorn was (image p) left

  -- the device was written
  done_line : (n : ℕ) (r : Result Bool Stop) → g.holds b ≡ Some (image p) → AtMost
      → Reports o e r t u (update_report (Ok n)) → LeavesOutputs o e ⊥ r t u → DoesBy (Ok n) r u
  done_line n (Ok y) held given h left = record {
    writes = writes_then o e x (Ok y) s t u [] (update_report (Ok n)).marks put h.writes;
    status = ap refused_status h.value_is;
    bytes = held
        ∙ sym (ap (λ (w : Option FileWrite). held_after w (Some was)) (own_write stated_write));
    left = tt;
    asks = tt;
    gives = given.no_more;
  }
  done_line n (Err stop) held given h left = record {
    writes = writes_then o e x (Err stop) s t u [] (update_report (Ok n)).marks put h.writes;
    status = tt;
    bytes = tt;
    left = subst (λ (w : Option FileWrite).
        MayHold (stop_status stop) w (Some was) (g.holds b)) (sym (own_write stated_write))
        (whole_left stop (image p) was (g.holds b) held left.read);
    asks = tt;
    gives = given.no_more;
  }

  -- the update is refused, and the device is as it was
  refused_line : (c : ElfError) (r : Result Bool Stop) → g.holds b ≡ Some was
      → d.given b ≡ d.given a → Reports o e r t u (update_report (Err c)) → DoesBy (Err c) r u
  unfolding write_of
  refused_line c (Ok y) held given h = record {
    writes = writes_then o e x (Ok y) s t u [] (update_report (Err c)).marks put h.writes;
    status = ap refused_status h.value_is;
    bytes = held;
    left = tt;
    asks = tt;
    gives = omega (arith, given);
  }
  refused_line c (Err stop) held given h = record {
    writes = writes_then o e x (Err stop) s t u [] (update_report (Err c)).marks put h.writes;
    status = tt;
    bytes = tt;
    left = held;
    asks = tt;
    gives = omega (arith, given);
  }

  -- nothing is said, and nothing more is written of the outputs
  silent : (stop : Stop) → Writes {T = Bool} o e (Err stop) s t []
  silent stop = writes_then o e x (Err stop) s t t [] [] put (writes_nothing o e stop t [])

  -- the device is as it was
  unread_line : (q : Result ℕ ElfError) (stop : Stop) → g.holds b ≡ Some was
      → d.given b ≡ d.given a → DoesBy q (Err stop) t
  unread_line q stop held given =
      unchanged_stop g d o e file was {T = Bool} (changed_by_answer file p q) []
      (changed_by_answer file p q).marks stop a b s t refl held given (silent stop)

  -- it is torn
  torn_line : (q : Result ℕ ElfError) → IsOk q → Torn → AtMost → DoesBy q (Err Write) t
  torn_line (Err c) is torn given = let never : false ≡ true = is in cc
  torn_line (Ok n) is torn given = record {
    writes = writes_then o e x (Err Write) s t t [] (update_report (Ok n)).marks put
        (writes_nothing o e Write t (update_report (Ok n)).marks);
    status = tt;
    bytes = tt;
    left = subst (λ (w : Option FileWrite). MayHold 4 w (Some was) (g.holds b))
        (sym (own_write stated_write))
        (torn_left (image p) was torn.0 (g.holds b) torn.1 torn.2);
    asks = tt;
    gives = given.no_more;
  }

  -- what the update answered, and what it left of the device
  line_done : (q : Result ℕ ElfError) (r : Result Bool Stop) (stated : Result ℕ ElfError)
      → UpdateAnswers q stated
      → OnEnd q (g.holds b ≡ Some (image p)) (g.holds b ≡ Some was) Torn (g.holds b ≡ Some was)
      → OnEnd q AtMost (d.given b ≡ d.given a) AtMost (d.given b ≡ d.given a)
      → ShowsAnswer o e (result_map Size q) r t u → DoesBy stated r u
  unfolding answer_report update_report
  line_done (Ok n) r stated is held given shown =
      subst (λ (q : Result ℕ ElfError). DoesBy q r u) (sym is)
      (done_line n r held given shown.reports shown.leaves)
  line_done (Err error.Memory) r stated is held given shown =
      rw (shown.stops.0, shown.stops.1) (unread_line stated Memory held given)
  line_done (Err error.Read) r stated is held given shown =
      rw (shown.stops.0, shown.stops.1) (unread_line stated Read held given)
  line_done (Err error.Write) r stated is held given shown =
      rw (shown.stops.0, shown.stops.1) (torn_line stated is held given)
  line_done (Err c) r stated is held given shown =
      subst (λ (q : Result ℕ ElfError). DoesBy q r u) (sym is)
      (refused_line c r held given shown.reports)

-- ---- What the update leaves, whether something was dirty or not

on_ok_end : {P : Type 0} (Q R S : Type 0) (r : Result ℕ ElfError) → IsOk r → P
    → OnEnd r P Q R S
on_ok_end Q R S (Ok n) is p = p
on_ok_end Q R S (Err c) is p = let never : false ≡ true = is in cc

module _ {D : Type 0} (g : SourceGhosts D) (d : DeviceGhosts D) (r : Result ℕ ElfError)
    (old new : State D) (clean : is_dirty old.o ≡ false → new ≡ old)
    (ends : is_dirty old.o ≡ false → IsOk r)
    (updates : is_dirty old.o ≡ true → UpdatesInPlace g d r old new) where
  abbrev Holds : Type 0
  Holds = OnEnd r (g.holds new.source ≡ Some (image old.o)) (g.holds new.source ≡ Some old.o.base)
      ((left : List ℕ) × (g.holds new.source ≡ Some left) × IsTorn old.o.base (image old.o) left)
      (g.holds new.source ≡ Some old.o.base)

  holds_after : g.holds old.source ≡ Some old.o.base → Holds
  holds_after held = by (is_dirty old.o) refl
    where
      by : (q : Bool) → is_dirty old.o ≡ q → Holds
      by true dirty =
          subst (λ (x : Option (List ℕ)). OnEnd r
          (g.holds new.source ≡ option_map (λ _. image old.o) x) (g.holds new.source ≡ x)
          (LeavesTorn x (g.holds new.source) (image old.o)) (g.holds new.source ≡ x)) held
          (updates dirty).bytes
      by false still =
          on_ok_end _ _ _ r (ends still)
          (ap (λ (x : State D). g.holds x.source) (clean still) ∙ held
          ∙ ap Some (sym (image-clean old.o still)))

  abbrev AtMostChanged : Type 0
  AtMostChanged = RaisedAtMost (d.given old.source) (d.given new.source) (changed_bytes old.o)

  abbrev SameGiven : Type 0
  SameGiven = d.given new.source ≡ d.given old.source

  given_after : OnEnd r AtMostChanged SameGiven AtMostChanged SameGiven
  given_after = by (is_dirty old.o) refl
    where
      by_end : (q : Result ℕ ElfError) → UpdatesInPlace g d q old new
          → OnEnd q AtMostChanged SameGiven AtMostChanged SameGiven
      by_end (Ok n) h = h.uses.given
      by_end (Err error.Read) h = h.unwritten
      by_end (Err error.Write) h = h.uses.given
      by_end (Err c) h = ap (λ (x : State D). d.given x.source) h.kept

      by : (q : Bool) → is_dirty old.o ≡ q
          → OnEnd r AtMostChanged SameGiven AtMostChanged SameGiven
      by true dirty = by_end r (updates dirty)
      by false still =
          let same : SameGiven = ap (λ (x : State D). d.given x.source) (clean still) in
          on_ok_end _ _ _ r (ends still)
          (record { later = omega (arith, same); no_more = omega (arith, same) })

  uses_after : UsesDevice g d r old.source new.source (update_in_place_due old.o old.loaded)
      (changed_bytes old.o)
  uses_after = by (is_dirty old.o) refl
    where
      used : (q : Result ℕ ElfError) → IsOk q
          → UsesDevice g d q old.source old.source (update_in_place_due old.o old.loaded)
          (changed_bytes old.o)
      used (Ok n) is =
          uses_device_as g d (Ok n) old.source old.source 0 0
          (update_in_place_due old.o old.loaded) (changed_bytes old.o) (omega arith) (omega arith)
          (uses_device_none g d (Ok n) old.source tt tt)
      used (Err c) is = let never : false ≡ true = is in cc

      by : (q : Bool) → is_dirty old.o ≡ q
          → UsesDevice g d r old.source new.source (update_in_place_due old.o old.loaded)
          (changed_bytes old.o)
      by true dirty = (updates dirty).uses
      by false still =
          subst (λ (x : State D). UsesDevice g d r old.source x.source
          (update_in_place_due old.o old.loaded) (changed_bytes old.o)) (sym (clean still))
          (used r (ends still))

  -- it hands over at most what is stated, by its own answer
  gives_after : (stated : Result ℕ ElfError) → UpdateAnswers r stated
      → IsWithin (updated_gives (update_gives InPlace old.o) stated)
      (d.given old.source) (d.given new.source)
  gives_after stated is = by_end r is given_after
    where
      all : (q : Result ℕ ElfError) → IsOk q → AtMostChanged
          → IsWithin (updated_gives (update_gives InPlace old.o) q)
          (d.given old.source) (d.given new.source)
      all (Ok n) well h = h.no_more
      all (Err c) well h = let never : false ≡ true = well in cc

      none : SameGiven → IsWithin (updated_gives (update_gives InPlace old.o) stated)
          (d.given old.source) (d.given new.source)
      none h = within_unchanged (updated_gives (update_gives InPlace old.o) stated) _ _ h

      by_end : (q : Result ℕ ElfError) → UpdateAnswers q stated
          → OnEnd q AtMostChanged SameGiven AtMostChanged SameGiven
          → IsWithin (updated_gives (update_gives InPlace old.o) stated)
          (d.given old.source) (d.given new.source)
      by_end (Ok n) answer h = all stated (ap is_ok answer) h
      by_end (Err error.Memory) answer h = none h
      by_end (Err error.Read) answer h = none h
      by_end (Err error.Write) answer h = all stated answer h
      by_end (Err c) answer h = none h

-- ---- The step

module _ {D O E T : Type 0} (g : SourceGhosts D) (d : DeviceGhosts D) (o : SinkGhosts O)
    (e : SinkGhosts E) (old : State D) (s t : Outputs O E) where
  -- what waits could not be put
  outputs_stopped : (P : Type 0) (stop : Stop) → LeavesOutputs {T = T} o e ⊥ (Err stop) s t
      → LeavesOutputs {T = Bool} o e P (Err stop) s t
  outputs_stopped P Read h = absurd h.read
  outputs_stopped P Write h = record { keeps = h.keeps; read = tt; write = h.write }
  outputs_stopped P Memory h = record { keeps = h.keeps; read = tt; write = tt }

  pub left_unflushed : (stop : Stop) → Writes {T = T} o e (Err stop) s t []
      → LeavesOutputs {T = T} o e ⊥ (Err stop) s t → ChangesLeft g d o e (Err stop) old old s t
  left_unflushed stop writes leaves = record {
    does = λ file held.
        unchanged_stop g d o e file old.o.base {T = T} (changed_outcome file old.o) []
        (changed_outcome file old.o).marks stop old.source old.source s t refl held refl writes;
    asks = record { later = omega arith; no_more = omega arith };
    gives = within_unchanged
        (updated_gives (update_gives InPlace old.o) (calls.update_null.answer old.o)) _ _ refl;
    leaves = outputs_leave g d o e (Err stop) old.source old.source s t refl (omega arith)
        (omega arith)
        (outputs_stopped (Rose (g.faults old.source) (g.faults old.source)) stop leaves);
  }

  module _ (x : T) (u : Outputs O E) (new : State D) (q : Result ℕ ElfError) (r : Result Bool Stop)
      (flushed : LeavesOutputs {T = T} o e ⊥ (Ok x) s t)
      (uses : UsesDevice g d q old.source new.source (update_in_place_due old.o old.loaded)
      (changed_bytes old.o))
      (shown : ShowsAnswer o e (result_map Size q) r t u) where
    -- the line was written, or could not be
    said : LeavesOutputs o e ⊥ r t u → LeavesDevice g d o e r old.source new.source s u
    said h =
        outputs_leave g d o e r old.source new.source s u uses.rest_after uses.later
        uses.write_later
        (left_after o e r (g.faults old.source) (g.faults old.source) (g.faults new.source) s t u
        (omega arith) flushed.keeps
        (reads_weaker o e (Rose (g.faults old.source) (g.faults new.source)) r t u h))

    line_leaves : LeavesDevice g d o e r old.source new.source s u
    line_leaves = by q uses shown
      where
        by : (v : Result ℕ ElfError)
            → UsesDevice g d v old.source new.source (update_in_place_due old.o old.loaded)
            (changed_bytes old.o)
            → ShowsAnswer o e (result_map Size v) r t u
            → LeavesDevice g d o e r old.source new.source s u
        by (Ok n) used h = said h.leaves
        by (Err error.Memory) used h = rw (h.stops.0, h.stops.1) (record {
          rest_after = used.rest_after;
          later = used.later;
          write_later = used.write_later;
          keeps = flushed.keeps;
          read = tt;
          write = tt;
        })
        by (Err error.Read) used h = rw (h.stops.0, h.stops.1) (record {
          rest_after = used.rest_after;
          later = used.later;
          write_later = used.write_later;
          keeps = flushed.keeps;
          read = used.read;
          write = tt;
        })
        by (Err error.Write) used h = rw (h.stops.0, h.stops.1) (record {
          rest_after = used.rest_after;
          later = used.later;
          write_later = used.write_later;
          keeps = flushed.keeps;
          read = tt;
          write = inl used.write;
        })
        by (Err c) used h = said h.leaves

  -- the object is updated, and the line of that is written
  pub left_changed : (x : T) (u : Outputs O E) (new : State D) (q : Result ℕ ElfError)
      (r : Result Bool Stop) → Writes {T = T} o e (Ok x) s t []
      → LeavesOutputs {T = T} o e ⊥ (Ok x) s t
      → UpdateAnswers q (calls.update_null.answer old.o)
      → (is_dirty old.o ≡ false → new ≡ old) → (is_dirty old.o ≡ false → IsOk q)
      → (is_dirty old.o ≡ true → UpdatesInPlace g d q old new)
      → ShowsAnswer o e (result_map Size q) r t u → ChangesLeft g d o e r old new s u
  left_changed x u new q r put flushed answer clean ends updates shown =
      let uses = uses_after g d q old new clean ends updates in record {
        does = λ file held.
            line_done g d o e file old.o.base old.o old.source new.source s t u x put q r
            (calls.update_null.answer old.o) answer
            (holds_after g d q old new clean ends updates held)
            (given_after g d q old new clean ends updates) shown;
        asks = uses.taken;
        gives = gives_after g d q old new clean ends updates (calls.update_null.answer old.o)
            answer;
        leaves = line_leaves x u new q r flushed uses shown;
      }
