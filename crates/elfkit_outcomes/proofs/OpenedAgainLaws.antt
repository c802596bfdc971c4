-- A second opening that fails, after a file was made (`StopsWhereUnread`).
use Rattle.std.proofs.Common.{◌≡◌, ◌≢◌, ℕ, Bool, true, false, List, [], ◌∷◌, length, Option, Some, None, Result, refl, sym, ap, ◌∙◌, subst, arith, inr, append-nil}
use Rattle.std.specs.Prelude.{Contains, IsErrOf}
use Rattle.std.specs.Str.{bytes_eq}
use Rattle.std.specs.Option.{option_map}
use Rattle.std.proofs.lemmas.Slice.Eq.{bytes_eq-Decides}
use Rattle.std.proofs.lemmas.Bool.{true≢false}
use Rattle.std.proofs.lemmas.List.{take_all}
use Rattle.tool_objects.specs.elf_outside.Counts.{Rose}
use Rattle.tool_objects.specs.elf_outside.Kept.{Names, kept, bytes_kept, closed}
use Rattle.tool_objects.specs.elf_outside.MemFiles.{emptied, faults_after_open}
use Rattle.tool_objects.specs.elf_outside.Writes.{Appends}
use Rattle.tool_objects.specs.elf_outside.declared.file_sets.OpenFault.{OpenFault}
use Rattle.tool_objects.specs.elf_outside.declared.file_sets.OpenFault.TheVariants.{Failed}
use Rattle.tool_objects.specs.elf_outside.declared.memory.device.MemDevice.{MemDevice}
use Rattle.tool_objects.specs.elf_outside.declared.memory.files.Kept.{Kept}
use Rattle.tool_objects.specs.elf_outside.declared.memory.files.MemFiles.{MemFiles}
use Rattle.tool_objects.specs.tool_output.declared.outputs.Side.{Side}
use Rattle.tool_objects.specs.tool_output.Marks.{on}
use Rattle.tool_objects.specs.tool_output.Outcomes.{FileWrite, write_of, MayHold}
use Rattle.tool_objects.specs.tool_output.Made.{made_file}
use Rattle.elfkit_outcomes.specs.OpenedAgain.{SecondOpenFails, OpensAgain, StopsWhereUnread}

module _ (old new : MemFiles) (out bytes : List ℕ) (answer : Result MemDevice OpenFault) (run : OpensAgain old new out bytes answer) where
  -- what is kept of OUT once it was closed
  at_close : (k : Kept) × (kept run.closed.names out ≡ Some k) × (k.bytes ≡ bytes)
  at_close = (
    record (emptied (kept old.names out)) { bytes = run.full.bytes.items },
    run.closes.set.set ∙ ap (closed run.full.bytes.items) run.creates.ok.set,
    run.filled,
  )

  -- it is the second opening, and fails
  fails : SecondOpenFails old → IsErrOf answer Failed
  fails second =
      let bad : run.closed.opens.bad ≡ 2 ∷ [] = run.closes.settings.bad_opens ∙ run.creates.settings.bad_opens ∙ second.bad in
      let number : new.opens.made ≡ 2 = omega (arith, run.opens.number, run.closes.number, run.creates.number, second.made) in
      let named : Contains (2 ∷ []) 2 = (0, omega arith, refl {a = 2}) in
      let there = at_close.1 in
      run.opens.failed.1 (ap is_there there, subst (λ (l : List ℕ). Contains l new.opens.made) (sym bad) (subst (Contains (2 ∷ [])) (sym number) named))
    where
      is_there : Option Kept → Bool
      is_there None = false
      is_there (Some k) = true

  counts : IsErrOf answer Failed → Rose old.read_faults new.read_faults
  counts failed =
      let more = run.opens.read_faults ∙ ap (λ r. faults_after_open r run.closed.read_faults) failed in
      omega (arith, more, run.closes.read_faults.later, run.creates.read_faults)

  holds : bytes_kept new.names out ≡ Some bytes
  holds =
      ap (λ (m : Names). bytes_kept m out) run.opens.names ∙ ap (option_map (λ k. k.bytes)) at_close.1 ∙ ap Some at_close.2

  -- every other name is as before
  stays : (name : List ℕ) → name ≢ out → bytes_kept new.names name ≡ bytes_kept old.names name
  stays name other =
      ap (λ (m : Names). bytes_kept m name) run.opens.names
      ∙ ap (option_map (λ k. k.bytes)) (run.closes.set.others name other ∙ run.creates.ok.others name other)

nothing : (side : Side) (o : Option (List ℕ)) → Appends o o (on side [])
unfolding on
nothing side None = refl
nothing side (Some b) = ap Some (sym (append-nil b))

-- what a name may hold, by whether it is OUT
may_hold : (out bytes name : List ℕ) (before now : Option (List ℕ)) → (out ≡ name → now ≡ Some bytes) → (name ≢ out → now ≡ before) → MayHold 3 (write_of (made_file out bytes ∷ []) name) before now
unfolding write_of
may_hold out bytes name before now made kept = by (bytes_eq out name) refl
  where
    by : (b : Bool) → bytes_eq out name ≡ b → MayHold 3 (write_of (made_file out bytes ∷ []) name) before now
    by true e =
        let same = (bytes_eq-Decides out name).0 e in
        rw e (inr (length bytes, made same ∙ ap Some (sym (take_all (length bytes) bytes (omega arith)))))
    by false e =
        rw e (kept (λ (h : name ≡ out). true≢false (sym ((bytes_eq-Decides out name).1 (sym h)) ∙ e)))

pub stops_where_unread : StopsWhereUnread
stops_where_unread stated out bytes old new answer writes second run =
    let failed = fails old new out bytes answer run second in
    let image = holds old new out bytes answer run in
    record {
      failed = failed;
      cause = counts old new out bytes answer run failed;
      image = image;
      delivers = λ shown said. record {
        status_is = λ h. absurd (omega arith);
        whole = λ h. absurd (omega arith);
        stopped = λ h. record {
          put = [];
          rest = stated.marks;
          all = refl;
          gained = record { out = nothing _ shown; err = nothing _ said };
        };
        files = λ h. absurd (omega arith);
        left = λ h name. subst (λ (w : List FileWrite). MayHold 3 (write_of w name) (bytes_kept old.names name) (bytes_kept new.names name)) (sym writes)
            (may_hold out bytes name (bytes_kept old.names name) (bytes_kept new.names name)
            (λ (same : out ≡ name). subst (λ (n : List ℕ). bytes_kept new.names n ≡ Some bytes) same image)
            (stays old new out bytes answer run name));
      };
    }
