-- What strip -f split into two files, unstrip joins again (`SplitFilesRejoin`).
use Rattle.std.proofs.Common.{◌≡◌, ◌≢◌, ◌⊎◌, inl, inr, ℕ, Bool, true, false, List, [], ◌∷◌, Option, Some, None, Result, Ok, Err, refl, sym, ap, ◌∙◌, subst, arith}
use Rattle.std.specs.Prelude.{codes, bytes_eq, if◌then◌else◌}
use Rattle.std.proofs.lemmas.Slice.Eq.{bytes_eq-Decides}
use Rattle.elf_types.specs.Answers.{answered, ◌>>=◌}
use Rattle.elf_types.specs.Text.{error_text}
use Rattle.elf_types.specs.declared.errors.ElfError.{ElfError}
use Rattle.elf_types.specs.declared.errors.ElfError.TheVariants.{TooLarge}
use Rattle.elf_outside.specs.Names.{Map}
use Rattle.elf_ident.specs.Front.{zero_shdr}
use Rattle.elf_ident.proofs.Refusals.{bind_ok}
use Rattle.elf_object.specs.Object.{Object}
use Rattle.elf_object.specs.Open.{opened}
use Rattle.elf_object.specs.Image.{image}
use Rattle.elf_object.specs.Refusal.{refusal}
use Rattle.elf_object.specs.Sections.{header_at}
use Rattle.elf_object.specs.Settled.{settle}
use Rattle.elf_object.specs.Valid.{as_opened}
use Rattle.law_object.specs.Laws.{ReopenLaw}
use Rattle.rebuild_model.specs.Removed.{removed_sections}
use Rattle.rebuild_model.specs.Arranged.{Rebuilt}
use Rattle.rebuild_model.specs.Split.{UnstripFault, unstripped}
use Rattle.rebuild_model.specs.Files.{file_of}
use Rattle.rebuild_model.specs.KeepingLaws.{IsSplit, SameButPlaces, CombinesAgain, SplitLaw}
use Rattle.law_rebuild.proofs.strip.KeptLaws.{first_stays}
use Rattle.law_rebuild.proofs.strip.WrittenLaws.{ok_same, opens_again}
use Rattle.law_split.specs.Getters.{AlikeImagesAnswerAlike}
use Rattle.law_split.specs.Halves.{HalvesCombine}
use Rattle.law_split.proofs.DebugHalf.{debug_half_written}
use Rattle.law_split.proofs.StrippedHalf.{stripped_written}
use Rattle.elfkit_outcomes.specs.declared.options.StripOptions.{StripOptions}
use Rattle.tool_output.specs.Reports.{refusal_report}
use Rattle.tool_output.specs.Outcomes.{FileWrite, write_of, held_after}
use Rattle.tool_output.specs.Made.{Done, Complaint, complaint, made_file_alone, made_file, of_file, written_outcome}
use Rattle.elfkit_outcomes.specs.Files.{object_named}
use Rattle.elfkit_outcomes.specs.Strip.{strip_alone, strip_split, strip_done, strip_outcome, unstrip_complaint, or_complaint, unstrip_done, unstrip_outcome}
use Rattle.law_files.proofs.strip.FileLaws.{IsSplitDone, named_opens, split_known}
use Rattle.law_split.specs.Files.SplitFiles.{Rejoins, SplitFilesRejoin, too_large_outcome}
use Rattle.law_split.proofs.files.FileKinds.{held_opens}

-- ---- What strip -f made

-- it ended with 0
done_of : (options : StripOptions) (named : Map) (file : List ℕ)
    → (strip_outcome options named file).status ≡ 0
    → (done : Done) × (strip_done options named file ≡ Ok done)
unfolding strip_outcome written_outcome refusal_report
done_of options named file ended = by_done (strip_done options named file) refl ended
  where
    by_done : (r : Result Done Complaint) → strip_done options named file ≡ r
        → (written_outcome (codes "strip") r).status ≡ 0
        → (done : Done) × (strip_done options named file ≡ Ok done)
    by_done (Ok done) e h = (done, e)
    by_done (Err c) e h = let clash : 1 ≡ 0 = h in absurd (omega (arith, clash))

split_of : (options : StripOptions) (named : Map) (file image debug : List ℕ) (whole : Object)
    (done : Done) → options.debug ≡ Some debug → named file ≡ Some image → opened image ≡ Ok whole
    → strip_done options named file ≡ Ok done
    → IsSplitDone whole (removed_sections options.debug_only options.names whole) options.out debug
    done
unfolding strip_done
split_of options named file image debug whole done asked held is_whole e =
    let found = bind_ok (object_named named file) _ done e in
    let opens = named_opens named file image found.0 held found.1 in
    let same : found.0 ≡ whole = ok_same (opened image) found.0 whole opens is_whole in
    let by_debug : Option (List ℕ) → Result Done Complaint = λ d. elim d [
      | None ↦ strip_alone found.0
          (removed_sections options.debug_only options.names found.0) options.out file
      | Some name ↦ strip_split found.0
          (removed_sections options.debug_only options.names found.0) options.out name file
    ] in
    let split : by_debug (Some debug) ≡ Ok done = sym (ap by_debug asked) ∙ found.2 in
    subst (λ (o : Object). IsSplitDone o
    (removed_sections options.debug_only options.names o) options.out debug done) same
    (split_known found.0 (removed_sections options.debug_only options.names found.0) options.out
    debug file done split)

-- ---- What the two files hold

outcome_writes : (options : StripOptions) (named : Map) (file : List ℕ) (done : Done)
    → strip_done options named file ≡ Ok done
    → (strip_outcome options named file).writes ≡ done.writes
unfolding strip_outcome written_outcome
outcome_writes options named file done e =
    ap (λ (r : Result Done Complaint). (written_outcome (codes "strip") r).writes) e

first_held : (out bytes : List ℕ) (later : List FileWrite) (old : Option (List ℕ))
    → held_after (write_of (made_file out bytes ∷ later) out) old ≡ Some bytes
unfolding write_of
first_held out bytes later old =
    ap (λ (b : Bool). held_after
    (if b then Some (made_file out bytes) else write_of later out) old)
    ((bytes_eq-Decides out out).1 refl)

second_held : (out debug bytes debug_bytes : List ℕ) (old : Option (List ℕ)) → out ≢ debug
    → held_after (write_of (made_file out bytes ∷ made_file debug debug_bytes ∷ []) debug) old
    ≡ Some debug_bytes
unfolding write_of
second_held out debug bytes debug_bytes old apart =
    ap (λ (b : Bool). held_after (if b then Some (made_file out bytes)
    else write_of (made_file debug debug_bytes ∷ []) debug) old)
    (differ (bytes_eq out debug) (bytes_eq-Decides out debug).0)
    ∙ first_held debug debug_bytes [] old
  where
    differ : (b : Bool) → (b ≡ true → out ≡ debug) → b ≡ false
    differ true is = absurd (apart (is refl))
    differ false is = refl

-- ---- What unstrip makes of them

-- of the two objects
abbrev joined : List ℕ → List ℕ → List ℕ → Object → Object → Result Done Complaint
joined out stripped debug s d =
    or_complaint (unstrip_complaint stripped debug) (unstripped s d) >>= λ r.
    of_file stripped (file_of r.object) >>= λ bytes.
    Ok (made_file_alone out bytes)

joined_as : (named : Map) (out stripped debug : List ℕ) (s d : Object)
    → object_named named stripped ≡ Ok s → object_named named debug ≡ Ok d
    → unstrip_done named out stripped debug ≡ joined out stripped debug s d
unfolding unstrip_done
joined_as named out stripped debug s d one other =
    ap (λ (x : Result Object Complaint). x >>= λ a. object_named named debug >>= λ b.
    joined out stripped debug a b) one
    ∙ ap (λ (x : Result Object Complaint). x >>= λ b. joined out stripped debug s b) other

record IsJoined (whole : Object) (out : List ℕ) (r : Result Done Complaint) : Type 0 where
  bytes : List ℕ
  is : r ≡ Ok (made_file_alone out bytes)
  object : Object
  opens : opened bytes ≡ Ok object
  same : SameButPlaces whole object

-- a place is too large, or what is made opens again
abbrev EndsAs : Object → List ℕ → List ℕ → Result Done Complaint → Type 0
EndsAs whole out stripped r =
    (r ≡ Err (complaint stripped (error_text TooLarge))) ⊎ IsJoined whole out r

joined_ends : (whole s d : Object) (out stripped debug : List ℕ) → CombinesAgain whole s d
    → ((r : Rebuilt) (bytes : List ℕ) → unstripped s d ≡ Ok r → file_of r.object ≡ Ok bytes
    → (o : Object) × (opened bytes ≡ Ok o))
    → EndsAs whole out stripped (joined out stripped debug s d)
unfolding file_of unstrip_complaint
joined_ends whole s d out stripped debug again opens = by_combined (unstripped s d) refl
  where
    by_refusal : (r : Rebuilt) (x : Option ElfError) → unstripped s d ≡ Ok r
        → refusal r.object ≡ x
        → EndsAs whole out stripped
        (of_file stripped (answered x (image r.object)) >>= λ bytes. Ok (made_file_alone out bytes))
    by_refusal r (Some e) combined refused =
        let refuse : ElfError → Result Done Complaint =
        λ x. Err (complaint stripped (error_text x)) in
        inl (ap refuse (again.updated r e combined refused))
    by_refusal r None combined passed =
        let written : answered (refusal r.object) (image r.object) ≡ Ok (image r.object) =
        ap (λ (x : Option ElfError). answered x (image r.object)) passed in
        let found = opens r (image r.object) combined written in
        inr (record {
          bytes = image r.object;
          is = refl;
          object = found.0;
          opens = found.1;
          same = again.same r (image r.object) found.0 combined written found.1;
        })

    by_combined : (x : Result Rebuilt UnstripFault) → unstripped s d ≡ x
        → EndsAs whole out stripped
        (or_complaint (unstrip_complaint stripped debug) x >>= λ r.
        of_file stripped (file_of r.object) >>= λ bytes.
        Ok (made_file_alone out bytes))
    by_combined (Err fault) e =
        let refuse : UnstripFault → Result Done Complaint =
        λ x. Err (unstrip_complaint stripped debug x) in
        inl (ap refuse (again.refused fault e))
    by_combined (Ok r) e = by_refusal r (refusal r.object) e refl

rejoined : (image : List ℕ) (whole : Object) (later : Map) (out stripped debug : List ℕ)
    (r : Result Done Complaint) → AlikeImagesAnswerAlike → opened image ≡ Ok whole
    → record (header_at whole 0) { size = 0; link = 0; info = 0 } ≡ zero_shdr
    → unstrip_done later out stripped debug ≡ r → EndsAs whole out stripped r
    → (unstrip_outcome later out stripped debug ≡ too_large_outcome stripped)
    ⊎ Rejoins whole out (unstrip_outcome later out stripped debug)
unfolding unstrip_outcome
rejoined image whole later out stripped debug r alike is_whole first e (inl large) =
    inl (ap (λ (x : Result Done Complaint). written_outcome (codes "unstrip") x) (e ∙ large))
rejoined image whole later out stripped debug r alike is_whole first e (inr back) = inr (record {
  bytes = back.bytes;
  is = ap (λ (x : Result Done Complaint). written_outcome (codes "unstrip") x) (e ∙ back.is);
  object = back.object;
  opens = back.opens;
  same = back.same;
  answers = alike image back.bytes whole back.object is_whole back.opens first back.same;
})

-- ---- The law

pub split_files_rejoin : ((o : Object) → ReopenLaw o) → HalvesCombine → SplitLaw
    → AlikeImagesAnswerAlike → SplitFilesRejoin
split_files_rejoin reopens combine law alike options named file image whole later out stripped debug
    was =
    let removed = removed_sections options.debug_only options.names whole in
    let stays = first_stays.strip options.debug_only options.names whole in
    let ended = done_of options named file was.ended in
    let files = split_of options named file image was.debug_out whole ended.0 was.asked was.held
    was.is_whole ended.1 in
    let writes = outcome_writes options named file ended.0 ended.1 ∙ files.writes in
    let stripped_held : later stripped ≡ Some files.bytes =
    was.stripped_held
    ∙ ap (λ (l : List FileWrite). held_after (write_of l options.out) (named options.out)) writes
    ∙ first_held options.out files.bytes (made_file was.debug_out files.debug_bytes ∷ [])
    (named options.out) in
    let debug_held : later debug ≡ Some files.debug_bytes =
    was.debug_held
    ∙ ap (λ (l : List FileWrite). held_after (write_of l was.debug_out) (named was.debug_out))
    writes
    ∙ second_held options.out was.debug_out files.bytes files.debug_bytes (named was.debug_out)
    was.apart in
    let w = stripped_written removed whole image files.made files.bytes was.bytes was.is_whole stays
    files.is_made files.is_bytes in
    let one = opens_again reopens files.made.object files.bytes w.ok w.phdrs w.dirty w.written in
    let v = debug_half_written whole image files.half files.debug_bytes was.bytes was.is_whole
    files.is_half files.is_debug_bytes in
    let other = opens_again reopens files.half files.debug_bytes v.ok v.phdrs v.dirty v.written in
    let s = as_opened (settle files.made.object) in
    let d = as_opened (settle files.half) in
    let split : IsSplit removed whole s d = record {
      image = image;
      bytes = was.bytes;
      is_whole = was.is_whole;
      first = was.first;
      allocated_stay = files.stays;
      made = files.made;
      is_made = files.is_made;
      half = files.half;
      is_half = files.is_half;
      out = files.bytes;
      is_out = files.is_bytes;
      debug_out = files.debug_bytes;
      is_debug_out = files.is_debug_bytes;
      is_stripped = one;
      is_debug = other;
    } in
    rejoined image whole later out stripped debug (joined out stripped debug s d) alike
    was.is_whole
    was.first
    (joined_as later out stripped debug s d
    (held_opens later stripped files.bytes s stripped_held one)
    (held_opens later debug files.debug_bytes d debug_held other))
    (joined_ends whole s d out stripped debug
    (law options.debug_only options.names whole s d split)
    (combine removed whole s d split stays).opens)
