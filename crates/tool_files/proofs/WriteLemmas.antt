-- The files of a command, made one after another.
use Rattle.std.proofs.Common.{◌≡◌, ◌≢◌, ◌⊎◌, inl, inr, ◌∷◌, ℕ, Bool, true, false, List, [], length, take, Option, Some, None, Result, Ok, Err, IfSome, OnOk, OnErr, IsTrue, if◌then◌else◌, refl, sym, ap, ◌∙◌, subst, arith}
use Rattle.std.specs.Str.{bytes_eq}
use Rattle.std.proofs.lemmas.Bool.{true≢false}
use Rattle.std.proofs.lemmas.List.{take_all}
use Rattle.std.proofs.lemmas.Slice.Eq.{bytes_eq-Decides}
use Rattle.tool_output.specs.elf_outside.declared.sinks.Sink.{Ghosts as SinkGhosts}
use Rattle.tool_output.specs.elf_outside.declared.file_sets.Files.{Ghosts as FilesGhosts}
use Rattle.tool_output.specs.declared.stops.Stop.{Stop}
use Rattle.tool_output.specs.declared.outputs.Outputs.{Outputs}
use Rattle.tool_output.specs.Statuses.{refused_status, stop_status}
use Rattle.tool_output.specs.Steps.{Writes}
use Rattle.tool_output.specs.Reports.{no_report}
use Rattle.tool_output.specs.Outcomes.{FileWrite, write_of, held_after, MayHold, Does}
use Rattle.tool_output.specs.Made.{made_file, outcome_with, MakesFile}
use Rattle.tool_output.proofs.StepLemmas.{writes_went}
use Rattle.tool_output.proofs.FileLemmas.{only_reads_none}
use Rattle.tool_output.proofs.OutcomeLemmas.{may_hold_same}
use Rattle.tool_output.proofs.MadeLemmas.{made_held, made_left, stopped_done, writes_whole}
use Rattle.tool_files.specs.Making.{InOrder, MakesFiles}

-- ---- One file, once what waited was put

module _ {F D O E : Type 0} (f : FilesGhosts F D) (o : SinkGhosts O) (e : SinkGhosts E)
    (a : F) (s t : Outputs O E) (told : IsTrue (f.tells a)) where
  -- what waits could not be put, and no file is made
  unput : {T : Type 0} (stop : Stop) (writes : List FileWrite) → Writes {T = T} o e (Err stop) s t []
      → Does {T = Bool} f o e refused_status (outcome_with no_report writes) (Err stop) a a s t
  unfolding no_report
  unput {T} stop writes h =
      stopped_done f o e {T = Bool} {U = T} refused_status (outcome_with no_report writes) [] []
      stop a a s t refl told (only_reads_none f o e a) h

  pub image_unput : {T : Type 0} (stop : Stop) (name : List ℕ) (image : Option (List ℕ))
      → Writes {T = T} o e (Err stop) s t [] → IfSome image (λ bytes.
      Does {T = Bool} f o e refused_status (outcome_with no_report (made_file name bytes ∷ []))
      (Err stop) a a s t)
  image_unput stop name None h = tt
  image_unput stop name (Some bytes) h = unput stop (made_file name bytes ∷ []) h

  pub images_unput : {T : Type 0} (stop : Stop) (first second : List ℕ)
      (one other : Option (List ℕ)) → Writes {T = T} o e (Err stop) s t []
      → IfSome one (λ bytes. IfSome other (λ others.
      Does {T = Bool} f o e refused_status
      (outcome_with no_report (made_file first bytes ∷ made_file second others ∷ []))
      (Err stop) a a s t))
  images_unput stop first second None other h = tt
  images_unput stop first second (Some bytes) None h = tt
  images_unput stop first second (Some bytes) (Some others) h =
      unput stop (made_file first bytes ∷ made_file second others ∷ []) h

  module _ {U : Type 0} (x : U) (b : F) (name : List ℕ) (before after : ℕ)
      (put : Writes {T = U} o e (Ok x) s t []) where
    pub image_done : {T : Type 0} (y : T) (image : Option (List ℕ))
        → MakesFile {T = T} f name image (Ok y) before after a b → IfSome image (λ bytes.
        Does f o e refused_status (outcome_with no_report (made_file name bytes ∷ [])) (Ok false)
        a b s t)
    unfolding no_report
    image_done y None h = tt
    image_done y (Some bytes) h = record {
      writes = writes_went o e false s t [] put.ok;
      status = refl;
      files = made_held f name bytes before after a b y told h;
      left = tt;
      asks = tt;
      gives = tt;
    }

    pub image_stopped : {T : Type 0} (stop : Stop) (image : Option (List ℕ))
        → MakesFile {T = T} f name image (Err stop) before after a b → IfSome image (λ bytes.
        Does {T = Bool} f o e refused_status (outcome_with no_report (made_file name bytes ∷ []))
        (Err stop) a b s t)
    unfolding no_report
    image_stopped stop None h = tt
    image_stopped stop (Some bytes) h = record {
      writes = writes_whole f o e {T = U} {U = Bool} x stop s t [] put;
      status = tt;
      files = tt;
      left = made_left f name bytes before after a b stop told h;
      asks = tt;
      gives = tt;
    }

-- ---- Two files

-- what holds of a name, by whether it is that of the first file
first_of : (w : FileWrite) (others : List FileWrite) (name : List ℕ)
    (P : Option FileWrite → Type 0) → (w.name ≡ name → P (Some w))
    → (name ≢ w.name → P (write_of others name)) → P (write_of (w ∷ others) name)
unfolding write_of
first_of w others name P here there = by (bytes_eq w.name name) refl
  where
    by : (b : Bool) → bytes_eq w.name name ≡ b → P (if b then Some w else write_of others name)
    by true same = here ((bytes_eq-Decides w.name name).0 same)
    by false same =
        there (λ (is : name ≡ w.name).
        true≢false (sym ((bytes_eq-Decides w.name name).1 (sym is)) ∙ same))

module _ {F D O E U : Type 0} (f : FilesGhosts F D) (o : SinkGhosts O) (e : SinkGhosts E) (x : U)
    (a b : F) (s t : Outputs O E) (first second : List ℕ) (n m : ℕ)
    (put : Writes {T = U} o e (Ok x) s t []) (told : IsTrue (f.tells a)) where
  -- the first is not made
  pub first_stopped : {T : Type 0} (stop : Stop) (one other : Option (List ℕ))
      → MakesFile {T = T} f first one (Err stop) n m a b
      → IfSome one (λ bytes. IfSome other (λ others.
      Does {T = Bool} f o e refused_status
      (outcome_with no_report (made_file first bytes ∷ made_file second others ∷ []))
      (Err stop) a b s t))
  unfolding no_report
  first_stopped stop None other h = tt
  first_stopped stop (Some bytes) None h = tt
  first_stopped stop (Some bytes) (Some others) h = record {
    writes = writes_whole f o e {T = U} {U = Bool} x stop s t [] put;
    status = tt;
    files = tt;
    left = λ name.
        first_of (made_file first bytes) (made_file second others ∷ []) name
        (λ w. MayHold (stop_status stop) w (f.named a name) (f.named b name))
        (λ same. subst (λ (i : List ℕ). (f.named b i ≡ f.named a i)
        ⊎ ((k : ℕ) × (f.named b i ≡ Some (take k bytes)))) same (h.left told))
        (λ differs. subst (λ (now : Option (List ℕ)). MayHold (stop_status stop)
        (write_of (made_file second others ∷ []) name) (f.named a name) now)
        (sym (h.others.same name differs))
        (may_hold_same (stop_status stop) (write_of (made_file second others ∷ []) name)
        (f.named a name)));
    asks = tt;
    gives = tt;
  }

  -- it is made, and then the second
  module _ {T : Type 0} (y : T) (c : F) (k l : ℕ) (differ : first ≢ second) where
    pub both_done : {V : Type 0} (z : V) (one other : Option (List ℕ))
        → MakesFile {T = T} f first one (Ok y) n m a b
        → MakesFile {T = V} f second other (Ok z) k l b c
        → IfSome one (λ bytes. IfSome other (λ others. Does f o e refused_status
        (outcome_with no_report (made_file first bytes ∷ made_file second others ∷ []))
        (Ok false) a c s t))
    unfolding no_report
    both_done z None other h g = tt
    both_done z (Some bytes) None h g = tt
    both_done z (Some bytes) (Some others) h g = record {
      writes = writes_went o e false s t [] put.ok;
      status = refl;
      files = λ name.
          first_of (made_file first bytes) (made_file second others ∷ []) name
          (λ w. f.named c name ≡ held_after w (f.named a name))
          (λ same. subst (λ (i : List ℕ). f.named c i ≡ Some bytes) same
          (g.others.same first differ ∙ h.made told))
          (λ differs. made_held f second others k l b c z
          (subst (λ (q : Bool). IsTrue q) (sym h.others.same_tells) told) g name
          ∙ ap (held_after (write_of (made_file second others ∷ []) name))
          (h.others.same name differs));
      left = tt;
      asks = tt;
      gives = tt;
    }

    pub second_stopped : {V : Type 0} (stop : Stop) (one other : Option (List ℕ))
        → MakesFile {T = T} f first one (Ok y) n m a b
        → MakesFile {T = V} f second other (Err stop) k l b c
        → IfSome one (λ bytes. IfSome other (λ others. Does {T = Bool} f o e refused_status
        (outcome_with no_report (made_file first bytes ∷ made_file second others ∷ []))
        (Err stop) a c s t))
    unfolding no_report
    second_stopped stop None other h g = tt
    second_stopped stop (Some bytes) None h g = tt
    second_stopped stop (Some bytes) (Some others) h g = record {
      writes = writes_whole f o e {T = U} {U = Bool} x stop s t [] put;
      status = tt;
      files = tt;
      left = λ name.
          first_of (made_file first bytes) (made_file second others ∷ []) name
          (λ w. MayHold (stop_status stop) w (f.named a name) (f.named c name))
          (λ same. subst (λ (i : List ℕ). (f.named c i ≡ f.named a i)
          ⊎ ((j : ℕ) × (f.named c i ≡ Some (take j bytes)))) same
          (inr (
            length bytes,
            g.others.same first differ ∙ h.made told
                ∙ ap Some (sym (take_all (length bytes) bytes (omega arith))),
          )))
          (λ differs. subst (λ (old : Option (List ℕ)). MayHold (stop_status stop)
          (write_of (made_file second others ∷ []) name) old (f.named c name))
          (h.others.same name differs)
          (made_left f second others k l b c stop
          (subst (λ (q : Bool). IsTrue q) (sym h.others.same_tells) told) g name));
      asks = tt;
      gives = tt;
    }

-- ---- Their order

module _ {F D : Type 0} (f : FilesGhosts F D) (first second : List ℕ) where
  abbrev Ordered : {T : Type 0} → Result T Stop → F → F → Option (List ℕ) → Type 0
  Ordered r a b image = IfSome image (λ bytes. OnErr r
      ((f.named b second ≡ f.named a second) ⊎ (f.named b first ≡ Some bytes)))

  -- none is made
  none_ordered : {T : Type 0} (r : Result T Stop) (a : F) (image : Option (List ℕ))
      → Ordered r a a image
  none_ordered r a None = tt
  none_ordered (Ok x) a (Some bytes) = tt
  none_ordered (Err stop) a (Some bytes) = inl refl

  pub order_none : {T : Type 0} (image : Option (List ℕ)) (r : Result T Stop) (a : F)
      → InOrder f first second image r a a
  order_none image r a = record { order = λ told. none_ordered r a image }

  -- both are
  done_ordered : {T : Type 0} (x : T) (a b : F) (image : Option (List ℕ))
      → Ordered {T = T} (Ok x) a b image
  done_ordered x a b None = tt
  done_ordered x a b (Some bytes) = tt

  pub order_done : {T : Type 0} (image : Option (List ℕ)) (x : T) (a b : F)
      → InOrder {T = T} f first second image (Ok x) a b
  order_done image x a b = record { order = λ told. done_ordered x a b image }

  module _ (differ : first ≢ second) (n m : ℕ) (a b : F) (stop : Stop) where
    -- the first is not whole
    pub order_first : {T U : Type 0} (image : Option (List ℕ))
        → MakesFile {T = T} f first image (Err stop) n m a b
        → InOrder {T = U} f first second image (Err stop) a b
    order_first {T} {U} image h = record { order = λ told. by image }
      where
        same : f.named b second ≡ f.named a second
        same = h.others.same second (λ is. differ (sym is))

        by : (image : Option (List ℕ)) → Ordered {T = U} (Err stop) a b image
        by None = tt
        by (Some bytes) = inl same

    -- the second is not
    pub order_second : {T U V : Type 0} (image other : Option (List ℕ)) (x : T) (k l : ℕ) (c : F)
        → MakesFile {T = T} f first image (Ok x) n m a b
        → MakesFile {T = U} f second other (Err stop) k l b c
        → InOrder {T = V} f first second image (Err stop) a c
    order_second {T} {U} {V} image other x k l c h g = record { order = λ told. by told image h }
      where
        by : IsTrue (f.tells a) → (image : Option (List ℕ))
            → MakesFile {T = T} f first image (Ok x) n m a b
            → Ordered {T = V} (Err stop) a c image
        by told None made = tt
        by told (Some bytes) made = inr (g.others.same first differ ∙ made.made told)

-- ---- Two files by one step

-- the step is made of two
module _ {F D T : Type 0} (f : FilesGhosts F D) (first second : List ℕ)
    (one other : Option (List ℕ)) (n m k l : ℕ) (a b : F) where
  pub first_fails : (stop : Stop) → MakesFile {T = T} f first one (Err stop) n m a b
      → MakesFiles {T = T} f first second one other (Err stop) n m k l a b
  first_fails stop h = record {
    middle = b;
    made = Err stop;
    makes = h;
    stopped = (refl, refl);
    next = tt;
  }

  pub second_follows : (x : T) (r : Result T Stop) (c : F)
      → MakesFile f first one (Ok x) n m a c → MakesFile f second other r k l c b
      → MakesFiles f first second one other r n m k l a b
  second_follows x r c h g =
      record { middle = c; made = Ok x; makes = h; stopped = tt; next = g }

-- what it does, once what waited was put
module _ {F D O E : Type 0} (f : FilesGhosts F D) (o : SinkGhosts O) (e : SinkGhosts E)
    (a b : F) (s t : Outputs O E) (first second : List ℕ) (differ : first ≢ second)
    (one other : Option (List ℕ)) (n m k l : ℕ) where
  abbrev BothDone : Result Bool Stop → F → Type 0
  BothDone r g = IfSome one (λ bytes. IfSome other (λ others. Does f o e refused_status
      (outcome_with no_report (made_file first bytes ∷ made_file second others ∷ [])) r a g s t))

  pub files_done : {T U : Type 0} (x : U) (y : T) → Writes {T = U} o e (Ok x) s t []
      → IsTrue (f.tells a) → MakesFiles {T = T} f first second one other (Ok y) n m k l a b
      → BothDone (Ok false) b
  files_done {T} {U} x y put told h = by h.made h.makes h.stopped h.next
    where
      by : (made : Result T Stop) → MakesFile f first one made n m a h.middle
          → OnErr made ((Ok y ≡ made) × (b ≡ h.middle))
          → OnOk made (MakesFile {T = T} f second other (Ok y) k l h.middle b)
          → BothDone (Ok false) b
      by (Ok z) makes stopped next =
          both_done f o e x a h.middle s t first second n m put told z b k l differ y one other
          makes next
      by (Err why) makes stopped next = let is = stopped.0 in cc

  pub files_stopped : {T U : Type 0} (x : U) (stop : Stop)
      → Writes {T = U} o e (Ok x) s t [] → IsTrue (f.tells a)
      → MakesFiles {T = T} f first second one other (Err stop) n m k l a b
      → BothDone (Err stop) b
  files_stopped {T} {U} x stop put told h = by h.made h.makes h.stopped h.next
    where
      by : (made : Result T Stop) → MakesFile f first one made n m a h.middle
          → OnErr made ((Err stop ≡ made) × (b ≡ h.middle))
          → OnOk made (MakesFile {T = T} f second other (Err stop) k l h.middle b)
          → BothDone (Err stop) b
      by (Ok z) makes stopped next =
          second_stopped f o e x a h.middle s t first second n m put told z b k l differ stop one
          other makes next
      by (Err why) makes stopped next =
          let same : stop ≡ why = let is = stopped.0 in cc in
          subst (λ (w : Stop). BothDone (Err w) b) (sym same)
          (subst (λ (g : F). BothDone (Err why) g) (sym stopped.1)
          (first_stopped f o e x a h.middle s t first second n m put told why one other makes))

  pub files_in_order : {T V : Type 0} (stop : Stop)
      → MakesFiles {T = T} f first second one other (Err stop) n m k l a b
      → InOrder {T = V} f first second one (Err stop) a b
  files_in_order {T} {V} stop h = by h.made h.makes h.stopped h.next
    where
      by : (made : Result T Stop) → MakesFile f first one made n m a h.middle
          → OnErr made ((Err stop ≡ made) × (b ≡ h.middle))
          → OnOk made (MakesFile {T = T} f second other (Err stop) k l h.middle b)
          → InOrder {T = V} f first second one (Err stop) a b
      by (Ok z) makes stopped next =
          order_second f first second differ n m a h.middle stop one other z k l b makes next
      by (Err why) makes stopped next =
          let same : stop ≡ why = let is = stopped.0 in cc in
          subst (λ (w : Stop). InOrder {T = V} f first second one (Err w) a b) (sym same)
          (subst (λ (g : F). InOrder {T = V} f first second one (Err why) a g) (sym stopped.1)
          (order_first f first second differ n m a h.middle why one makes))
